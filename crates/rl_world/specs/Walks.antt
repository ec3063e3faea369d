-- A walk over values on the levels of a world: what it keeps above what was kept before it began, and that it leaves that alone.
use Rattle.std.specs.Prelude.{◌≡◌, ℕ, ◌+◌, ◌-◌, List, length, take, drop}
use Rattle.rl_world.specs.Levels.{WorldLevels}

-- the words of a walk, above those that were there
abbrev pub kept_above : ℕ → WorldLevels → List (ℕ × ℕ × ℕ)
kept_above base levels = take (length levels.walk - base) levels.walk

-- levels are entered and left together with what a walk keeps, above the base alone
pub record IsSteady (base : ℕ) (old new : WorldLevels) : Type 0 where
  pub below : drop (length new.walk - base) new.walk ≡ drop (length old.walk - base) old.walk
  pub level : new.level + length old.walk ≡ old.level + length new.walk
  pub bound : new.bound ≡ old.bound
  pub aside : new.aside ≡ old.aside
