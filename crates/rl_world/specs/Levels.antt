-- The levels that are entered, and the places that walks keep; each of these has entered one.
use Rattle.std.specs.Prelude.{◌≡◌, ℕ, zero, suc, ◌+◌, ◌-◌, ◌*◌, ◌≤◌, nat_le, cond, List, [], ◌∷◌, length, slice_index, Option, Some, None}
use Rattle.rl_world.specs.declared.stop.Stop.{Stop}
use Rattle.rl_world.specs.declared.stop.Stop.TheVariants as stop

-- the bound, the levels that are entered, what walks keep, the newest first, and the level that is set aside while a compilation expands
pub record WorldLevels : Type 0 where
  pub bound : ℕ
  pub level : ℕ
  pub walk : List (ℕ × ℕ × ℕ)
  pub aside : Option ℕ

-- why n levels more may not be entered
abbrev pub enter_stop : WorldLevels → ℕ → Option Stop
enter_stop l n = cond (nat_le (l.level + n) l.bound) None (Some stop.Depth)

-- the levels that are entered but by walks
abbrev pub levels_below : WorldLevels → ℕ
levels_below l = l.level - length l.walk

-- the levels stay within the bound, and what walks keep within the levels
pub record AreLevels (l : WorldLevels) : Type 0 where
  pub bounded : l.bound ≤ 500000
  pub within : l.level ≤ l.bound
  pub walks : length l.walk ≤ l.level

-- the first n threes of words, the newest first
abbrev pub threes : ℕ → List ℕ → List (ℕ × ℕ × ℕ)
threes zero words = []
threes (suc n) words = (slice_index words (3 * n), slice_index words (3 * n + 1), slice_index words (3 * n + 2)) ∷ threes n words

-- what is set aside was within the bound
abbrev pub IsAsideWithin : ℕ → Option ℕ → Type 0
IsAsideWithin bound None = Unit {0}
IsAsideWithin bound (Some n) = n ≤ bound

-- there are words for as many threes as there may be levels
pub record HasWords (words : List ℕ) (bound level kept : ℕ) (aside : Option ℕ) : Type 0 where
  pub long : length words ≡ 3 * bound
  pub bounded : bound ≤ 500000
  pub level_within : level ≤ bound
  pub kept_within : kept ≤ level
  pub aside_within : IsAsideWithin bound aside
