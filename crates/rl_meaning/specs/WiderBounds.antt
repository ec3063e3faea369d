-- Bounds that are as wide as others, or wider, and states that are the same but for what is left of such bounds.
use Rattle.std.specs.Prelude.{◌≡◌, ◌≤◌, ℕ, Option, Some, None}
use Rattle.rl_meaning.specs.State.{State}

-- a bound that is as wide, or none
abbrev pub IsWiderBound : Option ℕ → Option ℕ → Type 0
IsWiderBound old None = Unit {0}
IsWiderBound None (Some wide) = ⊥
IsWiderBound (Some narrow) (Some wide) = narrow ≤ wide

-- states that differ in their counts alone
abbrev pub SameButCounts : State → State → Type 0
SameButCounts s t = t ≡ record s { counts = t.counts }
