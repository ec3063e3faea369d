-- Bytes that are on their way to a sink: what it holds, and then those that wait in a buffer.
use Rattle.std.specs.Prelude.{◌≡◌, ℕ, List, ◌++◌, take, drop, Option}
use Rattle.rl_io.specs.Told.{WhereTold}
use Rattle.rl_io.specs.Pieces.{AppendsFront}

-- the sink took a front of what waited and these bytes, none or more, and the rest waits
abbrev pub GoesOut : Option (List ℕ) → List ℕ → Option (List ℕ) → List ℕ → List ℕ → Type 0
GoesOut old waited new waiting bytes = WhereTold old new (λ before now. (n : ℕ) × (now ≡ before ++ take n (waited ++ bytes)) × (waiting ≡ drop n (waited ++ bytes)))

-- a front of these bytes came to the sink, all or less
abbrev pub FrontGoesOut : Option (List ℕ) → Option (List ℕ) → List ℕ → Type 0
FrontGoesOut old new bytes = WhereTold old new (λ before now. AppendsFront before now bytes)
