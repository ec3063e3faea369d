-- What was appended to a sink, where it tells its contents.
use Rattle.std.specs.Prelude.{◌≡◌, ℕ, List, ◌++◌, Option}
use Rattle.rl_io.specs.Told.{WhereTold}
use Rattle.rl_io.specs.Pieces.{AppendsFront}

-- these bytes
abbrev pub Appended : Option (List ℕ) → Option (List ℕ) → List ℕ → Type 0
Appended old new bytes = WhereTold old new (λ before now. now ≡ before ++ bytes)

-- a front of these bytes, all or less
abbrev pub AppendedFront : Option (List ℕ) → Option (List ℕ) → List ℕ → Type 0
AppendedFront old new bytes = WhereTold old new (λ before now. AppendsFront before now bytes)
