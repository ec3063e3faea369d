-- The calls of an object in memory: which of them are to fail, how many were made, and how many failed.
use Rattle.std.specs.Prelude.{ℕ, ◌+◌, ◌-◌, ◌^◌, List, min}
use Rattle.std.specs.List.{Contains}

-- `fails` has the numbers, from 1, of the calls that are to fail
pub record Calls : Type 0 where
  pub fails : List ℕ
  pub made : ℕ
  pub faults : ℕ

-- one more, in a count that stands still at its end
abbrev pub raised_count : ℕ → ℕ
raised_count n = min (n + 1) (2 ^ 64 - 1)

-- the next call is to fail
abbrev pub FailsNext : Calls → Type 0
FailsNext calls = Contains calls.fails (raised_count calls.made)

-- no call was made yet
abbrev pub fresh : List ℕ → Calls
fresh fails = record { fails = fails; made = 0; faults = 0 }

-- after a call that did its work
abbrev pub passed : Calls → Calls
passed calls = record { fails = calls.fails; made = raised_count calls.made; faults = calls.faults }

-- after a call that failed
abbrev pub missed : Calls → Calls
missed calls = record { fails = calls.fails; made = raised_count calls.made; faults = raised_count calls.faults }
