-- How a run ends, as its status says it.
use Rattle.std.specs.Prelude.{◌≡◌, ◌⊎◌, ℕ, zero, suc, List, [], ◌∷◌, ◌++◌, Option, Some, None, Bool, true, false, codes, decimal}
use Rattle.rl_io.specs.Faults.{Rose}
use Rattle.rl_forms.specs.Appended.{Appended, AppendedFront}
use Rattle.rl_forms.specs.Meaning.{FileOutcome, Finished}
use Rattle.rl_forms.specs.Meaning as meaning
use Rattle.rlisp.specs.declared.status.Status.{Status}
use Rattle.rlisp.specs.declared.status.Status.TheVariants.{Done, Usage, Missing, WriteFault, FileFault, OutOfMemory, Unbuilt}

-- the number by which a program ends with it
abbrev pub status_number : Status → ℕ
status_number Done = 0
status_number (Usage word) = 2
status_number (Missing name) = 3
status_number WriteFault = 5
status_number FileFault = 6
status_number OutOfMemory = 12
status_number Unbuilt = 13

-- the outcome that it tells of; None where the words, a fault or want of memory ended the run
abbrev pub outcome_told : Status → Option FileOutcome
outcome_told Done = Some Finished
outcome_told (Usage word) = None
outcome_told (Missing name) = Some meaning.Missing
outcome_told WriteFault = None
outcome_told FileFault = None
outcome_told OutOfMemory = None
outcome_told Unbuilt = Some meaning.Unbuilt

-- the number of the status that tells of this outcome
abbrev pub outcome_number : FileOutcome → ℕ
outcome_number Finished = 0
outcome_number meaning.Missing = 3
outcome_number meaning.Unbuilt = 13

-- what is reported of a number: nothing of 0, and a line of any other
abbrev pub report_of_number : ℕ → List ℕ
report_of_number zero = []
report_of_number (suc n) = codes "rlisp: status " ++ (decimal (suc n) ++ 10 ∷ [])

abbrev pub report_of : Status → List ℕ
report_of status = report_of_number (status_number status)

-- the report of a number was appended to this sink; or a write of it failed, and a front of it was
abbrev pub IsReported : Option (List ℕ) → Option (List ℕ) → ℕ → ℕ → ℕ → Type 0
IsReported old new before now number =
    (Appended old new (report_of_number number) × (now ≡ before)) ⊎ (AppendedFront old new (report_of_number number) × Rose before now)

-- a run with this status appended nothing to its output
abbrev pub is_silent : Status → Bool
is_silent Done = false
is_silent (Usage word) = true
is_silent (Missing name) = true
is_silent WriteFault = false
is_silent FileFault = true
is_silent OutOfMemory = false
is_silent Unbuilt = true
