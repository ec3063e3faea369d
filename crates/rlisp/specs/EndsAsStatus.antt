-- What each status says of the file of a run, and of what was appended to its output.
use Rattle.std.specs.Prelude.{◌≡◌, ℕ, List, Option, Some, None}
use Rattle.std.specs.Option.{IsSomeAnd}
use Rattle.rl_forms.specs.Appended.{AppendedFront}
use Rattle.rl_forms.specs.Meaning.{file_meaning}
use Rattle.rl_forms.specs.Meaning as meaning
use Rattle.rl_forms.specs.RunEnds.{PrintsMeaning}
use Rattle.rlisp.specs.declared.status.Status.{Status}
use Rattle.rlisp.specs.declared.status.Status.TheVariants.{Done, Usage, Missing, WriteFault, FileFault, OutOfMemory, Unbuilt}

-- of a run over this file, or over none
abbrev pub EndsAsStatus : Option (List ℕ) → Option (List ℕ) → Option (List ℕ) → Status → Type 0
EndsAsStatus file old new Done = PrintsMeaning file old new
EndsAsStatus file old new (Usage word) = ⊥
EndsAsStatus file old new (Missing name) = file ≡ None
EndsAsStatus file old new WriteFault = AppendedFront old new (file_meaning file).output
EndsAsStatus file old new FileFault = Unit {0}
EndsAsStatus file old new OutOfMemory = AppendedFront old new (file_meaning file).output
EndsAsStatus file old new Unbuilt = IsSomeAnd file (λ bytes. (file_meaning (Some bytes)).outcome ≡ meaning.Unbuilt)
