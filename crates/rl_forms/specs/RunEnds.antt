-- How a run over the bytes of a file ends, against the meaning of the file.
use Rattle.std.specs.Prelude.{◌≡◌, ℕ, List, Option, Some}
use Rattle.rl_forms.specs.Meaning.{Finished, file_meaning}
use Rattle.rl_forms.specs.Meaning as meaning
use Rattle.rl_forms.specs.Appended.{Appended, AppendedFront}
use Rattle.rl_forms.specs.declared.run.Ending.{Ending}
use Rattle.rl_forms.specs.declared.run.Ending.TheVariants.{Done, WriteFault, OutOfMemory, Unbuilt}

-- the run ends at the end of the source, and just its output was appended
pub record PrintsMeaning (file old new : Option (List ℕ)) : Type 0 where
  pub finished : (file_meaning file).outcome ≡ Finished
  pub output : Appended old new (file_meaning file).output

-- what the ending says of the file, and what was appended to the output
abbrev pub EndsForms : List ℕ → Option (List ℕ) → Option (List ℕ) → Ending → Type 0
EndsForms file old new Done = PrintsMeaning (Some file) old new
EndsForms file old new WriteFault = AppendedFront old new (file_meaning (Some file)).output
EndsForms file old new OutOfMemory = AppendedFront old new (file_meaning (Some file)).output
EndsForms file old new Unbuilt = (file_meaning (Some file)).outcome ≡ meaning.Unbuilt
