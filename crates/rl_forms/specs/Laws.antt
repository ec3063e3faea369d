-- Laws of the meaning of a run, and of what is appended to a sink.
use Rattle.std.specs.Prelude.{◌≡◌, ℕ, List, Option, Some}
use Rattle.rl_forms.specs.Meaning.{Unbuilt, file_meaning, IsUnbuilt}
use Rattle.rl_forms.specs.Appended.{Appended, AppendedFront}

-- a file that is not built is too long, or spells no list of built forms
abbrev pub UnbuiltMeansUnspelled : Type 0
UnbuiltMeansUnspelled = (file : List ℕ) → (file_meaning (Some file)).outcome ≡ Unbuilt → IsUnbuilt file

-- where all of a text was appended, or nothing, a front of it was
pub record AllAndNothingAreFronts : Type 0 where
  pub all : (old new : Option (List ℕ)) (text : List ℕ) → Appended old new text → AppendedFront old new text
  pub nothing : (old new : Option (List ℕ)) (text : List ℕ) → new ≡ old → AppendedFront old new text
