-- The forms of a file in the world of a run, and what they print.
use Rattle.std.specs.Prelude.{true, map, ◌≡◌, ℕ, List, Option, Some, None}
use Rattle.std.specs.Global.{Vec}
use Rattle.std.specs.List.{All}
use Rattle.rl_tags.specs.Tagged.{Tagged}
use Rattle.rl_world.specs.declared.world.World.{World}
use Rattle.rl_forms.specs.Meaning.{Finished, file_meaning, nothing_printed, empty_page}
use Rattle.rl_forms.specs.Meaning as meaning
use Rattle.rl_forms.specs.BuiltForms.{page_after}
use Rattle.rl_forms.specs.KnownData.{IsKnown, IsBeginning, datum_in}
use Rattle.rl_forms.specs.SeenForms.{are_built}
use Rattle.rl_forms.specs.Appended.{Appended, AppendedFront}
use Rattle.rl_forms.specs.declared.run.Ending.{Ending}
use Rattle.rl_forms.specs.declared.run.Ending.TheVariants.{Done, WriteFault, OutOfMemory, Unbuilt}

-- what these forms print
abbrev pub output_of : World → List Tagged → List ℕ
output_of w forms = (page_after (map (datum_in w) forms) empty_page).text

-- in a world in which nothing was printed, these are the built forms of the file
pub record AreForms (file : List ℕ) (w : World) (forms : List Tagged) : Type 0 where
  pub beginning : IsBeginning w
  pub known : All (IsKnown w) forms
  pub built : are_built w forms ≡ true
  pub means : file_meaning (Some file) ≡ record { outcome = Finished; output = output_of w forms }

-- the forms are those of the file, or something in it is not built
abbrev pub AreFormsOf : List ℕ → World → Option (Vec Tagged) → Type 0
AreFormsOf file w None = file_meaning (Some file) ≡ nothing_printed meaning.Unbuilt
AreFormsOf file w (Some forms) = AreForms file w forms.items

-- how evaluation ends: with all that is printed, or with a front of it
abbrev pub PrintsForms : List ℕ → Option (List ℕ) → Option (List ℕ) → Ending → Type 0
PrintsForms output old new Done = Appended old new output
PrintsForms output old new WriteFault = AppendedFront old new output
PrintsForms output old new OutOfMemory = AppendedFront old new output
PrintsForms output old new Unbuilt = ⊥
