-- What the evaluator has still to do, told on data.
use Rattle.std.specs.Prelude.{◌≡◌, ℕ, ◌+◌, ◌*◌, ◌<◌, Bool, if◌then◌else◌, List, [], ◌∷◌, map, Option, Some, None, MatchBool}
use Rattle.std.specs.List.{All}
use Rattle.rl_tags.specs.Tagged.{Tagged}
use Rattle.rl_tree.specs.Atoms.{Style}
use Rattle.rl_tree.specs.Printing.{Page}
use Rattle.rl_text.specs.Datum.{Datum, Pair}
use Rattle.rl_text.specs.Printed.{with_datum}
use Rattle.rl_print.specs.AtomText.{style_of}
use Rattle.rl_world.specs.declared.world.World.{World}
use Rattle.rl_forms.specs.BuiltForms.{line_length, is_built, evaluated, page_after, with_end_of_line}
use Rattle.rl_forms.specs.KnownData.{IsKnown, datum_in}
use Rattle.rl_forms.specs.SeenForms.{pairs_of_datum}
use Rattle.rl_forms.specs.Pages.{PrintsOnPage, page_in}
use Rattle.rl_print.specs.declared.atom.Style.TheVariants as style
use Rattle.rl_forms.specs.declared.forms.Printer.{Printer}
use Rattle.rl_forms.specs.declared.forms.Printer.TheVariants as printer
use Rattle.rl_forms.specs.declared.evaluator.Task.{Task}
use Rattle.rl_forms.specs.declared.evaluator.Task.TheVariants as task

-- evaluate a datum onto the values; make a pair of the newest two values, whose CDR is the newer; print the newest value; end the line
pub data Step : Type 0 where
  Evaluate : Datum → Step
  Cons : Step
  Print : Style → Step
  EndLine : Step

-- the page after these steps, from these values on, the newest first; None where a form is not built or a value is missing
abbrev pub page_finished : List Step → List Datum → Page → Option Page
page_finished [] values page = Some page
page_finished (Evaluate d ∷ steps) values page = if is_built d then page_finished steps ((evaluated d page).value ∷ values) (evaluated d page).page else None
page_finished (Cons ∷ steps) (d ∷ a ∷ values) page = page_finished steps (Pair a d ∷ values) page
page_finished (Print style ∷ steps) (v ∷ values) page = page_finished steps (v ∷ values) (with_datum style line_length v page)
page_finished (EndLine ∷ steps) values page = page_finished steps values (with_end_of_line page)
page_finished (Cons ∷ steps) _ page = None
page_finished (Print style ∷ steps) _ page = None

-- the tasks and the values of an evaluation, each the newest first
pub record Stacks : Type 0 where
  pub tasks : List Task
  pub values : List Tagged

abbrev pub step_in : World → Task → Step
step_in w (task.Evaluate v) = Evaluate (datum_in w v)
step_in w task.Cons = Cons
step_in w (task.Print style) = Print (style_of style)
step_in w task.EndLine = EndLine

abbrev pub steps_of : World → Stacks → List Step
steps_of w k = map (step_in w) k.tasks

-- the page where the evaluation ends, or None, when this text was printed
abbrev pub page_at_end : World → Stacks → List ℕ → Option Page
page_at_end w k text = page_finished (steps_of w k) (map (datum_in w) k.values) (page_in w text)

abbrev pub KnowsTask : World → Task → Type 0
KnowsTask w (task.Evaluate v) = IsKnown w v
KnowsTask w task.Cons = Unit {0}
KnowsTask w (task.Print style) = Unit {0}
KnowsTask w task.EndLine = Unit {0}

pub record AreKnown (w : World) (k : Stacks) : Type 0 where
  pub tasks : All (KnowsTask w) k.tasks
  pub values : All (IsKnown w) k.values

-- more than the turns that are left
abbrev pub weight_of : Step → ℕ
weight_of (Evaluate d) = 2 * pairs_of_datum d + 1
weight_of Cons = 1
weight_of (Print style) = 1
weight_of EndLine = 1

abbrev pub tasks_weight : List Step → ℕ
tasks_weight [] = 0
tasks_weight (step ∷ steps) = weight_of step + tasks_weight steps

-- a task further on, with some bytes printed
pub record IsFurther (before now : Option (List ℕ)) (old : World) (k : Stacks) (new : World) (l : Stacks) : Type 0 where
  pub prints : PrintsOnPage before now old.output.waiting new.output.waiting (page_at_end old k) (page_at_end new l)
  pub known : AreKnown new l
  pub lighter : tasks_weight (steps_of new l) < tasks_weight (steps_of old k)

-- the evaluation can't end
abbrev pub IsStuck : World → Stacks → Type 0
IsStuck w k = (text : List ℕ) → page_at_end w k text ≡ None

-- one turn: there is more to be seen, or the evaluation can't end
abbrev pub IsTurnOfTasks : Option (List ℕ) → Option (List ℕ) → World → Stacks → World → Stacks → Bool → Type 0
IsTurnOfTasks before now old k new l more = MatchBool more (IsFurther before now old k new l) (IsStuck old k)

-- one turn that prints nothing
abbrev pub IsQuietTurn : World → Stacks → World → Stacks → Bool → Type 0
IsQuietTurn old k new l more = (told : Option (List ℕ)) → IsTurnOfTasks told told old k new l more

abbrev pub with_task : Task → Stacks → Stacks
with_task task k = record k { tasks = task ∷ k.tasks }

abbrev pub stacks_with_value : Tagged → Stacks → Stacks
stacks_with_value v k = record k { values = v ∷ k.values }

-- the newest value
abbrev pub IsNewest : Tagged → Stacks → Type 0
IsNewest v k = (l : Stacks) × (k ≡ stacks_with_value v l)

-- this is evaluated, and then printed as the function does
abbrev pub with_print : Printer → Tagged → Stacks → Stacks
with_print printer.Print a k = with_task (task.Evaluate a) (with_task (task.Print style.Prin1) (with_task task.EndLine k))
with_print printer.Prin1 a k = with_task (task.Evaluate a) (with_task (task.Print style.Prin1) k)
with_print printer.Prin2 a k = with_task (task.Evaluate a) (with_task (task.Print style.Prin2) k)

-- the page after these forms, when this text was printed
abbrev pub page_of_forms : World → List Tagged → List ℕ → Option Page
page_of_forms w forms text = Some (page_after (map (datum_in w) forms) (page_in w text))

-- forms, and no values yet
abbrev pub tasks_begun : List Tagged → Stacks
tasks_begun forms = record { tasks = map (λ v. task.Evaluate v) forms; values = [] }
