-- What a form is seen to be.
use Rattle.std.specs.Prelude.{◌≡◌, ℕ, ◌+◌, ◌<◌, Bool, true, false, ◌&&◌, List, [], ◌∷◌, map, MatchBool}
use Rattle.std.specs.List.{All, list_all}
use Rattle.rl_tags.specs.Tagged.{Tagged}
use Rattle.rl_tree.specs.Name.{Name, print_name, cons_name}
use Rattle.rl_tree.specs.Printing.{Page}
use Rattle.rl_text.specs.Datum.{Datum, Int, Id, Str, Pair, Vector, nil, quoted}
use Rattle.rl_world.specs.declared.world.World.{World}
use Rattle.rl_forms.specs.BuiltForms.{is_built, evaluated, prin1_name, prin2_name, terpri_name}
use Rattle.rl_forms.specs.KnownData.{IsKnown, datum_in}
use Rattle.rl_forms.specs.declared.forms.Arguments.{Arguments}
use Rattle.rl_forms.specs.declared.forms.Arguments.TheVariants as arguments
use Rattle.rl_forms.specs.declared.forms.Printer.{Printer}
use Rattle.rl_forms.specs.declared.forms.Printer.TheVariants as printer
use Rattle.rl_forms.specs.declared.forms.Form.{Form}
use Rattle.rl_forms.specs.declared.forms.Form.TheVariants as form

abbrev pub is_name_datum : Datum → Bool
is_name_datum (Int z) = false
is_name_datum (Id name) = true
is_name_datum (Str bytes) = false
is_name_datum (Pair a d) = false
is_name_datum (Vector es) = false

-- neither a name nor a pair
abbrev pub is_plain : Datum → Bool
is_plain (Int z) = true
is_plain (Id name) = false
is_plain (Str bytes) = true
is_plain (Pair a d) = false
is_plain (Vector es) = true

-- the call of this function with one argument
abbrev pub call : Name → Datum → Datum
call f a = Pair (Id f) (Pair a nil)

-- `(CONS a b)`
abbrev pub cons_call : Datum → Datum → Datum
cons_call a b = Pair (Id cons_name) (Pair a (Pair b nil))

-- `(TERPRI)`
abbrev pub terpri_call : Datum
terpri_call = Pair (Id terpri_name) nil

abbrev pub printer_name : Printer → Name
printer_name printer.Print = print_name
printer_name printer.Prin1 = prin1_name
printer_name printer.Prin2 = prin2_name

-- the form is built, and stands for itself
pub record IsConstant (d : Datum) : Type 0 where
  pub built : is_built d ≡ true
  pub same : (page : Page) → evaluated d page ≡ record { value = d; page = page }

-- the list is of these known elements, at most two; or no pair of anything and it is a built form
abbrev pub IsListOf : World → Datum → Arguments → Type 0
IsListOf w list arguments.None = list ≡ nil
IsListOf w list (arguments.One a) = IsKnown w a × (list ≡ Pair (datum_in w a) nil)
IsListOf w list (arguments.Two a b) = IsKnown w a × IsKnown w b × (list ≡ Pair (datum_in w a) (Pair (datum_in w b) nil))
IsListOf w list arguments.Other = (head : Datum) → is_built (Pair head list) ≡ false

-- the form is that one, with known parts; or it is not built
abbrev pub IsForm : World → Datum → Form → Type 0
IsForm w d form.Constant = IsConstant d
IsForm w d form.EndLine = d ≡ terpri_call
IsForm w d (form.Quoted x) = IsKnown w x × (d ≡ quoted (datum_in w x))
IsForm w d (form.Print f a) = IsKnown w a × (d ≡ call (printer_name f) (datum_in w a))
IsForm w d (form.Cons a b) = IsKnown w a × IsKnown w b × (d ≡ cons_call (datum_in w a) (datum_in w b))
IsForm w d form.Unbuilt = is_built d ≡ false

-- ---- the test

-- the pairs of a datum, but for those in its vectors
abbrev pub pairs_of_datum : Datum → ℕ
pairs_of_datum (Int z) = 0
pairs_of_datum (Id name) = 0
pairs_of_datum (Str bytes) = 0
pairs_of_datum (Vector es) = 0
pairs_of_datum (Pair a d) = pairs_of_datum a + pairs_of_datum d + 1

-- more than the tests that are left
abbrev pub tests_left : List Datum → ℕ
tests_left [] = 0
tests_left (d ∷ ds) = pairs_of_datum d + 1 + tests_left ds

abbrev pub are_built : World → List Tagged → Bool
are_built w vs = list_all is_built (map (datum_in w) vs)

-- the form is built where those are that were added to the ones that are left
pub record IsTested (w : World) (d : Datum) (old new : List Tagged) : Type 0 where
  pub same : (is_built d && are_built w old) ≡ are_built w new
  pub known : All (IsKnown w) new
  pub fewer : tests_left (map (datum_in w) new) < pairs_of_datum d + 1 + tests_left (map (datum_in w) old)

-- one test: there is more to be seen, or the form is not built
abbrev pub IsTest : World → Datum → List Tagged → List Tagged → Bool → Type 0
IsTest w d old new more = MatchBool more (IsTested w d old new) (is_built d ≡ false)
