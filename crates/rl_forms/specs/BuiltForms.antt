-- Evaluation of the forms that are built: constants, QUOTE, CONS, PRINT, PRIN1, PRIN2 and TERPRI (Standard Lisp Report 1979, EVAL). No form changes an object, so a value is as good as its datum.
use Rattle.std.specs.Prelude.{ℕ, Bool, true, false, ◌&&◌, ◌||◌, if◌then◌else◌, List, [], ◌∷◌, codes}
use Rattle.std.specs.Str.{bytes_eq}
use Rattle.rl_tree.specs.Name.{Name, nil_name, t_name, quote_name, cons_name, print_name}
use Rattle.rl_tree.specs.Atoms.{Prin1, Prin2}
use Rattle.rl_tree.specs.Printing.{Page}
use Rattle.rl_tree.specs.Printing.{with_text}
use Rattle.rl_text.specs.Datum.{Datum, Int, Id, Str, Pair, Vector, nil}
use Rattle.rl_text.specs.Printed.{with_datum}

-- bytes in a line before an atom breaks it
abbrev pub line_length : ℕ
line_length = 80

abbrev pub prin1_name : Name
prin1_name = codes "PRIN1"

abbrev pub prin2_name : Name
prin2_name = codes "PRIN2"

abbrev pub terpri_name : Name
terpri_name = codes "TERPRI"

-- a value, and the page after it was made
pub record Valued : Type 0 where
  pub value : Datum
  pub page : Page

-- TERPRI
abbrev pub with_end_of_line : Page → Page
with_end_of_line page = with_text page (10 ∷ [])

abbrev pub is_printer : Name → Bool
is_printer f = bytes_eq f print_name || (bytes_eq f prin1_name || bytes_eq f prin2_name)

-- PRIN1 and PRIN2 of a datum; PRINT is PRIN1 and an end of line
abbrev pub printed_on_page : Name → Datum → Page → Page
printed_on_page f d page =
    if bytes_eq f prin2_name then with_datum Prin2 line_length d page
    else (if bytes_eq f prin1_name then with_datum Prin1 line_length d page
    else with_end_of_line (with_datum Prin1 line_length d page))

-- an integer, a string, a vector, NIL, T, (TERPRI), (QUOTE x), (PRINT a), (PRIN1 a), (PRIN2 a), (CONS a b)
abbrev pub is_built : Datum → Bool
is_built (Int z) = true
is_built (Str bytes) = true
is_built (Vector es) = true
is_built (Id name) = bytes_eq name nil_name || bytes_eq name t_name
is_built (Pair (Id f) (Id end)) = bytes_eq end nil_name && bytes_eq f terpri_name
is_built (Pair (Id f) (Pair a (Id end))) = bytes_eq end nil_name && (bytes_eq f quote_name || (is_printer f && is_built a))
is_built (Pair (Id f) (Pair a (Pair b (Id end)))) = bytes_eq end nil_name && (bytes_eq f cons_name && (is_built a && is_built b))
is_built _ = false

-- the value of a built form
abbrev pub evaluated : Datum → Page → Valued
evaluated (Pair (Id f) (Id end)) page = record { value = nil; page = with_end_of_line page }
evaluated (Pair (Id f) (Pair a (Id end))) page =
    if bytes_eq f quote_name then record { value = a; page = page }
    else (let x = evaluated a page in record { value = x.value; page = printed_on_page f x.value x.page })
evaluated (Pair (Id f) (Pair a (Pair b (Id end)))) page =
    let x = evaluated a page in let y = evaluated b x.page in record { value = Pair x.value y.value; page = y.page }
evaluated form page = record { value = form; page = page }

-- the page after these forms, one after another
abbrev pub page_after : List Datum → Page → Page
page_after [] page = page
page_after (form ∷ forms) page = page_after forms (evaluated form page).page
