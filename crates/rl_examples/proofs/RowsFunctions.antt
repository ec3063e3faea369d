-- Function pointers: FUNCTION forms as places in the body that has them, and pointers that name no function.
use Rattle.std.proofs.Common.{◌≡◌, ℕ, ◌+◌, List, [], ◌++◌, ◌∷◌, length, Option, Some, None, refl}
use Rattle.std.specs.Prelude.{codes}
use Rattle.std.specs.Fmt.{digits}
use Rattle.rl_tags.specs.Opening.{opening_rows, byte_names}
use Rattle.rl_tree.specs.Value.{Value, Fun}
use Rattle.rl_meaning.specs.Names.{special_rows, native_rows}
use Rattle.rl_meaning.specs.State.{State, Recorded, Turned}
use Rattle.rl_meaning.specs.CMacros.{Constant, Entry, Load, Exit}
use Rattle.rl_tree.specs.ErrorTexts.{error_texts}
use Rattle.rl_meaning.specs.Outcome.{Depth}
use Rattle.rl_meaning.specs.Symbols.{with_top}
use Rattle.rl_meaning.specs.Holding.{pointer_value}
use Rattle.rl_meaning.specs.Jobs.{job}
use Rattle.rl_meaning.specs.Opening.{bare_state}
use Rattle.rl_meaning.specs.Run.{RunEnding, Finished, Stops}
use Rattle.rl_meaning.specs.ExampleRuns.{run_of, printed_text, bounds_of_levels, lines, of_name, pointer_of_name, part_of_object, state_behind, printed_from, both_ways, twice, finished}

-- ---- one function pointer for each place in a held body

one_pointer_a_place : printed_text (codes "(DE F NIL (FUNCTION (LAMBDA (X) X))) (PRINT (EQ (F) (F))) (PRINT (APPLY (F) '(5))) (DE G NIL (FUNCTION (LAMBDA (X) X))) (PRINT (EQ (F) (G))) (DE F NIL (FUNCTION (LAMBDA (X) X))) (SETQ P (F)) (PRINT (EQ P (F))) (DE F NIL (FUNCTION (LAMBDA (X) X))) (PRINT (EQ P (F)))")
    ≡ lines (codes "T" ∷ codes "5" ∷ codes "NIL" ∷ codes "T" ∷ codes "NIL" ∷ [])
unfolding bare_state opening_rows byte_names special_rows native_rows digits error_texts job
one_pointer_a_place = refl

two_places_of_a_body : printed_text (codes "(DE F NIL (CONS (FUNCTION (LAMBDA (X) X)) (FUNCTION (LAMBDA (X) X)))) (PRINT (EQ (CAR (F)) (CDR (F)))) (PRINT (EQ (CAR (F)) (CAR (F)))) (PRINT (EQ (CDR (F)) (CDR (F)))) (PRINT (EQ (CAR (F)) (CDR (GETD 'F))))")
    ≡ lines (codes "NIL" ∷ codes "T" ∷ codes "T" ∷ codes "NIL" ∷ [])
unfolding bare_state opening_rows byte_names special_rows native_rows digits error_texts job
two_places_of_a_body = refl

-- each answers its letter, wherever it stands
places_of_all_kinds : printed_text (codes "(DE F (N) (PRINT N) (PROG (P) (SETQ P (LIST '(1 . (2)) (FUNCTION (LAMBDA NIL 'A)) 5 (FUNCTION (LAMBDA NIL (FUNCTION (LAMBDA NIL 'B)) 'C)) \"S\" (FUNCTION (LAMBDA NIL 'D)))) (COND ((EQ N 0) (RETURN (CDR P))) ((FUNCTION (LAMBDA NIL 'E)) (RETURN (LIST 1 (FUNCTION (LAMBDA NIL 'F)))))))) (SETQ P (F 0)) (SETQ Q (F 1)) (PRINT (LIST (APPLY (CAR P) NIL) (APPLY (CAR (CDDR P)) NIL) (APPLY (CAR (CDDDDR P)) NIL) (APPLY (CADR Q) NIL)))")
    ≡ lines (codes "0" ∷ codes "1" ∷ codes "(A C D F)" ∷ [])
unfolding bare_state opening_rows byte_names special_rows native_rows digits error_texts job
places_of_all_kinds = refl

a_literal_in_a_literal : printed_text (codes "(DE F NIL (FUNCTION (LAMBDA (X) (LIST X (FUNCTION (LAMBDA (Y) (LIST X Y))))))) (SETQ A (APPLY (F) '(1))) (SETQ B (APPLY (F) '(2))) (PRINT (CAR A)) (PRINT (EQ (CADR A) (CADR B))) (PRINT (EQ (CADR A) (F))) (DE G (X) (APPLY (CADR A) '(4))) (PRINT (G 3))")
    ≡ lines (codes "1" ∷ codes "T" ∷ codes "NIL" ∷ codes "(3 4)" ∷ [])
unfolding bare_state opening_rows byte_names special_rows native_rows digits error_texts job
a_literal_in_a_literal = refl

-- lists (FUNCTION (LAMBDA ..)) that are no forms: clauses of COND, and a list of parameters
lists_like_literals : printed_text (codes "(COND (FUNCTION (LAMBDA (X) X))) (SETQ FUNCTION NIL) (PRINT (COND (FUNCTION (LAMBDA (X) X)) (T 2))) (SETQ FUNCTION 1) (DE X NIL 3) (SETQ X 4) (DE LAMBDA (A B) (CONS A B)) (PRINT (COND (FUNCTION (LAMBDA (X) X)) (T 2))) ((LAMBDA (FUNCTION (LAMBDA (X) X)) 1) 2)")
    ≡ lines (codes "***** FUNCTION is unbound" ∷ codes "2" ∷ codes "(3 . 4)" ∷ codes "***** LAMBDA is badly formed" ∷ [])
unfolding bare_state opening_rows byte_names special_rows native_rows digits error_texts job
lists_like_literals = refl

-- a held form of a statement stays behind it, and each EVAL and each expansion holds a form of its own
literals_of_forms : printed_text (codes "(SETQ P (FUNCTION (LAMBDA (X) (ADD1 X)))) (PRINT (APPLY P '(1))) (SETQ E '(FUNCTION (LAMBDA NIL 6))) (PRINT (EQ (EVAL E) (EVAL E))) (PRINT (APPLY (EVAL E) NIL)) (DM M (U) '(FUNCTION (LAMBDA NIL 7))) (DE G NIL (M)) (PRINT (EQ (G) (G))) (PRINT (APPLY (G) NIL))")
    ≡ lines (codes "2" ∷ codes "NIL" ∷ codes "6" ∷ codes "NIL" ∷ codes "7" ∷ [])
unfolding bare_state opening_rows byte_names special_rows native_rows digits error_texts job
literals_of_forms = refl

-- a copy and a definition take for (FUNCTION (LAMBDA ..)) the turns, cells and levels that they take for (LIST (LAMBDA ..))
abbrev copied_form : List ℕ → List ℕ
copied_form head = codes "(DF Q (U) 1) (DE G NIL (Q (" ++ (head ++ codes " (LAMBDA (X) (CAR (CAR X)))) 5)) (G)")

abbrev defined_form : List ℕ → List ℕ
defined_form head = codes "(DE G NIL (DE H NIL (" ++ (head ++ codes " (LAMBDA (X) (CAR (CAR X)))))) (G)")

abbrev turns_and_cells : List ℕ → ℕ × Option ℕ
turns_and_cells source = let counts = (run_of 1000 1000 [] source).state.counts in (counts.turns, counts.cells)

copied_as_a_list : turns_and_cells (copied_form (codes "FUNCTION")) ≡ turns_and_cells (copied_form (codes "LIST"))
unfolding bare_state opening_rows byte_names special_rows native_rows digits error_texts job
copied_as_a_list = refl

defined_as_a_list : turns_and_cells (defined_form (codes "FUNCTION")) ≡ turns_and_cells (defined_form (codes "LIST"))
unfolding bare_state opening_rows byte_names special_rows native_rows digits error_texts job
defined_as_a_list = refl

abbrev levels_of_both : (List ℕ → List ℕ) → ℕ → (RunEnding × RunEnding) × (RunEnding × RunEnding)
levels_of_both form n = (bounds_of_levels (form (codes "FUNCTION")) n, bounds_of_levels (form (codes "LIST")) n)

levels_of_a_copied_literal : levels_of_both copied_form 7 ≡ ((Finished, Stops Depth), (Finished, Stops Depth))
unfolding bare_state opening_rows byte_names special_rows native_rows digits error_texts job
levels_of_a_copied_literal = refl

levels_of_a_defined_literal : levels_of_both defined_form 6 ≡ ((Finished, Stops Depth), (Finished, Stops Depth))
unfolding bare_state opening_rows byte_names special_rows native_rows digits error_texts job
levels_of_a_defined_literal = refl

-- ---- definitions and calls by their pointers

a_name_of_a_literal : printed_text (codes "(DE F NIL (FUNCTION (LAMBDA (X) (LIST X X)))) (PRINT (PUTD 'G 'EXPR (F))) (PRINT (G 5)) (PRINT (GETD 'G)) (PRINT (EQ (CDR (GETD 'G)) (F))) (PRINT (APPLY 'G '(6))) (G) (APPLY (F) NIL) (PRINT (EQ (CDR (REMD 'G)) (F)))")
    ≡ lines (codes "G" ∷ codes "(5 5)" ∷ codes "(EXPR . #[function])" ∷ codes "T" ∷ codes "(6 6)" ∷ codes "***** G has a wrong number of arguments" ∷ codes "***** #[function] has a wrong number of arguments" ∷ codes "T" ∷ [])
unfolding bare_state opening_rows byte_names special_rows native_rows digits error_texts job
a_name_of_a_literal = refl

literals_of_other_kinds : printed_text (codes "(DE F NIL (LIST (FUNCTION (LAMBDA (U) (CADR U))) (FUNCTION (LAMBDA NIL 1)))) (PUTD 'Q 'FEXPR (CAR (F))) (PRINT (Q A B)) (PUTD 'M 'MACRO (CAR (F))) (PRINT (M 'C)) (PUTD 'N 'FEXPR (CADR (F))) (PRINT (GETD 'N))")
    ≡ lines (codes "B" ∷ codes "C" ∷ codes "***** LAMBDA is badly formed" ∷ codes "NIL" ∷ [])
unfolding bare_state opening_rows byte_names special_rows native_rows digits error_texts job
literals_of_other_kinds = refl

-- it has the kinds that its holder keeps
kinds_of_a_literal : (run_of 1000 1000 [] (codes "(FLUID '(U)) (DE H NIL U) (DE F NIL (FUNCTION (LAMBDA (U) (H)))) (UNFLUID '(U)) (PRINT (APPLY (F) '(5)))")).state.watched.event ≡ None
unfolding bare_state opening_rows byte_names special_rows native_rows digits error_texts job
kinds_of_a_literal = refl

-- the body that runs is its own: R defines M1 anew under it, and only the second of them has M1
abbrev two_bodies : List ℕ
two_bodies = codes "(DM M1 (U) 1) (SETQ V 'M1) (DE R NIL (PUTD V 'MACRO '(LAMBDA (U) 2))) (DE F NIL (LIST (FUNCTION (LAMBDA NIL (R))) (FUNCTION (LAMBDA NIL (LIST (R) (M1)))))) (SETQ P (F))"

abbrev event_behind : List ℕ → Option Recorded
event_behind forms = (run_of 1000 1000 [] (two_bodies ++ forms)).state.watched.event

a_body_that_does_not_turn : event_behind (codes "(APPLY (CAR P) NIL)") ≡ None
unfolding bare_state opening_rows byte_names special_rows native_rows digits error_texts job
a_body_that_does_not_turn = refl

a_body_that_turns : event_behind (codes "(APPLY (CADR P) NIL)") ≡ Some (record { event = Turned 422; printed = 0; noted = 0 })
unfolding bare_state opening_rows byte_names special_rows native_rows digits error_texts job
a_body_that_turns = refl

-- ---- by code: the pointer is a constant, and the same one

abbrev answers_a_literal : List ℕ
answers_a_literal = codes "(DE F (N) (FUNCTION (LAMBDA (X) (CONS N X))))"

a_pointer_by_code : both_ways answers_a_literal (codes "F") (λ s i. Entry i 1 ∷ Load 1 (Constant (part_of_object s i 0)) ∷ Exit ∷ []) (codes "(PRINT (EQ (F 1) (APPLY (CDR (GETD 'F)) '(2)))) (SETQ N 3) (PRINT (APPLY (F 1) '(4)))") ≡ twice (finished (codes "T" ∷ codes "(3 . 4)" ∷ []) 961)
unfolding bare_state opening_rows byte_names special_rows native_rows digits error_texts job
a_pointer_by_code = refl

-- ---- pointers that name no function

-- P is this pointer
abbrev with_pointer : List ℕ → (State → Value) → State
with_pointer forms value = let s = state_behind forms in with_top (of_name s (codes "P")) (value s) s

abbrev no_literals : List ℕ
no_literals = codes "(DE F NIL (LIST (FUNCTION CAR) '(LAMBDA (X) X) (LAMBDA (X) X)))"

abbrev tried : (State → Value) → List ℕ
tried value = printed_from (with_pointer no_literals value) (codes "(APPLY P NIL) (PUTD 'G 'EXPR P) (PRINT (GETD 'G)) (PRINT (CODEP P))")

abbrev tried_part : ℕ → List ℕ
tried_part node = tried (λ s. part_of_object s (of_name s (codes "F")) node)

abbrev of_a_wrong_type : List ℕ
of_a_wrong_type = lines (codes "***** #[function] is of a wrong type" ∷ codes "***** #[function] is of a wrong type" ∷ codes "NIL" ∷ codes "T" ∷ [])

-- the body, an identifier, (FUNCTION CAR), the quoted list, a list (LAMBDA ..), and a place behind the last
pointers_to_other_places : tried_part 0 ++ tried_part 1 ++ tried_part 3 ++ tried_part 12 ++ tried_part 15 ++ tried_part 100 ≡ of_a_wrong_type ++ of_a_wrong_type ++ of_a_wrong_type ++ of_a_wrong_type ++ of_a_wrong_type ++ of_a_wrong_type
unfolding bare_state opening_rows byte_names special_rows native_rows digits error_texts job
pointers_to_other_places = refl

-- a place in a native, a special form, and a function that is not there
pointers_to_no_function : tried (λ s. part_of_object s (of_name s (codes "CAR")) 0) ++ tried (λ s. pointer_value (pointer_of_name s (of_name s (codes "COND")))) ++ tried (λ s. Fun (length s.functions + 100) 0)
    ≡ of_a_wrong_type ++ of_a_wrong_type ++ of_a_wrong_type
unfolding bare_state opening_rows byte_names special_rows native_rows digits error_texts job
pointers_to_no_function = refl
