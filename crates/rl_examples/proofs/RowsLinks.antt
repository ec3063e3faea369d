-- Code that copies forms and makes definitions, beside the walk of the same function.
use Rattle.std.proofs.Common.{◌≡◌, ℕ, List, [], ◌++◌, ◌∷◌, Option, Some, refl}
use Rattle.std.specs.Prelude.{codes}
use Rattle.std.specs.Fmt.{digits}
use Rattle.rl_tags.specs.Opening.{opening_rows, byte_names}
use Rattle.rl_tree.specs.Value.{Id}
use Rattle.rl_meaning.specs.Names.{special_rows, native_rows}
use Rattle.rl_meaning.specs.State.{State}
use Rattle.rl_meaning.specs.CMacros.{Constant, Variable, Entry, Load, Move, Copy, Link, LinkE, CallNative, Exit}
use Rattle.rl_tree.specs.ErrorTexts.{error_texts}
use Rattle.rl_meaning.specs.Outcome.{Turns}
use Rattle.rl_meaning.specs.Symbols.{nil_value_of_state}
use Rattle.rl_meaning.specs.Jobs.{job}
use Rattle.rl_meaning.specs.Opening.{bare_state}
use Rattle.rl_meaning.specs.Run.{Stops}
use Rattle.rl_meaning.specs.ExampleRuns.{SeenOfRun, run_from, lines, of_name, part_of_object, WrittenCode, state_behind, after_with_code, seen_from, printed_from, both_ways, twice, finished}

-- ---- copies

-- an FEXPR gets a copy of its argument forms, which stand at node 2 of the body
abbrev fexpr_call : List ℕ
fexpr_call = codes "(DF Q (U) U) (DE F NIL (Q A '(B) (C D)))"

abbrev copy_code : List ℕ → ℕ → WrittenCode
copy_code name node s i = Entry i 0 ∷ Copy 1 (part_of_object s i node) ∷ LinkE (of_name s name) 1 0 ∷ []

-- its pairs are new each time, and the quoted part is shared; the copy takes 7 turns
a_copy : both_ways fexpr_call (codes "F") (copy_code (codes "Q") 2) (codes "(PRINT (F)) (PRINT (LIST (EQ (F) (F)) (EQ (CDR (CADR (F))) (CDR (CADR (F)))) (EQ (CADADR (F)) (CADADR (F))))) (F)") ≡ twice (finished (codes "(A (QUOTE (B)) (C D))" ∷ codes "(NIL NIL T)" ∷ []) 880)
unfolding bare_state opening_rows byte_names special_rows native_rows digits error_texts job
a_copy = refl

-- the turns of a call: 1 for its statement, 1 for F, 7 for the copy and 1 for Q
turns_of_a_copy : seen_from (after_with_code fexpr_call (codes "F") (copy_code (codes "Q") 2)) 10 1000 (codes "(F)") ≡ finished [] 0
unfolding bare_state opening_rows byte_names special_rows native_rows digits error_texts job
turns_of_a_copy = refl

turns_of_a_copy_cut : seen_from (after_with_code fexpr_call (codes "F") (copy_code (codes "Q") 2)) 9 1000 (codes "(F)") ≡ record { ending = Stops Turns; output = []; notes = []; left = 0 }
unfolding bare_state opening_rows byte_names special_rows native_rows digits error_texts job
turns_of_a_copy_cut = refl

-- a FUNCTION form is copied whole, and so is what stands behind it
abbrev fexpr_call_with_a_literal : List ℕ
fexpr_call_with_a_literal = codes "(DF Q (U) U) (DE F NIL (Q (FUNCTION (LAMBDA (X) (CAR X))) B))"

a_copy_with_a_literal : both_ways fexpr_call_with_a_literal (codes "F") (copy_code (codes "Q") 2) (codes "(PRINT (F))") ≡ twice (finished (codes "((FUNCTION (LAMBDA (X) (CAR X))) B)" ∷ []) 975)
unfolding bare_state opening_rows byte_names special_rows native_rows digits error_texts job
a_copy_with_a_literal = refl

-- the parts at the nodes: 3 is the FUNCTION form, 6 the LAMBDA list in it, 20 the list of B, and 22 its end
abbrev parts : List ℕ → List ℕ
parts source = let at : ℕ → List ℕ = λ node. printed_from (after_with_code source (codes "F") (copy_code (codes "Q") node)) (codes "(PRINT (F))") in at 3 ++ at 5 ++ at 6 ++ at 12 ++ at 13 ++ at 20 ++ at 22

copies_of_parts : parts fexpr_call_with_a_literal ≡ lines (codes "(FUNCTION (LAMBDA (X) (CAR X)))" ∷ codes "((LAMBDA (X) (CAR X)))" ∷ codes "(LAMBDA (X) (CAR X))" ∷ codes "((CAR X))" ∷ codes "(CAR X)" ∷ codes "(B)" ∷ codes "#[function]" ∷ [])
unfolding bare_state opening_rows byte_names special_rows native_rows digits error_texts job
copies_of_parts = refl

-- what is no part of a body is its own copy
copies_of_values : printed_from (after_with_code fexpr_call (codes "F") (λ s i. Entry i 0 ∷ Copy 1 (Id (of_name s (codes "A"))) ∷ Exit ∷ [])) (codes "(PRINT (F))") ++ printed_from (after_with_code fexpr_call (codes "F") (copy_code (codes "Q") 1)) (codes "(PRINT (F))") ≡ lines (codes "A" ∷ codes "#[function]" ∷ [])
unfolding bare_state opening_rows byte_names special_rows native_rows digits error_texts job
copies_of_values = refl

-- ---- links to DE, DF and DM

-- their arguments stand at node 2 of the body
abbrev definition_code : List ℕ → WrittenCode
definition_code form s i = Entry i 0 ∷ Load 1 (Constant (part_of_object s i 2)) ∷ Link (of_name s form) 1 ∷ Exit ∷ []

abbrev in_last_place_code : List ℕ → WrittenCode
in_last_place_code form s i = Entry i 0 ∷ Load 1 (Constant (part_of_object s i 2)) ∷ LinkE (of_name s form) 1 0 ∷ []

abbrev defines : List ℕ
defines = codes "(DE F NIL (DE G (X) (CONS X 'A) (LIST X (FUNCTION (LAMBDA NIL X)))))"

a_definition : both_ways defines (codes "F") (definition_code (codes "DE")) (codes "(PRINT (F)) (PRINT (CAR (G 5))) (PRINT (CAR (GETD 'G))) (PRINT (EQ (CADR (G 1)) (CADR (G 2))))") ≡ twice (finished (codes "G" ∷ codes "5" ∷ codes "EXPR" ∷ codes "T" ∷ []) 949)
unfolding bare_state opening_rows byte_names special_rows native_rows digits error_texts job
a_definition = refl

abbrev defines_fexpr : List ℕ
defines_fexpr = codes "(DE F NIL (DF G (X) X))"

a_definition_of_an_fexpr : both_ways defines_fexpr (codes "F") (definition_code (codes "DF")) (codes "(PRINT (F)) (PRINT (G A B))") ≡ twice (finished (codes "G" ∷ codes "(A B)" ∷ []) 985)
unfolding bare_state opening_rows byte_names special_rows native_rows digits error_texts job
a_definition_of_an_fexpr = refl

abbrev defines_macro : List ℕ
defines_macro = codes "(DE F NIL (DM G (X) (CADR X)))"

a_definition_of_a_macro : both_ways defines_macro (codes "F") (in_last_place_code (codes "DM")) (codes "(PRINT (F)) (PRINT (G 'A))") ≡ twice (finished (codes "G" ∷ codes "A" ∷ []) 987)
unfolding bare_state opening_rows byte_names special_rows native_rows digits error_texts job
a_definition_of_a_macro = refl

-- what is no definition
bad_parameters : both_ways (codes "(DE F NIL (DE G (X X) X))") (codes "F") (definition_code (codes "DE")) (codes "(F) (G 1)") ≡ twice (finished (codes "***** LAMBDA is badly formed" ∷ codes "***** G is not defined" ∷ []) 990)
unfolding bare_state opening_rows byte_names special_rows native_rows digits error_texts job
bad_parameters = refl

a_system_name : both_ways (codes "(DE F NIL (DE CAR (X X) X))") (codes "F") (definition_code (codes "DE")) (codes "(F)") ≡ twice (finished (codes "***** CAR is a system name" ∷ []) 996)
unfolding bare_state opening_rows byte_names special_rows native_rows digits error_texts job
a_system_name = refl

no_parameters : both_ways (codes "(DE F NIL (DE CAR))") (codes "F") (definition_code (codes "DE")) (codes "(F)") ≡ twice (finished (codes "***** DE is badly formed" ∷ []) 996)
unfolding bare_state opening_rows byte_names special_rows native_rows digits error_texts job
no_parameters = refl

a_dotted_definition : both_ways (codes "(DE F NIL (DE CAR (X) . 5))") (codes "F") (definition_code (codes "DE")) (codes "(F)") ≡ twice (finished (codes "***** DE is badly formed" ∷ []) 996)
unfolding bare_state opening_rows byte_names special_rows native_rows digits error_texts job
a_dotted_definition = refl

-- a list of arguments that CONS made: (G (X) X)
abbrev made_definition : List ℕ
made_definition = codes "(DE F NIL (DE G (X) X))"

abbrev made_code : WrittenCode
made_code s i = let cons = of_name s (codes "CONS") in
    Entry i 0 ∷ Load 1 (Constant (Id (of_name s (codes "X")))) ∷ Load 2 (Constant nil_value_of_state) ∷ CallNative cons 2 ∷ Move 2 1 ∷ CallNative cons 2 ∷ Move 2 1 ∷
    Load 1 (Constant (Id (of_name s (codes "G")))) ∷ CallNative cons 2 ∷ Link (of_name s (codes "DE")) 1 ∷ Exit ∷ []

a_definition_by_a_made_list : both_ways made_definition (codes "F") made_code (codes "(PRINT (F)) (PRINT (G 5))") ≡ twice (finished (codes "G" ∷ codes "5" ∷ []) 990)
unfolding bare_state opening_rows byte_names special_rows native_rows digits error_texts job
a_definition_by_a_made_list = refl

-- the argument list is the value of V, beside the form that has it
abbrev by_list : List ℕ → List ℕ → SeenOfRun × SeenOfRun
by_list args forms = let define_it = codes "(SETQ V '" ++ (args ++ (codes ") (DE F NIL (DE . " ++ (args ++ codes "))"))) in
    both_ways define_it (codes "F") (λ s i. Entry i 0 ∷ Load 1 (Variable (of_name s (codes "V"))) ∷ Link (of_name s (codes "DE")) 1 ∷ Exit ∷ []) forms

a_definition_by_a_list : by_list (codes "(G (X Y) (PRINT X) '(1) (LIST X 'Y (FUNCTION (LAMBDA (Z) (CAR Z)))))") (codes "(PRINT (F)) (PRINT (G 5 6))") ≡ twice (finished (codes "G" ∷ codes "5" ∷ codes "(5 Y #[function])" ∷ []) 963)
unfolding bare_state opening_rows byte_names special_rows native_rows digits error_texts job
a_definition_by_a_list = refl

bad_parameters_of_a_list : by_list (codes "(G 'X X)") (codes "(F)") ≡ twice (finished (codes "***** LAMBDA is badly formed" ∷ []) 994)
unfolding bare_state opening_rows byte_names special_rows native_rows digits error_texts job
bad_parameters_of_a_list = refl

a_system_name_in_a_list : by_list (codes "(CAR (X X) X)") (codes "(F)") ≡ twice (finished (codes "***** CAR is a system name" ∷ []) 996)
unfolding bare_state opening_rows byte_names special_rows native_rows digits error_texts job
a_system_name_in_a_list = refl

a_dotted_list : by_list (codes "(CAR (X) . 5)") (codes "(F)") ≡ twice (finished (codes "***** DE is badly formed" ∷ []) 996)
unfolding bare_state opening_rows byte_names special_rows native_rows digits error_texts job
a_dotted_list = refl

-- a FUNCTION form in the place of the arguments is the list that it is
a_function_form_as_arguments : both_ways (codes "(DE F NIL (DE FUNCTION (LAMBDA NIL 1)))") (codes "F") (definition_code (codes "DE")) (codes "(F)") ≡ twice (finished (codes "***** FUNCTION is a system name" ∷ []) 996)
unfolding bare_state opening_rows byte_names special_rows native_rows digits error_texts job
a_function_form_as_arguments = refl

a_longer_function_form_as_arguments : both_ways (codes "(DE F NIL (DE FUNCTION NIL 1))") (codes "F") (definition_code (codes "DE")) (codes "(F)") ≡ twice (finished (codes "***** FUNCTION is a system name" ∷ []) 996)
unfolding bare_state opening_rows byte_names special_rows native_rows digits error_texts job
a_longer_function_form_as_arguments = refl

no_parameters_in_a_list : by_list (codes "(CAR)") (codes "(F)") ≡ twice (finished (codes "***** DE is badly formed" ∷ []) 996)
unfolding bare_state opening_rows byte_names special_rows native_rows digits error_texts job
no_parameters_in_a_list = refl

no_name_in_a_list : by_list (codes "(5 (X) X)") (codes "(F)") ≡ twice (finished (codes "***** DE is badly formed" ∷ []) 996)
unfolding bare_state opening_rows byte_names special_rows native_rows digits error_texts job
no_name_in_a_list = refl

-- ---- links that are errors

abbrev linked_code : List ℕ → ℕ → WrittenCode
linked_code form n s i = Entry i 0 ∷ Link (of_name s form) n ∷ Exit ∷ []

two_arguments_of_a_definition : printed_from (after_with_code defines (codes "F") (linked_code (codes "DE") 2)) (codes "(F)") ++ printed_from (after_with_code defines (codes "F") (linked_code (codes "DM") 0)) (codes "(F)") ≡ lines (codes "***** DE has a wrong number of arguments" ∷ codes "***** DM has a wrong number of arguments" ∷ [])
unfolding bare_state opening_rows byte_names special_rows native_rows digits error_texts job
two_arguments_of_a_definition = refl

other_special_forms : printed_from (after_with_code defines (codes "F") (linked_code (codes "COND") 1)) (codes "(F)") ++ printed_from (after_with_code defines (codes "F") (linked_code (codes "LIST") 0)) (codes "(F)") ≡ lines (codes "***** COND is of a wrong type" ∷ codes "***** LIST is of a wrong type" ∷ [])
unfolding bare_state opening_rows byte_names special_rows native_rows digits error_texts job
other_special_forms = refl

-- ---- cells

-- those that are left behind a call by code, and behind a walk
abbrev cells_left : State → Option ℕ
cells_left s = (run_from s 1000 1000 1000 [] (codes "(F)")).state.counts.cells

abbrev cells_both_ways : List ℕ → WrittenCode → Option ℕ × Option ℕ
cells_both_ways definition code = (cells_left (after_with_code definition (codes "F") code), cells_left (state_behind definition))

-- 11 for the statement, 7 for the copy
cells_of_a_copy : cells_both_ways fexpr_call (copy_code (codes "Q") 2) ≡ (Some 982, Some 982)
unfolding bare_state opening_rows byte_names special_rows native_rows digits error_texts job
cells_of_a_copy = refl

cells_of_a_definition : cells_both_ways defines (definition_code (codes "DE")) ≡ (Some 947, Some 947)
unfolding bare_state opening_rows byte_names special_rows native_rows digits error_texts job
cells_of_a_definition = refl

-- an error makes its message
cells_of_an_error : cells_both_ways (codes "(DE F NIL (DE CAR (X) X))") (definition_code (codes "DE")) ≡ (Some 987, Some 987)
unfolding bare_state opening_rows byte_names special_rows native_rows digits error_texts job
cells_of_an_error = refl
