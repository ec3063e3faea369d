-- Macros that are plain, and some that are not, as the definition computes it.
use Rattle.std.proofs.Common.{◌≡◌, ◌||◌, ◌&&◌, ℕ, Bool, true, false, List, [], ◌∷◌, Option, Some, None, refl, sym, ◌∙◌}
use Rattle.std.specs.Prelude.{codes}
use Rattle.std.specs.Fmt.{digits}
use Rattle.rl_tags.specs.Opening.{opening_rows, byte_names}
use Rattle.rl_tree.specs.declared.held.Kind.TheVariants.{Expr, Macro}
use Rattle.rl_meaning.specs.Names.{special_rows, native_rows}
use Rattle.rl_meaning.specs.State.{State}
use Rattle.rl_meaning.specs.Symbols.{named_from, symbol_at}
use Rattle.rl_tree.specs.ErrorTexts.{error_texts}
use Rattle.rl_meaning.specs.Jobs.{job}
use Rattle.rl_meaning.specs.Opening.{bare_state, prelude_texts, opened_state}
use Rattle.rl_meaning.specs.Run.{run_bytes}
use Rattle.rl_meaning.specs.Constants.{is_among}
use Rattle.rl_agrees.proofs.PlainEvaluation.{among_plain}
use Rattle.rl_meaning.specs.Plain.{have_plain, is_plain_definition, IsPlain}

-- the state behind these forms, without the prelude
abbrev after : List ℕ → State
after source = (run_bytes None source bare_state).state

abbrev or_zero : Option ℕ → ℕ
or_zero (Some i) = i
or_zero None = 0

-- the identifier of a name
abbrev number : List ℕ → State → ℕ
number name s = or_zero (named_from 0 name s.symbols)

-- behind these forms the macro M is plain
abbrev IsPlainM : List ℕ → Type 0
IsPlainM source = let s = after source in IsPlain s (number (codes "M") s)

a_plain_macro : IsPlainM (codes "(DM M (U) (LIST 'ADD1 (CADR U)))")
unfolding bare_state opening_rows byte_names special_rows native_rows digits error_texts job
a_plain_macro = record { exprs = []; are = refl; is = refl }

-- an EXPR that calls itself
abbrev recursive : List ℕ
recursive = codes "(DE N (U) (COND ((NULL (CDR U)) (CAR U)) (T (LIST 'PLUS2 (CAR U) (N (CDR U)))))) (DM M (U) (N (CDR U)))"

with_a_recursive_expr : IsPlainM recursive
unfolding bare_state opening_rows byte_names special_rows native_rows digits error_texts job
with_a_recursive_expr = record { exprs = number (codes "N") (after recursive) ∷ []; are = refl; is = refl }

abbrev gensyms : List ℕ
gensyms = codes "(DM M (U) (LIST 'QUOTE (GENSYM)))"

-- all rests on whether GENSYM is taken for a plain EXPR
gensym_asked : (es : List ℕ) → have_plain (after gensyms) es Macro (number (codes "M") (after gensyms) ∷ []) ≡ ((((is_among (number (codes "GENSYM") (after gensyms)) es || false) && true) && true) && true)
unfolding bare_state opening_rows byte_names special_rows native_rows digits error_texts job
gensym_asked es = refl

gensym_is_native : (es : List ℕ) → is_plain_definition (after gensyms) es Expr (symbol_at (after gensyms) (number (codes "GENSYM") (after gensyms))).definition ≡ false
unfolding bare_state opening_rows byte_names special_rows native_rows digits error_texts job
gensym_is_native es = refl

held_back : (c : Bool) → ((((c || false) && true) && true) && true) ≡ true → c ≡ true
held_back true h = refl
held_back false h = h

calls_gensym : IsPlainM gensyms → ⊥
calls_gensym p =
    let asked : is_among (number (codes "GENSYM") (after gensyms)) p.exprs ≡ true = held_back _ (sym (gensym_asked p.exprs) ∙ p.is) in
    let h : false ≡ true = sym (gensym_is_native p.exprs) ∙ among_plain (after gensyms) p.exprs Expr p.exprs (number (codes "GENSYM") (after gensyms)) p.are asked in
    absurd (cc)

-- ---- one by one, where no EXPR is taken as plain

abbrev alone : List ℕ → Bool
alone source = let s = after source in have_plain s [] Macro (number (codes "M") s ∷ [])

-- its own variables are set, and a loop goes round
with_a_loop : alone (codes "(DM M (U) (PROG (R) L (COND ((ATOM U) (RETURN R))) (SETQ R (CONS (CAR U) R)) (SETQ U (CDR U)) (GO L)))") ≡ true
unfolding bare_state opening_rows byte_names special_rows native_rows digits error_texts job
with_a_loop = refl

-- a variable of another function
sets_another : alone (codes "(DM M (U) (SETQ V U))") ≡ false
unfolding bare_state opening_rows byte_names special_rows native_rows digits error_texts job
sets_another = refl

-- a native under another name
renamed : alone (codes "(PUTD 'KAR 'EXPR (CDR (GETD 'CAR))) (DM M (U) (KAR U))") ≡ false
unfolding bare_state opening_rows byte_names special_rows native_rows digits error_texts job
renamed = refl

-- a bad form raises an error; but none of FUNCTION
bad_forms : alone (codes "(DM M (U) (COND (T 1 . 2)))") ≡ true
unfolding bare_state opening_rows byte_names special_rows native_rows digits error_texts job
bad_forms = refl

bad_function : alone (codes "(DM M (U) (COND (NIL (FUNCTION)) (T 1)))") ≡ false
unfolding bare_state opening_rows byte_names special_rows native_rows digits error_texts job
bad_function = refl

prints : alone (codes "(DM M (U) (PRINT U))") ≡ false
unfolding bare_state opening_rows byte_names special_rows native_rows digits error_texts job
prints = refl

-- a macro calls a macro
opens_another : alone (codes "(DM K (U) 1) (DM M (U) (K))") ≡ false
unfolding bare_state opening_rows byte_names special_rows native_rows digits error_texts job
opens_another = refl

applies : alone (codes "(DM M (U) ((LAMBDA (V) V) U))") ≡ false
unfolding bare_state opening_rows byte_names special_rows native_rows digits error_texts job
applies = refl

-- ---- the prelude

abbrev numbers : List (List ℕ) → State → List ℕ
numbers [] s = []
numbers (name ∷ names) s = number name s ∷ numbers names s

-- these are plain together
abbrev together : List (List ℕ) → Bool
together names = let es = numbers names opened_state in have_plain opened_state es Expr es

of_the_prelude : together (codes "SUBLIS" ∷ codes "SUBST" ∷ codes "DELETE" ∷ codes "PAIR" ∷ codes "EXPAND" ∷ codes "PROG2" ∷ []) ≡ true
unfolding bare_state opened_state prelude_texts opening_rows byte_names special_rows native_rows digits error_texts job
of_the_prelude = refl

-- APPLY, PUT and EVAL are not pure
not_of_the_prelude : (together (codes "MAPCAR" ∷ []) ∷ together (codes "DEFLIST" ∷ []) ∷ together (codes "EVLIS" ∷ []) ∷ []) ≡ false ∷ false ∷ false ∷ []
unfolding bare_state opened_state prelude_texts opening_rows byte_names special_rows native_rows digits error_texts job
not_of_the_prelude = refl
