-- Plain macros: their bodies use only what makes objects and binds their own variables, so that an expansion changes nothing that was there (this project's).
use Rattle.std.specs.Prelude.{◌≡◌, ℕ, Bool, true, false, ◌&&◌, ◌||◌, if◌then◌else◌, List, [], ◌∷◌, Option, Some, None}
use Rattle.rl_tree.specs.Value.{Id}
use Rattle.rl_tree.specs.declared.held.Kind.{Kind}
use Rattle.rl_tree.specs.declared.held.Kind.TheVariants.{Expr, Fexpr, Macro}
use Rattle.rl_meaning.specs.Names.{Test, Digit, Liter, Fluidp, Globalp, Special, Quote, Cond, Progn, And, Or, Setq, Prog, Go, Return, List_, Plus, Times, Max, Min, De, Df, Dm, Native, Tests, Eq, Equal, Part, Cons, Append, Reverse, Length, Member, Memq, Assoc, Number, Error}
use Rattle.rl_meaning.specs.Names as names
use Rattle.rl_meaning.specs.State.{State, Tree, Atom, Quoted, Pair, Literal, Held, Definition, Function, NativeFunction, HeldFunction}
use Rattle.rl_meaning.specs.Symbols.{is_constant, symbol_at}
use Rattle.rl_meaning.specs.System.{is_system}
use Rattle.rl_meaning.specs.Constants.{is_among}
use Rattle.rl_meaning.specs.Holding.{is_list, tree_identifiers, function_at}
use Rattle.rl_meaning.specs.Reach.{same_kind}
use Rattle.rl_meaning.specs.Forms.{Form, Call, Applied, Bad, head_of, fits}

-- ---- pure natives: they look at objects and make new ones

-- the tests that look at names and declarations are none
abbrev pub is_pure_test : Test → Bool
is_pure_test Digit = false
is_pure_test Liter = false
is_pure_test Fluidp = false
is_pure_test Globalp = false
is_pure_test t = true

abbrev pub is_pure : Native → Bool
is_pure (Tests t) = is_pure_test t
is_pure Eq = true
is_pure Equal = true
is_pure (Part path) = true
is_pure Cons = true
is_pure Append = true
is_pure Reverse = true
is_pure Length = true
is_pure Member = true
is_pure Memq = true
is_pure Assoc = true
is_pure (Number o) = true
is_pure Error = true
is_pure n = false

abbrev pub is_pure_function : Function → Bool
is_pure_function (NativeFunction n) = is_pure n
is_pure_function f = false

-- a pure native under the name that the system gave it
abbrev pub calls_pure : State → Bool → Option Definition → Bool
calls_pure s system None = false
calls_pure s system (Some d) = system && is_pure_function (function_at s d.function)

-- ---- plain forms

-- the variables in scope, the newest first, behind the binding of these in order
abbrev pub in_scope : List ℕ → List ℕ → List ℕ
in_scope [] scope = scope
in_scope (x ∷ xs) scope = in_scope xs (x ∷ scope)

abbrev pub variables_of : Tree → List ℕ
variables_of t = elim (tree_identifiers t) [ None ↦ [] | Some xs ↦ xs ]

-- in this state, where the EXPRs of these names are taken as plain
module _ (s : State) (plain : List ℕ) where
  -- a pure native, or one of the EXPRs; no FEXPR and no macro
  abbrev pub is_plain_call : Kind → ℕ → Bool
  is_plain_call Expr i = is_among i plain || calls_pure s (is_system i) (symbol_at s i).definition
  is_plain_call Fexpr i = false
  is_plain_call Macro i = false

  abbrev mutual
    -- a form, by the variables in scope; one that is bad raises an error, which is allowed
    pub is_plain : List ℕ → Tree → Bool
    is_plain scope (Atom (Id x)) = is_constant x || is_among x scope
    is_plain scope (Atom v) = true
    is_plain scope (Quoted v) = true
    is_plain scope (Literal n e) = false
    is_plain scope (Pair head args) = elim (head_of head s) [
      | Applied ↦ false
      | Bad culprit ↦ true
      | Call kind i ↦ if is_list args then is_plain_call kind i && are_plain scope args else true
      | Form form ↦ elim form [
        | Quote ↦ true
        | names.Function ↦ false
        | Cond ↦ if fits Cond args then are_plain_clauses scope args else true
        | Progn ↦ if fits Progn args then are_plain scope args else true
        | And ↦ if fits And args then are_plain scope args else true
        | Or ↦ if fits Or args then are_plain scope args else true
        | Setq ↦ if fits Setq args then sets_plainly scope args else true
        | Prog ↦ if fits Prog args then is_plain_prog scope args else true
        | Go ↦ true
        | Return ↦ if fits Return args then are_plain scope args else true
        | List_ ↦ if fits List_ args then are_plain scope args else true
        | Plus ↦ if fits Plus args then are_plain scope args else true
        | Times ↦ if fits Times args then are_plain scope args else true
        | Max ↦ if fits Max args then are_plain scope args else true
        | Min ↦ if fits Min args then are_plain scope args else true
        | De ↦ false
        | Df ↦ false
        | Dm ↦ false
      ]
    ]

    -- the forms of a list
    pub are_plain : List ℕ → Tree → Bool
    are_plain scope (Pair e rest) = is_plain scope e && are_plain scope rest
    are_plain scope end = true

    pub are_plain_clauses : List ℕ → Tree → Bool
    are_plain_clauses scope (Pair c rest) = is_plain_clause scope c && are_plain_clauses scope rest
    are_plain_clauses scope end = true

    pub is_plain_clause : List ℕ → Tree → Bool
    is_plain_clause scope (Pair a consequents) = is_plain scope a && are_plain scope consequents
    is_plain_clause scope (Literal n e) = false
    is_plain_clause scope other = true

    -- SETQ of a variable in scope
    pub sets_plainly : List ℕ → Tree → Bool
    sets_plainly scope (Pair (Atom (Id x)) (Pair e end)) = is_among x scope && is_plain scope e
    sets_plainly scope args = true

    -- a PROG adds its variables
    pub is_plain_prog : List ℕ → Tree → Bool
    is_plain_prog scope (Pair variables body) = are_plain_statements (in_scope (variables_of variables) scope) body
    is_plain_prog scope args = true

    -- the statements of a PROG, of which the identifiers are labels
    pub are_plain_statements : List ℕ → Tree → Bool
    are_plain_statements scope (Pair (Atom (Id l)) rest) = are_plain_statements scope rest
    are_plain_statements scope (Pair e rest) = is_plain scope e && are_plain_statements scope rest
    are_plain_statements scope end = true

  -- ---- plain functions

  -- the body may use its parameters
  abbrev pub is_plain_held : Held → Bool
  is_plain_held held = is_plain (in_scope held.parameters []) held.body

  abbrev pub is_plain_function : Function → Bool
  is_plain_function (HeldFunction held) = is_plain_held held
  is_plain_function f = false

  abbrev pub is_plain_definition : Kind → Option Definition → Bool
  is_plain_definition kind None = false
  is_plain_definition kind (Some d) = same_kind kind d.kind && is_plain_function (function_at s d.function)

  -- each of these names has a plain definition of this kind
  abbrev pub have_plain : Kind → List ℕ → Bool
  have_plain kind [] = true
  have_plain kind (x ∷ xs) = is_plain_definition kind (symbol_at s x).definition && have_plain kind xs

-- ---- plain macros: of some EXPRs that are plain together, so that one may call itself

pub record IsPlain (s : State) (i : ℕ) : Type 0 where
  pub exprs : List ℕ
  pub are : have_plain s exprs Expr exprs ≡ true
  pub is : have_plain s exprs Macro (i ∷ []) ≡ true
