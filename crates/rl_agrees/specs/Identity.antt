-- A function with code that is right, the identity, and a state that has it: so what is asked of codes can be met (this project's).
use Rattle.std.specs.Prelude.{◌≡◌, ℕ, true, false, List, [], ◌∷◌, ◌++◌, length, codes, Option, Some, None}
use Rattle.rl_tree.specs.Value.{Id}
use Rattle.rl_tree.specs.declared.held.Kind.TheVariants.{Expr}
use Rattle.rl_tree.specs.declared.held.VarKind.TheVariants.{Plain}
use Rattle.rl_meaning.specs.CMacros.{Constant, Entry, Load, Exit}
use Rattle.rl_meaning.specs.State.{State, Code, Coded, Kept, Held, Pointer, Symbol, Atom, HeldFunction}
use Rattle.rl_meaning.specs.Outcome.{Levels}
use Rattle.rl_meaning.specs.Symbols.{nil_value_of_state, is_constant, new_symbol}
use Rattle.rl_meaning.specs.Holding.{kept_kind, pointer_to, function_at, with_function}
use Rattle.rl_meaning.specs.Compiling.{Compiler}
use Rattle.rl_meaning.specs.Jobs.{code_of}
use Rattle.rl_meaning.specs.Opening.{bare_state}
use Rattle.rl_meaning.specs.Run.{run_bytes}
use Rattle.rl_meaning.specs.Right.{Right}
use Rattle.rl_meaning.specs.TwoRunsStates.{bounds_of, IsRoomier}
use Rattle.rl_agrees.specs.TwoRunsJobs.{Ready}
use Rattle.rl_agrees.specs.TwoRunsRuns.{RunsAgree, IsSoundState, with_running_code, walking}

-- (LAMBDA (X) X)
abbrev pub identity_of : ℕ → List Kept → Held
identity_of x kept = record { kind = Expr; parameters = x ∷ []; body = Atom (Id x); kept = kept }

-- its code: the argument comes in register 1, where the value is left
abbrev pub identity_code : ℕ → Code
identity_code i = Entry i 1 ∷ Exit ∷ []

-- the code of this name, which rests on nothing
abbrev pub identity_coded : ℕ → Pointer → Coded
identity_coded i p = record { name = i; function = p; code = identity_code i; dependencies = []; loaded = false }

-- code that leaves NIL, whatever the argument is
abbrev pub nil_coded : ℕ → Pointer → Coded
nil_coded i p = record { name = i; function = p; code = Entry i 1 ∷ Load 1 (Constant nil_value_of_state) ∷ Exit ∷ []; dependencies = []; loaded = false }

abbrev pub with_coded : Coded → State → State
with_coded c s = record s { compilation = record s.compilation { coded = c ∷ s.compilation.coded } }

-- the variable is no constant and kept plain
pub record IsPlainVariable (kept : List Kept) (x : ℕ) : Type 0 where
  pub constant : is_constant x ≡ false
  pub plain : kept_kind kept x ≡ Plain

-- before the prelude, with one more function, (LAMBDA (X) X), the definition of one more name, and with its code; its cells have no bound
abbrev pub identity_pointer : Pointer
identity_pointer = pointer_to (length bare_state.functions)

abbrev pub identity_name : ℕ
identity_name = length bare_state.symbols

abbrev pub identity_kept : ℕ → List Kept
identity_kept x = record { variable = x; kind = Plain } ∷ []

abbrev pub identity_symbol : Symbol
identity_symbol = record (new_symbol (codes "IDENTITY") true) { definition = Some (record { kind = Expr; function = identity_pointer }) }

abbrev pub identity_state : ℕ → State
identity_state x = with_coded (identity_coded identity_name identity_pointer) (record (with_function (HeldFunction (identity_of x (identity_kept x))) bare_state) { symbols = bare_state.symbols ++ identity_symbol ∷ []; counts = record bare_state.counts { cells = None } })

pub record ACodeIsRight : Type 0 where
  -- the code of the identity is right, whatever its name and its variable, which may be bound
  pub right : (c : Compiler) (lowered : State) (i x : ℕ) (p : Pointer) (kept : List Kept) → IsPlainVariable kept x → Right c lowered (identity_coded i p) (identity_of x kept) []
  -- so it may come to the codes of any state that has the function: what is ready and sound stays so
  pub ready : (c : Compiler) (s : State) (i x : ℕ) (p : Pointer) (kept : List Kept) → IsPlainVariable kept x → function_at s p ≡ HeldFunction (identity_of x kept) → Ready c s → Ready c (with_coded (identity_coded i p) s)
  pub sound : (s : State) (i x : ℕ) (p : Pointer) (kept : List Kept) → function_at s p ≡ HeldFunction (identity_of x kept) → IsSoundState s → IsSoundState (with_coded (identity_coded i p) s)
  -- there is such a state, and in it the code runs
  pub ready_state : (c : Compiler) (x : ℕ) → is_constant x ≡ false → Ready c (identity_state x)
  pub sound_state : (x : ℕ) → IsSoundState (identity_state x)
  pub runs : (x : ℕ) → code_of (Some identity_name) (Some identity_pointer) (with_running_code (identity_state x)) ≡ Some (identity_code identity_name)
  -- so of each program that starts in it, the run with code agrees with the walk
  pub agrees : (x : ℕ) (l m : Levels) (cells : Option ℕ) (source : List ℕ) → is_constant x ≡ false → IsRoomier l m → RunsAgree (bounds_of m cells) (run_bytes l source (with_running_code (identity_state x))) (run_bytes m source (walking cells (identity_state x)))
  -- and not all code is right
  pub wrong : (c : Compiler) (lowered : State) (x : ℕ) → is_constant x ≡ false → Right c lowered (nil_coded identity_name identity_pointer) (identity_of x (identity_kept x)) [] → ⊥
