-- What a walk leaves as it was: entries of the same shape below whatever it bound; and where nothing turned, what the body of a running function rests on (this project's).
use Rattle.std.specs.Prelude.{◌≡◌, ◌<◌, ◌⊎◌, ℕ, Bool, true, false, List, [], ◌∷◌, ◌++◌, length, map, slice_get, Option, Some, None}
use Rattle.rl_tree.specs.Value.{Value, Id, Ref}
use Rattle.rl_tree.specs.declared.held.Kind.{Kind}
use Rattle.rl_tree.specs.declared.held.Kind.TheVariants.{Expr}
use Rattle.rl_meaning.specs.State.{State, Tree, Atom, Quoted, Pair, Literal, Pointer, Definition, Function, HeldFunction, Entry, Binding, Mark}
use Rattle.rl_meaning.specs.Symbols.{t_number, nil_value_of_state, symbol_at}
use Rattle.rl_meaning.specs.Constants.{values_in}
use Rattle.rl_meaning.specs.Holding.{function_number, function_at}
use Rattle.rl_meaning.specs.Reach.{is_opened, same_definition, running, expands}
use Rattle.rl_meaning.specs.Forms.{head_of}
use Rattle.rl_meaning.specs.Evaluation.{Job, Run, Onward, Call_, From, In}
use Rattle.rl_agrees.specs.Later.{IsNoted, IsMemberOf}

-- a job of a walk; code from a label on is none
abbrev pub IsWalk : Job → Type 0
IsWalk (Onward f m code) = ⊥
IsWalk (Run name levels holder f held vs) = Unit {0}
IsWalk (Call_ name levels f vs) = Unit {0}
IsWalk (From here whole rest) = Unit {0}
IsWalk (In here position body) = Unit {0}

-- ---- shapes

-- an entry but for the value of its binding
abbrev pub outline : Entry → Entry
outline (Binding x scope v) = Binding x scope nil_value_of_state
outline (Mark f) = Mark f

abbrev pub shape : List Entry → List Entry
shape entries = map outline entries

-- the oldest entries of the second state are those of the first, but for the values of bindings
pub record IsBelow (s t : State) : Type 0 where
  pub more : List Entry
  pub is : shape t.bindings ≡ more ++ shape s.bindings

-- ---- what a body rests on

-- what stands at the leaves of a tree, with FUNCTION for each function in it
abbrev pub leaves_in : Tree → List Value
leaves_in (Atom v) = v ∷ []
leaves_in (Quoted v) = v ∷ []
leaves_in (Pair a d) = leaves_in a ++ leaves_in d
leaves_in (Literal n e) = Id function_number ∷ leaves_in e

abbrev pub leaves_of : Function → List Value
leaves_of (HeldFunction held) = leaves_in held.body
leaves_of other = []

-- the identifiers in a value, down its objects, as far as no change of these is noted since the first state by the second
pub data Inside (s t : State) : Value → ℕ → Type 0 where
  inside_name : (i : ℕ) → Inside s t (Id i) i
  inside_object : (r i : ℕ) (v : Value) → IsMemberOf v (values_in (slice_get s.store r)) → (IsNoted t r (length s.functions) → ⊥) → Inside s t v i → Inside s t (Ref r) i

-- T, the identifiers in the body and in its constants, those in the macros among them, and those in the EXPRs and macros that these mention; and whether each is reached through a macro
pub data RestsOn (s t : State) (f : Function) : ℕ → Bool → Type 0 where
  on_truth : RestsOn s t f t_number false
  on_name : (v : Value) (i : ℕ) → IsMemberOf v (leaves_of f) → Inside s t v i → RestsOn s t f i false
  on_opened : (i j : ℕ) (through : Bool) (d : Definition) (v : Value) → RestsOn s t f i through → (symbol_at s i).definition ≡ Some d → is_opened d.kind through ≡ true → IsMemberOf v (leaves_of (function_at s d.function)) → Inside s t v j → RestsOn s t f j true

-- what lets a body go on as it was: a name that is reached through a macro has an equal definition; any other has one too, or is an EXPR or undefined before and after
abbrev pub Stays : State → Bool → Option Definition → Option Definition → Type 0
Stays t true old new = same_definition t old new ≡ true
Stays t false old new = (same_definition t old new ≡ true) ⊎ ((expands old ≡ false) × (expands new ≡ false))

-- the kind that a name has as the head of a form: one without a definition counts as an EXPR
abbrev pub kind_as_head : Option Definition → Kind
kind_as_head None = Expr
kind_as_head (Some d) = d.kind

-- the function of a definition is one of the state's
abbrev pub IsThere : State → Option Definition → Type 0
IsThere s None = Unit {0}
IsThere s (Some d) = d.function.function < length s.functions

-- for each function that runs in the first state and each name that its body rests on there
pub record HeadsStayIn (s t : State) : Type 0 where
  pub stays : (p : Pointer) → IsMemberOf p (running s.bindings) → (i : ℕ) (through : Bool) → RestsOn s t (function_at s p) i through → Stays t through (symbol_at s i).definition (symbol_at t i).definition
  -- the function runs still, and its body rests on the name still
  pub runs : (p : Pointer) → IsMemberOf p (running s.bindings) → IsMemberOf p (running t.bindings)
  pub rests : (p : Pointer) → IsMemberOf p (running s.bindings) → (i : ℕ) (through : Bool) → RestsOn s t (function_at s p) i through → RestsOn t t (function_at t p) i through
  -- EXPRs, FEXPRs and MACROs stay what they are
  pub kinds : (p : Pointer) → IsMemberOf p (running s.bindings) → (i : ℕ) (through : Bool) → RestsOn s t (function_at s p) i through → kind_as_head (symbol_at t i).definition ≡ kind_as_head (symbol_at s i).definition
  -- and what is no EXPR is the same head: a special form the same one
  pub heads : (p : Pointer) → IsMemberOf p (running s.bindings) → (i : ℕ) (through : Bool) → RestsOn s t (function_at s p) i through → IsThere s (symbol_at s i).definition → expands (symbol_at s i).definition ≡ true → head_of (Atom (Id i)) t ≡ head_of (Atom (Id i)) s
