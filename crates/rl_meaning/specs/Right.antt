-- When code is right for a held function: in every state in which its dependencies stand and its constants are as they were, what its c-macros do agrees with the walk, until the walk has an event (this project's).
use Rattle.std.specs.Prelude.{◌≡◌, ◌⊎◌, ◌≤◌, ℕ, Bool, true, false, ◌&&◌, ◌||◌, ◌==◌, nat_lt, List, [], ◌∷◌, ◌++◌, length, map, flat_map, slice_get, take, is_some, Option, Some, None}
use Rattle.std.specs.List.{list_any}
use Rattle.rl_tree.specs.Value.{Value, Int, Id, Ref, Fun, Object}
use Rattle.rl_tree.specs.declared.held.VarKind.TheVariants as vars
use Rattle.rl_meaning.specs.CMacros.{Operand, Constant, Load, Copy, JumpEq, JumpNe, Link, LinkE, Bind, ProgBind}
use Rattle.rl_meaning.specs.State.{State, Code, Coded, Dependency, Whole, Held, Pointer, HeldFunction, Tree, Quoted, Kept, Entry, Recorded}
use Rattle.rl_meaning.specs.Outcome.{Outcome, Stopped, Stop, Levels}
use Rattle.rl_meaning.specs.Symbols.{same, is_constant}
use Rattle.rl_meaning.specs.Constants.{is_among, objects_of, constants_in, constants_of, last_change_of}
use Rattle.rl_meaning.specs.Holding.{kept_kind, function_at, form_at}
use Rattle.rl_meaning.specs.Reach.{Reached, reach_of}
use Rattle.rl_meaning.specs.CodeInForce.{all_stand}
use Rattle.rl_meaning.specs.Evaluation.{walked}
use Rattle.rl_meaning.specs.Machine.{run_code}
use Rattle.rl_meaning.specs.Compiling.{Compiler}
use Rattle.rl_meaning.specs.Jobs.{jobs}
use Rattle.rl_meaning.specs.Opening.{state_of}
use Rattle.rl_meaning.specs.TwoRunsLinks.{Linked}
use Rattle.rl_meaning.specs.TwoRunsValues.{Names, Each, SameValue, SameCode}
use Rattle.rl_meaning.specs.TwoRunsStates.{Bounds, Like, all_both}
use Rattle.rl_meaning.specs.TwoRunsEnds.{HasShown, IsShort, IsMeeting, Related}

-- ---- constants as they stood

-- an object in a constant of a function, as it was where the code was lowered
pub record Stood : Type 0 where
  pub object : ℕ
  pub holder : ℕ
  pub was : Object

abbrev pub is_later : ℕ → Option ℕ → Bool
is_later f None = false
is_later f (Some n) = nat_lt f n

-- it holds what it held, or was changed after the function was held
abbrev pub AsItStood : State → Stood → Type 0
AsItStood s c = (slice_get s.store c.object ≡ Some c.was) ⊎ (is_later c.holder (last_change_of c.object s.watched.changes) ≡ true)

abbrev pub AllAsTheyStood : State → List Stood → Type 0
AllAsTheyStood s [] = Unit {0}
AllAsTheyStood s (c ∷ cs) = AsItStood s c × AllAsTheyStood s cs

-- ---- what code names

abbrev pub links_of : Code → List ℕ
links_of [] = []
links_of (Link i n ∷ rest) = i ∷ links_of rest
links_of (LinkE i n m ∷ rest) = i ∷ links_of rest
links_of (c ∷ rest) = links_of rest

abbrev pub variables_bound_by : Code → List ℕ
variables_bound_by [] = []
variables_bound_by (Bind pairs ∷ rest) = map (λ p. p.1) pairs ++ variables_bound_by rest
variables_bound_by (ProgBind xs ∷ rest) = xs ++ variables_bound_by rest
variables_bound_by (c ∷ rest) = variables_bound_by rest

abbrev pub constant_operand : Operand → List Value
constant_operand (Constant v) = v ∷ []
constant_operand o = []

abbrev pub constants_of_code : Code → List Value
constants_of_code [] = []
constants_of_code (Load r o ∷ rest) = constant_operand o ++ constants_of_code rest
constants_of_code (Copy r v ∷ rest) = v ∷ constants_of_code rest
constants_of_code (JumpEq l o ∷ rest) = constant_operand o ++ constants_of_code rest
constants_of_code (JumpNe l o ∷ rest) = constant_operand o ++ constants_of_code rest
constants_of_code (c ∷ rest) = constants_of_code rest

-- a variable that the held form keeps FLUID or GLOBAL, or a constant
abbrev pub may_bind : List Kept → ℕ → Bool
may_bind kept x = elim (kept_kind kept x) [ vars.Plain ↦ is_constant x | vars.Fluid ↦ true | vars.Global ↦ true ]

abbrev pub all_of : {A : Type 0} → (A → Bool) → List A → Bool
all_of test [] = true
all_of test (x ∷ xs) = test x && all_of test xs

abbrev pub reached_names : State → Held → List ℕ
reached_names s held = map (λ (r : Reached). r.name) (reach_of s (HeldFunction held))

-- the quoted parts, strings, vectors and function pointers of the held form, and those of the whole definitions that it rests on
abbrev pub read_constants : State → Dependency → List Value
read_constants s (Whole i kind p) = constants_of (function_at s p)
read_constants s other = []

abbrev pub known_constants : State → Held → List Dependency → List Value
known_constants s held dependencies = constants_in held.body ++ flat_map (read_constants s) dependencies

-- a place in the function whose code it is where a form stands: of a FUNCTION form, or of a list of arguments
abbrev pub is_form : Tree → Bool
is_form (Quoted v) = false
is_form t = true

abbrev pub names_own_form : State → Pointer → Value → Bool
names_own_form s p (Fun f place) = f == p.function && is_form (form_at s (Fun f place))
names_own_form s p v = false

abbrev pub is_right_constant : State → Pointer → List Value → Value → Bool
is_right_constant s p known (Id i) = true
is_right_constant s p known (Int z) = true
is_right_constant s p known (Ref r) = is_among r (objects_of s.store known)
is_right_constant s p known v = list_any (same v) known || names_own_form s p v

-- ---- Right

-- each of these is itself
pub record IsIdentity (known : Names) : Type 0 where
  pub objects : (r q : ℕ) → Linked known.objects r q → r ≡ q
  pub functions : (f g : ℕ) → Linked known.functions f g → f ≡ g

-- where the code's run may leave the walk: the walk has an event, or has met a bound on cells or levels that it has, and all that it printed and noted until then was so by the code. The code never meets these bounds first
pub data Leaves (bounds : Bounds) : Outcome Value → Outcome Value → Type 0 where
  at_event : (o p : Outcome Value) (r : Recorded) → (state_of p).watched.event ≡ Some r → HasShown (take r.printed (state_of p).outside.output) (take r.noted (state_of p).outside.notes) (state_of o).outside → Leaves bounds o p
  at_bound : (o : Outcome Value) (why : Stop) (t : State) → IsMeeting bounds why → HasShown t.outside.output t.outside.notes (state_of o).outside → Leaves bounds o (Stopped why t)

-- an event of the code's run: the walk has one that comes no later, or has met its bound before
pub data IsForeseen (c : Recorded) : Outcome Value → Type 0 where
  as_event : (p : Outcome Value) (w : Recorded) → (state_of p).watched.event ≡ Some w → w.printed ≤ c.printed → w.noted ≤ c.noted → IsForeseen c p
  past_bound : (why : Stop) (t : State) → IsShort why → length t.outside.output ≤ c.printed → length t.outside.notes ≤ c.noted → IsForeseen c (Stopped why t)

-- the code's run o and the walk p from a state with these bindings agree
pub record AgreesWith (bounds : Bounds) (known : Names) (bindings : List Entry) (o p : Outcome Value) : Type 0 where
  pub ends : Related bounds (Leaves bounds) SameValue known (all_both bindings) o p
  pub events : (c : Recorded) → (state_of o).watched.event ≡ Some c → IsForeseen c p

-- a state, with a bound on cells or none, that comes to these objects and functions alone, and to these values
pub record Knows (bounds : Bounds) (known : Names) (vs : List Value) (code : Code) (s : State) : Type 0 where
  pub identity : IsIdentity known
  pub state : Like bounds known (all_both s.bindings) s s
  pub values : Each (SameValue known) vs vs
  pub constants : SameCode known code code

-- the code of a name, lowered in this state, for its held form, where these objects stood in its constants
pub record Right (compiler : Compiler) (lowered : State) (entry : Coded) (held : Held) (stood : List Stood) : Type 0 where
  -- with any bounds of the walk: that on levels is named here, that on cells by what is known of the state
  pub agrees : (bounds : Bounds) (known : Names) (levels : Levels) (vs : List Value) (s : State)
      → Knows bounds known vs entry.code s
      → is_some levels ≡ bounds.levels
      → length vs ≡ length held.parameters
      → function_at s entry.function ≡ HeldFunction held
      → s.compilation.runs_code ≡ false
      → s.counts.expansion ≡ None
      → all_stand s entry.dependencies ≡ true
      → AllAsTheyStood s stood
      → AgreesWith bounds known s.bindings (run_code (jobs compiler) levels (Some entry.function) held entry.code vs s) (walked (jobs compiler) levels entry.function.function (Some entry.function) held vs s)
  pub binds : all_of (may_bind held.kept) (variables_bound_by entry.code) ≡ true
  pub links : all_of (λ i. is_among i (reached_names lowered held)) (links_of entry.code) ≡ true
  pub constants : all_of (is_right_constant lowered entry.function (known_constants lowered held entry.dependencies)) (constants_of_code entry.code) ≡ true
