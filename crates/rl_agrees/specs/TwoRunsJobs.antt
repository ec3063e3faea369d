-- When two jobs of two runs side by side are the same, of which the left one may run code and the right one walks all functions; and when the codes of a state are ready (this project's).
use Rattle.std.specs.Prelude.{◌≡◌, ◌≤◌, ◌<◌, ℕ, true, List, length, Option, Some}
use Rattle.rl_tree.specs.Value.{Value}
use Rattle.rl_meaning.specs.State.{State, Code, Coded, Kept, Held, Pointer, Tree, HeldFunction, Recorded}
use Rattle.rl_meaning.specs.Outcome.{Levels}
use Rattle.rl_meaning.specs.Holding.{function_at}
use Rattle.rl_meaning.specs.CodeInForce.{all_stand}
use Rattle.rl_meaning.specs.Evaluation.{Position, Here, Bound, Machine, Frame, Job, Run, Onward, Call_, From, In}
use Rattle.rl_meaning.specs.Compiling.{Compiler}
use Rattle.rl_meaning.specs.TwoRunsLinks.{Linked}
use Rattle.rl_meaning.specs.TwoRunsValues.{Names, Maybe, Each, SameValue, SameTree, SameHeld, SamePointer, SameCode}
use Rattle.rl_meaning.specs.TwoRunsStates.{Bounds, EntryPlace, Shown, Roomier}
use Rattle.rl_meaning.specs.Right.{Stood, AllAsTheyStood, Right}
use Rattle.rl_agrees.specs.Later.{IsMemberOf}

-- ---- on one run

-- an event was recorded when no more was printed and noted
pub record EventWithin (s : State) : Type 0 where
  pub printed : (r : Recorded) → s.watched.event ≡ Some r → r.printed ≤ length s.outside.output
  pub noted : (r : Recorded) → s.watched.event ≡ Some r → r.noted ≤ length s.outside.notes

-- ---- jobs

pub data SameBound (bounds : Bounds) : Bound → Bound → Type 0 where
  same_bound : (count : ℕ) (l m : Levels) → Roomier bounds l m → SameBound bounds (record { count = count; levels = l }) (record { count = count; levels = m })

pub data SameMachine (bounds : Bounds) (n : Names) : Machine → Machine → Type 0 where
  same_machine : (rs qs xs ys : List Value) (bs cs : List Bound) (l m : Levels) → Each (SameValue n) rs qs → Each (SameValue n) xs ys → Each (SameBound bounds) bs cs → Roomier bounds l m
      → SameMachine bounds n (record { registers = rs; slots = xs; bound = bs; levels = l }) (record { registers = qs; slots = ys; bound = cs; levels = m })

pub data SameFrame (bounds : Bounds) (n : Names) : Frame → Frame → Type 0 where
  same_frame : (name : ℕ) (f g : Option Pointer) (h k : Held) (c d : Code) (depth : ℕ) (l m : Levels) → Maybe (SamePointer n) f g → SameHeld n h k → SameCode n c d → Roomier bounds l m
      → SameFrame bounds n (record { name = name; function = f; held = h; code = c; depth = depth; outside = l }) (record { name = name; function = g; held = k; code = d; depth = depth; outside = m })

pub data SameHere (bounds : Bounds) (n : Names) : Here → Here → Type 0 where
  same_here : (chain : ℕ) (kept : List Kept) (l m : Levels) (h g : ℕ) → Roomier bounds l m → Linked n.functions h g
      → SameHere bounds n (record { levels = l; chain = chain; kept = kept; holder = h }) (record { levels = m; chain = chain; kept = kept; holder = g })

pub data SameJob (bounds : Bounds) (n : Names) : Job → Job → Type 0 where
  same_run : (name : Option ℕ) (l m : Levels) (h g : ℕ) (p q : Option Pointer) (a b : Held) (vs ws : List Value) → Roomier bounds l m → Linked n.functions h g → Maybe (SamePointer n) p q → SameHeld n a b → Each (SameValue n) vs ws
      → SameJob bounds n (Run name l h p a vs) (Run name m g q b ws)
  same_onward : (f g : Frame) (m k : Machine) (c d : Code) → SameFrame bounds n f g → SameMachine bounds n m k → SameCode n c d → SameJob bounds n (Onward f m c) (Onward g k d)
  same_call : (name : Option ℕ) (l m : Levels) (p q : Pointer) (vs ws : List Value) → Roomier bounds l m → SamePointer n p q → Each (SameValue n) vs ws → SameJob bounds n (Call_ name l p vs) (Call_ name m q ws)
  same_from : (h g : Here) (a b c d : Tree) → SameHere bounds n h g → SameTree n a b → SameTree n c d → SameJob bounds n (From h a c) (From g b d)
  same_in : (h g : Here) (position : Position) (a b : Tree) → SameHere bounds n h g → SameTree n a b → SameJob bounds n (In h position a) (In g position b)

-- ---- the state of the right run

-- a code of the map is right, and all that it rests on is as it was
pub record ReadyCode (compiler : Compiler) (t : State) (c : Coded) : Type 0 where
  pub lowered : State
  pub held : Held
  pub stood : List Stood
  pub right : Right compiler lowered c held stood
  pub is : function_at t c.function ≡ HeldFunction held
  pub stands : all_stand t c.dependencies ≡ true
  pub constants : AllAsTheyStood t stood
  pub older : (x : Stood) → IsMemberOf x stood → x.holder < length t.functions

pub record Ready (compiler : Compiler) (t : State) : Type 0 where
  pub codes : (c : Coded) → IsMemberOf c t.compilation.coded → ReadyCode compiler t c
  pub event : EventWithin t

-- ---- two jobs side by side

-- what two walks ask of the places: where a function begins, nothing, as it pushes a mark over them; where a form is walked, that no binding is lacking above the newest mark. No code goes on
abbrev pub MayLack : Job → List EntryPlace → Type 0
MayLack (Run name l holder f held vs) ps = Unit {0}
MayLack (Onward f m code) ps = ⊥
MayLack (Call_ name l f vs) ps = Unit {0}
MayLack (From here whole rest) ps = Shown ps
MayLack (In here position body) ps = Shown ps
