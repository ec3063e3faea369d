-- What c-macros do, over the same state as evaluation: registers, one frame of slots, and bindings (Griss and Hearn, A portable Lisp compiler, 1981; turns and levels are this project's).
use Rattle.std.specs.Prelude.{ℕ, zero, suc, ◌-◌, Bool, true, false, ◌&&◌, nat_lt, ◌==◌, List, [], ◌∷◌, ◌++◌, length, map, take, drop, slice_set, slice_index_or, Option, Some, None}
use Rattle.rl_tree.specs.Value.{Value, Id, Fun}
use Rattle.rl_meaning.specs.Names.{Special, De, Df, Dm}
use Rattle.rl_meaning.specs.State.{State, Code, Tree, Atom, Pair, Literal, Held, Pointer, Definition, Function, SpecialForm}
use Rattle.rl_meaning.specs.CMacros.{Operand, Slot, Constant, Variable, Register, Entry, Alloc, Dealloc, Load, Store, SetVar, Move, Copy, Link, LinkE, Self, CallNative, Jump, JumpNil, JumpT, JumpEq, JumpNe, Label, GoTo, Bind, ProgBind, Free, Exit, Raise}
use Rattle.rl_meaning.specs.Outcome.{Outcome, Done, then_do, choose, turn, Levels, deeper}
use Rattle.rl_meaning.specs.Symbols.{nil_value_of_state, is_nil, same, symbol_at, cdr_at, list_elements}
use Rattle.rl_meaning.specs.Errors.{fail, wrong_count, wrong_type, badly_formed}
use Rattle.rl_meaning.specs.Holding.{function_number, is_improper, hold_function, same_pointer, function_at, form_at}
use Rattle.rl_meaning.specs.Copying.{copied}
use Rattle.rl_meaning.specs.Variables.{variable, assigned, with_mark, bind_all, binding_levels, with_oldest, restored}
use Rattle.rl_meaning.specs.Definitions.{own_name}
use Rattle.rl_meaning.specs.Forms.{fits}
use Rattle.rl_meaning.specs.Evaluation.{Rec, Onward, Bound, Machine, Frame, called, kind_of_definition, function_defined, define_function}

-- ---- registers and slots, numbered from 1

abbrev pub all_registers : ℕ
all_registers = 15

abbrev pub register : Machine → ℕ → Value
register m r = slice_index_or m.registers (r - 1) nil_value_of_state

abbrev pub with_register : ℕ → Value → Machine → Machine
with_register r v m = record m { registers = slice_set m.registers (r - 1) v }

abbrev pub nils : ℕ → List Value
nils zero = []
nils (suc n) = nil_value_of_state ∷ nils n

-- these values in the first registers, and NIL in the others
abbrev pub registers_of : List Value → List Value
registers_of vs = vs ++ nils (all_registers - length vs)

abbrev pub after_link : Value → Machine → Machine
after_link v m = record m { registers = registers_of (v ∷ []) }

abbrev pub arguments : ℕ → Machine → List Value
arguments n m = take n m.registers

abbrev pub with_slot : ℕ → Value → Machine → Machine
with_slot k v m = record m { slots = slice_set m.slots (k - 1) v }

abbrev pub allocated : ℕ → Machine → Machine
allocated n m = record m { slots = m.slots ++ nils n }

abbrev pub deallocated : ℕ → Machine → Machine
deallocated n m = record m { slots = take (length m.slots - n) m.slots }

abbrev pub content : Machine → Operand → State → Outcome Value
content m (Slot k) s = Done (slice_index_or m.slots (k - 1) nil_value_of_state) s
content m (Constant v) s = Done v s
content m (Variable x) s = variable x s
content m (Register r) s = Done (register m r) s

-- ---- bindings

abbrev pub with_bound : ℕ → Levels → Machine → Machine
with_bound n levels m = record m { bound = record { count = n; levels = m.levels } ∷ m.bound; levels = levels }

-- binds variables in order; their levels are taken until the first of them is undone
abbrev pub bound : Held → List ℕ → List Value → Machine → State → (Machine → State → Outcome Value) → Outcome Value
bound held xs vs m s next =
    deeper (binding_levels (length xs)) m.levels s (λ levels.
    then_do (bind_all held.kept xs vs s) (λ done s. next (with_bound (length xs) levels m) s))

-- the last n bindings are undone
abbrev pub levels_freed : ℕ → List Bound → Levels → List Bound × Levels
levels_freed n [] levels = ([], levels)
levels_freed n (b ∷ bs) levels = elim (nat_lt n b.count) [
  | true ↦ (record b { count = b.count - n } ∷ bs, levels)
  | false ↦ levels_freed (n - b.count) bs b.levels
]

abbrev pub freed : ℕ → Machine → Machine
freed n m = let r = levels_freed n m.bound m.levels in record m { bound = r.0; levels = r.1 }

abbrev pub undone : ℕ → State → State
undone n s = record s { bindings = drop n s.bindings }

-- ---- frames

abbrev pub one_more : Levels → Levels
one_more None = None
one_more (Some l) = Some (suc l)

-- the frame ends before a call in last place
abbrev pub frame_ended : Frame → State → State
frame_ended f s = with_oldest f.depth s

abbrev pub at_entry : List Value → Levels → Machine
at_entry vs levels = record { registers = registers_of vs; slots = []; bound = []; levels = levels }

-- the name still has this function
abbrev pub is_function_still : Option Pointer → Option Definition → Bool
is_function_still (Some p) (Some d) = same_pointer p d.function
is_function_still _ _ = false

abbrev pub is_same : Frame → ℕ → State → Bool
is_same f n s = is_function_still f.function (symbol_at s f.name).definition && length f.held.parameters == n

-- what stands behind a label, and behind the entry
abbrev pub behind : ℕ → Code → Code
behind l [] = []
behind l (Label k ∷ rest) = elim (k == l) [ true ↦ rest | false ↦ behind l rest ]
behind l (c ∷ rest) = behind l rest

abbrev pub behind_entry : Code → Code
behind_entry [] = []
behind_entry (c ∷ rest) = rest

-- a FUNCTION form as the list that it is
abbrev pub as_list : Tree → Tree
as_list (Literal n e) = Pair (Atom (Id function_number)) (Pair e (Atom nil_value_of_state))
as_list t = t

abbrev pub unless : {A : Type 0} → Bool → Option A → Option A
unless true o = None
unless false o = o

-- the elements of a list that ends in NIL
abbrev pub proper_elements : State → Value → Option (List Value)
proper_elements s list = unless (is_improper s list) (list_elements s list)

module _ (rec : Rec) where
  -- ---- links to special forms: a definition by its list of arguments, and an error

  -- a list of arguments that is a part of a held form
  abbrev pub part_linked : Special → ℕ → Levels → Tree → State → Outcome Value
  part_linked form i levels args s = choose (fits form args) s (λ s. define_function rec form levels args s) (λ s. fail badly_formed (Id i) s)

  -- and one that is a list of objects, with these elements
  abbrev pub list_linked : Special → ℕ → Levels → Value → Option (List Value) → State → Outcome Value
  list_linked form i levels list (Some (Id name ∷ parameters ∷ forms)) s =
      own_name name s (λ s. function_defined rec form name (hold_function (kind_of_definition form) levels parameters (cdr_at s (cdr_at s list)) s))
  list_linked form i levels list other s = fail badly_formed (Id i) s

  abbrev pub definition_linked : Special → ℕ → Levels → List Value → State → Outcome Value
  definition_linked form i levels (Fun f place ∷ []) s = part_linked form i levels (as_list (form_at s (Fun f place))) s
  definition_linked form i levels (list ∷ []) s = list_linked form i levels list (proper_elements s list) s
  definition_linked form i levels vs s = fail wrong_count (Id i) s

  abbrev pub form_linked : Special → ℕ → Levels → List Value → State → Outcome Value
  form_linked De i levels vs s = definition_linked De i levels vs s
  form_linked Df i levels vs s = definition_linked Df i levels vs s
  form_linked Dm i levels vs s = definition_linked Dm i levels vs s
  form_linked form i levels vs s = fail wrong_type (Id i) s

  abbrev pub function_linked : Function → ℕ → Levels → List Value → State → Outcome Value
  function_linked (SpecialForm form) i levels vs s = form_linked form i levels vs s
  function_linked other i levels vs s = called rec i levels vs s

  abbrev pub linked_to : Option Definition → ℕ → Levels → List Value → State → Outcome Value
  linked_to None i levels vs s = called rec i levels vs s
  linked_to (Some d) i levels vs s = function_linked (function_at s d.function) i levels vs s

  abbrev pub linked : ℕ → Levels → List Value → State → Outcome Value
  linked i levels vs s = linked_to (symbol_at s i).definition i levels vs s

  -- the function itself, in last place: a new application by the same code
  abbrev pub again : Frame → List Value → State → Outcome Value
  again f vs s =
      turn s (λ s. let s = rec.compiler.requests_taken (Some f.name) s in deeper 1 f.outside s
      (λ levels. rec.ask (Onward f (at_entry vs levels) (behind_entry f.code)) (with_mark f.function s)))

  abbrev mutual
    -- the c-macros of a frame, from here on
    pub run : Frame → Code → Machine → State → Outcome Value
    run f (Entry i n ∷ rest) m s = run f rest m s
    run f (Alloc n ∷ rest) m s = run f rest (allocated n m) s
    run f (Dealloc n ∷ rest) m s = run f rest (deallocated n m) s
    run f (Load r o ∷ rest) m s = then_do (content m o s) (λ v s. run f rest (with_register r v m) s)
    run f (Store r k ∷ rest) m s = run f rest (with_slot k (register m r) m) s
    run f (SetVar x ∷ rest) m s = then_do (assigned x (register m 1) s) (λ v s. run f rest m s)
    run f (Move r q ∷ rest) m s = run f rest (with_register r (register m q) m) s
    run f (Copy r c ∷ rest) m s = then_do (copied m.levels (form_at s c) s) (λ v s. run f rest (with_register r v m) s)
    run f (Link i n ∷ rest) m s = then_do (linked i m.levels (arguments n m) s) (λ v s. run f rest (after_link v m) s)
    run f (LinkE i n k ∷ rest) m s = linked i f.outside (arguments n m) (frame_ended f s)
    run f (Self n k ∷ rest) m s = choose (is_same f n s) (frame_ended f s) (λ s. again f (arguments n m) s) (λ s. linked f.name f.outside (arguments n m) s)
    run f (CallNative i n ∷ rest) m s = then_do (called rec i m.levels (arguments n m) s) (λ v s. run f rest (with_register 1 v m) s)
    run f (Jump l ∷ rest) m s = seek f l rest m s
    run f (JumpNil l ∷ rest) m s = choose (is_nil (register m 1)) s (λ s. seek f l rest m s) (λ s. run f rest m s)
    run f (JumpT l ∷ rest) m s = choose (is_nil (register m 1)) s (λ s. run f rest m s) (λ s. seek f l rest m s)
    run f (JumpEq l o ∷ rest) m s = then_do (content m o s) (λ v s. choose (same (register m 1) v) s (λ s. seek f l rest m s) (λ s. run f rest m s))
    run f (JumpNe l o ∷ rest) m s = then_do (content m o s) (λ v s. choose (same (register m 1) v) s (λ s. run f rest m s) (λ s. seek f l rest m s))
    run f (Label l ∷ rest) m s = run f rest m s
    run f (GoTo l ∷ rest) m s = turn s (λ s. rec.ask (Onward f m (behind l f.code)) s)
    run f (Bind pairs ∷ rest) m s = bound f.held (map (λ p. p.1) pairs) (map (λ p. register m p.0) pairs) m s (λ m s. run f rest m s)
    run f (ProgBind xs ∷ rest) m s = bound f.held xs [] m s (λ m s. run f rest m s)
    run f (Free n ∷ rest) m s = run f rest (freed n m) (undone n s)
    run f (Exit ∷ rest) m s = Done (register m 1) s
    run f (Raise e ∷ rest) m s = fail e (register m 1) s
    run f [] m s = Done nil_value_of_state s

    -- a jump goes forward
    pub seek : Frame → ℕ → Code → Machine → State → Outcome Value
    seek f l (Label k ∷ rest) m s = choose (k == l) s (λ s. run f rest m s) (λ s. seek f l rest m s)
    seek f l (c ∷ rest) m s = seek f l rest m s
    seek f l [] m s = Done nil_value_of_state s

  -- a held function, on arguments, by its code
  abbrev pub run_code : Levels → Option Pointer → Held → Code → List Value → State → Outcome Value
  run_code levels f held (Entry i n ∷ rest) vs s =
      let frame : Frame = record { name = i; function = f; held = held; code = Entry i n ∷ rest; depth = length s.bindings; outside = one_more levels } in
      restored (length s.bindings) (run frame rest (at_entry vs levels) (with_mark f s))
  run_code levels f held other vs s = Done nil_value_of_state s
