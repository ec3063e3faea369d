-- When a list of c-macros makes its calls in last place by going on, and loads and stores nothing that is there already (this project's).
use Rattle.std.specs.Prelude.{◌≡◌, ℕ, zero, suc, ◌+◌, ◌-◌, ◌==◌, Bool, true, false, if◌then◌else◌, List, [], ◌∷◌, ◌++◌, Option, Some, None}
use Rattle.rl_tree.specs.Value.{Value}
use Rattle.rl_meaning.specs.CMacros.{CMacro, Operand, Slot, Constant, Variable, Register, Alloc, Dealloc, Load, Store, Move, Copy, Link, LinkE, Self, CallNative, Jump, JumpNil, JumpT, JumpEq, JumpNe, Label, GoTo, Exit, Raise}
use Rattle.rl_meaning.specs.State.{Code}
use Rattle.rl_meaning.specs.Symbols.{same}
use Rattle.rl_meaning.specs.Machine.{behind}

-- ---- Tailed

-- from here an *EXIT is reached over *JUMP, *LBL and *DEALLOC alone
pub data ExitsFrom (code : Code) : Code → Type 0 where
  at_exit : (rest : Code) → ExitsFrom code (Exit ∷ rest)
  over_label : (l : ℕ) (rest : Code) → ExitsFrom code rest → ExitsFrom code (Label l ∷ rest)
  over_dealloc : (n : ℕ) (rest : Code) → ExitsFrom code rest → ExitsFrom code (Dealloc n ∷ rest)
  over_jump : (l : ℕ) (rest : Code) → ExitsFrom code (behind l code) → ExitsFrom code (Jump l ∷ rest)

-- no *LINK stands in last place
abbrev pub IsTailed : Code → Type 0
IsTailed code = (before rest : Code) (i n : ℕ) → code ≡ before ++ Link i n ∷ rest → ExitsFrom code rest → ⊥

-- ---- where control goes

-- the label to which a jump goes, and that to which any c-macro may go
abbrev pub jumps_to : CMacro → List ℕ
jumps_to (Jump l) = l ∷ []
jumps_to (JumpNil l) = l ∷ []
jumps_to (JumpT l) = l ∷ []
jumps_to (JumpEq l o) = l ∷ []
jumps_to (JumpNe l o) = l ∷ []
jumps_to c = []

abbrev pub goes_to : CMacro → List ℕ
goes_to (GoTo l) = l ∷ []
goes_to c = jumps_to c

-- nothing goes on behind it
abbrev pub is_last : CMacro → Bool
is_last (Jump l) = true
is_last (GoTo l) = true
is_last (LinkE i n m) = true
is_last (Self n m) = true
is_last Exit = true
is_last (Raise e) = true
is_last c = false

-- a block ends with a jump or a link, and begins with a label
abbrev pub ends_block : CMacro → Bool
ends_block (JumpNil l) = true
ends_block (JumpT l) = true
ends_block (JumpEq l o) = true
ends_block (JumpNe l o) = true
ends_block (Link i n) = true
ends_block (Label l) = true
ends_block c = is_last c

-- the slots that are there behind a c-macro
abbrev pub slots_behind : CMacro → ℕ → ℕ
slots_behind (Alloc n) m = m + n
slots_behind (Dealloc n) m = m - n
slots_behind c m = m

pub data IsIn (l : ℕ) : List ℕ → Type 0 where
  here : (ls : List ℕ) → IsIn l (l ∷ ls)
  further : (k : ℕ) (ls : List ℕ) → IsIn l ls → IsIn l (k ∷ ls)

-- control comes to this rest of the code with so many slots
pub data Comes (code : Code) : Code → ℕ → Type 0 where
  at_entry : Comes code code 0
  onwards : (c : CMacro) (rest : Code) (m : ℕ) → is_last c ≡ false → Comes code (c ∷ rest) m → Comes code rest (slots_behind c m)
  by_jump : (c : CMacro) (rest : Code) (m l : ℕ) → IsIn l (goes_to c) → Comes code (c ∷ rest) m → Comes code (behind l code) m

-- ---- what registers and slots are known to hold

pub data Spot : Type 0 where
  InRegister : ℕ → Spot
  InSlot : ℕ → Spot

-- what is in a spot at the beginning of its block, a constant, or what was put there later
pub data SpotClass : Type 0 where
  Initial : Spot → SpotClass
  Holds : Value → SpotClass
  Fresh : ℕ → SpotClass

abbrev pub same_spot : Spot → Spot → Bool
same_spot (InRegister q) (InRegister r) = q == r
same_spot (InSlot k) (InSlot j) = k == j
same_spot _ _ = false

abbrev pub same_class : SpotClass → SpotClass → Bool
same_class (Initial p) (Initial q) = same_spot p q
same_class (Holds v) (Holds w) = same v w
same_class (Fresh n) (Fresh m) = n == m
same_class _ _ = false

-- the class of each spot, and a number for the next class
pub record Known : Type 0 where
  pub classes : Spot → SpotClass
  pub next : ℕ

abbrev pub at_beginning : Known
at_beginning = record { classes = Initial; next = 0 }

abbrev pub put_in_spot : Spot → SpotClass → Known → Known
put_in_spot p c k = record k { classes = λ q. if same_spot p q then c else k.classes q }

abbrev pub put_fresh : Spot → Known → Known
put_fresh p k = record (put_in_spot p (Fresh k.next) k) { next = suc k.next }

-- n new slots behind the first m
abbrev pub put_slots : ℕ → ℕ → Known → Known
put_slots m zero k = k
put_slots m (suc n) k = put_slots (suc m) n (put_fresh (InSlot (suc m)) k)

-- what an operand is known to be
abbrev pub class_of_operand : Known → Operand → Option SpotClass
class_of_operand k (Slot j) = Some (k.classes (InSlot j))
class_of_operand k (Constant v) = Some (Holds v)
class_of_operand k (Variable x) = None
class_of_operand k (Register r) = Some (k.classes (InRegister r))

abbrev pub put_known : Spot → Option SpotClass → Known → Known
put_known p (Some c) k = put_in_spot p c k
put_known p None k = put_fresh p k

-- behind a c-macro of a block, with so many slots before it
abbrev pub known_behind : CMacro → ℕ → Known → Known
known_behind (Load r o) m k = put_known (InRegister r) (class_of_operand k o) k
known_behind (Store r j) m k = put_in_spot (InSlot j) (k.classes (InRegister r)) k
known_behind (Move r q) m k = put_in_spot (InRegister r) (k.classes (InRegister q)) k
known_behind (Copy r v) m k = put_fresh (InRegister r) k
known_behind (CallNative i n) m k = put_fresh (InRegister 1) k
known_behind (Alloc n) m k = put_slots m n k
known_behind c m k = k

-- it puts what is there already
abbrev pub is_put_already : Known → Spot → Option SpotClass → Bool
is_put_already k p (Some c) = same_class (k.classes p) c
is_put_already k p None = false

abbrev pub is_idle : CMacro → Known → Bool
is_idle (Load r o) k = is_put_already k (InRegister r) (class_of_operand k o)
is_idle (Store r j) k = same_class (k.classes (InSlot j)) (k.classes (InRegister r))
is_idle c k = false

-- in a block with so many slots nothing is idle from here on
pub data IsBusy : Code → ℕ → Known → Type 0 where
  at_end : (m : ℕ) (k : Known) → IsBusy [] m k
  at_border : (c : CMacro) (rest : Code) (m : ℕ) (k : Known) → ends_block c ≡ true → IsBusy (c ∷ rest) m k
  in_block : (c : CMacro) (rest : Code) (m : ℕ) (k : Known) → ends_block c ≡ false → is_idle c k ≡ false → IsBusy rest (slots_behind c m) (known_behind c m k) → IsBusy (c ∷ rest) m k

-- ---- Tidy

-- behind labels stands no *JUMP
abbrev pub is_jump_next : Code → Bool
is_jump_next (Jump l ∷ rest) = true
is_jump_next (Label l ∷ rest) = is_jump_next rest
is_jump_next code = false

-- a label, or the end
abbrev pub is_border : Code → Bool
is_border [] = true
is_border (Label l ∷ rest) = true
is_border code = false

pub record IsTidy (code : Code) : Type 0 where
  -- from the entry and from each border on, a block puts nothing where it is already
  pub first : IsBusy code 0 at_beginning
  pub blocks : (c : CMacro) (rest : Code) (m : ℕ) → ends_block c ≡ true → Comes code (c ∷ rest) m → IsBusy rest m at_beginning
  -- no jump goes to a jump
  pub jumps : (before rest : Code) (c : CMacro) (l : ℕ) → code ≡ before ++ c ∷ rest → IsIn l (jumps_to c) → is_jump_next (behind l code) ≡ false
  -- behind what goes on elsewhere only a label or the end follows
  pub ends : (before rest : Code) (c : CMacro) → code ≡ before ++ c ∷ rest → is_last c ≡ true → is_border rest ≡ true
