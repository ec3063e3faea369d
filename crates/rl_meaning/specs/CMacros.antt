-- C-macros, the instructions of compiled functions (Griss and Hearn, A portable Lisp compiler, 1981).
use Rattle.std.specs.Prelude.{ℕ, List}
use Rattle.rl_tree.specs.Value.{Value}

-- what is loaded or compared: a slot, a constant, a variable, or a register
pub data Operand : Type 0 where
  Slot : ℕ → Operand
  Constant : Value → Operand
  Variable : ℕ → Operand
  Register : ℕ → Operand

-- a c-macro; names and variables are identifiers by their number, and a form that is copied is a function pointer to its place
pub data CMacro : Type 0 where
  Entry : ℕ → ℕ → CMacro
  Alloc Dealloc : ℕ → CMacro
  Load : ℕ → Operand → CMacro
  Store Move : ℕ → ℕ → CMacro
  SetVar : ℕ → CMacro
  Copy : ℕ → Value → CMacro
  Link : ℕ → ℕ → CMacro
  LinkE : ℕ → ℕ → ℕ → CMacro
  Self : ℕ → ℕ → CMacro
  CallNative : ℕ → ℕ → CMacro
  Jump JumpNil JumpT : ℕ → CMacro
  JumpEq JumpNe : ℕ → Operand → CMacro
  Label GoTo : ℕ → CMacro
  Bind : List (ℕ × ℕ) → CMacro
  ProgBind : List ℕ → CMacro
  Free : ℕ → CMacro
  Exit : CMacro
  Raise : ℕ → CMacro
