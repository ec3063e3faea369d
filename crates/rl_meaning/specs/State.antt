-- The state of a run: what a Lisp program can see or change (Standard Lisp Report 1979; counts and notes are this project's). Objects, identifiers and functions are numbered by their making.
use Rattle.std.specs.Prelude.{ℕ, Bool, List, Option}
use Rattle.rl_tree.specs.Value.{Value, Store}
use Rattle.rl_tree.specs.Name.{Name}
use Rattle.rl_tree.specs.declared.held.Kind.{Kind}
use Rattle.rl_tree.specs.declared.held.VarKind.{VarKind}
use Rattle.rl_meaning.specs.Names.{Native, Special}
use Rattle.rl_meaning.specs.CMacros.{CMacro}

-- ---- functions

-- a held form: the pairs of a list down to its atoms. A quoted part is a leaf that stays the same object, and so is a vector, a string or a function pointer; a FUNCTION of a LAMBDA has its number among the nodes of its holder's body
pub data Tree : Type 0 where
  Atom : Value → Tree
  Quoted : Value → Tree
  Pair : Tree → Tree → Tree
  Literal : ℕ → Tree → Tree

-- the declared kind of a variable as it was when a form was held
pub record Kept : Type 0 where
  pub variable : ℕ
  pub kind : VarKind

-- a function as it was held
pub record Held : Type 0 where
  pub kind : Kind
  pub parameters : List ℕ
  pub body : Tree
  pub kept : List Kept

-- a function by its number, and a place in it: 0 is the function itself, and i + 1 the part at node i of its body
pub record Pointer : Type 0 where
  pub function : ℕ
  pub place : ℕ

-- what a function pointer names
pub data Function : Type 0 where
  SpecialForm : Special → Function
  NativeFunction : Native → Function
  HeldFunction : Held → Function

-- ---- identifiers

pub record Definition : Type 0 where
  pub kind : Kind
  pub function : Pointer

-- an identifier: its name, whether texts find it by its name, the value below all bindings, and the rest of what it has
pub record Symbol : Type 0 where
  pub name : Name
  pub interned : Bool
  pub top : Option Value
  pub properties : Value
  pub definition : Option Definition
  pub kind : VarKind

-- ---- bindings

pub data Scope : Type 0 where
  Local : Scope
  Fluid : Scope

-- a binding of a variable; or the beginning of a function, or of an EVAL, an APPLY or an ERRORSET
pub data Entry : Type 0 where
  Binding : ℕ → Scope → Value → Entry
  Mark : Option Pointer → Entry

-- ---- counts

-- the outermost open expansion: its macro, how many expansions are open inside it, and the turns and cells that it has left
pub record Expansion : Type 0 where
  pub macro : ℕ
  pub inner_count : ℕ
  pub turns : ℕ
  pub cells : ℕ

-- the turns that the run was given, and the turns and the cells that it has left; no number of cells is no bound
pub record Counts : Type 0 where
  pub given : ℕ
  pub turns : ℕ
  pub cells : Option ℕ
  pub expansion : Option Expansion

-- ---- the outside

-- the files by name, with their bytes
abbrev pub Files : Type 0
Files = Name → Option (List ℕ)

-- the files; what is left of the input, and how many of its bytes were taken; what was printed, how far its line has come, and how long a line may be; and the notes
pub record Outside : Type 0 where
  pub files : Files
  pub input : List ℕ
  pub taken : ℕ
  pub output : List ℕ
  pub column : ℕ
  pub line_length : ℕ
  pub notes : List ℕ

-- ---- what is watched: nothing that a program computes rests on it, so a clause over a world says what it says for any of it

-- what compiled code may see otherwise, each by its name: a use of a variable that strays; or what turns, a definition that changes under a running function, or a macro whose expansion meets a changed constant
pub data Event : Type 0 where
  Stray : ℕ → Event
  Turned : ℕ → Event

-- an event, and how much was printed and noted by then
pub record Recorded : Type 0 where
  pub event : Event
  pub printed : ℕ
  pub noted : ℕ

-- a pair or a vector, by its number, that was changed when so many functions were there
pub record Change : Type 0 where
  pub object : ℕ
  pub functions : ℕ

-- the changes of pairs and vectors by RPLACA, RPLACD, NCONC and PUTV, the newest first; and the first event, behind which the run goes on
pub record Watched : Type 0 where
  pub changes : List Change
  pub event : Option Recorded

-- ---- compilation

abbrev pub Code : Type 0
Code = List CMacro

-- what a code rests on: a name that is called and is no FEXPR or MACRO; one that is called as an FEXPR; or a macro, or an EXPR that a macro uses, with its whole definition
pub data Dependency : Type 0 where
  Called Fexpr : ℕ → Dependency
  Whole : ℕ → Kind → Pointer → Dependency

-- a name whose standing definition, by its function, has code
pub record Coded : Type 0 where
  pub name : ℕ
  pub function : Pointer
  pub code : Code
  pub dependencies : List Dependency
  pub loaded : Bool

-- what a compilation comes to that is not refused: no memory, or this code
pub data Answer : Type 0 where
  NoMemory : Answer
  Made : Code → Answer

-- the compilation of a name that waits for the first application of this turn or a later one
pub record Request : Type 0 where
  pub name : Name
  pub turn : ℕ

-- given: whether applications run code, or walk all functions; the answers of the compilations to come, in their order; the levels of a verdict's expansions. And what a run changes: the requests that wait, whether each definition is compiled, and the names with code
pub record Compilation : Type 0 where
  pub runs_code : Bool
  pub answers : List Answer
  pub levels : Option ℕ
  pub requests : List Request
  pub compiles_all : Bool
  pub coded : List Coded

-- ---- the state

-- bindings stand the newest first
pub record State : Type 0 where
  pub store : Store
  pub symbols : List Symbol
  pub functions : List Function
  pub bindings : List Entry
  pub counts : Counts
  pub outside : Outside
  pub gensyms : ℕ
  pub watched : Watched
  pub compilation : Compilation
