-- When values, objects, forms, functions, identifiers and codes of two runs are the same: they are up to the numbers of objects and functions (this project's).
use Rattle.std.specs.Prelude.{◌≡◌, ℤ, ℕ, Bool, true, false, List, [], ◌∷◌, Option, Some, None}
use Rattle.rl_tree.specs.Value.{Value, Int, Id, Str, Ref, Fun, Object}
use Rattle.rl_tree.specs.Value as object
use Rattle.rl_tree.specs.Name.{Name}
use Rattle.rl_tree.specs.declared.held.Kind.{Kind}
use Rattle.rl_tree.specs.declared.held.VarKind.{VarKind}
use Rattle.rl_meaning.specs.Names.{Native, Special}
use Rattle.rl_meaning.specs.CMacros.{Operand, Slot, Constant, Variable, Register, CMacro, Load, Copy, JumpEq, JumpNe}
use Rattle.rl_meaning.specs.State.{Tree, Atom, Quoted, Pair, Literal, Kept, Held, Pointer, Function, SpecialForm, NativeFunction, HeldFunction, Definition, Symbol, Code, Dependency, Called, Fexpr, Whole, Coded}
use Rattle.rl_meaning.specs.TwoRunsLinks.{Links, Linked}

-- which objects and which functions are the same ones
pub record Names : Type 0 where
  pub objects : Links
  pub functions : Links

-- links stay
pub record Grows (n m : Names) : Type 0 where
  pub objects : (r q : ℕ) → Linked n.objects r q → Linked m.objects r q
  pub functions : (f g : ℕ) → Linked n.functions f g → Linked m.functions f g

-- ---- options and lists

pub data Maybe {A : Type 0} (R : A → A → Type 0) : Option A → Option A → Type 0 where
  nothing : Maybe R None None
  just : (a b : A) → R a b → Maybe R (Some a) (Some b)

pub data Each {A : Type 0} (R : A → A → Type 0) : List A → List A → Type 0 where
  end : Each R [] []
  more : (a b : A) (xs ys : List A) → R a b → Each R xs ys → Each R (a ∷ xs) (b ∷ ys)

-- ---- values and objects

pub data SameValue (n : Names) : Value → Value → Type 0 where
  same_int : (z : ℤ) → SameValue n (Int z) (Int z)
  same_id : (i : ℕ) → SameValue n (Id i) (Id i)
  same_str : (bytes : List ℕ) → SameValue n (Str bytes) (Str bytes)
  same_ref : (r q : ℕ) → Linked n.objects r q → SameValue n (Ref r) (Ref q)
  same_fun : (f g place : ℕ) → Linked n.functions f g → SameValue n (Fun f place) (Fun g place)

pub data SameParts (n : Names) : Value × Value → Value × Value → Type 0 where
  same_parts : (a d b e : Value) → SameValue n a b → SameValue n d e → SameParts n (a, d) (b, e)

pub data SameObject (n : Names) : Object → Object → Type 0 where
  same_pair : (a d b e : Value) → SameValue n a b → SameValue n d e → SameObject n (object.Pair a d) (object.Pair b e)
  same_vector : (xs ys : List Value) → Each (SameValue n) xs ys → SameObject n (object.Vector xs) (object.Vector ys)

-- ---- forms and functions

pub data SameTree (n : Names) : Tree → Tree → Type 0 where
  same_atom : (v w : Value) → SameValue n v w → SameTree n (Atom v) (Atom w)
  same_quoted : (v w : Value) → SameValue n v w → SameTree n (Quoted v) (Quoted w)
  same_node : (a d b e : Tree) → SameTree n a b → SameTree n d e → SameTree n (Pair a d) (Pair b e)
  same_literal : (i : ℕ) (a b : Tree) → SameTree n a b → SameTree n (Literal i a) (Literal i b)

abbrev pub held_of : Kind → List ℕ → List Kept → Tree → Held
held_of kind parameters kept body = record { kind = kind; parameters = parameters; body = body; kept = kept }

pub data SameHeld (n : Names) : Held → Held → Type 0 where
  same_held : (kind : Kind) (parameters : List ℕ) (kept : List Kept) (a b : Tree) → SameTree n a b → SameHeld n (held_of kind parameters kept a) (held_of kind parameters kept b)

pub data SameFunction (n : Names) : Function → Function → Type 0 where
  same_special : (form : Special) → SameFunction n (SpecialForm form) (SpecialForm form)
  same_native : (native : Native) → SameFunction n (NativeFunction native) (NativeFunction native)
  same_held_function : (f g : Held) → SameHeld n f g → SameFunction n (HeldFunction f) (HeldFunction g)

pub data SamePointer (n : Names) : Pointer → Pointer → Type 0 where
  same_pointer : (f g place : ℕ) → Linked n.functions f g → SamePointer n (record { function = f; place = place }) (record { function = g; place = place })

-- a function that was held has the same number
pub record SameNumber (n : Names) (f g : ℕ) : Type 0 where
  pub linked : Linked n.functions f g

-- ---- identifiers: they have the same numbers in both runs

pub data SameDefinition (n : Names) : Definition → Definition → Type 0 where
  same_definition : (kind : Kind) (p q : Pointer) → SamePointer n p q → SameDefinition n (record { kind = kind; function = p }) (record { kind = kind; function = q })

pub data SameSymbol (n : Names) : Symbol → Symbol → Type 0 where
  same_symbol : (name : Name) (interned : Bool) (kind : VarKind) (x y : Option Value) (p q : Value) (d e : Option Definition) → Maybe (SameValue n) x y → SameValue n p q → Maybe (SameDefinition n) d e
      → SameSymbol n (record { name = name; interned = interned; top = x; properties = p; definition = d; kind = kind }) (record { name = name; interned = interned; top = y; properties = q; definition = e; kind = kind })

-- ---- codes

pub data SameOperand (n : Names) : Operand → Operand → Type 0 where
  same_slot : (k : ℕ) → SameOperand n (Slot k) (Slot k)
  same_constant : (v w : Value) → SameValue n v w → SameOperand n (Constant v) (Constant w)
  same_variable : (x : ℕ) → SameOperand n (Variable x) (Variable x)
  same_register : (r : ℕ) → SameOperand n (Register r) (Register r)

-- c-macros that have an operand or a form
abbrev pub has_operand : CMacro → Bool
has_operand (Load r o) = true
has_operand (Copy r v) = true
has_operand (JumpEq l o) = true
has_operand (JumpNe l o) = true
has_operand c = false

pub data SameMacro (n : Names) : CMacro → CMacro → Type 0 where
  same_load : (r : ℕ) (o p : Operand) → SameOperand n o p → SameMacro n (Load r o) (Load r p)
  same_copy : (r : ℕ) (v w : Value) → SameValue n v w → SameMacro n (Copy r v) (Copy r w)
  same_jump_eq : (l : ℕ) (o p : Operand) → SameOperand n o p → SameMacro n (JumpEq l o) (JumpEq l p)
  same_jump_ne : (l : ℕ) (o p : Operand) → SameOperand n o p → SameMacro n (JumpNe l o) (JumpNe l p)
  same_macro : (c : CMacro) → has_operand c ≡ false → SameMacro n c c

abbrev pub SameCode : Names → Code → Code → Type 0
SameCode n = Each (SameMacro n)

pub data SameDependency (n : Names) : Dependency → Dependency → Type 0 where
  same_called : (i : ℕ) → SameDependency n (Called i) (Called i)
  same_fexpr : (i : ℕ) → SameDependency n (Fexpr i) (Fexpr i)
  same_whole : (i : ℕ) (kind : Kind) (p q : Pointer) → SamePointer n p q → SameDependency n (Whole i kind p) (Whole i kind q)

pub data SameCoded (n : Names) : Coded → Coded → Type 0 where
  same_coded : (name : ℕ) (loaded : Bool) (p q : Pointer) (a b : Code) (ds es : List Dependency) → SamePointer n p q → SameCode n a b → Each (SameDependency n) ds es
      → SameCoded n (record { name = name; function = p; code = a; dependencies = ds; loaded = loaded }) (record { name = name; function = q; code = b; dependencies = es; loaded = loaded })
