-- What is the same of two runs stays so as links grow.
use Rattle.std.proofs.Common.{ℕ, List, Option}
use Rattle.rl_tree.specs.Value.{Value, Object}
use Rattle.rl_meaning.specs.CMacros.{Operand, CMacro}
use Rattle.rl_meaning.specs.State.{Tree, Held, Pointer, Function, Definition, Symbol, Entry, Dependency, Code, Coded, Compilation}
use Rattle.rl_meaning.specs.TwoRunsValues.{Names, Grows, Maybe, nothing, just, Each, end, more, SameValue, same_int, same_id, same_str, same_ref, same_fun, SameObject, same_pair, same_vector, SameTree, same_atom, same_quoted, same_node, same_literal, SameHeld, same_held, SameFunction, same_special, same_native, same_held_function, SamePointer, same_pointer, SameNumber, SameDefinition, same_definition, SameSymbol, same_symbol, SameOperand, same_slot, same_constant, same_variable, same_register, SameMacro, same_load, same_copy, same_jump_eq, same_jump_ne, same_macro, SameCode, SameDependency, same_called, same_fexpr, same_whole, SameCoded, same_coded}
use Rattle.rl_meaning.specs.TwoRunsStates.{EntryPlace, Aligned, bottom, both, both_mark, hidden, hidden_mark, SameCompilation}

-- ---- growth

pub grows_refl : (n : Names) → Grows n n
grows_refl n = record { objects = λ r q h. h; functions = λ f g h. h }

pub grows_trans : (n m k : Names) → Grows n m → Grows m k → Grows n k
grows_trans n m k g h = record { objects = λ r q l. h.objects r q (g.objects r q l); functions = λ r q l. h.functions r q (g.functions r q l) }

pub value_grows : (n m : Names) (v w : Value) → SameValue n v w → Grows n m → SameValue m v w
value_grows n m v w (same_int z) g = same_int z
value_grows n m v w (same_id i) g = same_id i
value_grows n m v w (same_str bytes) g = same_str bytes
value_grows n m v w (same_ref r q h) g = same_ref r q (g.objects r q h)
value_grows n m v w (same_fun r q place h) g = same_fun r q place (g.functions r q h)

pub maybe_grows : {A : Type 0} (R S : A → A → Type 0) → ((a b : A) → R a b → S a b) → (x y : Option A) → Maybe R x y → Maybe S x y
maybe_grows R S h x y nothing = nothing
maybe_grows R S h x y (just a b r) = just a b (h a b r)

pub each_grows : {A : Type 0} (R S : A → A → Type 0) → ((a b : A) → R a b → S a b) → (xs ys : List A) → Each R xs ys → Each S xs ys
each_grows R S h xs ys end = end
each_grows R S h xs ys (more a b as' bs r rs) = more a b as' bs (h a b r) (each_grows R S h as' bs rs)

pub values_grow : (n m : Names) (xs ys : List Value) → Each (SameValue n) xs ys → Grows n m → Each (SameValue m) xs ys
values_grow n m xs ys h g = each_grows (SameValue n) (SameValue m) (λ a b r. value_grows n m a b r g) xs ys h

pub object_grows : (n m : Names) (o p : Object) → SameObject n o p → Grows n m → SameObject m o p
object_grows n m o p (same_pair a d b e h k) g = same_pair a d b e (value_grows n m a b h g) (value_grows n m d e k g)
object_grows n m o p (same_vector xs ys h) g = same_vector xs ys (values_grow n m xs ys h g)

pub tree_grows : (n m : Names) (x y : Tree) → SameTree n x y → Grows n m → SameTree m x y
tree_grows n m x y (same_atom v w h) g = same_atom v w (value_grows n m v w h g)
tree_grows n m x y (same_quoted v w h) g = same_quoted v w (value_grows n m v w h g)
tree_grows n m x y (same_node a d b e h k) g = same_node a d b e (tree_grows n m a b h g) (tree_grows n m d e k g)
tree_grows n m x y (same_literal i a b h) g = same_literal i a b (tree_grows n m a b h g)

pub held_grows : (n m : Names) (x y : Held) → SameHeld n x y → Grows n m → SameHeld m x y
held_grows n m x y (same_held kind parameters kept a b h) g = same_held kind parameters kept a b (tree_grows n m a b h g)

pub function_grows : (n m : Names) (x y : Function) → SameFunction n x y → Grows n m → SameFunction m x y
function_grows n m x y (same_special form) g = same_special form
function_grows n m x y (same_native native) g = same_native native
function_grows n m x y (same_held_function a b h) g = same_held_function a b (held_grows n m a b h g)

pub pointer_grows : (n m : Names) (x y : Pointer) → SamePointer n x y → Grows n m → SamePointer m x y
pointer_grows n m x y (same_pointer i j place h) g = same_pointer i j place (g.functions i j h)

definition_grows : (n m : Names) (x y : Definition) → SameDefinition n x y → Grows n m → SameDefinition m x y
definition_grows n m x y (same_definition kind p q h) g = same_definition kind p q (pointer_grows n m p q h g)

pub symbol_grows : (n m : Names) (x y : Symbol) → SameSymbol n x y → Grows n m → SameSymbol m x y
symbol_grows n m x y (same_symbol name interned kind a b p q d e h k l) g =
    same_symbol name interned kind a b p q d e (maybe_grows (SameValue n) (SameValue m) (λ a b r. value_grows n m a b r g) a b h) (value_grows n m p q k g) (maybe_grows (SameDefinition n) (SameDefinition m) (λ a b r. definition_grows n m a b r g) d e l)

number_grows : (n m : Names) (x y : ℕ) → SameNumber n x y → Grows n m → SameNumber m x y
number_grows n m x y h g = record { linked = g.functions x y h.linked }

pub aligned_grows : (n m : Names) (ps : List EntryPlace) (xs ys : List Entry) → Aligned n ps xs ys → Grows n m → Aligned m ps xs ys
aligned_grows n m ps xs ys bottom g = bottom
aligned_grows n m ps xs ys (both x scope v w qs as' bs h k) g = both x scope v w qs as' bs (value_grows n m v w h g) (aligned_grows n m qs as' bs k g)
aligned_grows n m ps xs ys (both_mark p q qs as' bs h k) g = both_mark p q qs as' bs (maybe_grows (SamePointer n) (SamePointer m) (λ a b r. pointer_grows n m a b r g) p q h) (aligned_grows n m qs as' bs k g)
aligned_grows n m ps xs ys (hidden x v qs as' bs k) g = hidden x v qs as' bs (aligned_grows n m qs as' bs k g)
aligned_grows n m ps xs ys (hidden_mark f qs as' bs k) g = hidden_mark f qs as' bs (aligned_grows n m qs as' bs k g)

-- ---- codes

operand_grows : (n m : Names) (x y : Operand) → SameOperand n x y → Grows n m → SameOperand m x y
operand_grows n m x y (same_slot k) g = same_slot k
operand_grows n m x y (same_constant v w h) g = same_constant v w (value_grows n m v w h g)
operand_grows n m x y (same_variable i) g = same_variable i
operand_grows n m x y (same_register r) g = same_register r

macro_grows : (n m : Names) (x y : CMacro) → SameMacro n x y → Grows n m → SameMacro m x y
macro_grows n m x y (same_load r o p h) g = same_load r o p (operand_grows n m o p h g)
macro_grows n m x y (same_copy r v w h) g = same_copy r v w (value_grows n m v w h g)
macro_grows n m x y (same_jump_eq l o p h) g = same_jump_eq l o p (operand_grows n m o p h g)
macro_grows n m x y (same_jump_ne l o p h) g = same_jump_ne l o p (operand_grows n m o p h g)
macro_grows n m x y (same_macro c e) g = same_macro c e

pub code_grows : (n m : Names) (x y : Code) → SameCode n x y → Grows n m → SameCode m x y
code_grows n m x y h g = each_grows (SameMacro n) (SameMacro m) (λ a b r. macro_grows n m a b r g) x y h

dependency_grows : (n m : Names) (x y : Dependency) → SameDependency n x y → Grows n m → SameDependency m x y
dependency_grows n m x y (same_called i) g = same_called i
dependency_grows n m x y (same_fexpr i) g = same_fexpr i
dependency_grows n m x y (same_whole i kind p q h) g = same_whole i kind p q (pointer_grows n m p q h g)

coded_grows : (n m : Names) (x y : Coded) → SameCoded n x y → Grows n m → SameCoded m x y
coded_grows n m x y (same_coded name loaded p q a b ds es h k l) g =
    same_coded name loaded p q a b ds es (pointer_grows n m p q h g) (code_grows n m a b k g) (each_grows (SameDependency n) (SameDependency m) (λ a b r. dependency_grows n m a b r g) ds es l)

pub compilation_grows : (n m : Names) (x y : Compilation) → SameCompilation n x y → Grows n m → SameCompilation m x y
compilation_grows n m x y h g = record {
  walks = h.walks;
  coded = each_grows (SameCoded n) (SameCoded m) (λ a b r. coded_grows n m a b r g) x.coded y.coded h.coded;
  answers = h.answers;
  levels = h.levels;
  requests = h.requests;
  compiles_all = h.compiles_all;
}
