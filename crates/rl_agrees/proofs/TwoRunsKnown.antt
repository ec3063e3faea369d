-- What is linked on the right of two runs is known to itself: the names to which the right state comes.
use Rattle.std.proofs.Common.{◌≡◌, inl, inr, ◌<◌, ℕ, List, [], ◌∷◌, slice_get, Option, Some, None, refl, sym, subst, arith}
use Rattle.rl_tree.specs.Value.{Value, Object, Store}
use Rattle.rl_meaning.specs.CMacros.{Operand, CMacro}
use Rattle.rl_meaning.specs.State.{State, Tree, Held, Pointer, Function, Definition, Symbol, Entry, Dependency, Code, Coded, Expansion, Binding, Mark}
use Rattle.rl_meaning.specs.TwoRunsLinks.{Links, unlinked, link, Linked, newest, older, OneToOne, Within}
use Rattle.rl_meaning.specs.TwoRunsValues.{Names, Maybe, nothing, just, Each, end, more, SameValue, same_int, same_id, same_str, same_ref, same_fun, SameObject, same_pair, same_vector, SameTree, same_atom, same_quoted, same_node, same_literal, SameHeld, same_held, SameFunction, same_special, same_native, same_held_function, SamePointer, same_pointer, SameDefinition, same_definition, SameSymbol, same_symbol, SameOperand, same_slot, same_constant, same_variable, same_register, SameMacro, same_load, same_copy, same_jump_eq, same_jump_ne, same_macro, SameCode, SameDependency, same_called, same_fexpr, same_whole, SameCoded, same_coded}
use Rattle.rl_meaning.specs.TwoRunsStates.{Bounds, SameStore, SameFunctions, EntryPlace, Both, BothMark, Aligned, bottom, both, both_mark, hidden, hidden_mark, all_both, SameExpansion, same_none, same_open, IsRoomier, Like}
use Rattle.rl_meaning.specs.Right.{IsIdentity, Knows}
use Rattle.rl_agrees.proofs.TwoRunsKept.{IsWhole}
use Rattle.rl_agrees.proofs.TwoRunsLinked.{linked_cases}
use Rattle.rl_agrees.proofs.TwoRunsJoined.{Covers}

-- ---- links

-- each right number to itself
abbrev pub on_right : Links → Links
on_right unlinked = unlinked
on_right (link a b ls) = link b b (on_right ls)

right_linked : (ls : Links) (r q : ℕ) → Linked ls r q → Linked (on_right ls) q q
right_linked _ _ _ (newest a b ls) = newest b b (on_right ls)
right_linked _ _ _ (older a b r q ls h) = older b b q q (on_right ls) (right_linked ls r q h)

-- a number on the left of one on the right
record OnLeft (ls : Links) (q p : ℕ) : Type 0 where
  number : ℕ
  is : q ≡ p
  linked : Linked ls number q

left_of : (ls : Links) (q p : ℕ) → Linked (on_right ls) q p → OnLeft ls q p
left_of unlinked q p h = elim h [ ]
left_of (link a b ls) q p h = elim (linked_cases b b q p (on_right ls) h) as (λ w. OnLeft (link a b ls) q p) [
  | inl w ↦ record { number = a; is = sym' w.0 w.1; linked = subst (λ z. Linked (link a b ls) a z) (sym w.0) (newest a b ls) }
  | inr w ↦ let f : OnLeft ls q p = left_of ls q p w in record { number = f.number; is = f.is; linked = older a b f.number q ls f.linked }
]
  where
    sym' : {q p b : ℕ} → q ≡ b → p ≡ b → q ≡ p
    sym' x y = omega (arith, x, y)

abbrev pub names_on_right : Names → Names
names_on_right n = record { objects = on_right n.objects; functions = on_right n.functions }

pub right_identity : (n : Names) → IsIdentity (names_on_right n)
right_identity n = record { objects = λ r q h. (left_of n.objects r q h).is; functions = λ r q h. (left_of n.functions r q h).is }

pub right_covers : (n : Names) → Covers n (names_on_right n)
right_covers n = record { objects = λ r q h. right_linked n.objects r q h; functions = λ r q h. right_linked n.functions r q h }

-- ---- what is the same on both sides is so on the right alone

maybe_right : {A : Type 0} (R S : A → A → Type 0) → ((a b : A) → R a b → S b b) → (x y : Option A) → Maybe R x y → Maybe S y y
maybe_right R S h x y nothing = nothing
maybe_right R S h x y (just a b r) = just b b (h a b r)

each_right : {A : Type 0} (R S : A → A → Type 0) → ((a b : A) → R a b → S b b) → (x y : List A) → Each R x y → Each S y y
each_right R S h x y end = end
each_right R S h x y (more a b xs ys r rs) = more b b ys ys (h a b r) (each_right R S h xs ys rs)

module _ (n : Names) where
  abbrev K : Names
  K = names_on_right n

  value_right : (a b : Value) → SameValue n a b → SameValue K b b
  value_right a b (same_int z) = same_int z
  value_right a b (same_id i) = same_id i
  value_right a b (same_str bytes) = same_str bytes
  value_right a b (same_ref r q h) = same_ref q q (right_linked n.objects r q h)
  value_right a b (same_fun r q place h) = same_fun q q place (right_linked n.functions r q h)

  object_right : (a b : Object) → SameObject n a b → SameObject K b b
  object_right a b (same_pair x y x' y' r s) = same_pair x' y' x' y' (value_right x x' r) (value_right y y' s)
  object_right a b (same_vector xs ys r) = same_vector ys ys (each_right _ _ value_right xs ys r)

  tree_right : (a b : Tree) → SameTree n a b → SameTree K b b
  tree_right a b (same_atom v w r) = same_atom w w (value_right v w r)
  tree_right a b (same_quoted v w r) = same_quoted w w (value_right v w r)
  tree_right a b (same_node x y x' y' r s) = same_node x' y' x' y' (tree_right x x' r) (tree_right y y' s)
  tree_right a b (same_literal i x x' r) = same_literal i x' x' (tree_right x x' r)

  held_right : (a b : Held) → SameHeld n a b → SameHeld K b b
  held_right a b (same_held kind parameters kept x y r) = same_held kind parameters kept y y (tree_right x y r)

  function_right : (a b : Function) → SameFunction n a b → SameFunction K b b
  function_right a b (same_special form) = same_special form
  function_right a b (same_native native) = same_native native
  function_right a b (same_held_function f g r) = same_held_function g g (held_right f g r)

  pointer_right : (a b : Pointer) → SamePointer n a b → SamePointer K b b
  pointer_right a b (same_pointer f g place h) = same_pointer g g place (right_linked n.functions f g h)

  definition_right : (a b : Definition) → SameDefinition n a b → SameDefinition K b b
  definition_right a b (same_definition kind p q r) = same_definition kind q q (pointer_right p q r)

  symbol_right : (a b : Symbol) → SameSymbol n a b → SameSymbol K b b
  symbol_right a b (same_symbol name interned kind x y p q d e r s t) =
      same_symbol name interned kind y y q q e e (maybe_right _ _ value_right x y r) (value_right p q s) (maybe_right _ _ definition_right d e t)

  operand_right : (a b : Operand) → SameOperand n a b → SameOperand K b b
  operand_right a b (same_slot i) = same_slot i
  operand_right a b (same_constant v w r) = same_constant w w (value_right v w r)
  operand_right a b (same_variable x) = same_variable x
  operand_right a b (same_register r) = same_register r

  macro_right : (a b : CMacro) → SameMacro n a b → SameMacro K b b
  macro_right a b (same_load i o p r) = same_load i p p (operand_right o p r)
  macro_right a b (same_copy i v w r) = same_copy i w w (value_right v w r)
  macro_right a b (same_jump_eq i o p r) = same_jump_eq i p p (operand_right o p r)
  macro_right a b (same_jump_ne i o p r) = same_jump_ne i p p (operand_right o p r)
  macro_right a b (same_macro c e) = same_macro c e

  code_right : (a b : Code) → SameCode n a b → SameCode K b b
  code_right a b h = each_right _ _ macro_right a b h

  dependency_right : (a b : Dependency) → SameDependency n a b → SameDependency K b b
  dependency_right a b (same_called i) = same_called i
  dependency_right a b (same_fexpr i) = same_fexpr i
  dependency_right a b (same_whole i kind p q r) = same_whole i kind q q (pointer_right p q r)

  coded_right : (a b : Coded) → SameCoded n a b → SameCoded K b b
  coded_right a b (same_coded name loaded p q x y ds es r s t) = same_coded name loaded q q y y es es (pointer_right p q r) (code_right x y s) (each_right _ _ dependency_right ds es t)

  -- ---- states

  identity_once : (ls : Links) → OneToOne (on_right ls)
  identity_once ls = record {
    right = λ r q p h k. let x : r ≡ q = (left_of ls r q h).is in let y : r ≡ p = (left_of ls r p k).is in omega (arith, x, y);
    left = λ r p q h k. let x : r ≡ q = (left_of ls r q h).is in let y : p ≡ q = (left_of ls p q k).is in omega (arith, x, y);
  }

  identity_within : (ls : Links) (i j : ℕ) → Within ls i j → Within (on_right ls) j j
  identity_within ls i j w = record {
    left = λ r q h. let x : OnLeft ls r q = left_of ls r q h in w.right x.number r x.linked;
    right = λ r q h. let x : OnLeft ls r q = left_of ls r q h in subst (λ z. z < j) x.is (w.right x.number r x.linked);
  }

  store_right : (s t : Store) → SameStore n s t → SameStore K t t
  store_right s t h = record {
    once = identity_once n.objects;
    within = identity_within n.objects _ _ h.within;
    is = λ r q l. let x : OnLeft n.objects r q = left_of n.objects r q l in
        subst (λ z. Maybe (SameObject K) (slice_get t r) (slice_get t z)) x.is (maybe_right _ _ object_right (slice_get s x.number) (slice_get t r) (h.is x.number r x.linked));
  }

  functions_right : (s t : List Function) → SameFunctions n s t → SameFunctions K t t
  functions_right s t h = record {
    once = identity_once n.functions;
    within = identity_within n.functions _ _ h.within;
    is = λ r q l. let x : OnLeft n.functions r q = left_of n.functions r q l in
        subst (λ z. Maybe (SameFunction K) (slice_get t r) (slice_get t z)) x.is (maybe_right _ _ function_right (slice_get s x.number) (slice_get t r) (h.is x.number r x.linked));
  }

  aligned_right : (ps : List EntryPlace) (xs ys : List Entry) → IsWhole ps → Aligned n ps xs ys → Aligned K (all_both ys) ys ys
  aligned_right ps xs ys w bottom = bottom
  aligned_right ps xs ys w (both x scope a b qs as' bs r h) = both x scope b b (all_both bs) bs bs (value_right a b r) (aligned_right qs as' bs w h)
  aligned_right ps xs ys w (both_mark f g qs as' bs r h) = both_mark g g (all_both bs) bs bs (maybe_right _ _ pointer_right f g r) (aligned_right qs as' bs w h)
  aligned_right ps xs ys w (hidden x v qs as' bs h) = absurd w
  aligned_right ps xs ys w (hidden_mark f qs as' bs h) = absurd w

  expansion_right : (a b : Option Expansion) → SameExpansion a b → SameExpansion b b
  expansion_right a b same_none = same_none
  expansion_right a b (same_open e) = same_open e

  roomier_self : (a : Option ℕ) → IsRoomier a a
  roomier_self None = tt
  roomier_self (Some x) = omega arith

  module _ {bounds : Bounds} where
    pub like_right : (ps : List EntryPlace) (s t : State) → IsWhole ps → Like bounds n ps s t → Like bounds K (all_both t.bindings) t t
    like_right ps s t w l = record {
      store = store_right s.store t.store l.store;
      functions = functions_right s.functions t.functions l.functions;
      symbols = each_right _ _ symbol_right s.symbols t.symbols l.symbols;
      bindings = aligned_right ps s.bindings t.bindings w l.bindings;
      counts = record { given = refl; turns = refl; cells = record { is = roomier_self t.counts.cells; bound = l.counts.cells.bound }; expansion = expansion_right _ _ l.counts.expansion };
      outside = refl;
      gensyms = refl;
      compilation = record {
        walks = l.compilation.walks;
        coded = each_right _ _ coded_right s.compilation.coded t.compilation.coded l.compilation.coded;
        answers = refl;
        levels = refl;
        requests = refl;
        compiles_all = refl;
      };
    }

    -- the right state knows what it has from the left
    pub knows : (ps : List EntryPlace) (s t : State) (vs ws : List Value) (a b : Code) → IsWhole ps → Like bounds n ps s t → Each (SameValue n) vs ws → SameCode n a b → Knows bounds K ws b t
    knows ps s t vs ws a b w l r c = record { identity = right_identity n; state = like_right ps s t w l; values = each_right _ _ value_right vs ws r; constants = code_right a b c }

-- all places are of both
pub whole_places : (n : Names) (ps : List EntryPlace) (xs ys : List Entry) → IsWhole ps → Aligned n ps xs ys → ps ≡ all_both ys
whole_places n ps xs ys w bottom = refl
whole_places n ps xs ys w (both x scope a b qs as' bs r h) = λ i. Both ∷ whole_places n qs as' bs w h i
whole_places n ps xs ys w (both_mark f g qs as' bs r h) = λ i. BothMark ∷ whole_places n qs as' bs w h i
whole_places n ps xs ys w (hidden x v qs as' bs h) = absurd w
whole_places n ps xs ys w (hidden_mark f qs as' bs h) = absurd w

pub all_both_whole : (ys : List Entry) → IsWhole (all_both ys)
all_both_whole [] = tt
all_both_whole (Binding x scope v ∷ ys) = all_both_whole ys
all_both_whole (Mark f ∷ ys) = all_both_whole ys
