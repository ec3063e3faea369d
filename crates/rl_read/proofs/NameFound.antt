-- The first identifier of a name, where one has it, and where none has.
use Rattle.std.proofs.Common.{◌≡◌, ◌≢◌, ℕ, inl, inr, Bool, true, false, List, [], ◌∷◌, None, Some, refl, sym, ap, ◌∙◌}
use Rattle.std.specs.Str.{bytes_eq}
use Rattle.std.proofs.lemmas.Slice.Eq.{bytes_eq-Decides}
use Rattle.rl_tags.specs.Tagged.{Tagged, index_of}
use Rattle.rl_cells.specs.Cell.{Cell}
use Rattle.rl_syms.specs.Table.{Among, IsFree, IsNamed, IsTable, ids_from, name_in_cells}
use Rattle.rl_text.specs.Maker.{Has}
use Rattle.rl_tree.specs.Name.{Name}
use Rattle.rl_world.specs.declared.world.World.{World}
use Rattle.rl_read.specs.Stock.{identifier_at, identifier_made, named_among, stock_of}

-- a place among these that is not the first is among the others
later : (k i : ℕ) (is : List ℕ) → Among k (i ∷ is) → k ≢ i → Among k is
later k i is (inl e) n = absurd (n e)
later k i is (inr a) n = a

-- the first place has the name or it has not
by_first : (cells : List Cell) (name : Name) (i : ℕ) (is : List ℕ) (k : ℕ) (b : Bool) → bytes_eq name (name_in_cells cells i) ≡ b → (b ≡ true → i ≡ k) → (b ≡ false → named_among cells name is ≡ Some k) → named_among cells name (i ∷ is) ≡ Some k
by_first cells name i is k true e here rest = rw (e, here refl)
by_first cells name i is k false e here rest = rw (e, rest refl)

-- the one that has the name is found
pub named_first : (cells : List Cell) (name : Name) (is : List ℕ) (k : ℕ) → Among k is → name_in_cells cells k ≡ name → ((i j : ℕ) → Among i is → Among j is → name_in_cells cells i ≡ name_in_cells cells j → i ≡ j) → named_among cells name is ≡ Some k
named_first cells name [] k a named distinct = absurd a
named_first cells name (i ∷ is) k a named distinct =
    by_first cells name i is k (bytes_eq name (name_in_cells cells i)) refl
    (λ t. distinct i k (inl refl) a (sym ((bytes_eq-Decides name (name_in_cells cells i)).0 t) ∙ sym named))
    (λ f. named_first cells name is k (later k i is a (λ (e : k ≡ i). absurd (differ e f))) named (λ p q b c e. distinct p q (inr b) (inr c) e))
  where
    differ : k ≡ i → bytes_eq name (name_in_cells cells i) ≡ false → ⊥
    differ e f = let t : bytes_eq name (name_in_cells cells i) ≡ true = (bytes_eq-Decides name (name_in_cells cells i)).1 (sym named ∙ ap (λ (j : ℕ). name_in_cells cells j) e) in cc

-- the first place has not the name
past_first : (cells : List Cell) (name : Name) (i : ℕ) (is : List ℕ) (b : Bool) → bytes_eq name (name_in_cells cells i) ≡ b → (b ≡ true → ⊥) → named_among cells name is ≡ None → named_among cells name (i ∷ is) ≡ None
past_first cells name i is true e not rest = absurd (not refl)
past_first cells name i is false e not rest = rw (e, rest)

-- where none has the name none is found
pub named_nowhere : (cells : List Cell) (name : Name) (is : List ℕ) → ((k : ℕ) → Among k is → name_in_cells cells k ≢ name) → named_among cells name is ≡ None
named_nowhere cells name [] other = refl
named_nowhere cells name (i ∷ is) other =
    past_first cells name i is (bytes_eq name (name_in_cells cells i)) refl
    (λ t. other i (inl refl) (sym ((bytes_eq-Decides name (name_in_cells cells i)).0 t)))
    (named_nowhere cells name is (λ k a. other k (inr a)))

-- the interned identifier of the name is the one of the stock
pub identifier_found : (w : World) (name : List ℕ) (v : Tagged) → IsTable w.cells.cells w.syms.head → IsNamed w.cells.cells w.syms.head name v → identifier_made name (stock_of w) ≡ Has v (stock_of w)
identifier_found w name v table n =
    let found : named_among w.cells.cells name (ids_from w.cells.cells w.syms.head) ≡ Some (index_of v) = named_first w.cells.cells name (ids_from w.cells.cells w.syms.head) (index_of v) n.interned.1 n.name_is table.chained.distinct in
    rw found (ap (λ (i : Tagged). Has i (stock_of w)) (sym n.interned.0))

-- the stock makes one where none is interned
pub identifier_free : (w : World) (name : List ℕ) → IsFree w.cells.cells w.syms.head name → identifier_made name (stock_of w) ≡ identifier_at None name (stock_of w)
identifier_free w name free = rw (named_nowhere w.cells.cells name (ids_from w.cells.cells w.syms.head) free.other)
