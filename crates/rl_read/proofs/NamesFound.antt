-- The first identifier of a name among several.
use Rattle.std.proofs.Common.{◌≡◌, ◌≢◌, ℕ, Bool, true, false, if◌then◌else◌, inl, inr, List, [], ◌∷◌, None, Some, refl, sym, ap, ◌∙◌}
use Rattle.std.specs.Str.{bytes_eq}
use Rattle.std.proofs.lemmas.Slice.Eq.{bytes_eq-Decides}
use Rattle.rl_cells.specs.Cell.{Cell}
use Rattle.rl_syms.specs.Table.{Among, name_in_cells}
use Rattle.rl_tree.specs.Name.{Name}
use Rattle.rl_read.specs.Laws.{NamesAreFound}
use Rattle.rl_read.specs.Stock.{named_among}

by_test : (cells : List Cell) (name : Name) (j i : ℕ) (is : List ℕ) (b : Bool) → bytes_eq name (name_in_cells cells j) ≡ b → (if b then Some j else named_among cells name is) ≡ Some i → (named_among cells name is ≡ Some i → Among i is × (name_in_cells cells i ≡ name)) → Among i (j ∷ is) × (name_in_cells cells i ≡ name)
by_test cells name j i is true e h rest =
    let same : j ≡ i = cc in
    (inl (sym same), ap (name_in_cells cells) (sym same) ∙ sym ((bytes_eq-Decides name (name_in_cells cells j)).0 e))
by_test cells name j i is false e h rest = let found = rest h in (inr found.0, found.1)

named_found : (cells : List Cell) (name : Name) (is : List ℕ) (i : ℕ) → named_among cells name is ≡ Some i → Among i is × (name_in_cells cells i ≡ name)
named_found cells name [] i e = absurd cc
named_found cells name (j ∷ is) i e = by_test cells name j i is (bytes_eq name (name_in_cells cells j)) refl e (λ f. named_found cells name is i f)

past_test : (cells : List Cell) (name : Name) (j : ℕ) (is : List ℕ) (k : ℕ) (b : Bool) → bytes_eq name (name_in_cells cells j) ≡ b → (if b then Some j else named_among cells name is) ≡ None → Among k (j ∷ is) → name_in_cells cells k ≡ name → (named_among cells name is ≡ None → Among k is → ⊥) → ⊥
past_test cells name j is k true e h a n rest = cc
past_test cells name j is k false e h (inr a) n rest = rest h a
past_test cells name j is k false e h (inl i) n rest =
    let t : bytes_eq name (name_in_cells cells j) ≡ true = (bytes_eq-Decides name (name_in_cells cells j)).1 (sym n ∙ ap (name_in_cells cells) i) in cc

named_free : (cells : List Cell) (name : Name) (is : List ℕ) → named_among cells name is ≡ None → (k : ℕ) → Among k is → name_in_cells cells k ≢ name
named_free cells name [] e k a n = a
named_free cells name (j ∷ is) e k a n = past_test cells name j is k (bytes_eq name (name_in_cells cells j)) refl e a n (λ f b. named_free cells name is f k b n)

pub names_found : NamesAreFound
names_found = record { found = named_found; free = named_free }
