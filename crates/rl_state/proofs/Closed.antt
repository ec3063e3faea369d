-- Cells whose objects hold what lives stay so as objects are made, and as the cdr of a pair is changed.
use Rattle.std.proofs.Common.{◌≡◌, ℕ, ◌%◌, ◌<◌, Bool, true, false, ◌&&◌, nat_le, cond, inl, inr, List, [], ◌∷◌, ◌++◌, length, refl, sym, ap, ◌∙◌, arith}
use Rattle.std.specs.List.{list_all}
use Rattle.std.proofs.Math.ListN.{get_or-eq_default}
use Rattle.std.proofs.lemmas.Bool.{and_parts, cases_eq, cases_lt, leb-true, leb-false}
use Rattle.std.proofs.lemmas.List.{get_or-set_other, get_or-set_same}
use Rattle.rl_tags.specs.Tagged.{PairAt, Tagged, tagged_of}
use Rattle.rl_cells.specs.Cell.{BigCell, BlockCell, Cell, IsClosed, More, PairCell, StrCell, VectorCell, car_in, car_of, cdr_in, cell_at, changed_at, is_closed_cell, is_live, is_live_word, is_pair, is_pair_cell, placed}
use Rattle.rl_cells.specs.Laws.{IsAdded}

pub both_true : (a b : Bool) → a ≡ true → b ≡ true → (a && b) ≡ true
both_true a b h k = rw (h, k) refl

pub all_kept : {A : Type 0} (p q : A → Bool) → ((x : A) → p x ≡ true → q x ≡ true) → (xs : List A) → list_all p xs ≡ true → list_all q xs ≡ true
all_kept p q f [] h = refl
all_kept p q f (x ∷ xs) h =
    let b = and_parts (p x) (list_all p xs) h in
    both_true (q x) (list_all q xs) (f x b.0) (all_kept p q f xs b.1)

abbrev pub LiveStays : List Cell → List Cell → Type 0
LiveStays old new = (v : Tagged) → is_live old v ≡ true → is_live new v ≡ true

word_stays : (old new : List Cell) → LiveStays old new → (w : ℕ) → is_live_word old w ≡ true → is_live_word new w ≡ true
word_stays old new live w h = go (nat_le (w % 16) 6) h
  where
    go : (b : Bool) → cond b (is_live old (tagged_of w)) true ≡ true → cond b (is_live new (tagged_of w)) true ≡ true
    go true h = live (tagged_of w) h
    go false h = refl

cell_stays : (old new : List Cell) → LiveStays old new → (c : Cell) → is_closed_cell old c ≡ true → is_closed_cell new c ≡ true
cell_stays old new live (PairCell a d) h =
    let b = and_parts (is_live old a) (is_live old d) h in
    both_true (is_live new a) (is_live new d) (live a b.0) (live d b.1)
cell_stays old new live (VectorCell xs) h = all_kept (is_live old) (is_live new) live xs h
cell_stays old new live (BlockCell t words) h = all_kept (is_live_word old) (is_live_word new) (word_stays old new live) words h
cell_stays old new live (StrCell bytes) h = refl
cell_stays old new live (BigCell z) h = h
cell_stays old new live More h = refl

pub closed_made : IsAdded → (cells : List Cell) (c : Cell) → IsClosed cells → is_closed_cell (cells ++ placed c) c ≡ true → IsClosed (cells ++ placed c)
closed_made added cells c closed h = record { at = at }
  where
    new : List Cell
    new = cells ++ placed c

    at : (k : ℕ) → is_closed_cell new (cell_at new k) ≡ true
    at k = elim (cases_lt k (length cells)) [
      | inl l ↦ ap (is_closed_cell new) (added.stands cells (placed c) k l) ∙ cell_stays cells new (λ v h. added.live cells (placed c) v h) (cell_at cells k) (closed.at k)
      | inr l ↦ elim (cases_eq k (length cells)) [
        | inl e ↦ ap (λ n. is_closed_cell new (cell_at new n)) e ∙ ap (is_closed_cell new) (added.here cells c) ∙ h
        | inr n ↦ ap (is_closed_cell new) (added.past cells c k (omega (arith, n, l)))
      ]
    ]

pub pair_inside : (cells : List Cell) (k : ℕ) → is_pair_cell (cell_at cells k) ≡ true → k < length cells
pair_inside cells k h = go (nat_le (length cells) k) refl
  where
    go : (b : Bool) → nat_le (length cells) k ≡ b → k < length cells
    go true e =
        let past : cell_at cells k ≡ More = get_or-eq_default cells More (leb-true (length cells) k e) in
        let no_pair : false ≡ true = sym (ap is_pair_cell past) ∙ h in
        absurd (cc)
    go false e = leb-false (length cells) k e

pub closed_changed : (cells new : List Cell) (k : ℕ) (a d : Tagged) → LiveStays cells new → ((j : ℕ) → (j ≡ k → ⊥) → cell_at new j ≡ cell_at cells j) → cell_at new k ≡ PairCell a d → IsClosed cells → is_live cells a ≡ true → is_live cells d ≡ true → IsClosed new
closed_changed cells new k a d live others here closed la ld = record { at = at }
  where
    at : (j : ℕ) → is_closed_cell new (cell_at new j) ≡ true
    at j = elim (cases_eq j k) [
      | inl e ↦ ap (λ n. is_closed_cell new (cell_at new n)) e ∙ ap (is_closed_cell new) here ∙ both_true (is_live new a) (is_live new d) (live a la) (live d ld)
      | inr n ↦ ap (is_closed_cell new) (others j n) ∙ cell_stays cells new live (cell_at cells j) (closed.at j)
    ]

-- what a pair holds lives
pub parts_live : (cells : List Cell) (c : Cell) → is_pair_cell c ≡ true → is_closed_cell cells c ≡ true → (is_live cells (car_in c) ≡ true) × (is_live cells (cdr_in c) ≡ true)
parts_live cells (PairCell a d) h closed = and_parts (is_live cells a) (is_live cells d) closed
parts_live cells (StrCell bytes) h closed = absurd (cc)
parts_live cells (VectorCell xs) h closed = absurd (cc)
parts_live cells (BigCell z) h closed = absurd (cc)
parts_live cells (BlockCell t words) h closed = absurd (cc)
parts_live cells More h closed = absurd (cc)

pub closed_cdr : (cells : List Cell) (p v : Tagged) → LiveStays cells (changed_at cells p (PairCell (car_of cells p) v)) → is_pair cells p ≡ true → IsClosed cells → is_live cells v ≡ true → IsClosed (changed_at cells p (PairCell (car_of cells p) v))
closed_cdr cells (PairAt k) v live h closed lv =
    let c = PairCell (car_in (cell_at cells k)) v in
    closed_changed cells (changed_at cells (PairAt k) c) k (car_in (cell_at cells k)) v live (λ j n. get_or-set_other cells k j c More n) (get_or-set_same cells k c More (pair_inside cells k h)) closed (parts_live cells (cell_at cells k) h (closed.at k)).0 lv
closed_cdr cells p v live h closed lv = absurd (cc)
