-- Values that are EQ are the same one, but strings and integers.
use Rattle.std.proofs.Common.{◌≡◌, ◌≢◌, ℕ, ◌+◌, ◌<◌, ◌%◌, ◌/◌, ◌^◌, ◌*◌, zero, suc, Bool, true, false, ◌==◌, ◌&&◌, List, [], ◌∷◌, take, refl, sym, ap, ◌∙◌, arith}
use Rattle.std.specs.Prelude.{IsTrue, ◌↔◌, nat_lt}
use Rattle.std.proofs.lemmas.Bool.{eqb-true, eqb-false, ltb-true, ltb-false}
use Rattle.rl_tags.specs.Tagged.{Tagged, Number, IdAt, StrAt, PairAt, VectorAt, BigAt, FunAt, index_of, tag_of}
use Rattle.rl_tags.specs.declared.Tag.TheVariants as tag
use Rattle.rl_cells.specs.Cell.{Cell, PairCell, StrCell, VectorCell, BigCell, BlockCell, More, cell_at, is_live, is_pair_cell, is_vector_cell}
use Rattle.rl_meaning.specs.Symbols.{same}
use Rattle.rl_syms.specs.Contents.{funs_before, ids_before, number_at, object_count, objects_among, value_of}
use Rattle.rl_syms.specs.Numbers.{FunctionsAreNumbered, IdentifiersAreNumbered}

-- ---- objects are numbered by their making

number_rises : (cells : List Cell) (j k : ℕ) → j < k → object_count (cell_at cells j) ≡ 1 → number_at cells j < number_at cells k
number_rises [] zero k l e = absurd (cc)
number_rises [] (suc j) k l e = absurd (cc)
number_rises (c ∷ cells) j zero l e = omega (arith, l)
number_rises (c ∷ cells) zero (suc k) l e = omega (arith, e)
number_rises (c ∷ cells) (suc j) (suc k) l e = let r = number_rises cells j k (omega (arith, l)) e in omega (arith, r)

number_distinct : (cells : List Cell) (j k : ℕ) → object_count (cell_at cells j) ≡ 1 → object_count (cell_at cells k) ≡ 1 → number_at cells j ≡ number_at cells k → j ≡ k
number_distinct cells j k e f same = go (nat_lt j k) refl (nat_lt k j) refl
  where
    go : (b : Bool) → nat_lt j k ≡ b → (c : Bool) → nat_lt k j ≡ c → j ≡ k
    go true p c q = let r = number_rises cells j k (ltb-true j k p) e in omega (arith, r, same)
    go false p true q = let r = number_rises cells k j (ltb-true k j q) f in omega (arith, r, same)
    go false p false q = let l = ltb-false j k p in let m = ltb-false k j q in omega (arith, l, m)

one_pair : (c : Cell) → is_pair_cell c ≡ true → object_count c ≡ 1
one_pair (PairCell a d) h = refl
one_pair (StrCell b) h = absurd (cc)
one_pair (VectorCell xs) h = absurd (cc)
one_pair (BigCell z) h = absurd (cc)
one_pair (BlockCell t ws) h = absurd (cc)
one_pair More h = absurd (cc)

one_vector : (c : Cell) → is_vector_cell c ≡ true → object_count c ≡ 1
one_vector (VectorCell xs) h = refl
one_vector (StrCell b) h = absurd (cc)
one_vector (PairCell a d) h = absurd (cc)
one_vector (BigCell z) h = absurd (cc)
one_vector (BlockCell t ws) h = absurd (cc)
one_vector More h = absurd (cc)

not_both : (c : Cell) → is_pair_cell c ≡ true → is_vector_cell c ≡ true → ⊥
not_both (PairCell a d) h i = absurd (cc)
not_both (VectorCell xs) h i = absurd (cc)
not_both (StrCell b) h i = absurd (cc)
not_both (BigCell z) h i = absurd (cc)
not_both (BlockCell t ws) h i = absurd (cc)
not_both More h i = absurd (cc)

-- ---- the test of words

abbrev Tells : Bool → Tagged → Tagged → Type 0
Tells b u v = IsTrue b ↔ (u ≡ v)

by_test : (b c : Bool) (P : Type 0) → (IsTrue b ↔ P) → (P → c ≡ true) → (c ≡ true → P) → b ≡ c
by_test true c P t to from = sym (to (t.0 refl))
by_test false true P t to from = t.1 (from refl)
by_test false false P t to from = refl

none_same : (b : Bool) (P : Type 0) → (IsTrue b ↔ P) → (P → ⊥) → b ≡ false
none_same true P t ne = absurd (ne (t.0 refl))
none_same false P t ne = refl

equal_to_itself : (n : ℕ) → (n == n) ≡ true
equal_to_itself n = go (n == n) refl
  where
    go : (b : Bool) → (n == n) ≡ b → (n == n) ≡ true
    go true e = e
    go false e = absurd (eqb-false n n e refl)

both_true : (m n : Bool) → (m && n) ≡ true → (m ≡ true) × (n ≡ true)
both_true true true e = (refl, refl)
both_true true false e = absurd (cc)
both_true false n e = absurd (cc)

place_of : (k : ℕ) → k ≡ k / 2 ^ 32 * 2 ^ 32 + k % 2 ^ 32
place_of k = omega arith

module _ (ids : IdentifiersAreNumbered) (funs : FunctionsAreNumbered) (cells : List Cell) where
  same_places : (j k : ℕ) → FunAt j ≡ FunAt k → (funs_before cells (j % 2 ^ 32) == funs_before cells (k % 2 ^ 32) && j / 2 ^ 32 == k / 2 ^ 32) ≡ true
  same_places j k e =
      let i : j ≡ k = ap index_of e in
      ap (λ z. funs_before cells (j % 2 ^ 32) == funs_before cells (z % 2 ^ 32) && j / 2 ^ 32 == z / 2 ^ 32) (sym i)
      ∙ ap (λ b. b && j / 2 ^ 32 == j / 2 ^ 32) (equal_to_itself (funs_before cells (j % 2 ^ 32))) ∙ equal_to_itself (j / 2 ^ 32)

  same_function : (j k : ℕ) → is_live cells (FunAt j) ≡ true → is_live cells (FunAt k) ≡ true → (funs_before cells (j % 2 ^ 32) == funs_before cells (k % 2 ^ 32) && j / 2 ^ 32 == k / 2 ^ 32) ≡ true → FunAt j ≡ FunAt k
  same_function j k h i e =
      let p = both_true _ _ e in
      let q = funs.distinct cells (j % 2 ^ 32) (k % 2 ^ 32) h i (eqb-true _ _ p.0) in
      let r = eqb-true _ _ p.1 in
      ap FunAt (place_of j ∙ ap (λ n. n * 2 ^ 32 + j % 2 ^ 32) r ∙ ap (λ n. k / 2 ^ 32 * 2 ^ 32 + n) q ∙ sym (place_of k))

  -- values other than strings and integers
  pub same_words : (u v : Tagged) (b : Bool) → is_live cells u ≡ true → is_live cells v ≡ true → tag_of u ≢ tag.Int → tag_of u ≢ tag.Big → tag_of u ≢ tag.Str → Tells b u v → b ≡ same (value_of cells u) (value_of cells v)
  same_words (Number n) v b h i ni nb ns t = absurd (ni refl)
  same_words (BigAt k) v b h i ni nb ns t = absurd (nb refl)
  same_words (StrAt k) v b h i ni nb ns t = absurd (ns refl)
  same_words (IdAt j) (IdAt k) b h i ni nb ns t = by_test b _ (IdAt j ≡ IdAt k) t (λ e. ap (λ z. ids_before cells j == ids_before cells z) (sym (ap index_of e)) ∙ equal_to_itself (ids_before cells j)) (λ e. ap IdAt (ids.distinct cells j k h i (eqb-true _ _ e)))
  same_words (PairAt j) (PairAt k) b h i ni nb ns t = by_test b _ (PairAt j ≡ PairAt k) t (λ e. ap (λ z. number_at cells j == number_at cells z) (sym (ap index_of e)) ∙ equal_to_itself (number_at cells j)) (λ e. ap PairAt (number_distinct cells j k (one_pair _ h) (one_pair _ i) (eqb-true _ _ e)))
  same_words (VectorAt j) (VectorAt k) b h i ni nb ns t = by_test b _ (VectorAt j ≡ VectorAt k) t (λ e. ap (λ z. number_at cells j == number_at cells z) (sym (ap index_of e)) ∙ equal_to_itself (number_at cells j)) (λ e. ap VectorAt (number_distinct cells j k (one_vector _ h) (one_vector _ i) (eqb-true _ _ e)))
  same_words (PairAt j) (VectorAt k) b h i ni nb ns t = by_test b _ (PairAt j ≡ VectorAt k) t (λ e. absurd (cc)) (λ e.
      absurd (let at : j ≡ k = number_distinct cells j k (one_pair _ h) (one_vector _ i) (eqb-true _ _ e) in not_both (cell_at cells j) h (ap (λ z. is_vector_cell (cell_at cells z)) at ∙ i)))
  same_words (VectorAt j) (PairAt k) b h i ni nb ns t = by_test b _ (VectorAt j ≡ PairAt k) t (λ e. absurd (cc)) (λ e.
      absurd (let at : j ≡ k = number_distinct cells j k (one_vector _ h) (one_pair _ i) (eqb-true _ _ e) in not_both (cell_at cells j) (ap (λ z. is_pair_cell (cell_at cells z)) at ∙ i) h))
  same_words (FunAt j) (FunAt k) b h i ni nb ns t = by_test b _ (FunAt j ≡ FunAt k) t (same_places j k) (same_function j k h i)
  same_words (IdAt j) v b h i ni nb ns t = none_same b (IdAt j ≡ v) t (λ e. absurd (cc))
  same_words (PairAt j) v b h i ni nb ns t = none_same b (PairAt j ≡ v) t (λ e. absurd (cc))
  same_words (VectorAt j) v b h i ni nb ns t = none_same b (VectorAt j ≡ v) t (λ e. absurd (cc))
  same_words (FunAt j) v b h i ni nb ns t = none_same b (FunAt j ≡ v) t (λ e. absurd (cc))
