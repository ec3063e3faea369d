-- The table stays where what was made past a place behind its names is released.
use Rattle.std.proofs.Common.{◌≡◌, ℕ, zero, suc, ◌<◌, ◌≤◌, ◌%◌, Bool, true, false, nat_le, cond, min, List, [], ◌∷◌, length, get_or, Option, Some, None, refl, sym, ap, ◌∙◌, arith}
use Rattle.std.specs.Prelude.{take}
use Rattle.std.specs.List.{list_all}
use Rattle.std.proofs.lemmas.Bool.{and_parts}
use Rattle.std.proofs.lemmas.List.{get_or-take, length-take}
use Rattle.rl_tags.specs.Tagged.{Tagged, Number, IdAt, StrAt, PairAt, VectorAt, BigAt, FunAt, index_of, tagged_of}
use Rattle.rl_cells.specs.Cell.{Cell, PairCell, StrCell, VectorCell, BigCell, BlockCell, More, IsClosed, bytes_in, bytes_of, cell_at, is_closed_cell, is_id_cell, is_live, is_live_word, is_str, is_str_cell, take_cells, words_in}
use Rattle.rl_syms.specs.Table.{Among, IsChained, IsLink, IsName, IsTable, held_in, ids_from, name_in_cells, next_at, nil_value, rank_of, symbol_of}
use Rattle.rl_syms.proofs.Carried.{Carries, among_chain, ids_carried}
use Rattle.rl_syms.proofs.Chained.{held_some}
use Rattle.rl_syms.proofs.New.{tested_inside}
use Rattle.rl_syms.proofs.Numbers.{ids_numbered}

-- ---- cells before the place

stands : (cells : List Cell) (n k : ℕ) → k < n → cell_at (take_cells n cells) k ≡ cell_at cells k
stands cells n k l = get_or-take n cells k More l

tested_before : (test : Cell → Bool) → test More ≡ false → (cells : List Cell) (n k : ℕ) → test (cell_at (take_cells n cells) k) ≡ true → k < n
tested_before test none cells n k h =
    let inside : k < length (take n cells) = tested_inside test none (take_cells n cells) k h in
    let long : length (take n cells) ≡ min n (length cells) = length-take n cells in
    omega (arith, inside, long)

id_before : (cells : List Cell) (n k : ℕ) → is_id_cell (cell_at (take_cells n cells) k) ≡ true → k < n
id_before cells n k h = tested_before is_id_cell refl cells n k h

-- ---- what is live

list_all_get : {A : Type 0} (p : A → Bool) (xs : List A) (i : ℕ) (d : A) → list_all p xs ≡ true → i < length xs → p (get_or xs i d) ≡ true
list_all_get p [] i d h l = absurd (omega (arith, l))
list_all_get p (x ∷ xs) zero d h l = (and_parts (p x) (list_all p xs) h).0
list_all_get p (x ∷ xs) (suc i) d h l = list_all_get p xs i d (and_parts (p x) (list_all p xs) h).1 (omega (arith, l))

word_live : (cells : List Cell) (k i : ℕ) → IsClosed cells → i < length (words_in (cell_at cells k)) → is_live_word cells (get_or (words_in (cell_at cells k)) i 0) ≡ true
word_live cells k i c = go (cell_at cells k) (c.at k)
  where
    go : (d : Cell) → is_closed_cell cells d ≡ true → i < length (words_in d) → is_live_word cells (get_or (words_in d) i 0) ≡ true
    go (BlockCell t words) h l = list_all_get (is_live_word cells) words i 0 h l
    go (PairCell a d) h l = absurd (omega (arith, l))
    go (StrCell bytes) h l = absurd (omega (arith, l))
    go (VectorCell xs) h l = absurd (omega (arith, l))
    go (BigCell z) h l = absurd (omega (arith, l))
    go More h l = absurd (omega (arith, l))

held_live : (cells : List Cell) (w : ℕ) (v : Tagged) → is_live_word cells w ≡ true → held_in w ≡ Some v → is_live cells v ≡ true
held_live cells w v h e = go (nat_le (w % 16) 6) h e
  where
    go : (b : Bool) → cond b (is_live cells (tagged_of w)) true ≡ true → cond b (Some (tagged_of w)) None ≡ Some v → is_live cells v ≡ true
    go true h e = let same : tagged_of w ≡ v = cc in sym (ap (is_live cells) same) ∙ h
    go false h e = absurd (cc)

-- a live value that is a string elsewhere is one here
string_live : (some all : List Cell) (v : Tagged) → is_str all v ≡ true → is_live some v ≡ true → is_str some v ≡ true
string_live some all (StrAt k) h l = l
string_live some all v h l = absurd (cc)

text_before : (cells : List Cell) (n : ℕ) (v : Tagged) → is_str (take_cells n cells) v ≡ true → bytes_of (take_cells n cells) v ≡ bytes_of cells v
text_before cells n (StrAt k) h = ap bytes_in (stands cells n k (tested_before is_str_cell refl cells n k h))
text_before cells n (Number z) h = refl
text_before cells n (IdAt k) h = refl
text_before cells n (PairAt k) h = refl
text_before cells n (VectorAt k) h = refl
text_before cells n (BigAt k) h = refl
text_before cells n (FunAt k) h = refl

str_before : (cells : List Cell) (n : ℕ) (v : Tagged) → is_str (take_cells n cells) v ≡ true → is_str cells v ≡ true
str_before cells n (StrAt k) h = sym (ap is_str_cell (stands cells n k (tested_before is_str_cell refl cells n k h))) ∙ h
str_before cells n v h = absurd (cc)

-- ---- the table

module _ (cells : List Cell) (n : ℕ) (head : Option Tagged) (t : IsTable cells head) (closed : IsClosed (take_cells n cells)) where
  abbrev left : List Cell
  left = take_cells n cells

  same : (k : ℕ) → is_id_cell (cell_at left k) ≡ true → cell_at left k ≡ cell_at cells k
  same k h = stands cells n k (id_before cells n k h)

  was : (k : ℕ) → is_id_cell (cell_at left k) ≡ true → is_id_cell (cell_at cells k) ≡ true
  was k h = sym (ap is_id_cell (same k h)) ∙ h

  is_left : (k : ℕ) → k < n → is_id_cell (cell_at cells k) ≡ true → is_id_cell (cell_at left k) ≡ true
  is_left k l h = ap is_id_cell (stands cells n k l) ∙ h

  carries : Carries left cells
  carries = record {
    id = was;
    name = λ k h. ap (λ c. get_or (words_in c) 0 0) (sym (same k h));
    next = λ k h. ap (λ c. (symbol_of (words_in c)).next) (sym (same k h));
    string = str_before cells n;
    text = λ v h. sym (text_before cells n v h);
  }

  named : (k : ℕ) → is_id_cell (cell_at left k) ≡ true → IsName left (held_in (get_or (words_in (cell_at left k)) 0 0)) (name_in_cells left k) × (name_in_cells left k ≡ name_in_cells cells k)
  named k h =
      let name = t.chained.named k (was k h) in
      let is : held_in (get_or (words_in (cell_at left k)) 0 0) ≡ Some name.text = ap (λ c. held_in (get_or (words_in c) 0 0)) (same k h) ∙ name.is in
      let six : length (words_in (cell_at left k)) ≡ 6 = ap (λ c. length (words_in c)) (same k h) ∙ t.chained.six k (was k h) in
      let live = held_live left (get_or (words_in (cell_at left k)) 0 0) name.text (word_live left k 0 closed (omega (arith, six))) is in
      let string = string_live left cells name.text name.string live in
      let text : tagged_of (get_or (words_in (cell_at left k)) 0 0) ≡ name.text = held_some (get_or (words_in (cell_at left k)) 0 0) name.text is in
      let there : tagged_of (get_or (words_in (cell_at cells k)) 0 0) ≡ name.text = held_some (get_or (words_in (cell_at cells k)) 0 0) name.text name.is in
      let e : name_in_cells left k ≡ name_in_cells cells k = ap (bytes_of left) text ∙ (text_before cells n name.text string ∙ ap (bytes_of cells) (sym there)) in
      (record { text = name.text; is = is; string = string; some = rw e name.some; short = rw e name.short }, e)

  link_left : (m : ℕ) (v : Option Tagged) → m ≤ n → IsLink cells m v → IsLink left m v
  link_left m None le p = tt
  link_left m (Some (IdAt j)) le p = (p.0, is_left j (omega (arith, p.0, le)) p.1)
  link_left m (Some v) le p = absurd p

  falls : (k : ℕ) → is_id_cell (cell_at left k) ≡ true → IsLink left k (next_at left k)
  falls k h =
      let before = id_before cells n k h in
      rw (ap (λ c. (symbol_of (words_in c)).next) (same k h)) (link_left k (next_at cells k) (omega (arith, before)) (t.chained.linked k (was k h)))

  chained_left : rank_of head ≤ n → IsChained left head
  chained_left le =
      let first = link_left (rank_of head) head le t.chained.first in
      let left_id : (k : ℕ) → Among k (ids_from left head) → is_id_cell (cell_at left k) ≡ true = λ k a. among_chain (rank_of head) (rank_of head) k left head falls first a in
      let ids : ids_from cells head ≡ ids_from left head = ids_carried left cells (rank_of head) head carries falls first in
      record {
        six = λ k h. ap (λ c. length (words_in c)) (same k h) ∙ t.chained.six k (was k h);
        named = λ k h. (named k h).0;
        listed = λ k h. rw (ap words_in (same k h)) (t.chained.listed k (was k h));
        linked = falls;
        first = first;
        distinct = λ j k a b e.
            let a' : Among j (ids_from cells head) = rw ids a in
            let b' : Among k (ids_from cells head) = rw ids b in
            t.chained.distinct j k a' b' (sym (named j (left_id j a)).1 ∙ e ∙ (named k (left_id k b)).1);
      }

  pub table_left : is_live (take_cells n cells) nil_value ≡ true → rank_of head ≤ n → IsTable (take_cells n cells) head
  table_left nil le = record {
    chained = chained_left le;
    nil = nil;
    first = ids_numbered.same cells left (index_of nil_value) (λ j l. ap is_id_cell (stands cells n j (omega (arith, l, id_before cells n (index_of nil_value) nil)))) ∙ t.first;
    defined = λ k h. rw (ap words_in (same k h)) (t.defined k (was k h));
  }
