-- What making and changing other objects leaves: identifiers and their names.
use Rattle.std.proofs.Common.{◌≡◌, ℕ, ◌<◌, ◌≤◌, true, List, ◌++◌, length, get_or, set, Option, None, refl, sym, ap, ◌∙◌, arith, length-set}
use Rattle.std.proofs.lemmas.List.{get_or_append_left, get_or_past}
use Rattle.rl_tags.specs.declared.Tag.TheVariants as tag
use Rattle.rl_tags.specs.Tagged.{Tagged, Number, IdAt, StrAt, PairAt, VectorAt, BigAt, FunAt, tagged_of}
use Rattle.rl_cells.specs.Cell.{Cell, PairCell, VectorCell, BlockCell, More, block_with, cell_at, placed, is_id_cell, is_fun_cell, is_str_cell, is_pair_cell, is_vector_cell, is_pair, is_vector, is_str, bytes_of, bytes_in, vector_in, vector_of, words_in, changed_at}
use Rattle.rl_cells.specs.Laws.{IsAdded, IsChanged, SameKind}
use Rattle.rl_syms.specs.Table.{IsTable, IsNamed, is_id, name_in_cells}
use Rattle.rl_syms.specs.Frame.{KeepsIdentifiers, words_of_id}
use Rattle.rl_syms.proofs.Carried.{among_id}
use Rattle.rl_syms.proofs.Chained.{held_some}
use Rattle.rl_syms.proofs.New.{tested_inside, where_is, before, here, after}
use Rattle.rl_syms.proofs.Changed.{part_stays, text_same}

-- ---- what is added

text_stays : (cells more : List Cell) (v : Tagged) → is_str cells v ≡ true → bytes_of (cells ++ more) v ≡ bytes_of cells v
text_stays cells more (StrAt k) h = ap bytes_in (get_or_append_left cells more More k (tested_inside is_str_cell refl cells k h))
text_stays cells more (Number z) h = refl
text_stays cells more (IdAt k) h = refl
text_stays cells more (PairAt k) h = refl
text_stays cells more (VectorAt k) h = refl
text_stays cells more (BigAt k) h = refl
text_stays cells more (FunAt k) h = refl

-- no identifier begins past the cells
none_past : (cells : List Cell) (k : ℕ) → length cells ≤ k → None ≡ words_of_id (cell_at cells k)
none_past cells k l = sym (ap words_of_id (get_or_past cells k More l))

pub made_leaves : IsAdded → (cells : List Cell) (c : Cell) → words_of_id c ≡ None → KeepsIdentifiers cells (cells ++ placed c)
made_leaves law cells c none = record {
  live = law.live cells (placed c);
  texts = text_stays cells (placed c);
  words = λ k. elim (where_is law cells c k) [
    | before l e ↦ ap words_of_id e
    | here l e ↦ ap words_of_id e ∙ (none ∙ none_past cells k (omega arith))
    | after l e ↦ ap words_of_id e ∙ none_past cells k (omega arith)
  ];
}

pub name_stays : (cells more : List Cell) (head : Option Tagged) (k : ℕ) → IsTable cells head → is_id_cell (cell_at cells k) ≡ true → name_in_cells (cells ++ more) k ≡ name_in_cells cells k
name_stays cells more head k table h =
    let same : cell_at (cells ++ more) k ≡ cell_at cells k = get_or_append_left cells more More k (tested_inside is_id_cell refl cells k h) in
    let n = table.chained.named k h in
    let is : tagged_of (get_or (words_in (cell_at cells k)) 0 0) ≡ n.text = held_some (get_or (words_in (cell_at cells k)) 0 0) n.text n.is in
    ap (λ c. bytes_of (cells ++ more) (tagged_of (get_or (words_in c) 0 0))) same ∙ (ap (bytes_of (cells ++ more)) is ∙ (text_stays cells more n.text n.string ∙ ap (bytes_of cells) (sym is)))

pub named_is_id : (cells : List Cell) (head : Option Tagged) (bytes : List ℕ) (id : Tagged) → IsTable cells head → IsNamed cells head bytes id → is_id cells id ≡ true
named_is_id cells head bytes id table named =
    ap (is_id cells) named.interned.0 ∙ among_id cells head _ table.chained named.interned.1

-- ---- what is changed

changed_leaves : IsChanged → (cells : List Cell) (k : ℕ) (c : Cell) → k < length cells → SameKind c (cell_at cells k) → bytes_in c ≡ bytes_in (cell_at cells k) → words_of_id c ≡ words_of_id (cell_at cells k) → KeepsIdentifiers cells (set cells k c)
changed_leaves law cells k c l kind bytes block = record {
  live = λ v h. law.live cells k c v l kind ∙ h;
  texts = λ v h. text_same cells k c v bytes;
  words = λ j. part_stays words_of_id cells k c j block;
}

pair_kind : (c : Cell) (a d : Tagged) → is_pair_cell c ≡ true → SameKind (PairCell a d) c
pair_kind (PairCell x y) a d h = record { cost = refl; pair = refl; str = refl; vector = refl; big = refl; id = refl; «fun» = refl }
pair_kind c a d h = cc

vector_kind : (c : Cell) (xs : List Tagged) → is_vector_cell c ≡ true → length xs ≡ length (vector_in c) → SameKind (VectorCell xs) c
vector_kind (VectorCell ys) xs h e = record { cost = rw e refl; pair = refl; str = refl; vector = refl; big = refl; id = refl; «fun» = refl }
vector_kind c xs h e = cc

pair_no_text : (c : Cell) (a d : Tagged) → is_pair_cell c ≡ true → (bytes_in (PairCell a d) ≡ bytes_in c) × (words_of_id (PairCell a d) ≡ words_of_id c)
pair_no_text (PairCell x y) a d h = (refl, refl)
pair_no_text c a d h = absurd (cc)

vector_no_text : (c : Cell) (xs : List Tagged) → is_vector_cell c ≡ true → (bytes_in (VectorCell xs) ≡ bytes_in c) × (words_of_id (VectorCell xs) ≡ words_of_id c)
vector_no_text (VectorCell ys) xs h = (refl, refl)
vector_no_text c xs h = absurd (cc)

pub pair_leaves : IsChanged → (cells : List Cell) (p a d : Tagged) → is_pair cells p ≡ true → KeepsIdentifiers cells (changed_at cells p (PairCell a d))
pair_leaves law cells (PairAt k) a d h =
    let same = pair_no_text (cell_at cells k) a d h in
    changed_leaves law cells k (PairCell a d) (tested_inside is_pair_cell refl cells k h) (pair_kind (cell_at cells k) a d h) same.0 same.1
pair_leaves law cells p a d h = absurd (cc)

block_kind : (c : Cell) (i w : ℕ) → is_fun_cell c ≡ true → SameKind (block_with c i w) c
block_kind (BlockCell tag.Fun words) i w h = record { cost = rw (length-set words i w) refl; pair = refl; str = refl; vector = refl; big = refl; id = refl; «fun» = refl }
block_kind c i w h = absurd (cc)

block_no_text : (c : Cell) (i w : ℕ) → is_fun_cell c ≡ true → (bytes_in (block_with c i w) ≡ bytes_in c) × (words_of_id (block_with c i w) ≡ words_of_id c)
block_no_text (BlockCell tag.Fun words) i w h = (refl, refl)
block_no_text c i w h = absurd (cc)

pub word_leaves : IsChanged → (cells : List Cell) (k i w : ℕ) → is_fun_cell (cell_at cells k) ≡ true → KeepsIdentifiers cells (changed_at cells (FunAt k) (block_with (cell_at cells k) i w))
word_leaves law cells k i w h =
    let same = block_no_text (cell_at cells k) i w h in
    changed_leaves law cells k (block_with (cell_at cells k) i w) (tested_inside is_fun_cell refl cells k h) (block_kind (cell_at cells k) i w h) same.0 same.1

pub vector_leaves : IsChanged → (cells : List Cell) (v : Tagged) (xs : List Tagged) → is_vector cells v ≡ true → length xs ≡ length (vector_of cells v) → KeepsIdentifiers cells (changed_at cells v (VectorCell xs))
vector_leaves law cells (VectorAt k) xs h e =
    let same = vector_no_text (cell_at cells k) xs h in
    changed_leaves law cells k (VectorCell xs) (tested_inside is_vector_cell refl cells k h) (vector_kind (cell_at cells k) xs h e) same.0 same.1
vector_leaves law cells v xs h e = absurd (cc)
