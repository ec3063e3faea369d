-- The table after a new identifier.
use Rattle.std.proofs.Common.{◌≡◌, ℕ, ◌+◌, ◌*◌, ◌/◌, ◌%◌, ◌<◌, ◌≤◌, ◌⊎◌, Bool, true, false, List, ◌++◌, length, get_or, Option, Some, None, refl, sym, ap, ◌∙◌, arith, inl, inr}
use Rattle.std.proofs.lemmas.List.{get_or_past}
use Rattle.std.proofs.lemmas.Bool.{cases_lt, cases_order}
use Rattle.std.specs.Prelude.{IsSome}
use Rattle.rl_tags.specs.Tagged.{Tagged, Number, IdAt, StrAt, PairAt, VectorAt, BigAt, FunAt, tagged_of, word_of}
use Rattle.rl_tags.specs.declared.Tag.TheVariants as tag
use Rattle.rl_cells.specs.Cell.{Cell, CellStore, StrCell, BlockCell, More, cell_at, cost_of, placed, is_id_cell, is_str, is_str_cell, is_live, words_in, bytes_of, bytes_in}
use Rattle.rl_cells.specs.Laws.{IsAdded}
use Rattle.rl_syms.specs.Table.{IsLink, held_in, name_in_cells, rank_of}
use Rattle.rl_syms.specs.Made.{new_words, option_word, with_id}
use Rattle.rl_syms.specs.Frame.{Adds}
use Rattle.rl_syms.proofs.Chained.{within, ids_of}
use Rattle.rl_syms.proofs.Carried.{Carries, IsNew}

pub tested_inside : (test : Cell → Bool) → test More ≡ false → (cells : List Cell) (k : ℕ) → test (cell_at cells k) ≡ true → k < length cells
tested_inside test fails cells k h = elim (cases_lt k (length cells)) [
  | inl l ↦ l
  | inr l ↦ let e : true ≡ false = sym h ∙ ap test (get_or_past cells k More l) ∙ fails in cc
]

-- a place in the longer list is an old one, the new object, or past it
pub data Where (cells : List Cell) (c : Cell) (k : ℕ) : Type 0 where
  before : k < length cells → cell_at (cells ++ placed c) k ≡ cell_at cells k → Where cells c k
  here : k ≡ length cells → cell_at (cells ++ placed c) k ≡ c → Where cells c k
  after : length cells < k → cell_at (cells ++ placed c) k ≡ More → Where cells c k

pub where_is : IsAdded → (cells : List Cell) (c : Cell) (k : ℕ) → Where cells c k
where_is law cells c k = elim (cases_order k (length cells)) [
  | inl e ↦ here e (rw e (law.here cells c))
  | inr o ↦ elim o [
    | inl l ↦ before l (law.stands cells (placed c) k l)
    | inr l ↦ after l (law.past cells c k l)
  ]
]

string_stands : (old new : List Cell) (v : Tagged) → Adds old new → is_str old v ≡ true → (is_str new v ≡ true) × (bytes_of new v ≡ bytes_of old v)
string_stands old new (StrAt k) a h =
    let same : cell_at new k ≡ cell_at old k = a.stands k (tested_inside is_str_cell refl old k h) in
    (ap is_str_cell same ∙ h, ap bytes_in same)
string_stands old new (Number k) a h = let e : false ≡ true = h in cc
string_stands old new (IdAt k) a h = let e : false ≡ true = h in cc
string_stands old new (PairAt k) a h = let e : false ≡ true = h in cc
string_stands old new (VectorAt k) a h = let e : false ≡ true = h in cc
string_stands old new (BigAt k) a h = let e : false ≡ true = h in cc
string_stands old new (FunAt k) a h = let e : false ≡ true = h in cc

pub adds_carries : (old new : List Cell) → Adds old new → Carries old new
adds_carries old new a = record {
  id = λ k h. ap is_id_cell (a.stands k (within old k h)) ∙ h;
  name = λ k h. ap (λ c. get_or (words_in c) 0 0) (a.stands k (within old k h));
  next = λ k h. ap (λ c. held_in (get_or (words_in c) 5 0)) (a.stands k (within old k h));
  string = λ v h. (string_stands old new v a h).0;
  text = λ v h. (string_stands old new v a h).1;
}

held_id : (k : ℕ) → held_in (16 * k + 1) ≡ Some (IdAt k)
held_id k =
    let m : (16 * k + 1) % 16 ≡ 1 = omega arith in
    let d : (16 * k + 1) / 16 ≡ k = omega arith in
    rw (m, d) refl

held_str : (k : ℕ) → held_in (16 * k + 2) ≡ Some (StrAt k)
held_str k =
    let m : (16 * k + 2) % 16 ≡ 2 = omega arith in
    let d : (16 * k + 2) / 16 ≡ k = omega arith in
    rw (m, d) refl

tagged_str : (k : ℕ) → tagged_of (16 * k + 2) ≡ StrAt k
tagged_str k =
    let m : (16 * k + 2) % 16 ≡ 2 = omega arith in
    let d : (16 * k + 2) / 16 ≡ k = omega arith in
    rw (m, d) refl

held_link : (cells : List Cell) (n : ℕ) (v : Option Tagged) → IsLink cells n v → held_in (option_word v) ≡ v
held_link cells n None p = refl
held_link cells n (Some (IdAt k)) p = held_id k
held_link cells n (Some v) p = absurd p

pub link_live : (cells : List Cell) (n : ℕ) (v : Option Tagged) (x : Tagged) → IsLink cells n v → v ≡ Some x → is_live cells x ≡ true
link_live cells n v x p e = go x (rw e at p)
  where
    go : (y : Tagged) → IsLink cells n (Some y) → is_live cells y ≡ true
    go (IdAt k) q = q.1
    go y q = absurd q

pub with_id_adds : IsAdded → (s : CellStore) (name : List ℕ) (plist : Tagged) (next : Option Tagged) → Adds s.cells (with_id s name plist next).cells
with_id_adds law s name plist next =
    let text = placed (StrCell name) in
    let block = placed (BlockCell tag.Id (new_words (StrAt (length s.cells)) plist next)) in
    let long : length (s.cells ++ text) ≡ length s.cells + cost_of (StrCell name) = law.long s.cells (StrCell name) (omega arith) in
    let stands : (k : ℕ) → k < length s.cells → cell_at ((s.cells ++ text) ++ block) k ≡ cell_at s.cells k = λ k (l : k < length s.cells). law.stands (s.cells ++ text) block k (omega (arith, long)) ∙ law.stands s.cells text k l in
    record {
      live = λ v h. law.live (s.cells ++ text) block v (law.live s.cells text v h);
      ids = ids_of s.cells ((s.cells ++ text) ++ block) (λ k h. ap is_id_cell (stands k (within s.cells k h)) ∙ h);
      stands = stands;
    }

pub with_id_block : IsAdded → (s : CellStore) (name : List ℕ) (plist : Tagged) (next : Option Tagged)
    → cell_at (with_id s name plist next).cells (length s.cells + cost_of (StrCell name)) ≡ BlockCell tag.Id (new_words (StrAt (length s.cells)) plist next)
with_id_block law s name plist next =
    let words = new_words (StrAt (length s.cells)) plist next in
    let first = s.cells ++ placed (StrCell name) in
    let long : length first ≡ length s.cells + cost_of (StrCell name) = law.long s.cells (StrCell name) (omega arith) in
    ap (cell_at (first ++ placed (BlockCell tag.Id words))) (sym long) ∙ law.here first (BlockCell tag.Id words)

-- an object that is no identifier
not_id : (c d : Cell) → c ≡ d → is_id_cell d ≡ false → is_id_cell c ≡ true → ⊥
not_id c d e f h = let z : true ≡ false = sym h ∙ ap is_id_cell e ∙ f in cc

-- no other identifier is new
pub with_id_alone : IsAdded → (s : CellStore) (name : List ℕ) (plist : Tagged) (next : Option Tagged) (k : ℕ) → is_id_cell (cell_at (with_id s name plist next).cells k) ≡ true → (k ≡ length s.cells + cost_of (StrCell name)) ⊎ (is_id_cell (cell_at s.cells k) ≡ true)
with_id_alone law s name plist next k h =
    let words = new_words (StrAt (length s.cells)) plist next in
    let first = s.cells ++ placed (StrCell name) in
    let new = first ++ placed (BlockCell tag.Id words) in
    let long : length first ≡ length s.cells + cost_of (StrCell name) = law.long s.cells (StrCell name) (omega arith) in
    elim (where_is law first (BlockCell tag.Id words) k) [
      | before l e ↦ elim (where_is law s.cells (StrCell name) k) [
        | before m f ↦ inr (ap is_id_cell (sym f) ∙ ap is_id_cell (sym e) ∙ h)
        | here m f ↦ absurd (not_id (cell_at new k) (StrCell name) (e ∙ f) refl h)
        | after m f ↦ absurd (not_id (cell_at new k) More (e ∙ f) refl h)
      ]
      | here l e ↦ inl (l ∙ long)
      | after l e ↦ absurd (not_id (cell_at new k) More e refl h)
    ]

pub with_id_new : IsAdded → (s : CellStore) (name : List ℕ) (plist : Tagged) (next : Option Tagged) → 1 ≤ length name → length name ≤ 255 → IsSome (held_in (word_of plist)) → IsLink s.cells (rank_of next) next
    → IsNew s.cells (with_id s name plist next).cells next name (length s.cells + cost_of (StrCell name))
with_id_new law s name plist next some short listed link =
    let words = new_words (StrAt (length s.cells)) plist next in
    let first = s.cells ++ placed (StrCell name) in
    let new = first ++ placed (BlockCell tag.Id words) in
    let n = length s.cells + cost_of (StrCell name) in
    let long : length first ≡ n = law.long s.cells (StrCell name) (omega arith) in
    let block : cell_at new n ≡ BlockCell tag.Id words = ap (cell_at new) (sym long) ∙ law.here first (BlockCell tag.Id words) in
    let text : cell_at new (length s.cells) ≡ StrCell name = law.stands first (placed (BlockCell tag.Id words)) (length s.cells) (omega (arith, long)) ∙ law.here s.cells (StrCell name) in
    let name_is : name_in_cells new n ≡ name = ap (λ c. bytes_of new (tagged_of (get_or (words_in c) 0 0))) block ∙ ap (bytes_of new) (tagged_str (length s.cells)) ∙ ap bytes_in text in
    let adds = with_id_adds law s name plist next in
    record {
      id = ap is_id_cell block;
      six = ap (λ c. length (words_in c)) block;
      named = record {
        text = StrAt (length s.cells);
        is = ap (λ c. held_in (get_or (words_in c) 0 0)) block ∙ held_str (length s.cells);
        string = ap is_str_cell text;
        some = rw name_is some;
        short = rw name_is short;
      };
      name_is = name_is;
      listed = rw block listed;
      next = ap (λ c. held_in (get_or (words_in c) 5 0)) block ∙ held_link s.cells (rank_of next) next link;
      above = omega arith;
      alone = with_id_alone law s name plist next;
      same = λ k h. ap words_in (adds.stands k (within s.cells k h));
    }
