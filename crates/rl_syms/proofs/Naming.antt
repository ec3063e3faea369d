-- A new identifier has the next number, and leaves what all means.
use Rattle.std.proofs.Common.{◌≡◌, ℕ, ◌+◌, ◌-◌, ◌≤◌, true, List, [], ◌++◌, length, Option, refl, ap, ◌∙◌, append_assoc, append-nil, arith, inl, inr}
use Rattle.std.proofs.lemmas.Grind.{flat_map-append}
use Rattle.std.proofs.lemmas.List.{length-append, length-replicate}
use Rattle.rl_tags.specs.Tagged.{Tagged, StrAt}
use Rattle.rl_tags.specs.declared.Tag.TheVariants as tag
use Rattle.rl_cells.specs.Cell.{Cell, CellStore, StrCell, BlockCell, More, IsClosed, cell_at, cost_of, is_id_cell, is_live, placed, words_in}
use Rattle.rl_cells.specs.Laws.{IsAdded}
use Rattle.rl_tree.specs.Value.{Value, Id}
use Rattle.rl_syms.specs.Contents.{ids_before, object_count, object_in, objects_meant, store_of, value_of}
use Rattle.rl_syms.specs.Table.{IsTable, ids_from, nil_value, rank_of}
use Rattle.rl_syms.specs.Made.{id_cost, new_words, with_id}
use Rattle.rl_syms.specs.Readings.{NamingMeans}
use Rattle.rl_syms.proofs.Numbers.{ids_numbered, none_between}
use Rattle.rl_syms.proofs.New.{adds_carries, with_id_adds, with_id_alone, with_id_block, with_id_new}
use Rattle.rl_syms.proofs.Chained.{within as inside}
use Rattle.rl_syms.proofs.Carried.{ids_carried, ids_new}
use Rattle.rl_syms.proofs.Blank.{blank_words}
use Rattle.rl_syms.proofs.Entered.{numbers_stay}
use Rattle.rl_syms.proofs.Meant.{none_in, objects_grow, rest_empty, value_stays}

-- the cells that a new identifier takes
pub length_new : (s : CellStore) (name : List ℕ) (plist : Tagged) (next : Option Tagged) → length (with_id s name plist next).cells ≡ length s.cells + id_cost name
length_new s name plist next =
    let text = length-replicate (cost_of (StrCell name) - 1) More in
    let block = placed (BlockCell tag.Id (new_words (StrAt (length s.cells)) plist next)) in
    omega (arith, text, length-append (s.cells ++ placed (StrCell name)) block, length-append s.cells (placed (StrCell name)))

-- among the new cells its own place alone is that of an identifier
not_elsewhere : IsAdded → (s : CellStore) (name : List ℕ) (plist : Tagged) (next : Option Tagged) (k : ℕ) → length s.cells ≤ k → (k ≡ length s.cells + cost_of (StrCell name) → ⊥) → is_id_cell (cell_at (with_id s name plist next).cells k) ≡ true → ⊥
not_elsewhere law s name plist next k l other h = elim (with_id_alone law s name plist next k h) [
  | inl e ↦ other e
  | inr o ↦ let i = inside s.cells k o in absurd (omega (arith, l, i))
]

pub number_new : IsAdded → (s : CellStore) (name : List ℕ) (plist : Tagged) (next : Option Tagged) → ids_before (with_id s name plist next).cells (length s.cells + cost_of (StrCell name)) ≡ ids_before s.cells (length s.cells)
number_new law s name plist next =
    let new = (with_id s name plist next).cells in
    none_between ids_numbered new (length s.cells) (cost_of (StrCell name)) (λ k l m. not_elsewhere law s name plist next k l (λ e. absurd (omega (arith, e, m))))
    ∙ numbers_stay s.cells new (length s.cells) (with_id_adds law s name plist next) (omega arith)

pub many_new : IsAdded → (s : CellStore) (name : List ℕ) (plist : Tagged) (next : Option Tagged) → ids_before (with_id s name plist next).cells (length (with_id s name plist next).cells) ≡ ids_before s.cells (length s.cells) + 1
many_new law s name plist next =
    let new = (with_id s name plist next).cells in
    let place = length s.cells + cost_of (StrCell name) in
    let long : length new ≡ place + 1 + 2 = length_new s name plist next ∙ omega arith in
    let is : is_id_cell (cell_at new place) ≡ true = ap is_id_cell (with_id_block law s name plist next) in
    ap (ids_before new) long
    ∙ none_between ids_numbered new (place + 1) 2 (λ k l m. not_elsewhere law s name plist next k (omega (arith, l)) (λ e. absurd (omega (arith, e, l))))
    ∙ ids_numbered.here new place is
    ∙ ap (λ n. n + 1) (number_new law s name plist next)

values_new : IsAdded → (s : CellStore) (name : List ℕ) (plist : Tagged) (next : Option Tagged) (v : Tagged) → is_live s.cells v ≡ true → value_of (with_id s name plist next).cells v ≡ value_of s.cells v
values_new law s name plist next v h =
    let text = placed (StrCell name) in
    let block = placed (BlockCell tag.Id (new_words (StrAt (length s.cells)) plist next)) in
    value_stays (s.cells ++ text) block v (law.live s.cells text v h) ∙ value_stays s.cells text v h

placed_none : (f : Tagged → Value) (c : Cell) → object_count c ≡ 0 → objects_meant f (placed c) ≡ []
placed_none f c h = rw (none_in f c h, rest_empty f (cost_of c - 1)) refl

store_new : IsAdded → (s : CellStore) (name : List ℕ) (plist : Tagged) (next : Option Tagged) → IsClosed s.cells → store_of (with_id s name plist next).cells ≡ store_of s.cells
store_new law s name plist next closed =
    let text = placed (StrCell name) in
    let words = new_words (StrAt (length s.cells)) plist next in
    let block = placed (BlockCell tag.Id words) in
    let f = value_of s.cells in
    let g = value_of (with_id s name plist next).cells in
    ap (objects_meant g) (append_assoc s.cells text block)
    ∙ objects_grow f g s.cells (text ++ block) closed (values_new law s name plist next)
    ∙ ap (λ os. objects_meant f s.cells ++ os) (flat_map-append (object_in g) text block ∙ rw (placed_none g (StrCell name) refl, placed_none g (BlockCell tag.Id words) refl) refl)
    ∙ append-nil (objects_meant f s.cells)

chain_new : IsAdded → (s : CellStore) (name : List ℕ) (link head : Option Tagged) → IsTable s.cells head → ids_from (with_id s name nil_value link).cells head ≡ ids_from s.cells head
chain_new law s name link head t = ids_carried s.cells (with_id s name nil_value link).cells (rank_of head) head (adds_carries s.cells (with_id s name nil_value link).cells (with_id_adds law s name nil_value link)) t.chained.linked t.chained.first

pub naming_means : IsAdded → NamingMeans
naming_means law = record {
  values = λ s name link. values_new law s name nil_value link;
  named = λ s name link. ap Id (number_new law s name nil_value link);
  many = λ s name link. many_new law s name nil_value link;
  store = λ s name link. store_new law s name nil_value link;
  only = λ s name link. with_id_alone law s name nil_value link;
  blank = λ s name link. rw (ap words_in (with_id_block law s name nil_value link)) (blank_words (StrAt (length s.cells)) link);
  chain = chain_new law;
  entered = λ s name head some short t.
      let new = (with_id s name nil_value head).cells in
      ids_new s.cells new head name (length s.cells + cost_of (StrCell name)) (adds_carries s.cells new (with_id_adds law s name nil_value head)) (with_id_new law s name nil_value head some short refl t.chained.first) t.chained;
}
