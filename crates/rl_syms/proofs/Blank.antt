-- What opening makes of the table, name by name.
use Rattle.std.proofs.Common.{◌≡◌, ℕ, ◌+◌, ◌≤◌, ◌⊎◌, true, false, List, [], ◌∷◌, ◌++◌, length, Option, Some, None, refl, sym, ap, ◌∙◌, inl, inr}
use Rattle.rl_tags.specs.Tagged.{Tagged, IdAt, StrAt, index_of}
use Rattle.rl_tags.specs.declared.Tag.TheVariants as tag
use Rattle.rl_cells.specs.Cell.{Cell, CellStore, StrCell, BlockCell, cell_at, cost_of, placed, is_id_cell, words_in}
use Rattle.rl_cells.specs.Laws.{IsAdded}
use Rattle.rl_syms.specs.Table.{IsChained, IsTable, IsNamed, ids_from, name_in_cells, symbol_in_cells, symbol_of, nil_value}
use Rattle.rl_syms.specs.Made.{new_words, new_id, with_id, Finds, Enters}
use Rattle.rl_syms.specs.Opened.{IsOpeningName, IsBlank, IsOpened, is_name_cell}
use Rattle.rl_syms.proofs.Carried.{ids_new, among_along, among_id, name_carried}
use Rattle.rl_syms.proofs.New.{adds_carries, with_id_adds, with_id_block, with_id_new, where_is, before, here, after}

-- each cell that a new name takes is one of a name
objects_new : IsAdded → (s : CellStore) (name : List ℕ) (plist : Tagged) (next : Option Tagged) → ((k : ℕ) → is_name_cell (cell_at s.cells k) ≡ true) → (k : ℕ) → is_name_cell (cell_at (with_id s name plist next).cells k) ≡ true
objects_new law s name plist next h k =
    let first = s.cells ++ placed (StrCell name) in
    let block = BlockCell tag.Id (new_words (StrAt (length s.cells)) plist next) in
    elim (where_is law first block k) [
      | before l e ↦ elim (where_is law s.cells (StrCell name) k) [
        | before m f ↦ ap is_name_cell (e ∙ f) ∙ h k
        | here m f ↦ ap is_name_cell (e ∙ f)
        | after m f ↦ ap is_name_cell (e ∙ f)
      ]
      | here l e ↦ ap is_name_cell e
      | after l e ↦ ap is_name_cell e
    ]

pub blank_words : (text : Tagged) (next : Option Tagged) → IsBlank (symbol_of (new_words text nil_value next))
blank_words text next = record { value = refl; plist = refl; definition = refl; kind = refl }

pub entered_known : IsAdded → (old new : CellStore) (head : Option Tagged) (name : List ℕ) (id : Tagged) → 1 ≤ length name → length name ≤ 255 → IsChained old.cells head → new ≡ with_id old name nil_value head → id ≡ new_id old name
    → (bytes : List ℕ) (other : Tagged) → IsNamed new.cells (Some id) bytes other → (bytes ≡ name) ⊎ IsNamed old.cells head bytes other
entered_known law old new head name id some short t made is bytes other h =
    let n = length old.cells + cost_of (StrCell name) in
    let fresh = (with_id old name nil_value head).cells in
    let c = adds_carries old.cells fresh (with_id_adds law old name nil_value head) in
    let i = with_id_new law old name nil_value head some short refl t.first in
    let ids = ids_new old.cells fresh head name n c i t in
    let k = index_of other in
    let g : IsNamed fresh (Some (IdAt n)) bytes other = rw (made, is) at h in
    elim (among_along k (ids_from fresh (Some (IdAt n))) (n ∷ ids_from old.cells head) ids g.interned.1) [
      | inl e ↦ inl (sym g.name_is ∙ ap (name_in_cells fresh) e ∙ i.name_is)
      | inr a ↦ inr record { interned = (g.interned.0, a); name_is = sym (name_carried old.cells fresh head k c t (among_id old.cells head k t a)) ∙ g.name_is }
    ]

-- one more name
pub opened_new : IsAdded → (old new : CellStore) (head : Option Tagged) (name : List ℕ) (id : Tagged) → 1 ≤ length name → length name ≤ 255 → IsChained old.cells head → new ≡ with_id old name nil_value head → id ≡ new_id old name → IsOpeningName name
    → IsOpened old.cells head → IsOpened new.cells (Some id)
opened_new law old new head name id some short t made is opening o =
    let fresh = (with_id old name nil_value head).cells in
    let i = with_id_new law old name nil_value head some short refl t.first in
    let blank : (k : ℕ) → is_id_cell (cell_at fresh k) ≡ true → IsBlank (symbol_in_cells fresh k) = λ k h. elim (i.alone k h) [
      | inl e ↦ rw (e, ap words_in (with_id_block law old name nil_value head)) (blank_words (StrAt (length old.cells)) head)
      | inr b ↦ rw (i.same k b) (o.blank k b)
    ] in
    record {
      blank = rw made blank;
      known = λ bytes other h. elim (entered_known law old new head name id some short t made is bytes other h) [
        | inl e ↦ rw e opening
        | inr n ↦ o.known bytes other n
      ];
      objects = rw made (objects_new law old name nil_value head o.objects);
    }

pub opened_step : IsAdded → (old new : CellStore) (head after : Option Tagged) (name : List ℕ) (id : Tagged) → 1 ≤ length name → length name ≤ 255 → IsTable old.cells head → IsOpeningName name → Finds old new head after name id ⊎ Enters old new head after name id
    → IsOpened old.cells head → IsOpened new.cells after
opened_step law old new head top name id some short t opening (inl f) o = rw (f.cells, f.head) o
opened_step law old new head top name id some short t opening (inr e) o = rw e.head (opened_new law old new head name id some short t.chained e.cells e.place opening o)

-- no cells hold no identifier
pub opened_none : (cells : List Cell) → cells ≡ [] → IsOpened cells None
opened_none cells empty = rw empty record {
  blank = λ k h. let e : false ≡ true = h in cc;
  known = λ bytes id h. absurd h.interned.1;
  objects = λ k. refl;
}
