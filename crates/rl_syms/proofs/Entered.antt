-- What a new identifier makes of the table, in the words of the contracts.
use Rattle.std.proofs.Common.{◌≡◌, ℕ, ◌+◌, ◌<◌, ◌≤◌, true, List, [], ◌∷◌, length, get_or, arith, Option, Some, None, refl, sym, ap, ◌∙◌, inl, inr}
use Rattle.std.specs.Prelude.{IsSome}
use Rattle.std.specs.Option.{ForSome}
use Rattle.rl_tags.specs.Tagged.{Tagged, IdAt, StrAt, index_of, word_of}
use Rattle.rl_cells.specs.Cell.{Cell, CellStore, StrCell, cost_of, cell_at, is_id_cell, words_in}
use Rattle.rl_cells.specs.Laws.{IsAdded}
use Rattle.rl_syms.specs.Table.{IsChained, IsTable, IsNamed, IsFree, IsLink, ids_from, held_in, is_pointer, rank_of, nil_value, word_in}
use Rattle.rl_syms.specs.Made.{new_id, new_words, with_id, IsOpening}
use Rattle.rl_syms.specs.Frame.{Adds}
use Rattle.rl_syms.specs.Laws.{NamesEnter}
use Rattle.rl_syms.specs.Contents.{ids_before}
use Rattle.rl_syms.proofs.Numbers.{ids_numbered}
use Rattle.rl_syms.proofs.Chained.{within}
use Rattle.rl_syms.proofs.Carried.{chained_loose, chained_new, ids_new, among_along, among_id, name_carried, named_stays}
use Rattle.rl_syms.proofs.New.{adds_carries, with_id_adds, with_id_block, with_id_new}

pub made_adds : IsAdded → (old new : CellStore) (name : List ℕ) (plist : Tagged) (next : Option Tagged) → new ≡ with_id old name plist next → Adds old.cells new.cells
made_adds law old new name plist next made = rw made (with_id_adds law old name plist next)

-- the table with a new identifier on the chain
pub entered_chained : IsAdded → (old new : CellStore) (head : Option Tagged) (name : List ℕ) (plist id : Tagged) → 1 ≤ length name → length name ≤ 255 → IsSome (held_in (word_of plist)) → IsChained old.cells head → IsFree old.cells head name
    → new ≡ with_id old name plist head → id ≡ new_id old name → IsChained new.cells (Some id)
entered_chained law old new head name plist id some short listed t free made is =
    rw (made, is) (chained_new old.cells (with_id old name plist head).cells head name (length old.cells + cost_of (StrCell name))
    (adds_carries old.cells (with_id old name plist head).cells (with_id_adds law old name plist head)) (with_id_new law old name plist head some short listed t.first) free t)

pub entered_named : IsAdded → (old new : CellStore) (head : Option Tagged) (name : List ℕ) (plist id : Tagged) → 1 ≤ length name → length name ≤ 255 → IsSome (held_in (word_of plist)) → IsChained old.cells head
    → new ≡ with_id old name plist head → id ≡ new_id old name → IsNamed new.cells (Some id) name id
entered_named law old new head name plist id some short listed t made is =
    let n = length old.cells + cost_of (StrCell name) in
    let fresh = (with_id old name plist head).cells in
    let i = with_id_new law old name plist head some short listed t.first in
    let ids = ids_new old.cells fresh head name n (adds_carries old.cells fresh (with_id_adds law old name plist head)) i t in
    rw (made, is) record { interned = (refl, among_along n (n ∷ ids_from old.cells head) (ids_from fresh (Some (IdAt n))) (sym ids) (inl refl)); name_is = i.name_is }

-- the table with a new identifier beside the chain
pub loose_chained : IsAdded → (old new : CellStore) (head next : Option Tagged) (name : List ℕ) (plist : Tagged) → 1 ≤ length name → length name ≤ 255 → IsSome (held_in (word_of plist)) → IsChained old.cells head → IsLink old.cells (rank_of next) next
    → new ≡ with_id old name plist next → IsChained new.cells head
loose_chained law old new head next name plist some short listed t link made =
    rw made (chained_loose old.cells (with_id old name plist next).cells head next name (length old.cells + cost_of (StrCell name))
    (adds_carries old.cells (with_id old name plist next).cells (with_id_adds law old name plist next)) (with_id_new law old name plist next some short listed link) link t)

-- each definition is a function pointer
abbrev pub AreDefined : List Cell → Type 0
AreDefined cells = (k : ℕ) → is_id_cell (cell_at cells k) ≡ true → ForSome (held_in (word_in cells k 3)) (λ f. is_pointer f ≡ true)

-- a new identifier has no definition
pub word_new : IsAdded → (s : CellStore) (name : List ℕ) (plist : Tagged) (next : Option Tagged) (i : ℕ) → word_in (with_id s name plist next).cells (length s.cells + cost_of (StrCell name)) i ≡ get_or (new_words (StrAt (length s.cells)) plist next) i 0
word_new law s name plist next i = ap (λ c. get_or (words_in c) i 0) (with_id_block law s name plist next)

pub defined_new : IsAdded → (old new : CellStore) (link : Option Tagged) (name : List ℕ) → 1 ≤ length name → length name ≤ 255 → AreDefined old.cells → IsLink old.cells (rank_of link) link → new ≡ with_id old name nil_value link
    → AreDefined new.cells
defined_new law old new link name some short was is_link made = rw made (λ k h. elim ((with_id_new law old name nil_value link some short refl is_link).alone k h) [
  | inl e ↦ rw (e, word_new law old name nil_value link 3) (λ f (none : None ≡ Some f). absurd (cc))
  | inr o ↦ rw (ap (λ ws. get_or ws 3 0) ((with_id_new law old name nil_value link some short refl is_link).same k o)) (was k o)
])

-- what is added leaves the numbers of what stands
pub numbers_stay : (old new : List Cell) (k : ℕ) → Adds old new → k ≤ length old → ids_before new k ≡ ids_before old k
numbers_stay old new k a l = ids_numbered.same old new k (λ j (m : j < k). ap is_id_cell (a.stands j (omega (arith, l, m))))

nil_number_stays : (old new : CellStore) → Adds old.cells new.cells → {head : Option Tagged} → IsTable old.cells head → ids_before new.cells (index_of nil_value) ≡ 0
nil_number_stays old new a t = let l = within old.cells (index_of nil_value) t.nil in numbers_stay old.cells new.cells (index_of nil_value) a (omega (arith, l)) ∙ t.first

-- with NIL
pub entered_table : IsAdded → (old new : CellStore) (head : Option Tagged) (name : List ℕ) (id : Tagged) → 1 ≤ length name → length name ≤ 255 → IsTable old.cells head → IsFree old.cells head name
    → new ≡ with_id old name nil_value head → id ≡ new_id old name → IsTable new.cells (Some id)
entered_table law old new head name id some short t free made is = record {
  chained = entered_chained law old new head name nil_value id some short refl t.chained free made is;
  nil = (made_adds law old new name nil_value head made).live nil_value t.nil;
  first = nil_number_stays old new (made_adds law old new name nil_value head made) t;
  defined = defined_new law old new head name some short t.defined t.chained.first made;
}

pub loose_table : IsAdded → (old new : CellStore) (head : Option Tagged) (name : List ℕ) → 1 ≤ length name → length name ≤ 255 → IsTable old.cells head → new ≡ with_id old name nil_value None → IsTable new.cells head
loose_table law old new head name some short t made = record {
  chained = loose_chained law old new head None name nil_value some short refl t.chained tt made;
  nil = (made_adds law old new name nil_value None made).live nil_value t.nil;
  first = nil_number_stays old new (made_adds law old new name nil_value None made) t;
  defined = defined_new law old new None name some short t.defined tt made;
}

-- names that were interned stay so
pub entered_keeps : IsAdded → (old new : CellStore) (head : Option Tagged) (name : List ℕ) (plist id : Tagged) → 1 ≤ length name → length name ≤ 255 → IsSome (held_in (word_of plist)) → IsChained old.cells head
    → new ≡ with_id old name plist head → id ≡ new_id old name → (bytes : List ℕ) (other : Tagged) → IsNamed old.cells head bytes other → IsNamed new.cells (Some id) bytes other
entered_keeps law old new head name plist id some short listed t made is bytes other h =
    let n = length old.cells + cost_of (StrCell name) in
    let fresh = (with_id old name plist head).cells in
    let c = adds_carries old.cells fresh (with_id_adds law old name plist head) in
    let i = with_id_new law old name plist head some short listed t.first in
    let ids = ids_new old.cells fresh head name n c i t in
    let k = index_of other in
    rw (made, is) record {
      interned = (h.interned.0, among_along k (n ∷ ids_from old.cells head) (ids_from fresh (Some (IdAt n))) (sym ids) (inr h.interned.1));
      name_is = name_carried old.cells fresh head k c t (among_id old.cells head k t h.interned.1) ∙ h.name_is;
    }

pub loose_keeps : IsAdded → (old new : CellStore) (head : Option Tagged) (name : List ℕ) (plist : Tagged) (next : Option Tagged) → IsChained old.cells head → new ≡ with_id old name plist next
    → (bytes : List ℕ) (other : Tagged) → IsNamed old.cells head bytes other → IsNamed new.cells head bytes other
loose_keeps law old new head name plist next t made bytes other h =
    rw made (named_stays old.cells (with_id old name plist next).cells head bytes other (adds_carries old.cells (with_id old name plist next).cells (with_id_adds law old name plist next)) t h)

-- the table gains the name
pub entered_gains : IsAdded → NamesEnter
entered_gains law s head name some short t free =
    let new = with_id s name nil_value head in
    let id = new_id s name in
    record {
      table = entered_table law s new head name id some short t free refl refl;
      named = entered_named law s new head name nil_value id some short refl t.chained refl refl;
      names = entered_keeps law s new head name nil_value id some short refl t.chained refl refl;
      adds = with_id_adds law s name nil_value head;
    }

pub entered_opening : (old new : CellStore) (name : List ℕ) (plist : Tagged) (next : Option Tagged) → new ≡ with_id old name plist next → (bound : ℕ) → IsOpening old bound → IsOpening new bound
entered_opening old new name plist next made bound o = rw made record {
  count = rw (o.count, o.mark) refl;
  mark = o.mark;
  bound_is = o.bound_is;
}

-- the first identifier, in new cells
pub chained_empty : (cells : List Cell) → cells ≡ [] → IsChained cells None
chained_empty cells e =
    let none : (k : ℕ) → is_id_cell (cell_at cells k) ≡ true → ⊥ = λ k h. let long : length cells ≡ 0 = ap length e in let l = within cells k h in absurd (omega arith) in
    record {
      six = λ k h. absurd (none k h);
      named = λ k h. absurd (none k h);
      listed = λ k h. absurd (none k h);
      linked = λ k h. absurd (none k h);
      first = tt;
      distinct = λ j k a b e. absurd a;
    }
