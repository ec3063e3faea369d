-- Opening makes the names that have a constant one after the other, and there is room for all names that it makes.
use Rattle.std.proofs.Common.{◌≡◌, ℕ, ◌+◌, ◌-◌, ◌<◌, ◌≤◌, ◌⊎◌, true, nat_le, List, [], ◌∷◌, ◌++◌, length, set, take, Option, Some, None, refl, sym, ap, ◌∙◌, arith, inl, inr}
use borrow.Author.Count.{below_more}
use Rattle.std.proofs.lemmas.List.{length-append, length-replicate, take_more}
use Rattle.std.proofs.lemmas.Bool.{cases_eq}
use Rattle.std.proofs.lemmas.Bool.Decides.{nat_tests}
use Rattle.rl_tags.specs.Tagged.{Tagged, IdAt, StrAt, index_of, word_of}
use Rattle.rl_tags.specs.Opening.{place_of, names_at_opening, name_at as opening_name_at}
use Rattle.rl_tags.specs.declared.Tag.TheVariants as tag
use Rattle.rl_cells.specs.Cell.{Cell, CellStore, StrCell, BlockCell, More, cell_at, is_id_cell, cost_of, placed, grown, has_room, changed_at, block_with}
use Rattle.rl_cells.specs.Laws.{IsAdded}
use Rattle.rl_syms.specs.Table.{IsChained, IsTable, IsNamed, nil_value}
use Rattle.rl_syms.specs.Made.{Finds, Enters, IsOpening, id_cost, new_id, new_words, with_id}
use Rattle.rl_syms.specs.Opened.{IsOpened, HasFirst, empty_store, last_named, made_name, with_names}
use Rattle.rl_syms.specs.Contents.{ids_before}
use Rattle.rl_syms.proofs.Names.{constant_name, letter_name, letter_t, letters_made, name_some, name_short, name_once, names_long, place_is}
use Rattle.rl_syms.proofs.Carried.{among_id}
use Rattle.rl_syms.proofs.Chained.{within}
use Rattle.rl_syms.proofs.New.{with_id_alone}
use Rattle.rl_syms.proofs.Naming.{length_new, many_new, number_new}
use Rattle.rl_syms.proofs.Filled.{filled_set}
use Rattle.rl_syms.proofs.Entered.{AreDefined, chained_empty, defined_new, made_adds, numbers_stay, entered_chained, entered_named, entered_keeps}
use Rattle.rl_syms.proofs.Blank.{entered_known, opened_none, opened_new}

-- in opening there is room up to 65536 cells
pub room_left : (s : CellStore) (bound n : ℕ) → IsOpening s bound → length s.cells + n ≤ 65536 → has_room s n ≡ true
room_left s bound n o l = rw (o.count, o.mark) (fits (length s.cells + n) l)
  where
    fits : (m : ℕ) → m ≤ 65536 → nat_le m 65536 ≡ true
    fits m h = grind (arith, nat_tests)

-- a name of 1 to 16 bytes takes five
pub length_interned : (old new : CellStore) (head top : Option Tagged) (name : List ℕ) (id : Tagged) → length name ≤ 16 → Finds old new head top name id ⊎ Enters old new head top name id → length new.cells ≤ length old.cells + 5
length_interned old new head top name id short (inl f) = let same : length new.cells ≡ length old.cells = ap (λ (s : CellStore). length s.cells) f.cells in omega arith
length_interned old new head top name id short (inr e) =
    let long : length new.cells ≡ length old.cells + id_cost name = ap (λ (s : CellStore). length s.cells) e.cells ∙ length_new old name nil_value head in omega arith

-- ---- the store that names make

with_names_last : (s : CellStore) (link : Option Tagged) (names : List (List ℕ)) (name : List ℕ) → with_names s link (names ++ name ∷ []) ≡ with_id (with_names s link names) name nil_value (last_named s link names)
unfolding with_names last_named
with_names_last s link [] name = refl
with_names_last s link (first ∷ names) name = with_names_last (with_id s first nil_value link) (Some (new_id s first)) names name

last_named_last : (s : CellStore) (link : Option Tagged) (names : List (List ℕ)) (name : List ℕ) → last_named s link (names ++ name ∷ []) ≡ Some (new_id (with_names s link names) name)
unfolding with_names last_named
last_named_last s link [] name = refl
last_named_last s link (first ∷ names) name = last_named_last (with_id s first nil_value link) (Some (new_id s first)) names name

first_names_more : (n : ℕ) → n < 422 → take (n + 1) names_at_opening ≡ take n names_at_opening ++ made_name n ∷ []
first_names_more n l = take_more names_at_opening n [] (omega (arith, l, names_long))

makes_more : (n : ℕ) (from old new : CellStore) (head : Option Tagged) (name : List ℕ) → n < 422 → name ≡ made_name n → new ≡ with_id old name nil_value head
    → old ≡ with_names from None (take n names_at_opening) → head ≡ last_named from None (take n names_at_opening) → new ≡ with_names from None (take (n + 1) names_at_opening)
makes_more n from old new head name l e made before last =
    made ∙ ap (λ bytes. with_id old bytes nil_value head) e ∙ ap (λ s. with_id s (made_name n) nil_value head) before ∙ ap (λ h. with_id (with_names from None (take n names_at_opening)) (made_name n) nil_value h) last
    ∙ sym (with_names_last from None (take n names_at_opening) (made_name n)) ∙ ap (with_names from None) (sym (first_names_more n l))

last_more : (n : ℕ) (from old : CellStore) (name : List ℕ) (id : Tagged) → n < 422 → name ≡ made_name n → id ≡ new_id old name
    → old ≡ with_names from None (take n names_at_opening) → Some id ≡ last_named from None (take (n + 1) names_at_opening)
last_more n from old name id l e is before =
    ap (λ (v : Tagged). Some v) (is ∙ ap (new_id old) e ∙ ap (λ s. new_id s (made_name n)) before) ∙ sym (last_named_last from None (take n names_at_opening) (made_name n)) ∙ ap (last_named from None) (sym (first_names_more n l))

-- ---- name by name

pub first_none : (old : CellStore) → old ≡ empty_store old.bound → HasFirst 0 old None
unfolding with_names last_named ids_before
first_none old is =
    let empty : old.cells ≡ [] = ap (λ (s : CellStore). s.cells) is in
    let none : (k : ℕ) → is_id_cell (cell_at old.cells k) ≡ true → ⊥ = λ k h. let l = within old.cells k h in let long : length old.cells ≡ 0 = ap length empty in absurd (omega arith) in
    record {
      makes = is;
      newest = refl;
      named = λ i l. absurd (omega arith);
      only = λ bytes id h. absurd h.interned.1;
      numbered = λ i l. absurd (omega arith);
      places = λ k h. absurd (none k h);
      many = rw empty refl;
      long = ap length empty;
    }

-- one more name stands at its place
pub first_new : IsAdded → (n : ℕ) (old new : CellStore) (head : Option Tagged) (name : List ℕ) (id : Tagged) → n < 422 → name ≡ made_name n → IsChained old.cells head → new ≡ with_id old name nil_value head → id ≡ new_id old name
    → HasFirst n old head → HasFirst (n + 1) new (Some id)
first_new law n old new head name id l e t made is f =
    let some = name_some n name l e in
    let short = name_short n name l e in
    let long : length name ≤ 255 = omega arith in
    let two : cost_of (StrCell name) ≡ 2 = omega (arith, some, short) in
    let at : length old.cells + cost_of (StrCell name) ≡ place_of n = omega (arith, two, f.long, place_is n l) in
    let place : id ≡ IdAt (place_of n) = is ∙ ap IdAt at in
    let last : IsNamed new.cells (Some id) (made_name n) (IdAt (place_of n)) = rw (← e, ← place) (entered_named law old new head name nil_value id some long refl t made is) in
    let adds = made_adds law old new name nil_value head made in
    let bound : new.bound ≡ old.bound = ap (λ (s : CellStore). s.bound) made in
    let here : ids_before new.cells (place_of n) ≡ n = ap (ids_before new.cells) (sym at) ∙ ap (λ (s : CellStore). ids_before s.cells (length old.cells + cost_of (StrCell name))) made ∙ number_new law old name nil_value head ∙ f.many in
    record {
      makes = makes_more n (empty_store old.bound) old new head name l e made f.makes f.newest ∙ ap (λ b. with_names (empty_store b) None (take (n + 1) names_at_opening)) (sym bound);
      newest = last_more n (empty_store old.bound) old name id l e is f.makes ∙ ap (λ b. last_named (empty_store b) None (take (n + 1) names_at_opening)) (sym bound);
      named = below_more (λ i. IsNamed new.cells (Some id) (made_name i) (IdAt (place_of i))) n
          (λ i m. entered_keeps law old new head name nil_value id some long refl t made is (made_name i) (IdAt (place_of i)) (f.named i m)) last;
      only = λ bytes other h. elim (entered_known law old new head name id some long t made is bytes other h) [
        | inl same ↦ (n, omega arith, same ∙ e)
        | inr was ↦ let o = f.only bytes other was in (o.0, omega (arith, o.1), o.2)
      ];
      numbered = below_more (λ i. ids_before new.cells (place_of i) ≡ i) n
          (λ i (m : i < n). numbers_stay old.cells new.cells (place_of i) adds (omega (arith, m, f.long, place_is i (omega (arith, l, m)))) ∙ f.numbered i m) here;
      places = λ k h. elim (with_id_alone law old name nil_value head k (rw made at h)) [
        | inl here_ ↦ (n, omega arith, here_ ∙ at)
        | inr was ↦ let o = f.places k was in (o.0, omega (arith, o.1), o.2)
      ];
      many = ap (λ (s : CellStore). ids_before s.cells (length s.cells)) made ∙ many_new law old name nil_value head ∙ ap (λ m. m + 1) f.many;
      long = ap (λ (s : CellStore). length s.cells) made ∙ length_new old name nil_value head ∙ omega (arith, f.long, two);
    }

-- it was not interned yet
pub first_next : IsAdded → (n : ℕ) (old new : CellStore) (head top : Option Tagged) (name : List ℕ) (id : Tagged) → n < 422 → name ≡ made_name n → IsTable old.cells head → Finds old new head top name id ⊎ Enters old new head top name id
    → HasFirst n old head → HasFirst (n + 1) new top
first_next law n old new head top name id l e t (inl found) f =
    let o = f.only name id found.named in
    let same : n ≡ o.0 = name_once n o.0 l (omega (arith, o.1, l)) (sym e ∙ o.2) in
    absurd (omega (arith, o.1, same))
first_next law n old new head top name id l e t (inr entered) f = rw entered.head (first_new law n old new head name id l e t.chained entered.cells entered.place f)

-- a name of one byte; T stands already
pub letter_next : IsAdded → (b : ℕ) (old new : CellStore) (head top : Option Tagged) (name : List ℕ) (id : Tagged) → b < 256 → name ≡ b ∷ [] → IsTable old.cells head → Finds old new head top name id ⊎ Enters old new head top name id
    → HasFirst (letters_made b) old head → HasFirst (letters_made (b + 1)) new top
letter_next law b old new head top name id l e t step f = elim (cases_eq b 84) [
  | inl is_t ↦ t_stands old new head top name id (e ∙ ap (λ (c : ℕ). c ∷ []) is_t) step (letters_made b) (letters_made (b + 1)) (omega (arith, is_t)) (omega (arith, is_t)) f
  | inr other ↦
      let next : letters_made (b + 1) ≡ letters_made b + 1 = omega (arith, other) in
      rw next (first_next law (letters_made b) old new head top name id (omega (arith, l, other)) (e ∙ letter_name b l other) t step f)
]
  where
    t_stands : (old new : CellStore) (head top : Option Tagged) (name : List ℕ) (id : Tagged) → name ≡ 84 ∷ [] → Finds old new head top name id ⊎ Enters old new head top name id
        → (m n : ℕ) → n ≡ m → 1 < m → HasFirst m old head → HasFirst n new top
    t_stands old new head top name id is (inl found) m n same some f = rw (same, found.cells, found.head) f
    t_stands old new head top name id is (inr entered) m n same some f =
        let t = f.named 1 some in
        absurd (entered.free.other (place_of 1) t.interned.1 (t.name_is ∙ letter_t ∙ sym is))

-- then each name of one byte is interned
pub letter_named : (s : CellStore) (head : Option Tagged) → HasFirst (length names_at_opening) s head → (b : ℕ) → b < 256 → (id : Tagged) × IsNamed s.cells head (b ∷ []) id
letter_named s head f b l = elim (cases_eq b 84) [
  | inl is_t ↦ (IdAt (place_of 1), rw (is_t, ← letter_t) (f.named 1 (omega (arith, names_long))))
  | inr other ↦ (IdAt (place_of (letters_made b)), rw (letter_name b l other) (f.named (letters_made b) (omega (arith, names_long, l, other))))
]

-- nothing was taken
pub is_empty : (s : CellStore) (bound : ℕ) → s.cells ≡ [] → IsOpening s bound → s ≡ empty_store s.bound
is_empty s bound empty o = ap (λ (cells : List Cell). record s { cells = cells }) empty ∙ ap (λ (n : Option ℕ). record s { cells = []; count = n }) o.count ∙ ap (λ (m : Option ℕ). record s { cells = []; count = None; mark = m }) o.mark

-- the first identifier is then made its own property list
pub nil_filled : IsAdded → (old mid new : CellStore) (name : List ℕ) (plist id : Tagged) (w : ℕ) → old.cells ≡ [] → name ≡ opening_name_at 0 → mid ≡ with_id old name plist None → id ≡ new_id old name → w ≡ word_of id
    → new ≡ record mid { cells = changed_at mid.cells id (block_with (cell_at mid.cells (index_of id)) 2 w) } → new ≡ with_id old (opening_name_at 0) nil_value None
nil_filled law old mid new name plist id w empty e made is word changed =
    let text = grown old (StrCell name) in
    let words = new_words (StrAt (length old.cells)) plist None in
    let none : length old.cells ≡ 0 = ap length empty in
    let some = name_some 0 name (omega arith) (e ∙ constant_name 0 (omega arith)) in
    let short = name_short 0 name (omega arith) (e ∙ constant_name 0 (omega arith)) in
    let place : id ≡ nil_value = is ∙ ap IdAt (omega arith) in
    let behind : id ≡ IdAt (length text.cells) = is ∙ ap IdAt (omega (arith, length-append old.cells (placed (StrCell name)), length-replicate (cost_of (StrCell name) - 1) More)) in
    filled_set law text mid new id words 2 w made behind changed
    ∙ ap (λ (u : ℕ). grown text (BlockCell tag.Id (set words 2 u))) (word ∙ ap word_of place)
    ∙ ap (λ (bytes : List ℕ). with_id old bytes nil_value None) e

-- NIL alone
pub nil_first : IsAdded → (old new : CellStore) (id : Tagged) → old ≡ empty_store old.bound → new ≡ with_id old (opening_name_at 0) nil_value None → id ≡ new_id old (opening_name_at 0) → HasFirst 1 new (Some id)
nil_first law old new id empty made is = first_new law 0 old new None (opening_name_at 0) id (omega arith) (constant_name 0 (omega arith)) (chained_empty old.cells (ap (λ (s : CellStore). s.cells) empty)) made is (first_none old empty)

pub nil_table : IsAdded → (old new : CellStore) (id : Tagged) → old ≡ empty_store old.bound → new ≡ with_id old (opening_name_at 0) nil_value None → id ≡ new_id old (opening_name_at 0) → IsTable new.cells (Some id)
nil_table law old new id from made is =
    let empty : old.cells ≡ [] = ap (λ (s : CellStore). s.cells) from in
    let short = name_short 0 (opening_name_at 0) (omega arith) (constant_name 0 (omega arith)) in
    let chained = entered_chained law old new None (opening_name_at 0) nil_value id (name_some 0 (opening_name_at 0) (omega arith) (constant_name 0 (omega arith))) (omega arith) refl (chained_empty old.cells empty) (record { other = λ k a. absurd a }) made is in
    let first = nil_first law old new id from made is in
    let nil : is_id_cell (cell_at new.cells 2) ≡ true = rw (← place_is 0 (omega arith)) (among_id new.cells (Some id) (place_of 0) chained (first.named 0 (omega arith)).interned.1) in
    let none : AreDefined old.cells = λ k h. let l = within old.cells k h in let long : length old.cells ≡ 0 = ap length empty in absurd (omega arith) in
    record {
      chained = chained;
      nil = nil;
      first = ap (ids_before new.cells) (sym (place_is 0 (omega arith))) ∙ first.numbered 0 (omega arith);
      defined = defined_new law old new None (opening_name_at 0) (name_some 0 (opening_name_at 0) (omega arith) (constant_name 0 (omega arith))) (omega arith) none tt made;
    }

pub nil_opened : IsAdded → (old new : CellStore) (id : Tagged) → old.cells ≡ [] → new ≡ with_id old (opening_name_at 0) nil_value None → id ≡ new_id old (opening_name_at 0) → IsOpened new.cells (Some id)
nil_opened law old new id empty made is =
    let short = name_short 0 (opening_name_at 0) (omega arith) (constant_name 0 (omega arith)) in
    opened_new law old new None (opening_name_at 0) id (name_some 0 (opening_name_at 0) (omega arith) (constant_name 0 (omega arith))) (omega arith) (chained_empty old.cells empty) made is (inl (0, omega arith, refl)) (opened_none old.cells empty)
