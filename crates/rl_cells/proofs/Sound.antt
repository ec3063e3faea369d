-- The invariant of `Cells` after each call.
use Rattle.std.proofs.Common.{◌≡◌, ◌≢◌, ℕ, ◌+◌, ◌*◌, ◌%◌, ◌<◌, ◌≤◌, true, false, List, length, get_or, set, Option, Some, None, refl, sym, ap, ◌∙◌, ◌⊎◌, inl, inr, arith}
use Rattle.std.proofs.lemmas.List.{get_or-set_same, get_or-set_other, length-set}
use Rattle.std.proofs.lemmas.Bool.Decides.{nat_tests}
use Rattle.rl_tags.specs.Tagged.{Tagged, Number, IdAt, StrAt, PairAt, VectorAt, BigAt, FunAt, IsWordOf, index_of}
use Rattle.rl_cells.specs.Cell.{Cell, CellStore, PairCell, StrCell, VectorCell, BigCell, BlockCell, More, cell_at, is_live, is_pair, is_pair_cell, is_closed_cell, IsClosed, car_in, cdr_in, car_of, cdr_of, room_in, more_counted}
use Rattle.rl_cells.specs.Stored.{IsLaid, IsSound, IsWithin}
use Rattle.rl_cells.proofs.Cut.{IsCut-set}
use Rattle.rl_cells.proofs.Kept.{IsStored-set, IsClosed-set, pair_like}
use Rattle.std.proofs.lemmas.List.{get_or_past}
use Rattle.std.proofs.lemmas.Bool.{cases_lt, and_parts}
use Rattle.std.proofs.lemmas.Option.{get_or_from_slice_get}
use Rattle.std.specs.Prelude.{MatchOption, slice_get}

-- an object that has room is within the bound
pub within_room : (op mk : Option ℕ) (bound n cost : ℕ) → IsWithin op mk bound n → room_in op mk n bound cost ≡ true → IsWithin (more_counted op mk cost) mk bound (n + cost)
within_room None None bound n cost h r = grind (arith, nat_tests)
within_room (Some m) None bound n cost h r = (grind (arith, nat_tests), omega (arith, h.1))
within_room None (Some k) bound n cost h r = (h.0, grind (arith, nat_tests))
within_room (Some m) (Some k) bound n cost h r = (h.0, grind (arith, nat_tests))

pub capacity : (op mk : Option ℕ) (bound n : ℕ) → IsWithin op mk bound n → n ≤ 1065536 + bound
capacity None None bound n h = omega arith
capacity (Some m) None bound n h = omega arith
capacity None (Some k) bound n h = omega (arith, h.0, h.1)
capacity (Some m) (Some k) bound n h = omega (arith, h.0.0, h.0.1, h.1)

pub is_pair_index : (cells : List Cell) (p : Tagged) → is_pair cells p ≡ true → p ≡ PairAt (index_of p)
is_pair_index cells (PairAt k) h = refl
is_pair_index cells (Number k) h = cc
is_pair_index cells (IdAt k) h = cc
is_pair_index cells (StrAt k) h = cc
is_pair_index cells (VectorAt k) h = cc
is_pair_index cells (BigAt k) h = cc
is_pair_index cells (FunAt k) h = cc

pub is_pair_within : (cells : List Cell) (k : ℕ) → is_pair_cell (cell_at cells k) ≡ true → k < length cells
is_pair_within cells k h = elim (cases_lt k (length cells)) [
  | inl l ↦ l
  | inr l ↦ let e : false ≡ true = ap is_pair_cell (sym (get_or_past cells k More l)) ∙ h in cc
]

laid_pair : (ws : List ℕ) (k : ℕ) (c : Cell) → is_pair_cell c ≡ true → IsLaid ws k c → IsWordOf (get_or ws (2 * k) 0) (car_in c) × IsWordOf (get_or ws (2 * k + 1) 0) (cdr_in c)
laid_pair ws k (PairCell a d) h l = l
laid_pair ws k (StrCell bytes) h l = cc
laid_pair ws k (VectorCell xs) h l = cc
laid_pair ws k (BigCell z) h l = cc
laid_pair ws k (BlockCell t words) h l = cc
laid_pair ws k More h l = cc

closed_pair : (cells : List Cell) (c : Cell) → is_pair_cell c ≡ true → is_closed_cell cells c ≡ true → (is_live cells (car_in c) ≡ true) × (is_live cells (cdr_in c) ≡ true)
closed_pair cells (PairCell a d) h l = and_parts (is_live cells a) (is_live cells d) l
closed_pair cells (StrCell bytes) h l = cc
closed_pair cells (VectorCell xs) h l = cc
closed_pair cells (BigCell z) h l = cc
closed_pair cells (BlockCell t words) h l = cc
closed_pair cells More h l = cc

-- either half of a pair is changed: one word is written
IsSound-set_pair : (ws vs : List ℕ) (cells : List Cell) (n bound : ℕ) (op mk : Option ℕ) (k : ℕ) (a d : Tagged)
    → IsSound ws cells n bound op mk → is_pair_cell (cell_at cells k) ≡ true → is_live cells a ≡ true → is_live cells d ≡ true
    → length vs ≡ length ws → ((i : ℕ) → (i < 2 * k) ⊎ (2 * (k + 1) ≤ i) → get_or vs i 0 ≡ get_or ws i 0)
    → IsLaid vs k (PairCell a d) → IsSound vs (set cells k (PairCell a d)) n bound op mk
IsSound-set_pair ws vs cells n bound op mk k a d h pair live_a live_d len same laid =
    let l = is_pair_within cells k pair in
    record {
      long = len ∙ h.long;
      count = h.count ∙ sym (length-set cells k (PairCell a d));
      bounded = h.bounded;
      room = h.room;
      stored = IsStored-set ws vs cells k (PairCell a d) h.stored l (pair_like (cell_at cells k) a d pair) (omega arith) same laid;
      closed = IsClosed-set cells k (PairCell a d) l (pair_like (cell_at cells k) a d pair) h.closed (rw (live_a, live_d) refl);
      cut = IsCut-set mk cells k (PairCell a d) l (pair_like (cell_at cells k) a d pair).cost h.cut;
    }

pub IsSound-set_car : (ws : List ℕ) (cells : List Cell) (n bound : ℕ) (op mk : Option ℕ) (s : CellStore) (p v : Tagged) (k w : ℕ)
    → IsSound ws cells n bound op mk → record { cells = cells; bound = bound; count = op; mark = mk } ≡ s
    → is_pair s.cells p ≡ true → k ≡ index_of p → is_live s.cells v ≡ true → IsWordOf w v
    → IsSound (set ws (2 * k) w) (set cells k (PairCell v (cdr_in (cell_at cells k)))) n bound op mk
IsSound-set_car ws cells n bound op mk s p v k w h view pair k_is live is_w =
    let cells_is : s.cells ≡ cells = ap (λ (t : CellStore). t.cells) (sym view) in
    let pair' : is_pair_cell (cell_at cells k) ≡ true = rw k_is (ap (is_pair cells) (sym (is_pair_index s.cells p pair)) ∙ ap (λ t. is_pair t p) (sym cells_is) ∙ pair) in
    let l : k < length cells = is_pair_within cells k pair' in
    let cap : n ≤ 1065536 + bound = capacity op mk bound n h.room in
    let was = laid_pair ws k (cell_at cells k) pair' (h.stored.laid k) in
    let lives = closed_pair cells (cell_at cells k) pair' (h.closed.at k) in
    let other : (2 * k + 1) ≢ 2 * k = omega arith in
    IsSound-set_pair ws (set ws (2 * k) w) cells n bound op mk k v (cdr_in (cell_at cells k)) h pair' (rw cells_is at live) lives.1
    (length-set ws (2 * k) w)
    (λ i o. let m : i ≢ 2 * k = elim o [ inl a ↦ omega arith | inr a ↦ omega arith ] in get_or-set_other ws (2 * k) i w 0 m)
    (rw (get_or-set_same ws (2 * k) w 0 (omega (arith, h.long, h.count))) is_w, rw (get_or-set_other ws (2 * k) (2 * k + 1) w 0 other) was.1)

pub IsSound-set_cdr : (ws : List ℕ) (cells : List Cell) (n bound : ℕ) (op mk : Option ℕ) (s : CellStore) (p v : Tagged) (k w : ℕ)
    → IsSound ws cells n bound op mk → record { cells = cells; bound = bound; count = op; mark = mk } ≡ s
    → is_pair s.cells p ≡ true → k ≡ index_of p → is_live s.cells v ≡ true → IsWordOf w v
    → IsSound (set ws (2 * k + 1) w) (set cells k (PairCell (car_in (cell_at cells k)) v)) n bound op mk
IsSound-set_cdr ws cells n bound op mk s p v k w h view pair k_is live is_w =
    let cells_is : s.cells ≡ cells = ap (λ (t : CellStore). t.cells) (sym view) in
    let pair' : is_pair_cell (cell_at cells k) ≡ true = rw k_is (ap (is_pair cells) (sym (is_pair_index s.cells p pair)) ∙ ap (λ t. is_pair t p) (sym cells_is) ∙ pair) in
    let l : k < length cells = is_pair_within cells k pair' in
    let cap : n ≤ 1065536 + bound = capacity op mk bound n h.room in
    let was = laid_pair ws k (cell_at cells k) pair' (h.stored.laid k) in
    let lives = closed_pair cells (cell_at cells k) pair' (h.closed.at k) in
    let other : 2 * k ≢ 2 * k + 1 = omega arith in
    IsSound-set_pair ws (set ws (2 * k + 1) w) cells n bound op mk k (car_in (cell_at cells k)) v h pair' lives.0 (rw cells_is at live)
    (length-set ws (2 * k + 1) w)
    (λ i o. let m : i ≢ 2 * k + 1 = elim o [ inl a ↦ omega arith | inr a ↦ omega arith ] in get_or-set_other ws (2 * k + 1) i w 0 m)
    (rw (get_or-set_other ws (2 * k + 1) (2 * k) w 0 other) was.0, rw (get_or-set_same ws (2 * k + 1) w 0 (omega (arith, h.long, h.count))) is_w)

-- what a pair holds is live
pub live_in_pair : (ws : List ℕ) (cells : List Cell) (n bound : ℕ) (op mk : Option ℕ) (s : CellStore) (p : Tagged) → IsSound ws cells n bound op mk → record { cells = cells; bound = bound; count = op; mark = mk } ≡ s
    → is_pair s.cells p ≡ true → (is_live s.cells (car_of s.cells p) ≡ true) × (is_live s.cells (cdr_of s.cells p) ≡ true)
live_in_pair ws cells n bound op mk s (PairAt k) h view pair =
    let cells_is : cells ≡ s.cells = ap (λ (t : CellStore). t.cells) view in
    let closed : IsClosed s.cells = rw (← cells_is) h.closed in
    closed_pair s.cells (cell_at s.cells k) pair (closed.at k)
live_in_pair ws cells n bound op mk s (Number k) h view pair = cc
live_in_pair ws cells n bound op mk s (IdAt k) h view pair = cc
live_in_pair ws cells n bound op mk s (StrAt k) h view pair = cc
live_in_pair ws cells n bound op mk s (VectorAt k) h view pair = cc
live_in_pair ws cells n bound op mk s (BigAt k) h view pair = cc
live_in_pair ws cells n bound op mk s (FunAt k) h view pair = cc

-- the value that a word read from a store stands for
pub read_is : (r : Option Tagged) (w : ℕ) (v u : Tagged) → MatchOption r (6 < w % 16) (λ x. IsWordOf w x) → r ≡ Some v → IsWordOf w u → v ≡ u
read_is None w v u h e is = cc
read_is (Some x) w v u h e is = let y : x ≡ v = cc in sym y ∙ sym h.is ∙ is.is

-- the second word of a pair stands for its CDR
pub cdr_word : (ws : List ℕ) (cells : List Cell) (n bound : ℕ) (op mk : Option ℕ) (s : CellStore) (p : Tagged) (k w : ℕ) → IsSound ws cells n bound op mk → record { cells = cells; bound = bound; count = op; mark = mk } ≡ s
    → is_pair s.cells p ≡ true → k ≡ index_of p → slice_get ws (2 * k + 1) ≡ Some w → IsWordOf w (cdr_of s.cells p)
cdr_word ws cells n bound op mk s p k w h view pair k_is got =
    let cells_is : s.cells ≡ cells = ap (λ (t : CellStore). t.cells) (sym view) in
    let at : p ≡ PairAt k = is_pair_index s.cells p pair ∙ ap PairAt (sym k_is) in
    let pair' : is_pair_cell (cell_at cells k) ≡ true = ap (is_pair cells) (sym at) ∙ ap (λ t. is_pair t p) (sym cells_is) ∙ pair in
    let was = laid_pair ws k (cell_at cells k) pair' (h.stored.laid k) in
    let w_is : get_or ws (2 * k + 1) 0 ≡ w = get_or_from_slice_get ws (2 * k + 1) w 0 got in
    rw (at, cells_is) (rw (← w_is) was.1)
