-- The invariant of `Cells` after each call on an object, and what is read of one.
use Rattle.std.proofs.Common.{◌≡◌, ◌≢◌, ℕ, ℤ, pos, zero, suc, ◌+◌, ◌*◌, ◌/◌, ◌%◌, ◌<◌, ◌≤◌, ◌^◌, Bool, true, false, List, [], ◌∷◌, ◌++◌, length, get_or, set, replicate, Option, Some, refl, sym, ap, ◌∙◌, ◌⊎◌, inl, inr, arith, w64}
use Rattle.std.proofs.lemmas.List.{get_or-set_same, get_or-set_other, length-set, length-replicate, get_or-replicate, get_or_past}
use Rattle.std.proofs.lemmas.Option.{get_or_from_slice_get}
use Rattle.std.proofs.lemmas.Bool.{cases_lt, cases_eq, and_parts}
use Rattle.std.specs.List.{list_all}
use Rattle.std.specs.Int.{to_le_bytes}
use Rattle.std.specs.Prelude.{slice_get}
use Rattle.rl_tags.specs.Tagged.{Tagged, Number, IdAt, StrAt, PairAt, VectorAt, BigAt, FunAt, IsWordOf, index_of}
use Rattle.rl_cells.specs.Cell.{Cell, CellStore, PairCell, StrCell, VectorCell, BigCell, BlockCell, More, cost_of, cell_at, placed, is_live, is_vector, is_vector_cell, is_closed_cell, IsClosed, vector_in, vector_of, room_in, has_room, more_counted, is_id_cell, is_fun_cell, words_in, words_of, is_block, block_with, is_live_word, is_wide, is_str, is_str_cell, bytes_in, bytes_of}
use Rattle.rl_tags.specs.declared.Tag.{Tag}
use Rattle.rl_tags.specs.declared.Tag.TheVariants.{Int, Id, Str, Pair, Vector, Big, Fun}
use Rattle.rl_cells.specs.Laws.{SameKind}
use Rattle.rl_cells.specs.Stored.{IsLaid, IsSound, byte_in, signed128}
use Rattle.rl_cells.proofs.Cut.{IsCut-append, IsCut-set}
use Rattle.rl_cells.proofs.Kept.{IsStored-append, IsStored-set, IsClosed-append, IsClosed-set, length-placed}
use Rattle.rl_cells.proofs.Sound.{within_room, capacity}

abbrev Viewed : List Cell → ℕ → Option ℕ → Option ℕ → CellStore → Type 0
Viewed cells bound op mk s = record { cells = cells; bound = bound; count = op; mark = mk } ≡ s

-- the store with a new object
pub IsSound-new : (ws vs : List ℕ) (cells : List Cell) (n bound : ℕ) (op mk : Option ℕ) (s : CellStore) (c : Cell)
    → IsSound ws cells n bound op mk → Viewed cells bound op mk s → has_room s (cost_of c) ≡ true → 0 < cost_of c → is_closed_cell cells c ≡ true
    → length vs ≡ length ws → ((i : ℕ) → i < 2 * n → get_or vs i 0 ≡ get_or ws i 0) → IsLaid vs n c → IsSound vs (cells ++ placed c) (n + cost_of c) bound (more_counted op mk (cost_of c)) mk
IsSound-new ws vs cells n bound op mk s c h view room cost closed len below laid =
    let room' : room_in op mk (length cells) bound (cost_of c) ≡ true = ap (λ (t : CellStore). has_room t (cost_of c)) view ∙ room in
    record {
      long = len ∙ h.long;
      count = omega (arith, h.count, length-placed cells c cost);
      bounded = h.bounded;
      room = within_room op mk bound n (cost_of c) h.room (rw h.count room');
      stored = IsStored-append ws vs cells c h.stored cost (λ i p q. below i (omega (arith, h.count))) (rw (← h.count) laid);
      closed = IsClosed-append cells c h.closed closed;
      cut = IsCut-append mk cells c h.cut;
    }

-- how far the words reach where there is room
pub reach : (ws : List ℕ) (cells : List Cell) (n bound : ℕ) (op mk : Option ℕ) (s : CellStore) (cost : ℕ)
    → IsSound ws cells n bound op mk → Viewed cells bound op mk s → has_room s cost ≡ true → 2 * (n + cost) ≤ length ws
reach ws cells n bound op mk s cost h view room =
    let room' : room_in op mk (length cells) bound cost ≡ true = ap (λ (t : CellStore). has_room t cost) view ∙ room in
    let cap = capacity (more_counted op mk cost) mk bound (n + cost) (within_room op mk bound n cost h.room (rw h.count room')) in
    omega (arith, h.long)

-- two words are written from the place n on
two_written : (ws : List ℕ) (n a b : ℕ) → 2 * n + 1 < length ws → (get_or (set (set ws (2 * n) a) (2 * n + 1) b) (2 * n) 0 ≡ a) × (get_or (set (set ws (2 * n) a) (2 * n + 1) b) (2 * n + 1) 0 ≡ b)
two_written ws n a b l =
    let m : 2 * n ≢ 2 * n + 1 = omega arith in
    let l' : 2 * n + 1 < length (set ws (2 * n) a) = rw length-set l in
    (get_or-set_other (set ws (2 * n) a) (2 * n + 1) (2 * n) b 0 m ∙ get_or-set_same ws (2 * n) a 0 (omega arith), get_or-set_same (set ws (2 * n) a) (2 * n + 1) b 0 l')

below_two : (ws : List ℕ) (n a b i : ℕ) → i < 2 * n → get_or (set (set ws (2 * n) a) (2 * n + 1) b) i 0 ≡ get_or ws i 0
below_two ws n a b i l =
    let m₁ : i ≢ 2 * n = omega arith in
    let m₂ : i ≢ 2 * n + 1 = omega arith in
    get_or-set_other (set ws (2 * n) a) (2 * n + 1) i b 0 m₂ ∙ get_or-set_other ws (2 * n) i a 0 m₁

length-two : (ws : List ℕ) (n a b : ℕ) → length (set (set ws (2 * n) a) (2 * n + 1) b) ≡ length ws
length-two ws n a b = length-set (set ws (2 * n) a) (2 * n + 1) b ∙ length-set ws (2 * n) a

pub IsSound-new_pair : (ws : List ℕ) (cells : List Cell) (n bound : ℕ) (op mk : Option ℕ) (s : CellStore) (a d : Tagged) (w x : ℕ)
    → IsSound ws cells n bound op mk → Viewed cells bound op mk s → has_room s 1 ≡ true → is_live s.cells a ≡ true → is_live s.cells d ≡ true → IsWordOf w a → IsWordOf x d
    → IsSound (set (set ws (2 * n) w) (2 * n + 1) x) (cells ++ placed (PairCell a d)) (n + 1) bound (more_counted op mk 1) mk
IsSound-new_pair ws cells n bound op mk s a d w x h view room live_a live_d is_w is_x =
    let cells_is : s.cells ≡ cells = ap (λ (t : CellStore). t.cells) (sym view) in
    let far = reach ws cells n bound op mk s 1 h view room in
    let at = two_written ws n w x (omega arith) in
    IsSound-new ws (set (set ws (2 * n) w) (2 * n + 1) x) cells n bound op mk s (PairCell a d) h view room (omega arith)
    (rw ((rw cells_is at live_a), (rw cells_is at live_d)) refl) (length-two ws n w x) (below_two ws n w x) (rw at.0 is_w, rw at.1 is_x)

pub IsSound-new_big : (ws : List ℕ) (cells : List Cell) (n bound : ℕ) (op mk : Option ℕ) (s : CellStore) (z : ℤ) (low high : ℕ)
    → IsSound ws cells n bound op mk → Viewed cells bound op mk s → has_room s 1 ≡ true → is_wide z ≡ true → signed128 (low + 2 ^ 64 * high) ≡ z
    → IsSound (set (set ws (2 * n) low) (2 * n + 1) high) (cells ++ placed (BigCell z)) (n + 1) bound (more_counted op mk 1) mk
IsSound-new_big ws cells n bound op mk s z low high h view room wide is =
    let far = reach ws cells n bound op mk s 1 h view room in
    let at = two_written ws n low high (omega arith) in
    IsSound-new ws (set (set ws (2 * n) low) (2 * n + 1) high) cells n bound op mk s (BigCell z) h view room (omega arith)
    wide (length-two ws n low high) (below_two ws n low high) (rw (at.0, at.1) is)

pub IsSound-new_str : (ws vs : List ℕ) (cells : List Cell) (n bound : ℕ) (op mk : Option ℕ) (s : CellStore) (bytes : List ℕ)
    → IsSound ws cells n bound op mk → Viewed cells bound op mk s → has_room s (cost_of (StrCell bytes)) ≡ true
    → length vs ≡ length (set ws (2 * n) (length bytes))
    → ((k : ℕ) → k < length bytes → get_or bytes k 0 ≡ byte_in vs (2 * n + 2) k)
    → ((k : ℕ) → (k < 2 * n + 2) ⊎ (2 * n + 2 + (length bytes + 7) / 8 ≤ k) → get_or vs k 0 ≡ get_or (set ws (2 * n) (length bytes)) k 0)
    → IsSound vs (cells ++ placed (StrCell bytes)) (n + cost_of (StrCell bytes)) bound (more_counted op mk (cost_of (StrCell bytes))) mk
IsSound-new_str ws vs cells n bound op mk s bytes h view room len written rest =
    let far = reach ws cells n bound op mk s (cost_of (StrCell bytes)) h view room in
    IsSound-new ws vs cells n bound op mk s (StrCell bytes) h view room (omega arith) refl (len ∙ length-set ws (2 * n) (length bytes))
    (λ i l. let m : i ≢ 2 * n = omega arith in rest i (inl (omega arith)) ∙ get_or-set_other ws (2 * n) i (length bytes) 0 m)
    (rest (2 * n) (inl (omega arith)) ∙ get_or-set_same ws (2 * n) (length bytes) 0 (omega arith), written)

laid_str : (ws : List ℕ) (k : ℕ) (c : Cell) → is_str_cell c ≡ true → IsLaid ws k c → (i : ℕ) → i < length (bytes_in c) → get_or (bytes_in c) i 0 ≡ byte_in ws (2 * k + 2) i
laid_str ws k (StrCell bytes) h l = l.1
laid_str ws k (PairCell a d) h l = cc
laid_str ws k (VectorCell xs) h l = cc
laid_str ws k (BigCell z) h l = cc
laid_str ws k (BlockCell t words) h l = cc
laid_str ws k More h l = cc

-- a byte read from a string
pub byte_at : (ws : List ℕ) (cells : List Cell) (n bound : ℕ) (op mk : Option ℕ) (s : CellStore) (v : Tagged) (k i w : ℕ)
    → IsSound ws cells n bound op mk → Viewed cells bound op mk s → is_str s.cells v ≡ true → k ≡ index_of v → i < length (bytes_of s.cells v) → slice_get ws (2 * k + 2 + i / 8) ≡ Some w
    → get_or (to_le_bytes w64 w) (i % 8) 0 ≡ get_or (bytes_of s.cells v) i 0
byte_at ws cells n bound op mk s (StrAt j) k i w h view test k_is l got =
    let cells_is : s.cells ≡ cells = ap (λ (t : CellStore). t.cells) (sym view) in
    let test' : is_str_cell (cell_at cells j) ≡ true = rw cells_is at test in
    let l' : i < length (bytes_in (cell_at cells j)) = rw cells_is at l in
    let got' : slice_get ws (2 * j + 2 + i / 8) ≡ Some w = rw k_is at got in
    let is : get_or ws (2 * j + 2 + i / 8) 0 ≡ w = get_or_from_slice_get ws (2 * j + 2 + i / 8) w 0 got' in
    ap (λ x. get_or (to_le_bytes w64 x) (i % 8) 0) (sym is) ∙ sym (laid_str ws j (cell_at cells j) test' (h.stored.laid j) i l') ∙ ap (λ cs. get_or (bytes_in (cell_at cs j)) i 0) (sym cells_is)
byte_at ws cells n bound op mk s (Number j) k i w h view test k_is l got = cc
byte_at ws cells n bound op mk s (IdAt j) k i w h view test k_is l got = cc
byte_at ws cells n bound op mk s (PairAt j) k i w h view test k_is l got = cc
byte_at ws cells n bound op mk s (VectorAt j) k i w h view test k_is l got = cc
byte_at ws cells n bound op mk s (BigAt j) k i w h view test k_is l got = cc
byte_at ws cells n bound op mk s (FunAt j) k i w h view test k_is l got = cc

list_all-replicate : (p : Tagged → Bool) (n : ℕ) (x : Tagged) → p x ≡ true → list_all p (replicate n x) ≡ true
list_all-replicate p zero x h = refl
list_all-replicate p (suc n) x h = rw h (list_all-replicate p n x h)

pub IsSound-new_vector : (ws vs : List ℕ) (cells : List Cell) (n bound : ℕ) (op mk : Option ℕ) (s : CellStore) (places : ℕ) (x : Tagged) (w : ℕ)
    → IsSound ws cells n bound op mk → Viewed cells bound op mk s → has_room s (1 + (places + 1) / 2) ≡ true
    → is_live s.cells x ≡ true → IsWordOf w x
    → length vs ≡ length (set ws (2 * n) places)
    → ((k : ℕ) → k < places → get_or vs (2 * n + 2 + k) 0 ≡ w)
    → ((k : ℕ) → (k < 2 * n + 2) ⊎ (2 * n + 2 + places ≤ k) → get_or vs k 0 ≡ get_or (set ws (2 * n) places) k 0)
    → IsSound vs (cells ++ placed (VectorCell (replicate places x))) (n + (1 + (places + 1) / 2)) bound (more_counted op mk (1 + (places + 1) / 2)) mk
IsSound-new_vector ws vs cells n bound op mk s places x w h view fits live is_w len written rest =
    let c = VectorCell (replicate places x) in
    let cells_is : s.cells ≡ cells = ap (λ (t : CellStore). t.cells) (sym view) in
    let count : length (replicate places x) ≡ places = length-replicate places x in
    let room : has_room s (cost_of c) ≡ true = ap (λ m. has_room s (1 + (m + 1) / 2)) count ∙ fits in
    let far = reach ws cells n bound op mk s (cost_of c) h view room in
    let cost : cost_of c ≡ 1 + (places + 1) / 2 = ap (λ m. 1 + (m + 1) / 2) count in
    let live' : is_live cells x ≡ true = rw cells_is at live in
    rw (← cost) (IsSound-new ws vs cells n bound op mk s c h view room (omega arith) (list_all-replicate (is_live cells) places x live') (len ∙ length-set ws (2 * n) places)
    (λ i l. let m : i ≢ 2 * n = omega arith in rest i (inl (omega arith)) ∙ get_or-set_other ws (2 * n) i places 0 m) (
      rest (2 * n) (inl (omega arith)) ∙ get_or-set_same ws (2 * n) places 0 (omega arith) ∙ sym count,
      λ i l. let l' : i < places = omega arith in rw (written i l', get_or-replicate places i x (Number (pos 0)) l') is_w,
    ))

pub is_vector_index : (cells : List Cell) (v : Tagged) → is_vector cells v ≡ true → v ≡ VectorAt (index_of v)
is_vector_index cells (VectorAt k) h = refl
is_vector_index cells (Number k) h = cc
is_vector_index cells (IdAt k) h = cc
is_vector_index cells (StrAt k) h = cc
is_vector_index cells (PairAt k) h = cc
is_vector_index cells (BigAt k) h = cc
is_vector_index cells (FunAt k) h = cc

vector_is : (c : Cell) → is_vector_cell c ≡ true → c ≡ VectorCell (vector_in c)
vector_is (VectorCell xs) h = refl
vector_is (PairCell a d) h = cc
vector_is (StrCell bytes) h = cc
vector_is (BigCell z) h = cc
vector_is (BlockCell t words) h = cc
vector_is More h = cc

vector_like : (xs ys : List Tagged) → length ys ≡ length xs → SameKind (VectorCell ys) (VectorCell xs)
vector_like xs ys e = record { cost = ap (λ n. 1 + (n + 1) / 2) e; pair = refl; str = refl; vector = refl; big = refl; id = refl; «fun» = refl }

list_all-set : (p : Tagged → Bool) (xs : List Tagged) (i : ℕ) (x : Tagged) → list_all p xs ≡ true → p x ≡ true → list_all p (set xs i x) ≡ true
list_all-set p [] i x h q = refl
list_all-set p (y ∷ ys) zero x h q = let parts = and_parts (p y) (list_all p ys) h in rw (q, parts.1) refl
list_all-set p (y ∷ ys) (suc i) x h q = let parts = and_parts (p y) (list_all p ys) h in rw (parts.0, list_all-set p ys i x parts.1 q) refl

pub list_all-get_or : (p : Tagged → Bool) (xs : List Tagged) (i : ℕ) (d : Tagged) → list_all p xs ≡ true → i < length xs → p (get_or xs i d) ≡ true
list_all-get_or p [] i d h l = absurd (omega arith)
list_all-get_or p (y ∷ ys) zero d h l = (and_parts (p y) (list_all p ys) h).0
list_all-get_or p (y ∷ ys) (suc i) d h l = list_all-get_or p ys i d (and_parts (p y) (list_all p ys) h).1 (omega arith)

-- a vector's place, its cell and its list
pub record AtVector (cells : List Cell) (s : CellStore) (v : Tagged) (k : ℕ) : Type 0 where
  pub at : v ≡ VectorAt k
  pub cell : cell_at cells k ≡ VectorCell (vector_in (cell_at cells k))
  pub list : vector_of s.cells v ≡ vector_in (cell_at cells k)
  pub inside : k < length cells

pub at_vector : (cells : List Cell) (bound : ℕ) (op mk : Option ℕ) (s : CellStore) (v : Tagged) (k : ℕ) → Viewed cells bound op mk s → is_vector s.cells v ≡ true → k ≡ index_of v → AtVector cells s v k
at_vector cells bound op mk s v k view h k_is =
    let cells_is : s.cells ≡ cells = ap (λ (t : CellStore). t.cells) (sym view) in
    let at : v ≡ VectorAt k = is_vector_index s.cells v h ∙ ap VectorAt (sym k_is) in
    let test : is_vector_cell (cell_at cells k) ≡ true = ap (is_vector cells) (sym at) ∙ ap (λ t. is_vector t v) (sym cells_is) ∙ h in
    record {
      at = at;
      cell = vector_is (cell_at cells k) test;
      list = rw (at, cells_is) refl;
      inside = elim (cases_lt k (length cells)) [
        | inl l ↦ l
        | inr l ↦ let e : false ≡ true = ap is_vector_cell (sym (get_or_past cells k More l)) ∙ test in cc
      ];
    }

laid_at : (ws : List ℕ) (k : ℕ) (c : Cell) (xs : List Tagged) → c ≡ VectorCell xs → IsLaid ws k c → IsLaid ws k (VectorCell xs)
laid_at ws k c xs e h = rw e at h

closed_at : (cells : List Cell) (c : Cell) (xs : List Tagged) → c ≡ VectorCell xs → is_closed_cell cells c ≡ true → list_all (is_live cells) xs ≡ true
closed_at cells c xs e h = rw e at h

pub IsSound-put : (ws : List ℕ) (cells : List Cell) (n bound : ℕ) (op mk : Option ℕ) (s : CellStore) (v x : Tagged) (k i w : ℕ)
    → IsSound ws cells n bound op mk → Viewed cells bound op mk s → is_vector s.cells v ≡ true → k ≡ index_of v → i < length (vector_of s.cells v) → is_live s.cells x ≡ true → IsWordOf w x
    → IsSound (set ws (2 * k + 2 + i) w) (set cells k (VectorCell (set (vector_in (cell_at cells k)) i x))) n bound op mk
IsSound-put ws cells n bound op mk s v x k i w h view test k_is l live is_w =
    let cells_is : s.cells ≡ cells = ap (λ (t : CellStore). t.cells) (sym view) in
    let a = at_vector cells bound op mk s v k view test k_is in
    let xs = vector_in (cell_at cells k) in
    let ys = set xs i x in
    let l' : i < length xs = rw (ap length a.list) at l in
    let same_length : length ys ≡ length xs = length-set xs i x in
    let like : SameKind (VectorCell ys) (cell_at cells k) = rw a.cell (vector_like xs ys same_length) in
    let was = laid_at ws k (cell_at cells k) xs a.cell (h.stored.laid k) in
    let cap = capacity op mk bound n h.room in
    let w_end : k + (1 + (length xs + 1) / 2) ≤ length cells = let e : cost_of (cell_at cells k) ≡ 1 + (length xs + 1) / 2 = ap cost_of a.cell in let within = h.stored.within k (omega arith) in omega arith in
    let m₀ : 2 * k ≢ 2 * k + 2 + i = omega arith in
    record {
      long = length-set ws (2 * k + 2 + i) w ∙ h.long;
      count = h.count ∙ sym (length-set cells k (VectorCell ys));
      bounded = h.bounded;
      room = h.room;
      stored = IsStored-set ws (set ws (2 * k + 2 + i) w) cells k (VectorCell ys) h.stored a.inside like (omega arith)
          (λ j o. let m : j ≢ 2 * k + 2 + i = elim o [ inl p ↦ omega arith | inr p ↦ omega (arith, same_length) ] in get_or-set_other ws (2 * k + 2 + i) j w 0 m) (
            get_or-set_other ws (2 * k + 2 + i) (2 * k) w 0 m₀ ∙ was.0 ∙ sym same_length,
            λ j p. elim (cases_eq j i) [
              | inl e ↦ rw (e, get_or-set_same ws (2 * k + 2 + i) w 0 (omega (arith, h.long, h.count)), get_or-set_same xs i x (Number (pos 0)) l') is_w
              | inr ne ↦
                  let m : (2 * k + 2 + j) ≢ 2 * k + 2 + i = omega arith in
                  rw (get_or-set_other ws (2 * k + 2 + i) (2 * k + 2 + j) w 0 m, get_or-set_other xs i j x (Number (pos 0)) ne) (was.1 j (omega (arith, same_length)))
            ],
          );
      closed = IsClosed-set cells k (VectorCell ys) a.inside like h.closed (list_all-set (is_live cells) xs i x (closed_at cells (cell_at cells k) xs a.cell (h.closed.at k)) (rw cells_is at live));
      cut = IsCut-set mk cells k (VectorCell ys) a.inside like.cost h.cut;
    }

-- what a place of a vector holds: its word stands for it, and it is live
pub record Held (s : CellStore) (v : Tagged) (i w : ℕ) : Type 0 where
  pub word : IsWordOf w (get_or (vector_of s.cells v) i (Number (pos 0)))
  pub live : is_live s.cells (get_or (vector_of s.cells v) i (Number (pos 0))) ≡ true

pub held_at : (ws : List ℕ) (cells : List Cell) (n bound : ℕ) (op mk : Option ℕ) (s : CellStore) (v : Tagged) (k i w : ℕ)
    → IsSound ws cells n bound op mk → Viewed cells bound op mk s → is_vector s.cells v ≡ true → k ≡ index_of v → i < length (vector_of s.cells v) → slice_get ws (2 * k + 2 + i) ≡ Some w → Held s v i w
held_at ws cells n bound op mk s v k i w h view test k_is l got =
    let cells_is : s.cells ≡ cells = ap (λ (t : CellStore). t.cells) (sym view) in
    let a = at_vector cells bound op mk s v k view test k_is in
    let xs = vector_in (cell_at cells k) in
    let l' : i < length xs = rw (ap length a.list) at l in
    let was = laid_at ws k (cell_at cells k) xs a.cell (h.stored.laid k) in
    let w_is : get_or ws (2 * k + 2 + i) 0 ≡ w = get_or_from_slice_get ws (2 * k + 2 + i) w 0 got in
    let live : is_live cells (get_or xs i (Number (pos 0))) ≡ true = list_all-get_or (is_live cells) xs i (Number (pos 0)) (closed_at cells (cell_at cells k) xs a.cell (h.closed.at k)) l' in
    record { word = rw a.list (rw (← w_is) (was.1 i l')); live = rw (a.list, cells_is) live }

live_zeros : (cells : List Cell) (n : ℕ) → list_all (is_live_word cells) (replicate n 0) ≡ true
live_zeros cells zero = refl
live_zeros cells (suc n) = live_zeros cells n

words_set : (p : ℕ → Bool) (xs : List ℕ) (i x : ℕ) → list_all p xs ≡ true → p x ≡ true → list_all p (set xs i x) ≡ true
words_set p [] i x h q = refl
words_set p (y ∷ ys) zero x h q = let parts = and_parts (p y) (list_all p ys) h in rw (q, parts.1) refl
words_set p (y ∷ ys) (suc i) x h q = let parts = and_parts (p y) (list_all p ys) h in rw (parts.0, words_set p ys i x parts.1 q) refl

word_at : (p : ℕ → Bool) (xs : List ℕ) (i : ℕ) → list_all p xs ≡ true → i < length xs → p (get_or xs i 0) ≡ true
word_at p [] i h l = absurd (omega arith)
word_at p (y ∷ ys) zero h l = (and_parts (p y) (list_all p ys) h).0
word_at p (y ∷ ys) (suc i) h l = word_at p ys i (and_parts (p y) (list_all p ys) h).1 (omega arith)

closed_block : (cells : List Cell) (c : Cell) (t : Tag) (xs : List ℕ) → c ≡ BlockCell t xs → is_closed_cell cells c ≡ true → list_all (is_live_word cells) xs ≡ true
closed_block cells c t xs e h = rw e at h

pub IsSound-new_block : (ws vs : List ℕ) (cells : List Cell) (n bound : ℕ) (op mk : Option ℕ) (s : CellStore) (t : Tag) (count : ℕ)
    → IsSound ws cells n bound op mk → Viewed cells bound op mk s → has_room s ((count + 1) / 2) ≡ true → 0 < count
    → length vs ≡ length ws
    → ((k : ℕ) → k < count → get_or vs (2 * n + k) 0 ≡ 0)
    → ((k : ℕ) → (k < 2 * n) ⊎ (2 * n + count ≤ k) → get_or vs k 0 ≡ get_or ws k 0)
    → IsSound vs (cells ++ placed (BlockCell t (replicate count 0))) (n + (count + 1) / 2) bound (more_counted op mk ((count + 1) / 2)) mk
IsSound-new_block ws vs cells n bound op mk s t count h view fits some len written rest =
    let c = BlockCell t (replicate count 0) in
    let zeros : List ℕ = replicate count 0 in
    let long : length zeros ≡ count = length-replicate count 0 in
    let cost : cost_of c ≡ (count + 1) / 2 = ap (λ m. (m + 1) / 2) long in
    let positive : 0 < cost_of c = rw cost (omega arith) in
    let room : has_room s (cost_of c) ≡ true = ap (has_room s) cost ∙ fits in
    rw (← cost) (IsSound-new ws vs cells n bound op mk s c h view room positive (live_zeros cells count) len (λ i l. rest i (inl l))
    (λ (i : ℕ) (l : i < length zeros). let l' : i < count = rw long at l in get_or-replicate count i 0 0 l' ∙ sym (written i l')))

block_is : (c : Cell) → (is_id_cell c ≡ true) ⊎ (is_fun_cell c ≡ true) → (t : Tag) × (c ≡ BlockCell t (words_in c))
block_is (BlockCell t words) h = (t, refl)
block_is (PairCell a d) h = elim h [ inl e ↦ cc | inr e ↦ cc ]
block_is (StrCell bytes) h = elim h [ inl e ↦ cc | inr e ↦ cc ]
block_is (VectorCell xs) h = elim h [ inl e ↦ cc | inr e ↦ cc ]
block_is (BigCell z) h = elim h [ inl e ↦ cc | inr e ↦ cc ]
block_is More h = elim h [ inl e ↦ cc | inr e ↦ cc ]

id_like : (t : Tag) (xs ys : List ℕ) → length ys ≡ length xs → SameKind (BlockCell t ys) (BlockCell t xs)
id_like Int xs ys e = record { cost = ap (λ n. (n + 1) / 2) e; pair = refl; str = refl; vector = refl; big = refl; id = refl; «fun» = refl }
id_like Id xs ys e = record { cost = ap (λ n. (n + 1) / 2) e; pair = refl; str = refl; vector = refl; big = refl; id = refl; «fun» = refl }
id_like Str xs ys e = record { cost = ap (λ n. (n + 1) / 2) e; pair = refl; str = refl; vector = refl; big = refl; id = refl; «fun» = refl }
id_like Pair xs ys e = record { cost = ap (λ n. (n + 1) / 2) e; pair = refl; str = refl; vector = refl; big = refl; id = refl; «fun» = refl }
id_like Vector xs ys e = record { cost = ap (λ n. (n + 1) / 2) e; pair = refl; str = refl; vector = refl; big = refl; id = refl; «fun» = refl }
id_like Big xs ys e = record { cost = ap (λ n. (n + 1) / 2) e; pair = refl; str = refl; vector = refl; big = refl; id = refl; «fun» = refl }
id_like Fun xs ys e = record { cost = ap (λ n. (n + 1) / 2) e; pair = refl; str = refl; vector = refl; big = refl; id = refl; «fun» = refl }

-- what a block names: its cell and its words
pub record AtBlock (cells : List Cell) (s : CellStore) (v : Tagged) (k : ℕ) : Type 0 where
  pub tag : Tag
  pub cell : cell_at cells k ≡ BlockCell tag (words_in (cell_at cells k))
  pub list : words_of s.cells v ≡ words_in (cell_at cells k)
  pub inside : k < length cells

pub at_block : (cells : List Cell) (s : CellStore) (v : Tagged) (k : ℕ) → s.cells ≡ cells → is_block s.cells v ≡ true → k ≡ index_of v → AtBlock cells s v k
at_block cells s (IdAt j) k same h e =
    let test : is_id_cell (cell_at cells k) ≡ true = rw (e, ← same) h in let b = block_is (cell_at cells k) (inl test) in
    record { tag = b.0; cell = b.1; list = rw (same, e) refl; inside = elim (cases_lt k (length cells)) [ inl l ↦ l | inr l ↦ let z : false ≡ true = ap is_id_cell (sym (get_or_past cells k More l)) ∙ test in cc ] }
at_block cells s (FunAt j) k same h e =
    let test : is_fun_cell (cell_at cells k) ≡ true = rw (e, ← same) h in let b = block_is (cell_at cells k) (inr test) in
    record { tag = b.0; cell = b.1; list = rw (same, e) refl; inside = elim (cases_lt k (length cells)) [ inl l ↦ l | inr l ↦ let z : false ≡ true = ap is_fun_cell (sym (get_or_past cells k More l)) ∙ test in cc ] }
at_block cells s (Number j) k same h e = cc
at_block cells s (StrAt j) k same h e = cc
at_block cells s (PairAt j) k same h e = cc
at_block cells s (VectorAt j) k same h e = cc
at_block cells s (BigAt j) k same h e = cc

laid_block : (ws : List ℕ) (k : ℕ) (c : Cell) (t : Tag) (xs : List ℕ) → c ≡ BlockCell t xs → IsLaid ws k c → IsLaid ws k (BlockCell t xs)
laid_block ws k c t xs e h = rw e at h

pub IsSound-set_word : (ws : List ℕ) (cells : List Cell) (n bound : ℕ) (op mk : Option ℕ) (s : CellStore) (v : Tagged) (k i w : ℕ)
    → IsSound ws cells n bound op mk → Viewed cells bound op mk s → is_block s.cells v ≡ true → k ≡ index_of v → i < length (words_of s.cells v) → is_live_word s.cells w ≡ true
    → IsSound (set ws (2 * k + i) w) (set cells k (block_with (cell_at cells k) i w)) n bound op mk
IsSound-set_word ws cells n bound op mk s v k i w h view test k_is l live =
    let cells_is : s.cells ≡ cells = ap (λ (t : CellStore). t.cells) (sym view) in
    let a = at_block cells s v k cells_is test k_is in
    let xs = words_in (cell_at cells k) in
    let ys = set xs i w in
    let l' : i < length xs = rw (ap length a.list) at l in
    let same_length : length ys ≡ length xs = length-set xs i w in
    let like : SameKind (BlockCell a.tag ys) (cell_at cells k) = rw a.cell (id_like a.tag xs ys same_length) in
    let was = laid_block ws k (cell_at cells k) a.tag xs a.cell (h.stored.laid k) in
    let cap = capacity op mk bound n h.room in
    let w_end : k + (length xs + 1) / 2 ≤ length cells = let e : cost_of (cell_at cells k) ≡ (length xs + 1) / 2 = ap cost_of a.cell in let within = h.stored.within k (omega arith) in omega arith in
    let new_is : block_with (cell_at cells k) i w ≡ BlockCell a.tag ys = ap (λ c. block_with c i w) a.cell in
    rw new_is record {
      long = length-set ws (2 * k + i) w ∙ h.long;
      count = h.count ∙ sym (length-set cells k (BlockCell a.tag ys));
      bounded = h.bounded;
      room = h.room;
      stored = IsStored-set ws (set ws (2 * k + i) w) cells k (BlockCell a.tag ys) h.stored a.inside like (omega (arith, same_length))
          (λ j o. let m : j ≢ 2 * k + i = elim o [ inl p ↦ omega arith | inr p ↦ omega (arith, same_length) ] in get_or-set_other ws (2 * k + i) j w 0 m)
          (λ j p. elim (cases_eq j i) [
            | inl e ↦ rw (e, get_or-set_same ws (2 * k + i) w 0 (omega (arith, h.long, h.count)), get_or-set_same xs i w 0 l') refl
            | inr ne ↦
                let m : (2 * k + j) ≢ 2 * k + i = omega arith in
                rw (get_or-set_other ws (2 * k + i) (2 * k + j) w 0 m, get_or-set_other xs i j w 0 ne) (was j (omega (arith, same_length)))
          ]);
      closed = IsClosed-set cells k (BlockCell a.tag ys) a.inside like h.closed (words_set (is_live_word cells) xs i w (closed_block cells (cell_at cells k) a.tag xs a.cell (h.closed.at k)) (rw cells_is at live));
      cut = IsCut-set mk cells k (BlockCell a.tag ys) a.inside like.cost h.cut;
    }

-- the words of a block are live
pub live_word_at : (cells : List Cell) (s : CellStore) (v : Tagged) (i : ℕ) → s.cells ≡ cells → IsClosed cells → is_block s.cells v ≡ true → i < length (words_of s.cells v) → is_live_word s.cells (get_or (words_of s.cells v) i 0) ≡ true
live_word_at cells s v i same h test l =
    let a = at_block cells s v (index_of v) same test refl in
    let xs = words_in (cell_at cells (index_of v)) in
    let l' : i < length xs = rw (ap length a.list) at l in
    rw (a.list, same) (word_at (is_live_word cells) xs i (closed_block cells (cell_at cells (index_of v)) a.tag xs a.cell (h.at (index_of v))) l')

-- the word read from a block
pub block_word : (ws : List ℕ) (cells : List Cell) (n bound : ℕ) (op mk : Option ℕ) (s : CellStore) (v : Tagged) (k i w : ℕ)
    → IsSound ws cells n bound op mk → Viewed cells bound op mk s → is_block s.cells v ≡ true → k ≡ index_of v → i < length (words_of s.cells v) → slice_get ws (2 * k + i) ≡ Some w
    → is_live_word s.cells w ≡ true
block_word ws cells n bound op mk s v k i w h view test k_is l got =
    let same : s.cells ≡ cells = ap (λ (t : CellStore). t.cells) (sym view) in
    let a = at_block cells s v k same test k_is in
    let xs = words_in (cell_at cells k) in
    let l' : i < length xs = rw (ap length a.list) at l in
    let was = laid_block ws k (cell_at cells k) a.tag xs a.cell (h.stored.laid k) in
    let is : get_or (words_of s.cells v) i 0 ≡ w = ap (λ ys. get_or ys i 0) a.list ∙ was i l' ∙ get_or_from_slice_get ws (2 * k + i) w 0 got in
    ap (is_live_word s.cells) (sym is) ∙ live_word_at cells s v i same h.closed test l
