-- What is a datum stays the same datum where its cells and its names stay, and however much deeper it may be.
use Rattle.std.proofs.Common.{◌≡◌, ℕ, zero, suc, ◌<◌, ◌≤◌, Bool, true, false, List, [], ◌∷◌, ◌++◌, length, map, Option, refl, sym, ap, ◌∙◌, arith, inl, inr}
use Rattle.std.specs.List.{AllByRecursion}
use Rattle.std.proofs.lemmas.Bool.{cases_lt}
use Rattle.std.proofs.lemmas.List.{get_or_past}
use Rattle.rl_tags.specs.Tagged.{Tagged, Number, IdAt, StrAt, PairAt, VectorAt}
use Rattle.rl_cells.specs.Cell.{Cell, More, PairCell, cell_at, is_id_cell, is_str_cell, is_pair_cell, is_vector_cell, is_live, is_pair, car_in, cdr_in, car_of, cdr_of, bytes_in, vector_in, placed}
use Rattle.rl_cells.specs.Laws.{IsAdded}
use Rattle.rl_syms.specs.Laws.{IsKept, LeaveIdentifiers}
use Rattle.rl_syms.specs.Table.{IsTable, IsNamed, name_in_cells}
use Rattle.rl_text.specs.Datum.{Datum, Id, Str, Pair, Vector, elements}
use Rattle.rl_read.specs.Data.{IsDatumWithin, datum_within, IsDatum, datum_of}

-- where an object stands there are cells
pub stands_inside : (test : Cell → Bool) → test More ≡ false → (cells : List Cell) (k : ℕ) → test (cell_at cells k) ≡ true → k < length cells
stands_inside test fails cells k h = elim (cases_lt k (length cells)) [
  | inl l ↦ l
  | inr l ↦ let e : true ≡ false = sym h ∙ ap test (get_or_past cells k More l) ∙ fails in cc
]

-- the cells stay, and so do the names of interned identifiers
pub record Stays (old : List Cell) (before : Option Tagged) (new : List Cell) (after : Option Tagged) : Type 0 where
  pub same : (k : ℕ) → k < length old → cell_at new k ≡ cell_at old k
  pub names : (bytes : List ℕ) (id : Tagged) → IsNamed old before bytes id → IsNamed new after bytes id

pub stays_refl : (cells : List Cell) (head : Option Tagged) → Stays cells head cells head
stays_refl cells head = record { same = λ k l. refl; names = λ bytes id h. h }

-- an object that stands there stays
stays_at : (old : List Cell) (before : Option Tagged) (new : List Cell) (after : Option Tagged) → Stays old before new after → (test : Cell → Bool) → test More ≡ false → (k : ℕ) → test (cell_at old k) ≡ true → cell_at new k ≡ cell_at old k
stays_at old before new after s test fails k h = s.same k (stands_inside test fails old k h)

-- what holds of all of these as one thing holds of them as another
all_kept : (P Q : Tagged → Type 0) (f g : Tagged → Datum) → ((x : Tagged) → P x → Q x × (g x ≡ f x)) → (xs : List Tagged) → AllByRecursion P xs → AllByRecursion Q xs × (elements (map g xs) ≡ elements (map f xs))
all_kept P Q f g each [] h = (tt, refl)
all_kept P Q f g each (x ∷ xs) h =
    let first = each x h.0 in
    let rest = all_kept P Q f g each xs h.1 in
    ((first.0, rest.0), cc)

-- what was a datum is the same one, and may be deeper
datum_kept : (n m : ℕ) (old : List Cell) (before : Option Tagged) (new : List Cell) (after : Option Tagged) → Stays old before new after → n ≤ m → (v : Tagged) → IsDatumWithin n old before v → IsDatumWithin m new after v × (datum_within m new v ≡ datum_within n old v)
datum_kept n m old before new after s l (Number z) h = (tt, refl)
datum_kept n m old before new after s l (IdAt k) h =
    let named : IsNamed new after (name_in_cells old k) (IdAt k) = s.names (name_in_cells old k) (IdAt k) (record { interned = (refl, h.1); name_is = refl }) in
    ((ap is_id_cell (stays_at old before new after s is_id_cell refl k h.0) ∙ h.0, named.interned.1), ap Id named.name_is)
datum_kept n m old before new after s l (StrAt k) h =
    let same = stays_at old before new after s is_str_cell refl k h in
    (ap is_str_cell same ∙ h, ap (λ c. Str (bytes_in c)) same)
datum_kept zero m old before new after s l (PairAt k) h = absurd h
datum_kept (suc n) zero old before new after s l (PairAt k) h = absurd (omega arith)
datum_kept (suc n) (suc m) old before new after s l (PairAt k) h =
    let same = stays_at old before new after s is_pair_cell refl k h.0 in
    let first = datum_kept n m old before new after s (omega arith) (car_in (cell_at old k)) h.1 in
    let rest = datum_kept n m old before new after s (omega arith) (cdr_in (cell_at old k)) h.2 in
    rw same ((h.0, first.0, rest.0), cc)
datum_kept zero m old before new after s l (VectorAt k) h = absurd h
datum_kept (suc n) zero old before new after s l (VectorAt k) h = absurd (omega arith)
datum_kept (suc n) (suc m) old before new after s l (VectorAt k) h =
    let same = stays_at old before new after s is_vector_cell refl k h.0 in
    let parts = all_kept (IsDatumWithin n old before) (IsDatumWithin m new after) (datum_within n old) (datum_within m new) (λ x i. datum_kept n m old before new after s (omega arith) x i) (vector_in (cell_at old k)) h.1 in
    rw same ((h.0, parts.0), ap Vector parts.1)
datum_kept n m old before new after s l v h = absurd h

-- and where there are as many cells or more
pub data_kept : (old : List Cell) (before : Option Tagged) (new : List Cell) (after : Option Tagged) → Stays old before new after → length old ≤ length new → (v : Tagged) → IsDatum old before v → IsDatum new after v × (datum_of new v ≡ datum_of old v)
data_kept old before new after s l v h = datum_kept (length old) (length new) old before new after s l v h

-- the parts of a pair, which may be as deep as the pair
parts_within : (n m : ℕ) (cells : List Cell) (head : Option Tagged) (k : ℕ) → n ≤ m → IsDatumWithin n cells head (PairAt k)
    → IsDatumWithin m cells head (car_in (cell_at cells k)) × IsDatumWithin m cells head (cdr_in (cell_at cells k)) × (datum_within n cells (PairAt k) ≡ Pair (datum_within m cells (car_in (cell_at cells k))) (datum_within m cells (cdr_in (cell_at cells k))))
parts_within zero m cells head k l h = absurd h
parts_within (suc n) m cells head k l h =
    let first = datum_kept n m cells head cells head (stays_refl cells head) (omega arith) (car_in (cell_at cells k)) h.1 in
    let rest = datum_kept n m cells head cells head (stays_refl cells head) (omega arith) (cdr_in (cell_at cells k)) h.2 in
    (first.0, rest.0, cc)

pub pair_parts : (cells : List Cell) (head : Option Tagged) (p : Tagged) → is_pair cells p ≡ true → IsDatum cells head p
    → IsDatum cells head (car_of cells p) × IsDatum cells head (cdr_of cells p) × (datum_of cells p ≡ Pair (datum_of cells (car_of cells p)) (datum_of cells (cdr_of cells p)))
pair_parts cells head (PairAt k) h d = parts_within (length cells) (length cells) cells head k (omega arith) d
pair_parts cells head p h d = absurd cc

-- what is a datum lives
pub datum_live : (n : ℕ) (cells : List Cell) (head : Option Tagged) (v : Tagged) → IsDatumWithin n cells head v → is_live cells v ≡ true
datum_live n cells head (Number z) h = refl
datum_live n cells head (IdAt k) h = h.0
datum_live n cells head (StrAt k) h = h
datum_live zero cells head (PairAt k) h = absurd h
datum_live (suc n) cells head (PairAt k) h = h.0
datum_live zero cells head (VectorAt k) h = absurd h
datum_live (suc n) cells head (VectorAt k) h = h.0
datum_live n cells head v h = absurd h

-- ---- a new pair

pub pair_stays : IsAdded → IsKept → LeaveIdentifiers → (cells : List Cell) (head : Option Tagged) (a d : Tagged) → IsTable cells head → Stays cells head (cells ++ placed (PairCell a d)) head
pair_stays added kept leave cells head a d table = record {
  same = λ k l. added.stands cells (placed (PairCell a d)) k l;
  names = λ bytes id h. kept.names cells (cells ++ placed (PairCell a d)) head bytes id (leave.made cells (PairCell a d) refl) table h;
}

pair_longer : IsAdded → (cells : List Cell) (a d : Tagged) → length (cells ++ placed (PairCell a d)) ≡ suc (length cells)
pair_longer added cells a d = added.long cells (PairCell a d) (omega arith) ∙ omega arith

pub pair_kept : IsAdded → IsKept → LeaveIdentifiers → (cells : List Cell) (head : Option Tagged) (a d v : Tagged) → IsTable cells head → IsDatum cells head v
    → IsDatum (cells ++ placed (PairCell a d)) head v × (datum_of (cells ++ placed (PairCell a d)) v ≡ datum_of cells v)
pair_kept added kept leave cells head a d v table h =
    data_kept cells head (cells ++ placed (PairCell a d)) head (pair_stays added kept leave cells head a d table) (omega (arith, pair_longer added cells a d)) v h

-- a new pair of data, one deeper
pub pair_new : IsAdded → IsKept → LeaveIdentifiers → (cells : List Cell) (head : Option Tagged) (a d : Tagged) → IsTable cells head → IsDatum cells head a → IsDatum cells head d
    → IsDatum (cells ++ placed (PairCell a d)) head (PairAt (length cells)) × (datum_of (cells ++ placed (PairCell a d)) (PairAt (length cells)) ≡ Pair (datum_of cells a) (datum_of cells d))
pair_new added kept leave cells head a d table x y =
    let stays = pair_stays added kept leave cells head a d table in
    let n = length cells in
    let new = cells ++ placed (PairCell a d) in
    let first = datum_kept n n cells head new head stays (omega arith) a x in
    let rest = datum_kept n n cells head new head stays (omega arith) d y in
    rw (pair_longer added cells a d, added.here cells (PairCell a d)) ((refl, first.0, rest.0), cc)
