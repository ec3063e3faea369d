-- The vector of the elements of a list: they are the same in the cells with the vector, which holds them as if it had been made with them.
use Rattle.std.proofs.Common.{◌≡◌, ℕ, zero, suc, ◌+◌, ◌-◌, ◌/◌, ◌^◌, ◌<◌, ◌≤◌, inl, inr, List, ◌∷◌, ◌++◌, length, replicate, Option, Bool, true, false, if◌then◌else◌, refl, sym, ap, ◌∙◌, arith}
use Rattle.std.specs.Prelude.{nat_le}
use Rattle.std.proofs.lemmas.Bool.{cases_eq, cases_lt}
use Rattle.std.proofs.lemmas.Bool.Decides.{nat_tests}
use Rattle.std.proofs.lemmas.List.{get_or_past, length-replicate, set_at}
use Rattle.rl_tags.specs.Ids.{nil_id}
use Rattle.rl_tags.specs.Tagged.{Tagged, Number, IdAt, StrAt, PairAt, VectorAt, BigAt, FunAt}
use Rattle.rl_cells.specs.Cell.{Cell, CellStore, More, VectorCell, car_in, cdr_in, cell_at, changed_at, cost_of, grown, is_live, is_pair, placed}
use Rattle.rl_cells.specs.Laws.{IsAdded}
use Rattle.rl_syms.specs.Table.{IsTable}
use Rattle.rl_world.specs.Counts.{roomed}
use Rattle.rl_world.specs.declared.world.World.{World}
use Rattle.rl_read.specs.Frames.{IsChain, chain_of}
use Rattle.rl_text.specs.Maker.{Wants}
use Rattle.rl_world.specs.declared.stop.Stop.{Stop}
use Rattle.rl_world.specs.declared.stop.Stop.TheVariants as stop
use Rattle.rl_read.specs.Stock.{Stock, elements_from, first_of_chain, object_made, vector_made, vector_with}
use Rattle.rl_read.specs.Stock as stock
use Rattle.rl_read.specs.declared.frames.Chain.{Chain}
use Rattle.rl_read.specs.declared.frames.Chain.TheVariants as chain

-- a list has at most as many elements as are asked for
pub elements_few : (m : ℕ) (cells : List Cell) (v : Tagged) → length (elements_from m cells v) ≤ m
elements_few zero cells v = omega arith
elements_few (suc m) cells (PairAt k) = omega (arith, elements_few m cells (cdr_in (cell_at cells k)))
elements_few (suc m) cells v = omega arith

-- and where as many as it has are asked for, all of them
pub elements_enough : (m : ℕ) (cells : List Cell) (v : Tagged) → elements_from (length (elements_from m cells v)) cells v ≡ elements_from m cells v
elements_enough zero cells v = refl
elements_enough (suc m) cells (PairAt k) = ap (λ (xs : List Tagged). car_in (cell_at cells k) ∷ xs) (elements_enough m cells (cdr_in (cell_at cells k)))
elements_enough (suc m) cells (Number k) = refl
elements_enough (suc m) cells (IdAt k) = refl
elements_enough (suc m) cells (StrAt k) = refl
elements_enough (suc m) cells (VectorAt k) = refl
elements_enough (suc m) cells (BigAt k) = refl
elements_enough (suc m) cells (FunAt k) = refl

-- what a new vector has as little as no object is as it was
part_added : IsAdded → (f : Cell → Tagged) (ys : List Tagged) → f (VectorCell ys) ≡ f More → (cells : List Cell) (k : ℕ) → f (cell_at (cells ++ placed (VectorCell ys)) k) ≡ f (cell_at cells k)
part_added added f ys same cells k =
    elim (cases_lt k (length cells)) [
      | inl l ↦ ap f (added.stands cells (placed (VectorCell ys)) k l)
      | inr l ↦ elim (cases_eq k (length cells)) [
        | inl e ↦ let none : cell_at cells k ≡ More = get_or_past cells k More l in rw none (rw e (ap f (added.here cells (VectorCell ys)) ∙ same))
        | inr n ↦ let none : cell_at cells k ≡ More = get_or_past cells k More l in rw none (ap f (added.past cells (VectorCell ys) k (omega (arith, n))))
      ]
    ]

-- a list has the same elements when a vector is made
pub elements_added : IsAdded → (m : ℕ) (ys : List Tagged) (cells : List Cell) (v : Tagged) → elements_from m (cells ++ placed (VectorCell ys)) v ≡ elements_from m cells v
elements_added added zero ys cells v = refl
elements_added added (suc m) ys cells (PairAt k) = rw (part_added added car_in ys refl cells k, part_added added cdr_in ys refl cells k) (ap (λ (xs : List Tagged). car_in (cell_at cells k) ∷ xs) (elements_added added m ys cells (cdr_in (cell_at cells k))))
elements_added added (suc m) ys cells (Number k) = refl
elements_added added (suc m) ys cells (IdAt k) = refl
elements_added added (suc m) ys cells (StrAt k) = refl
elements_added added (suc m) ys cells (VectorAt k) = refl
elements_added added (suc m) ys cells (BigAt k) = refl
elements_added added (suc m) ys cells (FunAt k) = refl

-- as many elements as were counted are all of them, when a vector is made
pub elements_counted : IsAdded → (most n : ℕ) (ys : List Tagged) (cells : List Cell) (v : Tagged) → n ≡ length (elements_from most cells v) → elements_from n (cells ++ placed (VectorCell ys)) v ≡ elements_from most cells v
elements_counted added most n ys cells v e = elements_added added n ys cells v ∙ rw e (elements_enough most cells v)

-- a new vector that is filled at once is one that was made so
pub vector_changed : (s : CellStore) (xs ys : List Tagged) → length ys ≡ length xs → record (grown s (VectorCell ys)) { cells = changed_at (grown s (VectorCell ys)).cells (VectorAt (length s.cells)) (VectorCell xs) } ≡ grown s (VectorCell xs)
vector_changed s xs ys e =
    let cost : cost_of (VectorCell ys) ≡ cost_of (VectorCell xs) = rw e in
    rw (set_at s.cells (VectorCell ys) (replicate (cost_of (VectorCell ys) - 1) More) (VectorCell xs) (length s.cells) refl, e)

-- also with the elements of a list that were counted before
pub vector_filled : IsAdded → (s : CellStore) (list : Tagged) (most n : ℕ) → n ≡ length (elements_from most s.cells list)
    → record (grown s (VectorCell (replicate n nil_id))) { cells = changed_at (grown s (VectorCell (replicate n nil_id))).cells (VectorAt (length s.cells)) (VectorCell (elements_from n (grown s (VectorCell (replicate n nil_id))).cells list)) } ≡ grown s (VectorCell (elements_from most s.cells list))
vector_filled added s list most n e =
    rw (elements_counted added most n (replicate n nil_id) s.cells list e) (vector_changed s (elements_from most s.cells list) (replicate n nil_id) (length-replicate n nil_id ∙ e))

-- a pair lives
pub pair_live : (cells : List Cell) (v : Tagged) → is_pair cells v ≡ true → is_live cells v ≡ true
pair_live cells (PairAt k) h = h
pair_live cells v h = absurd cc

-- what a list begins with lives
pub first_live : (cells : List Cell) (head : Option Tagged) (c : Chain) → IsTable cells head → IsChain cells c → is_live cells (first_of_chain (chain_of c)) ≡ true
first_live cells head chain.Empty table h = table.nil
first_live cells head (chain.Pairs first last) table h = pair_live cells first h.0

-- the world with room taken, a vector made, and the vector filled is one with the vector of the elements
pub vector_world : IsAdded → (w r new : World) (s : CellStore) (list v : Tagged) (most n : ℕ) → n ≡ length (elements_from most w.cells.cells list)
    → r ≡ record w { counts = roomed w.counts (1 + (n + 1) / 2) }
    → v ≡ VectorAt (length r.cells.cells)
    → s ≡ grown r.cells (VectorCell (replicate n nil_id))
    → new ≡ record r { cells = record s { cells = changed_at s.cells v (VectorCell (elements_from n s.cells list)) } }
    → new ≡ record w { cells = grown w.cells (VectorCell (elements_from most w.cells.cells list)); counts = roomed w.counts (cost_of (VectorCell (elements_from most w.cells.cells list))) }
vector_world added w r new s list v most n count room at made filled =
    filled ∙ rw (at, made, room)
    (ap (λ (c : CellStore). record w { cells = c; counts = roomed w.counts (1 + (n + 1) / 2) }) (vector_filled added w.cells list most n count)
    ∙ ap (λ (k : ℕ). record w { cells = grown w.cells (VectorCell (elements_from most w.cells.cells list)); counts = roomed w.counts (1 + (k + 1) / 2) }) count)

-- ---- the vector of a list that was counted

counted_made : (c : stock.PairChain) (k : Stock) (list : Tagged) (b : Bool) → list ≡ first_of_chain c → nat_le (length (elements_from (2 ^ 31 + 1) k.cells.cells list)) (2 ^ 31) ≡ b
    → vector_made c k ≡ (if b then object_made (λ n. VectorAt n) (VectorCell (elements_from (2 ^ 31 + 1) k.cells.cells list)) k else Wants stop.Cells k)
counted_made c k list b is e =
    ap (λ (v : Tagged). vector_with (elements_from (2 ^ 31 + 1) k.cells.cells v) k) (sym is)
    ∙ ap (λ (t : Bool). if t then object_made (λ n. VectorAt n) (VectorCell (elements_from (2 ^ 31 + 1) k.cells.cells list)) k else Wants stop.Cells k) e

below : (m n : ℕ) → m ≤ n → nat_le m n ≡ true
below m n l = grind (arith, nat_tests)

above : (m n : ℕ) → n < m → nat_le m n ≡ false
above m n l = grind (arith, nat_tests)

-- of as many elements as a vector has places, or fewer, it is made as an object
pub vector_few : (c : stock.PairChain) (k : Stock) (list : Tagged) (n : ℕ) → list ≡ first_of_chain c → n ≡ length (elements_from (2 ^ 31 + 1) k.cells.cells list) → n ≤ 2 ^ 31
    → vector_made c k ≡ object_made (λ n. VectorAt n) (VectorCell (elements_from (2 ^ 31 + 1) k.cells.cells list)) k
vector_few c k list n is count few = counted_made c k list true is (below (length (elements_from (2 ^ 31 + 1) k.cells.cells list)) (2 ^ 31) (omega arith))

-- of more there is none
pub vector_many : (c : stock.PairChain) (k : Stock) (list : Tagged) (n : ℕ) → list ≡ first_of_chain c → n ≡ length (elements_from (2 ^ 31 + 1) k.cells.cells list) → 2 ^ 31 < n → vector_made c k ≡ Wants stop.Cells k
vector_many c k list n is count many = counted_made c k list false is (above (length (elements_from (2 ^ 31 + 1) k.cells.cells list)) (2 ^ 31) (omega arith))

-- something is wanting for it
pub vector_lacks : (c : stock.PairChain) (k made : Stock) (list : Tagged) (n : ℕ) (s : Stop) → list ≡ first_of_chain c → n ≡ length (elements_from (2 ^ 31 + 1) k.cells.cells list) → n ≤ 2 ^ 31
    → object_made (λ n. VectorAt n) (VectorCell (elements_from (2 ^ 31 + 1) k.cells.cells list)) k ≡ Wants s made → vector_made c k ≡ Wants s made
vector_lacks c k made list n s is count few h = vector_few c k list n is count few ∙ h
