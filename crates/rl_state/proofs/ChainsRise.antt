-- A list that is not whole yet, each pair of which was made after the one before: it ends, and has no more pairs than there are objects.
use Rattle.std.proofs.Common.{◌≡◌, ℕ, zero, suc, ◌+◌, ◌<◌, ◌≤◌, ◌^◌, true, List, [], ◌∷◌, length, take, get_or, Some, None, refl, sym, ap, subst, ◌∙◌, arith}
use Rattle.rl_tags.specs.Tagged.{Tagged, PairAt}
use Rattle.rl_cells.specs.Cell.{Cell, PairCell, StrCell, VectorCell, BigCell, BlockCell, More, cdr_in, cell_at, is_pair, is_pair_cell}
use Rattle.rl_syms.specs.Contents.{number_at, object_count, objects_among, store_of}
use Rattle.rl_syms.specs.Laws.{ChangesMeaning}
use Rattle.rl_syms.specs.Table.{nil_value}
use Rattle.rl_read.specs.Stock.{PairChain, elements_from, elements_of}

-- from the pair at f to the pair at q by so many cdrs, each to a place further on
abbrev pub Rises : List Cell → ℕ → ℕ → ℕ → Type 0
Rises cells zero f q = f ≡ q
Rises cells (suc n) f q = (g : ℕ) × (f < g) × (cdr_in (cell_at cells f) ≡ PairAt g) × Rises cells n g q

-- the last pair is in these places, and its cdr is NIL
pub record IsRising (cells : List Cell) (lo hi : ℕ) (c : Tagged × Tagged) : Type 0 where
  pub begin : ℕ
  pub end : ℕ
  pub steps : ℕ
  pub first : c.0 ≡ PairAt begin
  pub last : c.1 ≡ PairAt end
  pub above : lo ≤ end
  pub below : end < hi
  pub rises : Rises cells steps begin end
  pub nil : cdr_in (cell_at cells end) ≡ nil_value

abbrev pub IsOpenIn : List Cell → ℕ → ℕ → PairChain → Type 0
IsOpenIn cells lo hi None = Unit {0}
IsOpenIn cells lo hi (Some c) = IsRising cells lo hi c

pub rises_far : (cells : List Cell) (n f q : ℕ) → Rises cells n f q → f + n ≤ q
rises_far cells zero f q e = omega (arith, e)
rises_far cells (suc n) f q h = let later = rises_far cells n h.0 q h.3 in let l = h.1 in omega (arith, later, l)

-- what stands before the last pair is the same
pub rises_kept : (old new : List Cell) (n f q : ℕ) → ((j : ℕ) → j < q → cell_at new j ≡ cell_at old j) → Rises old n f q → Rises new n f q
rises_kept old new zero f q same e = e
rises_kept old new (suc n) f q same h =
    let far = rises_far old n h.0 q h.3 in
    let l = h.1 in
    (h.0, l, ap cdr_in (same f (omega (arith, far, l))) ∙ h.2, rises_kept old new n h.0 q same h.3)

-- one pair more
pub rises_on : (cells : List Cell) (n f q r : ℕ) → q < r → cdr_in (cell_at cells q) ≡ PairAt r → Rises cells n f q → Rises cells (suc n) f r
rises_on cells zero f q r l e h = subst (λ i. Rises cells 1 i r) (sym h) (r, l, e, refl)
rises_on cells (suc n) f q r l e h = (h.0, h.1, h.2, rises_on cells n h.0 q r l e h.3)

-- ---- elements

none_in_nil : (m : ℕ) (cells : List Cell) (v : Tagged) → v ≡ nil_value → length (elements_from m cells v) ≡ 0
none_in_nil zero cells v e = refl
none_in_nil (suc m) cells v e = ap (λ v. length (elements_from (suc m) cells v)) e

pub elements_rise : (cells : List Cell) (n m f q : ℕ) → Rises cells n f q → cdr_in (cell_at cells q) ≡ nil_value → length (elements_from m cells (PairAt f)) ≤ suc n
elements_rise cells n zero f q h end = omega arith
elements_rise cells zero (suc m) f q h end =
    let none = none_in_nil m cells (cdr_in (cell_at cells f)) (ap (λ i. cdr_in (cell_at cells i)) h ∙ end) in
    omega (arith, none)
elements_rise cells (suc n) (suc m) f q h end =
    let later = elements_rise cells n m h.0 q h.3 end in
    let same : length (elements_from m cells (cdr_in (cell_at cells f))) ≡ length (elements_from m cells (PairAt h.0)) = ap (λ v. length (elements_from m cells v)) h.2 in
    omega (arith, later, same)

-- ---- as many objects

one_object : (c : Cell) (g : ℕ) → cdr_in c ≡ PairAt g → object_count c ≡ 1
one_object (PairCell a d) g e = refl
one_object (StrCell bytes) g e = absurd (cc)
one_object (VectorCell xs) g e = absurd (cc)
one_object (BigCell z) g e = absurd (cc)
one_object (BlockCell t words) g e = absurd (cc)
one_object More g e = absurd (cc)

more_before : (cells : List Cell) (f g : ℕ) → f < g → objects_among (take f cells) + object_count (get_or cells f More) ≤ objects_among (take g cells)
more_before [] zero zero l = absurd (omega (arith, l))
more_before [] zero (suc g) l = omega arith
more_before [] (suc f) zero l = absurd (omega (arith, l))
more_before [] (suc f) (suc g) l = omega arith
more_before (c ∷ cells) zero zero l = absurd (omega (arith, l))
more_before (c ∷ cells) zero (suc g) l = omega arith
more_before (c ∷ cells) (suc f) zero l = absurd (omega (arith, l))
more_before (c ∷ cells) (suc f) (suc g) l = let h = more_before cells f g (omega (arith, l)) in omega (arith, h)

pub objects_rise : (cells : List Cell) (n f q : ℕ) → Rises cells n f q → number_at cells f + n ≤ number_at cells q
objects_rise cells zero f q h = let e = ap (number_at cells) h in omega (arith, e)
objects_rise cells (suc n) f q h =
    let later = objects_rise cells n h.0 q h.3 in
    let one = one_object (cell_at cells f) h.0 h.2 in
    let more = more_before cells f h.0 h.1 in
    omega (arith, later, one, more)

-- a list that is not whole yet has at most as many elements as there are cells, and as there are objects
pub record EndsWithin (cells : List Cell) (c : PairChain) : Type 0 where
  pub cells_many : length (elements_of cells c) ≤ length cells
  pub objects_many : length (elements_of cells c) ≤ length (store_of cells)

abbrev pub IsLastPair : List Cell → PairChain → Type 0
IsLastPair cells None = Unit {0}
IsLastPair cells (Some c) = is_pair cells c.1 ≡ true

pub open_ends : ChangesMeaning → (cells : List Cell) (lo hi : ℕ) (c : PairChain) → ((q : ℕ) → is_pair_cell (cell_at cells q) ≡ true → q < length cells) → IsLastPair cells c → IsOpenIn cells lo hi c → EndsWithin cells c
open_ends changes cells lo hi None inside is h = record { cells_many = omega arith; objects_many = omega arith }
open_ends changes cells lo hi (Some c) inside is h =
    let few : length (elements_of cells (Some c)) ≤ suc h.steps = subst (λ v. length (elements_from (2 ^ 31 + 1) cells v) ≤ suc h.steps) (sym h.first) (elements_rise cells h.steps (2 ^ 31 + 1) h.begin h.end h.rises h.nil) in
    let pair : is_pair_cell (cell_at cells h.end) ≡ true = subst (λ v. is_pair cells v ≡ true) h.last is in
    let far = rises_far cells h.steps h.begin h.end h.rises in
    let within = inside h.end pair in
    let many = objects_rise cells h.steps h.begin h.end h.rises in
    let stood = (changes.cdr cells (PairAt h.end) nil_value pair).stood in
    record { cells_many = omega (arith, few, far, within); objects_many = omega (arith, few, many, stood) }
