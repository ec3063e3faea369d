-- A vector that is filled with the elements of a list, one by one.
use Rattle.std.proofs.Common.{◌≡◌, ℕ, suc, ◌+◌, ◌-◌, ◌<◌, ◌≤◌, inl, inr, List, ◌++◌, length, take, true, false, refl, sym, ap, ◌∙◌, arith, append_assoc, append-nil, length-append, slice_set}
use Rattle.std.proofs.lemmas.Bool.{cases_eq, cases_lt}
use Rattle.std.proofs.lemmas.List.{get_or-set_other, get_or-set_same, get_or_past, length-take, set-get_or, set-set, take_all, take_more_set}
use Rattle.rl_tags.specs.Tagged.{Tagged, Number, IdAt, StrAt, PairAt, VectorAt, BigAt, FunAt, tag_of}
use Rattle.rl_tags.specs.declared.Tag.TheVariants as tag
use Rattle.rl_cells.specs.Cell.{Cell, More, VectorCell, car_in, car_of, cdr_in, cdr_of, cell_at, changed_at, is_live, is_pair, is_vector, is_vector_cell, vector_in, vector_of}
use Rattle.rl_world.specs.declared.world.World.{World}
use Rattle.rl_read.specs.Stock.{elements_from}
use Rattle.rl_read.proofs.ListElements.{elements_other, elements_pair, pair_by_tag}

-- ---- a changed vector

-- a vector stands before the end of the cells
within : (cells : List Cell) (k : ℕ) → is_vector_cell (cell_at cells k) ≡ true → k < length cells
within cells k h =
    elim (cases_lt k (length cells)) [
      | inl l ↦ l
      | inr l ↦ let e : true ≡ false = sym h ∙ ap is_vector_cell (get_or_past cells k More l) in absurd cc
    ]

-- it has the values that are put there
pub vector_here : (cells : List Cell) (v : Tagged) (xs : List Tagged) → is_vector cells v ≡ true → vector_of (changed_at cells v (VectorCell xs)) v ≡ xs
vector_here cells (VectorAt k) xs h = ap vector_in (get_or-set_same cells k (VectorCell xs) More (within cells k h))
vector_here cells v xs h = absurd cc

-- it is still a vector
pub vector_stays : (cells : List Cell) (v : Tagged) (xs : List Tagged) → is_vector cells v ≡ true → is_vector (changed_at cells v (VectorCell xs)) v ≡ true
vector_stays cells (VectorAt k) xs h = ap is_vector_cell (get_or-set_same cells k (VectorCell xs) More (within cells k h))
vector_stays cells v xs h = absurd cc

-- the later of two changes is what stands
pub changed_twice : (cells : List Cell) (v : Tagged) (c d : Cell) → changed_at (changed_at cells v c) v d ≡ changed_at cells v d
changed_twice cells (Number n) c d = refl
changed_twice cells (IdAt k) c d = set-set cells k c d
changed_twice cells (StrAt k) c d = set-set cells k c d
changed_twice cells (PairAt k) c d = set-set cells k c d
changed_twice cells (VectorAt k) c d = set-set cells k c d
changed_twice cells (BigAt k) c d = set-set cells k c d
changed_twice cells (FunAt k) c d = set-set cells k c d

-- a vector is its values
vector_cell : (c : Cell) → is_vector_cell c ≡ true → VectorCell (vector_in c) ≡ c
vector_cell (VectorCell xs) h = refl
vector_cell c h = absurd cc

-- its own values change nothing
pub changed_same : (cells : List Cell) (v : Tagged) → is_vector cells v ≡ true → changed_at cells v (VectorCell (vector_of cells v)) ≡ cells
changed_same cells (VectorAt k) h = rw (vector_cell (cell_at cells k) h) (set-get_or cells k More)
changed_same cells v h = absurd cc

-- what is the same for all vectors is as it was
part_kept : (f : Cell → Tagged) → ((xs ys : List Tagged) → f (VectorCell xs) ≡ f (VectorCell ys)) → (cells : List Cell) (k : ℕ) (xs : List Tagged) (j : ℕ) → is_vector_cell (cell_at cells k) ≡ true → f (cell_at (slice_set cells k (VectorCell xs)) j) ≡ f (cell_at cells j)
part_kept f same cells k xs j h =
    elim (cases_eq j k) [
      | inl e ↦ rw e (ap f (get_or-set_same cells k (VectorCell xs) More (within cells k h)) ∙ same xs (vector_in (cell_at cells k)) ∙ ap f (vector_cell (cell_at cells k) h))
      | inr n ↦ ap f (get_or-set_other cells k j (VectorCell xs) More n)
    ]

-- pairs have their car and cdr
pub car_kept : (cells : List Cell) (v : Tagged) (xs : List Tagged) (p : Tagged) → is_vector cells v ≡ true → car_of (changed_at cells v (VectorCell xs)) p ≡ car_of cells p
car_kept cells (VectorAt k) xs (PairAt j) h = part_kept car_in (λ xs ys. refl) cells k xs j h
car_kept cells (VectorAt k) xs (Number n) h = refl
car_kept cells (VectorAt k) xs (IdAt j) h = refl
car_kept cells (VectorAt k) xs (StrAt j) h = refl
car_kept cells (VectorAt k) xs (VectorAt j) h = refl
car_kept cells (VectorAt k) xs (BigAt j) h = refl
car_kept cells (VectorAt k) xs (FunAt j) h = refl
car_kept cells v xs p h = absurd cc

-- and their cdr
pub cdr_kept : (cells : List Cell) (v : Tagged) (xs : List Tagged) (p : Tagged) → is_vector cells v ≡ true → cdr_of (changed_at cells v (VectorCell xs)) p ≡ cdr_of cells p
cdr_kept cells (VectorAt k) xs (PairAt j) h = part_kept cdr_in (λ xs ys. refl) cells k xs j h
cdr_kept cells (VectorAt k) xs (Number n) h = refl
cdr_kept cells (VectorAt k) xs (IdAt j) h = refl
cdr_kept cells (VectorAt k) xs (StrAt j) h = refl
cdr_kept cells (VectorAt k) xs (VectorAt j) h = refl
cdr_kept cells (VectorAt k) xs (BigAt j) h = refl
cdr_kept cells (VectorAt k) xs (FunAt j) h = refl
cdr_kept cells v xs p h = absurd cc

-- ---- filling it

-- what has elements is a pair
tag_left : (m : ℕ) (cells : List Cell) (v : Tagged) → 0 < length (elements_from m cells v) → tag_of v ≡ tag.Pair
tag_left m cells (PairAt k) l = refl
tag_left m cells (Number k) l = absurd (omega (arith, ap length (elements_other m cells (Number k) (λ e. cc))))
tag_left m cells (IdAt k) l = absurd (omega (arith, ap length (elements_other m cells (IdAt k) (λ e. cc))))
tag_left m cells (StrAt k) l = absurd (omega (arith, ap length (elements_other m cells (StrAt k) (λ e. cc))))
tag_left m cells (VectorAt k) l = absurd (omega (arith, ap length (elements_other m cells (VectorAt k) (λ e. cc))))
tag_left m cells (BigAt k) l = absurd (omega (arith, ap length (elements_other m cells (BigAt k) (λ e. cc))))
tag_left m cells (FunAt k) l = absurd (omega (arith, ap length (elements_other m cells (FunAt k) (λ e. cc))))

-- where elements are left a pair stands
pub left_pair : (old : List Cell) (at : Tagged) (xs ys : List Tagged) (n i : ℕ) → length xs ≡ n → length ys ≡ n → i < n → xs ≡ take i ys ++ elements_from (n - i) old at → tag_of at ≡ tag.Pair
left_pair old at xs ys n i x y l e =
    tag_left (n - i) old at (omega (arith, ap length e, length-append (take i ys) (elements_from (n - i) old at), length-take i ys))

-- and it lives where it stands
pub left_is_pair : (old cells : List Cell) (at : Tagged) (xs ys : List Tagged) (n i : ℕ) → length xs ≡ n → length ys ≡ n → i < n → xs ≡ take i ys ++ elements_from (n - i) old at → is_live cells at ≡ true → is_pair cells at ≡ true
left_is_pair old cells at xs ys n i x y l e live = pair_by_tag cells at (left_pair old at xs ys n i x y l e) live

-- one element more is put
pub filled_more : (old : List Cell) (at : Tagged) (xs ys : List Tagged) (n i : ℕ) → tag_of at ≡ tag.Pair → length ys ≡ n → i < n → xs ≡ take i ys ++ elements_from (n - i) old at → xs ≡ take (i + 1) (slice_set ys i (car_of old at)) ++ elements_from (n - (i + 1)) old (cdr_of old at)
filled_more old at xs ys n i p y l e =
    let s : n - i ≡ suc (n - (i + 1)) = omega arith in
    rw (take_more_set ys i (car_of old at) (omega arith), append_assoc) (rw (s, elements_pair (n - (i + 1)) old at p) at e)

-- all are put
pub filled_all : (old : List Cell) (at : Tagged) (xs ys : List Tagged) (n i : ℕ) → length ys ≡ n → n ≤ i → xs ≡ take i ys ++ elements_from (n - i) old at → ys ≡ xs
filled_all old at xs ys n i y l e =
    let s : n - i ≡ 0 = omega arith in
    sym (rw (s, take_all i ys (omega arith), append-nil) at e)

-- the world with more of them
pub world_filled : (old w : World) (v : Tagged) (ys zs : List Tagged) → is_vector w.cells.cells v ≡ true → w ≡ record old { cells = record old.cells { cells = changed_at old.cells.cells v (VectorCell ys) } }
    → record w { cells = record w.cells { cells = changed_at w.cells.cells v (VectorCell zs) } } ≡ record old { cells = record old.cells { cells = changed_at old.cells.cells v (VectorCell (vector_of (changed_at w.cells.cells v (VectorCell zs)) v)) } }
world_filled old w v ys zs is e = rw (vector_here w.cells.cells v zs is, e, changed_twice old.cells.cells v (VectorCell ys) (VectorCell zs))

-- its car is the one that the list had
pub car_was : (old w : World) (v : Tagged) (ys : List Tagged) (p : Tagged) → is_vector old.cells.cells v ≡ true → w ≡ record old { cells = record old.cells { cells = changed_at old.cells.cells v (VectorCell ys) } } → car_of w.cells.cells p ≡ car_of old.cells.cells p
car_was old w v ys p is e = rw e (car_kept old.cells.cells v ys p is)

-- and so is its cdr, when another value is put
pub cdr_was : (old w : World) (v : Tagged) (ys zs : List Tagged) (p : Tagged) → is_vector old.cells.cells v ≡ true → is_vector w.cells.cells v ≡ true → w ≡ record old { cells = record old.cells { cells = changed_at old.cells.cells v (VectorCell ys) } } → cdr_of (changed_at w.cells.cells v (VectorCell zs)) p ≡ cdr_of old.cells.cells p
cdr_was old w v ys zs p is still e = cdr_kept w.cells.cells v zs p still ∙ rw e (cdr_kept old.cells.cells v ys p is)
