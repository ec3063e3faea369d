-- The elements of a list, one by one.
use Rattle.std.proofs.Common.{◌≡◌, ◌≢◌, ℕ, zero, suc, ◌+◌, ◌-◌, ◌<◌, ◌≤◌, List, [], ◌∷◌, length, true, refl, arith}
use Rattle.rl_tags.specs.Tagged.{Tagged, Number, IdAt, StrAt, PairAt, VectorAt, BigAt, FunAt, tag_of}
use Rattle.rl_tags.specs.declared.Tag.TheVariants as tag
use Rattle.rl_cells.specs.Cell.{Cell, car_of, cdr_of, is_live, is_pair}
use Rattle.rl_read.specs.Stock.{elements_from}

-- a pair has its car, and what its cdr has
pub elements_pair : (n : ℕ) (cells : List Cell) (v : Tagged) → tag_of v ≡ tag.Pair → elements_from (suc n) cells v ≡ car_of cells v ∷ elements_from n cells (cdr_of cells v)
elements_pair n cells (PairAt k) p = refl
elements_pair n cells v p = absurd cc

-- what is no pair has none
pub elements_other : (n : ℕ) (cells : List Cell) (v : Tagged) → tag_of v ≢ tag.Pair → elements_from n cells v ≡ []
elements_other zero cells v other = refl
elements_other (suc n) cells (PairAt k) other = absurd (other refl)
elements_other (suc n) cells (Number k) other = refl
elements_other (suc n) cells (IdAt k) other = refl
elements_other (suc n) cells (StrAt k) other = refl
elements_other (suc n) cells (VectorAt k) other = refl
elements_other (suc n) cells (BigAt k) other = refl
elements_other (suc n) cells (FunAt k) other = refl

-- a count goes one pair further
pub count_more : (cells : List Cell) (v : Tagged) (most n total : ℕ) → n < most → tag_of v ≡ tag.Pair → total ≡ n + length (elements_from (most - n) cells v) → total ≡ n + 1 + length (elements_from (most - (n + 1)) cells (cdr_of cells v))
count_more cells v most n total l p h =
    let e : most - n ≡ suc (most - (n + 1)) = omega arith in
    omega (arith, rw (e, elements_pair (most - (n + 1)) cells v p) at h)

-- a count ends where no pair stands
pub count_end : (cells : List Cell) (v : Tagged) (m n total : ℕ) → tag_of v ≢ tag.Pair → total ≡ n + length (elements_from m cells v) → n ≡ total
count_end cells v m n total other h = omega (arith, rw (elements_other m cells v other) at h)

-- and at the most that it may be
pub count_most : (cells : List Cell) (v : Tagged) (most n total : ℕ) → most ≤ n → n ≤ most → total ≡ n + length (elements_from (most - n) cells v) → n ≡ total
count_most cells v most n total l r h = let e : most - n ≡ 0 = omega arith in omega (arith, rw e at h)

-- what lives with the tag of a pair is one
pub pair_by_tag : (cells : List Cell) (v : Tagged) → tag_of v ≡ tag.Pair → is_live cells v ≡ true → is_pair cells v ≡ true
pair_by_tag cells (PairAt k) e live = live
pair_by_tag cells v e live = absurd cc
