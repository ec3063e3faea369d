-- Cells given back: the list is cut where no object straddles the cut.
use Rattle.std.proofs.Common.{◌≡◌, ℕ, ◌+◌, ◌<◌, ◌≤◌, true, Option, Some, None, List, [], ◌∷◌, ◌++◌, length, set, take, drop, refl, sym, ap, ◌∙◌, inl, inr, arith, length-append}
use Rattle.std.proofs.lemmas.List.{get_or-take, get_or_past, length-take-le, take-append-drop, length-set}
use Rattle.std.proofs.lemmas.Bool.{cases_lt}
use Rattle.rl_tags.specs.Tagged.{Tagged}
use Rattle.rl_cells.specs.Cell.{Cell, More, cell_at, cost_of, placed, is_live}
use Rattle.rl_cells.specs.Stored.{IsStored, IsBoundary, IsCut}
use Rattle.rl_cells.proofs.Kept.{where_is, before, here, after, cost_kept, is_live-append}

-- at the mark
pub IsBoundary-mark : (ws : List ℕ) (cells : List Cell) → IsStored ws cells → IsBoundary cells (length cells)
IsBoundary-mark ws cells s = record {
  long = omega arith;
  below = λ k l. elim (cases_lt 0 (cost_of (cell_at cells k))) [ inl p ↦ s.within k p | inr p ↦ omega arith ];
}

-- and after each new object
pub IsBoundary-append : (cells : List Cell) (c : Cell) (n : ℕ) → IsBoundary cells n → IsBoundary (cells ++ placed c) n
IsBoundary-append cells c n b = record {
  long = let e = length-append cells (placed c) in omega (arith, b.long);
  below = λ k l. elim (where_is cells c k) [
    | before m e ↦ rw e (b.below k l)
    | here m e ↦ absurd (omega (arith, b.long))
    | after m e ↦ absurd (omega (arith, b.long))
  ];
}

-- and after a change of an object to one of its cost
pub IsBoundary-set : (cells : List Cell) (k : ℕ) (c : Cell) (n : ℕ) → k < length cells → cost_of c ≡ cost_of (cell_at cells k) → IsBoundary cells n → IsBoundary (set cells k c) n
IsBoundary-set cells k c n l e b = record {
  long = rw length-set b.long;
  below = λ j m. rw (cost_kept cells k c j l e) (b.below j m);
}

pub IsCut-append : (mk : Option ℕ) (cells : List Cell) (c : Cell) → IsCut mk cells → IsCut mk (cells ++ placed c)
IsCut-append None cells c h = tt
IsCut-append (Some n) cells c h = IsBoundary-append cells c n h

pub IsCut-set : (mk : Option ℕ) (cells : List Cell) (k : ℕ) (c : Cell) → k < length cells → cost_of c ≡ cost_of (cell_at cells k) → IsCut mk cells → IsCut mk (set cells k c)
IsCut-set None cells k c l e h = tt
IsCut-set (Some n) cells k c l e h = IsBoundary-set cells k c n l e h

cell_at-take : (cells : List Cell) (n k : ℕ) → k < n → cell_at (take n cells) k ≡ cell_at cells k
cell_at-take cells n k l = get_or-take n cells k More l

cell_at-cut : (cells : List Cell) (n k : ℕ) → n ≤ length cells → n ≤ k → cell_at (take n cells) k ≡ More
cell_at-cut cells n k l m = let e = length-take-le n cells l in get_or_past (take n cells) k More (omega arith)

pub IsStored-take : (ws : List ℕ) (cells : List Cell) (n : ℕ) → IsStored ws cells → IsBoundary cells n → IsStored ws (take n cells)
IsStored-take ws cells n s b = record {
  laid = λ k. elim (cases_lt k n) [
    | inl l ↦ rw (cell_at-take cells n k l) (s.laid k)
    | inr l ↦ rw (cell_at-cut cells n k b.long l) tt
  ];
  apart = λ k j p q. elim (cases_lt k n) [
    | inl l ↦
        let cost : cost_of (cell_at (take n cells) k) ≡ cost_of (cell_at cells k) = ap cost_of (cell_at-take cells n k l) in
        let inside = b.below k l in
        rw (cell_at-take cells n (k + j) (omega arith)) (s.apart k j p (omega arith))
    | inr l ↦ cell_at-cut cells n (k + j) b.long (omega arith)
  ];
  within = λ k p. elim (cases_lt k n) [
    | inl l ↦ let inside = b.below k l in rw (cell_at-take cells n k l, length-take-le n cells b.long) inside
    | inr l ↦ let z : cost_of (cell_at (take n cells) k) ≡ 0 = ap cost_of (cell_at-cut cells n k b.long l) in absurd (omega arith)
  ];
}

-- what is live below the cut is live in the whole
pub is_live-take : (cells : List Cell) (n : ℕ) (v : Tagged) → is_live (take n cells) v ≡ true → is_live cells v ≡ true
is_live-take cells n v h = let whole = is_live-append (take n cells) (drop n cells) v h in ap (λ cs. is_live cs v) (sym (take-append-drop n cells)) ∙ whole

-- what was made after a mark is cut off whole
pub released_all : (cells more : List Cell) → take (length cells) (cells ++ more) ≡ cells
released_all [] [] = refl
released_all [] (c ∷ more) = refl
released_all (c ∷ cells) more = ap (λ cs. c ∷ cs) (released_all cells more)
