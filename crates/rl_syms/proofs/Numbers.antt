-- What begins at cells that pass a test is numbered by its making.
use Rattle.std.proofs.Common.{◌≡◌, ℕ, zero, suc, ◌+◌, ◌-◌, ◌<◌, ◌≤◌, ◌⊎◌, Bool, true, false, List, [], ◌++◌, length, take, add-one, refl, sym, ap, ◌∙◌, arith, inl, inr}
use Rattle.std.specs.Prelude.{cond}
use Rattle.std.specs.List.{count_by}
use Rattle.std.proofs.lemmas.List.Recursion.{is_count_by}
use Rattle.std.proofs.lemmas.Bool.{cases_Bool, cases_lt, cases_order}
use Rattle.std.proofs.lemmas.List.{get_or_past, take-append-le, take_all}
use Rattle.std.proofs.lemmas.List.Sums.{count_by_more_yes, count_by_more_no}
use Rattle.std.proofs.Math.Seq.{take-length}
use Rattle.rl_cells.specs.Cell.{Cell, PairCell, StrCell, VectorCell, BigCell, BlockCell, More, cell_at, is_id_cell, is_fun_cell}
use Rattle.rl_syms.specs.Contents.{ids_before, funs_before, object_count, objects_among}
use Rattle.rl_syms.specs.Numbers.{NumbersByMaking, IdentifiersAreNumbered, FunctionsAreNumbered, ObjectsAreNumbered, is_object_cell}
use Rattle.rl_syms.proofs.New.{tested_inside}

abbrev counted : (Cell → Bool) → List Cell → ℕ → ℕ
counted p cells k = count_by p (take k cells)

counted_past : (p : Cell → Bool) (cells : List Cell) (k : ℕ) → length cells ≤ k → counted p cells k ≡ counted p cells (length cells)
counted_past p cells k l = ap (count_by p) (take_all k cells l ∙ sym (take-length cells))

counted_here : (p : Cell → Bool) → p More ≡ false → (cells : List Cell) (k : ℕ) → p (cell_at cells k) ≡ true → counted p cells (k + 1) ≡ counted p cells k + 1
counted_here p fails cells k h = count_by_more_yes p cells k More (tested_inside p fails cells k h) h

counted_elsewhere : (p : Cell → Bool) (cells : List Cell) (k : ℕ) → p (cell_at cells k) ≡ false → counted p cells (k + 1) ≡ counted p cells k
counted_elsewhere p cells k h = elim (cases_lt k (length cells)) [
  | inl l ↦ count_by_more_no p cells k More l h
  | inr l ↦ counted_past p cells (k + 1) (omega (arith, l)) ∙ sym (counted_past p cells k l)
]

one_if : Bool → ℕ
one_if true = 1
one_if false = 0

-- one step, whatever begins there
counted_step : (p : Cell → Bool) → p More ≡ false → (cells : List Cell) (k : ℕ) → counted p cells (k + 1) ≡ counted p cells k + one_if (p (cell_at cells k))
unfolding one_if
counted_step p fails cells k = go (p (cell_at cells k)) refl
  where
    go : (b : Bool) → p (cell_at cells k) ≡ b → counted p cells (k + 1) ≡ counted p cells k + one_if b
    go true h = counted_here p fails cells k h
    go false h = counted_elsewhere p cells k h ∙ omega arith

counted_ordered : (p : Cell → Bool) → p More ≡ false → (cells : List Cell) (j n : ℕ) → counted p cells j ≤ counted p cells (j + n)
counted_ordered p fails cells j zero = let e : counted p cells j ≡ counted p cells (j + 0) = ap (counted p cells) (omega arith) in omega (arith, e)
counted_ordered p fails cells j (suc n) =
    let below = counted_ordered p fails cells j n in
    let e : counted p cells (j + suc n) ≡ counted p cells (j + n + 1) = ap (counted p cells) (omega arith) in
    omega (arith, below, e, counted_step p fails cells (j + n))

ordered : (p : Cell → Bool) → p More ≡ false → (cells : List Cell) (j k : ℕ) → j ≤ k → counted p cells j ≤ counted p cells k
ordered p fails cells j k l =
    let e : counted p cells (j + (k - j)) ≡ counted p cells k = ap (counted p cells) (omega (arith, l)) in
    omega (arith, counted_ordered p fails cells j (k - j), e)

later : (p : Cell → Bool) → p More ≡ false → (cells : List Cell) (j k : ℕ) → p (cell_at cells j) ≡ true → j < k → counted p cells j < counted p cells k
later p fails cells j k h l = omega (arith, counted_here p fails cells j h, ordered p fails cells (j + 1) k (omega (arith, l)))

distinct : (p : Cell → Bool) → p More ≡ false → (cells : List Cell) (j k : ℕ) → p (cell_at cells j) ≡ true → p (cell_at cells k) ≡ true → counted p cells j ≡ counted p cells k → j ≡ k
distinct p fails cells j k h g e = elim (cases_order j k) [
  | inl same ↦ same
  | inr o ↦ elim o [
    | inl l ↦ absurd (omega (arith, later p fails cells j k h l, e))
    | inr l ↦ absurd (omega (arith, later p fails cells k j g l, e))
  ]
]

-- each number below the count is that of a place
numbered_below : (p : Cell → Bool) → p More ≡ false → (cells : List Cell) (n i : ℕ) → i < counted p cells n → (k : ℕ) × (p (cell_at cells k) ≡ true) × (counted p cells k ≡ i)
numbered_below p fails cells zero i l = absurd (omega (arith, l))
numbered_below p fails cells (suc n) i l =
    let e : counted p cells (suc n) ≡ counted p cells (n + 1) = ap (counted p cells) (sym (add-one n)) in
    go (numbered_below p fails cells n i) (p (cell_at cells n)) refl (cases_lt i (counted p cells n)) e
  where
    go : (i < counted p cells n → (k : ℕ) × (p (cell_at cells k) ≡ true) × (counted p cells k ≡ i)) → (b : Bool) → p (cell_at cells n) ≡ b → (i < counted p cells n) ⊎ (counted p cells n ≤ i) → counted p cells (suc n) ≡ counted p cells (n + 1) → (k : ℕ) × (p (cell_at cells k) ≡ true) × (counted p cells k ≡ i)
    go below b h (inl m) e = below m
    go below true h (inr m) e = (n, h, omega (arith, m, l, e, counted_here p fails cells n h))
    go below false h (inr m) e = absurd (omega (arith, m, l, e, counted_elsewhere p cells n h))

counted_same : (p : Cell → Bool) → p More ≡ false → (old new : List Cell) (k : ℕ) → ((j : ℕ) → j < k → p (cell_at new j) ≡ p (cell_at old j)) → counted p new k ≡ counted p old k
counted_same p fails old new zero h = refl
counted_same p fails old new (suc k) h =
    let e : counted p new (suc k) ≡ counted p new (k + 1) = ap (counted p new) (sym (add-one k)) in
    let f : counted p old (suc k) ≡ counted p old (k + 1) = ap (counted p old) (sym (add-one k)) in
    let one : one_if (p (cell_at new k)) ≡ one_if (p (cell_at old k)) = ap one_if (h k (omega (arith, add-one k))) in
    omega (arith, e, f, one, counted_step p fails new k, counted_step p fails old k, counted_same p fails old new k (λ j l. h j (omega (arith, add-one k, l))))

numbered : (p : Cell → Bool) → p More ≡ false → NumbersByMaking p (λ cells k. count_by p (take k cells))
numbered p fails = record {
  none = λ cells. refl;
  here = counted_here p fails;
  elsewhere = counted_elsewhere p;
  ordered = ordered p fails;
  later = later p fails;
  distinct = distinct p fails;
  within = λ cells k h. later p fails cells k (length cells) h (tested_inside p fails cells k h);
  each = λ cells i l. numbered_below p fails cells (length cells) i l;
  past = counted_past p;
  stays = λ cells more k l. ap (count_by p) (take-append-le k cells more l);
  same = counted_same p fails;
}

pub ids_numbered : IdentifiersAreNumbered
unfolding ids_before
ids_numbered = numbered is_id_cell refl

pub funs_numbered : FunctionsAreNumbered
unfolding funs_before
funs_numbered = numbered is_fun_cell refl

-- another reckoning that comes to the same numbers
renumbered : {passes : Cell → Bool} {one other : List Cell → ℕ → ℕ} → NumbersByMaking passes one → ((cells : List Cell) (k : ℕ) → other cells k ≡ one cells k) → NumbersByMaking passes other
renumbered law e = record {
  none = λ cells. e cells 0 ∙ law.none cells;
  here = λ cells k h. e cells (k + 1) ∙ law.here cells k h ∙ ap (λ n. n + 1) (sym (e cells k));
  elsewhere = λ cells k h. e cells (k + 1) ∙ law.elsewhere cells k h ∙ sym (e cells k);
  ordered = λ cells j k l. omega (arith, e cells j, e cells k, law.ordered cells j k l);
  later = λ cells j k h l. omega (arith, e cells j, e cells k, law.later cells j k h l);
  distinct = λ cells j k g h same. law.distinct cells j k g h (sym (e cells j) ∙ same ∙ e cells k);
  within = λ cells k h. omega (arith, e cells k, e cells (length cells), law.within cells k h);
  each = λ cells i l. let found = law.each cells i (omega (arith, l, e cells (length cells))) in (found.0, found.1, e cells found.0 ∙ found.2);
  past = λ cells k l. e cells k ∙ law.past cells k l ∙ sym (e cells (length cells));
  stays = λ cells more k l. e (cells ++ more) k ∙ law.stays cells more k l ∙ sym (e cells k);
  same = λ old new k h. e new k ∙ law.same old new k h ∙ sym (e old k);
}

objects_counted_one : (c : Cell) (n : ℕ) → object_count c + n ≡ cond (is_object_cell c) (1 + n) n
objects_counted_one (PairCell a d) n = refl
objects_counted_one (VectorCell xs) n = refl
objects_counted_one (StrCell bytes) n = omega arith
objects_counted_one (BigCell z) n = omega arith
objects_counted_one (BlockCell t words) n = omega arith
objects_counted_one More n = omega arith

pub objects_numbered : ObjectsAreNumbered
objects_numbered = renumbered (numbered is_object_cell refl) (λ cells k. is_count_by objects_among is_object_cell refl (λ c rest. objects_counted_one c (objects_among rest)) (take k cells))

-- places where none begins are not counted
pub none_between : {passes : Cell → Bool} {number : List Cell → ℕ → ℕ} → NumbersByMaking passes number → (cells : List Cell) (j m : ℕ) → ((k : ℕ) → j ≤ k → k < j + m → passes (cell_at cells k) ≡ true → ⊥) → number cells (j + m) ≡ number cells j
none_between {passes} {number} law cells j zero none = let e : j + 0 ≡ j = omega arith in ap (number cells) e
none_between {passes} {number} law cells j (suc m) none =
    let up : j + suc m ≡ j + m + 1 = omega arith in
    let here : passes (cell_at cells (j + m)) ≡ false = elim (cases_Bool (passes (cell_at cells (j + m)))) [
      | inl is ↦ absurd (none (j + m) (omega arith) (omega arith) is)
      | inr isnt ↦ isnt
    ] in
    ap (number cells) up ∙ law.elsewhere cells (j + m) here ∙ none_between law cells j m (λ k l n. none k l (omega (arith, n)))

-- where none begins before a place, none was made before it
pub none_before : (cells : List Cell) (k : ℕ) → ((j : ℕ) → j < k → is_id_cell (cell_at cells j) ≡ false) → ids_before cells k ≡ 0
unfolding ids_before
none_before cells k h = counted_same is_id_cell refl [] cells k (λ j l. h j l ∙ sym (ap is_id_cell (get_or_past [] j More (omega arith)))) ∙ ap (count_by is_id_cell) (take_all k [] (omega arith))
