-- Links between the numbers of two runs, and elements of lists.
use Rattle.std.proofs.Common.{◌≡◌, ◌<◌, ◌≢◌, ◌⊎◌, inl, inr, ℕ, zero, suc, List, [], ◌∷◌, ◌++◌, length, slice_get, slice_set, Some, refl, ap, arith}
use Rattle.rl_meaning.specs.TwoRunsLinks.{Links, link, Linked, newest, older, OneToOne, Within}

pub linked_cases : (a b r q : ℕ) (ls : Links) → Linked (link a b ls) r q → ((r ≡ a) × (q ≡ b)) ⊎ Linked ls r q
linked_cases a b r q ls (newest _ _ _) = inl (refl, refl)
linked_cases a b r q ls (older _ _ _ _ _ h) = inr h

-- the next number on both sides
pub one_more : (ls : Links) (m n : ℕ) → OneToOne ls → Within ls m n → OneToOne (link m n ls)
one_more ls m n o w = record {
  right = λ r q p h k. right r q p (linked_cases m n r q ls h) (linked_cases m n r p ls k);
  left = λ r p q h k. left r p q (linked_cases m n r q ls h) (linked_cases m n p q ls k);
}
  where
    right : (r q p : ℕ) → ((r ≡ m) × (q ≡ n)) ⊎ Linked ls r q → ((r ≡ m) × (p ≡ n)) ⊎ Linked ls r p → q ≡ p
    right r q p (inl h) (inl k) = omega (arith, h.1, k.1)
    right r q p (inl h) (inr k) = absurd (omega (arith, h.0, w.left r p k))
    right r q p (inr h) (inl k) = absurd (omega (arith, k.0, w.left r q h))
    right r q p (inr h) (inr k) = o.right r q p h k

    left : (r p q : ℕ) → ((r ≡ m) × (q ≡ n)) ⊎ Linked ls r q → ((p ≡ m) × (q ≡ n)) ⊎ Linked ls p q → r ≡ p
    left r p q (inl h) (inl k) = omega (arith, h.0, k.0)
    left r p q (inl h) (inr k) = absurd (omega (arith, h.1, w.right p q k))
    left r p q (inr h) (inl k) = absurd (omega (arith, k.1, w.right r q h))
    left r p q (inr h) (inr k) = o.left r p q h k

pub within_more : (ls : Links) (m n i j : ℕ) → Within ls m n → m < i → n < j → Within (link m n ls) i j
within_more ls m n i j w a b = record {
  left = λ r q h. left r q (linked_cases m n r q ls h);
  right = λ r q h. right r q (linked_cases m n r q ls h);
}
  where
    left : (r q : ℕ) → ((r ≡ m) × (q ≡ n)) ⊎ Linked ls r q → r < i
    left r q (inl h) = omega (arith, h.0)
    left r q (inr h) = omega (arith, w.left r q h)

    right : (r q : ℕ) → ((r ≡ m) × (q ≡ n)) ⊎ Linked ls r q → q < j
    right r q (inl h) = omega (arith, h.1)
    right r q (inr h) = omega (arith, w.right r q h)

-- ---- elements of lists

pub get_left : {A : Type 0} (xs ys : List A) (i : ℕ) → i < length xs → slice_get (xs ++ ys) i ≡ slice_get xs i
get_left (x ∷ xs) ys zero h = refl
get_left (x ∷ xs) ys (suc i) h = get_left xs ys i (omega (arith, h))
get_left [] ys i h = absurd (omega (arith, h))

pub get_last : {A : Type 0} (xs : List A) (y : A) → slice_get (xs ++ y ∷ []) (length xs) ≡ Some y
get_last [] y = refl
get_last (x ∷ xs) y = get_last xs y

pub get_set_same : {A : Type 0} (xs : List A) (i : ℕ) (y : A) → i < length xs → slice_get (slice_set xs i y) i ≡ Some y
get_set_same (x ∷ xs) zero y h = refl
get_set_same (x ∷ xs) (suc i) y h = get_set_same xs i y (omega (arith, h))
get_set_same [] i y h = absurd (omega (arith, h))

pub get_set_other : {A : Type 0} (xs : List A) (i j : ℕ) (y : A) → j ≢ i → slice_get (slice_set xs i y) j ≡ slice_get xs j
get_set_other [] i j y h = refl
get_set_other (x ∷ xs) zero zero y h = absurd (h refl)
get_set_other (x ∷ xs) zero (suc j) y h = refl
get_set_other (x ∷ xs) (suc i) zero y h = refl
get_set_other (x ∷ xs) (suc i) (suc j) y h = get_set_other xs i j y (λ e. h (ap suc e))

pub length_set : {A : Type 0} (xs : List A) (i : ℕ) (y : A) → length (slice_set xs i y) ≡ length xs
length_set [] i y = refl
length_set (x ∷ xs) zero y = refl
length_set (x ∷ xs) (suc i) y = ap suc (length_set xs i y)
