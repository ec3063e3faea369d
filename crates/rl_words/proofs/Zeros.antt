-- A word is set behind the words that are written.
use Rattle.std.proofs.Common.{arith, sym, ◌∙◌, ap, subst, ◌≡◌, ℕ, suc, ◌+◌, ◌-◌, ◌<◌, ◌≤◌, List, [], ◌∷◌, ◌++◌, length, replicate, slice_set}
use Rattle.std.proofs.Math.Seq.{set-append_seam}
use Rattle.std.proofs.lemmas.List.{append_assoc, length-replicate, length-append, replicate-append-replicate}

-- so many words, each 0
abbrev zeros : ℕ → List ℕ
zeros n = replicate n 0

set_there : (ys zs : List ℕ) (i w : ℕ) → length ys ≡ i → slice_set (ys ++ 0 ∷ zs) i w ≡ ys ++ w ∷ zs
set_there ys zs i w e = subst (λ k. slice_set (ys ++ 0 ∷ zs) k w ≡ ys ++ w ∷ zs) e (set-append_seam ys 0 zs w)

-- zeros up to a place, one there, and those behind it
split_at : (xs : List ℕ) (a b : ℕ) → xs ++ zeros (a + suc b) ≡ (xs ++ zeros a) ++ 0 ∷ zeros b
split_at xs a b = ap (λ zs. xs ++ zs) (sym (replicate-append-replicate a (suc b) 0)) ∙ sym (append_assoc xs (zeros a) (0 ∷ zeros b))

set_in_zeros : (xs : List ℕ) (a b i w : ℕ) → length xs + a ≡ i → slice_set (xs ++ zeros (a + suc b)) i w ≡ (xs ++ zeros a) ++ w ∷ zeros b
set_in_zeros xs a b i w e =
    ap (λ zs. slice_set zs i w) (split_at xs a b) ∙ set_there (xs ++ zeros a) (zeros b) i w (length-append xs (zeros a) ∙ ap (λ n. length xs + n) (length-replicate a 0) ∙ e)

pub set_behind : (xs ys : List ℕ) (many i w : ℕ) → length xs ≤ i → i < many → ys ≡ (xs ++ zeros (i - length xs)) ++ w ∷ [] → ys ++ zeros (many - length ys) ≡ slice_set (xs ++ zeros (many - length xs)) i w
set_behind xs ys many i w h k e =
    let a : ℕ = i - length xs in
    let b : ℕ = many - suc i in
    let long : length ys ≡ suc i = ap (λ l. length l) e ∙ length-append (xs ++ zeros a) (w ∷ []) ∙ ap (λ n. n + 1) (length-append xs (zeros a) ∙ ap (λ n. length xs + n) (length-replicate a 0)) ∙ omega arith in
    let all : many - length xs ≡ a + suc b = omega arith in
    let left : ys ++ zeros (many - length ys) ≡ (xs ++ zeros a) ++ w ∷ zeros b = ap (λ n. ys ++ zeros (many - n)) long ∙ ap (λ l. l ++ zeros b) e ∙ append_assoc (xs ++ zeros a) (w ∷ []) (zeros b) in
    left ∙ sym (ap (λ n. slice_set (xs ++ zeros n) i w) all ∙ set_in_zeros xs a b i w (omega arith))

-- as many words as there are
pub view_long : (xs : List ℕ) (many : ℕ) → length xs ≤ many → length (xs ++ zeros (many - length xs)) ≡ many
view_long xs many h = length-append xs (zeros (many - length xs)) ∙ ap (λ n. length xs + n) (length-replicate (many - length xs) 0) ∙ omega arith

-- as a caller sees it
pub set_seen : (xs ys now : List ℕ) (many i w : ℕ) → now ≡ xs ++ zeros (many - length xs) → length xs ≤ many → length xs ≤ i → i < length now → ys ≡ (xs ++ zeros (i - length xs)) ++ w ∷ [] → ys ++ zeros (many - length ys) ≡ slice_set now i w
set_seen xs ys now many i w v h k j e =
    let within : i < many = subst (λ n. i < n) (ap (λ l. length l) v ∙ view_long xs many h) j in
    set_behind xs ys many i w k within e ∙ ap (λ l. slice_set l i w) (sym v)
