-- Lists that a vector has the other way round.
use Rattle.std.proofs.Common.{◌≡◌, ◌≢◌, ℕ, zero, suc, ◌+◌, ◌-◌, ◌<◌, ◌≤◌, Bool, true, false, ◌==◌, List, [], ◌∷◌, ◌++◌, length, take, drop, reverse, replicate, get_or, set, refl, sym, ap, ◌∙◌, arith}
use Rattle.std.proofs.lemmas.Bool.{eqb-true, eqb-false}
use Rattle.std.proofs.lemmas.List.{ext_get_or, get_or-reverse, get_or-set_other, get_or-set_same, length-reverse, length-set, length-drop, drop_all, reverse-append, reverse-reverse, take-append-drop, replicate_more}
use Rattle.std.proofs.Math.Seq.{take-append_seam}

pub reverse-pushed : {X : Type 0} (xs : List X) (x : X) → reverse (xs ++ x ∷ []) ≡ x ∷ reverse xs
reverse-pushed xs x = reverse-append xs (x ∷ [])

pub reverse-set : {X : Type 0} (xs : List X) (k : ℕ) (y : X) → k < length xs → reverse (set xs (length xs - 1 - k) y) ≡ set (reverse xs) k y
reverse-set {X} xs k y l =
    let long : length (reverse (set xs (length xs - 1 - k) y)) ≡ length (set (reverse xs) k y) = length-reverse (set xs (length xs - 1 - k) y) ∙ length-set xs (length xs - 1 - k) y ∙ sym (length-reverse xs) ∙ sym (length-set (reverse xs) k y) in
    let whole : length (reverse (set xs (length xs - 1 - k) y)) ≡ length xs = length-reverse (set xs (length xs - 1 - k) y) ∙ length-set xs (length xs - 1 - k) y in
    ext_get_or y (reverse (set xs (length xs - 1 - k) y)) (set (reverse xs) k y) long (λ i h. at i (omega (arith, whole, h)) (i == k) refl)
  where
    new : List X
    new = set xs (length xs - 1 - k) y

    at : (i : ℕ) → i < length xs → (b : Bool) → (i == k) ≡ b → get_or (reverse new) i y ≡ get_or (set (reverse xs) k y) i y
    at i h true e =
        let same : i ≡ k = eqb-true i k e in
        let n : length new ≡ length xs = length-set xs (length xs - 1 - k) y in
        let r : length (reverse xs) ≡ length xs = length-reverse xs in
        get_or-reverse new i y (omega (arith, n, h)) ∙ ap (λ m. get_or new (m - 1 - i) y) n ∙ ap (λ j. get_or new (length xs - 1 - j) y) same
        ∙ get_or-set_same xs (length xs - 1 - k) y y (omega (arith, l))
        ∙ sym (get_or-set_same (reverse xs) k y y (omega (arith, r, l))) ∙ ap (λ j. get_or (set (reverse xs) k y) j y) (sym same)
    at i h false e =
        let ne : i ≢ k = eqb-false i k e in
        let n : length new ≡ length xs = length-set xs (length xs - 1 - k) y in
        get_or-reverse new i y (omega (arith, n, h)) ∙ ap (λ m. get_or new (m - 1 - i) y) n
        ∙ get_or-set_other xs (length xs - 1 - k) (length xs - 1 - i) y y (λ f. ne (omega (arith, f, h, l)))
        ∙ sym (get_or-reverse xs i y h) ∙ sym (get_or-set_other (reverse xs) k i y y ne)

replicate_front : {X : Type 0} (n : ℕ) (y : X) → reverse (replicate n y) ≡ replicate n y
replicate_front zero y = refl
replicate_front (suc n) y =
    let e : suc n ≡ n + 1 = omega arith in
    ap reverse (ap (λ m. replicate m y) e ∙ sym (replicate_more n y)) ∙ reverse-pushed (replicate n y) y ∙ ap (λ ys. y ∷ ys) (replicate_front n y)

pub reverse-filled : {X : Type 0} (xs : List X) (n : ℕ) (y : X) → reverse (xs ++ replicate n y) ≡ replicate n y ++ reverse xs
reverse-filled xs n y = reverse-append xs (replicate n y) ∙ ap (λ ys. ys ++ reverse xs) (replicate_front n y)

pub drop-both : {X : Type 0} (n m : ℕ) (xs : List X) → drop n (drop m xs) ≡ drop (m + n) xs
drop-both n zero xs = let e : n ≡ 0 + n = omega arith in ap (λ k. drop k xs) e
drop-both n (suc m) [] = drop_all n [] (omega arith) ∙ sym (drop_all (suc m + n) [] (omega arith))
drop-both n (suc m) (x ∷ xs) = let e : suc (m + n) ≡ suc m + n = omega arith in drop-both n m xs ∙ ap (λ k. drop k (x ∷ xs)) e

-- what is cut off at the end was at the front
pub reverse-cut : {X : Type 0} (xs : List X) (k : ℕ) → k ≤ length xs → reverse (take (length xs - k) xs) ≡ drop k (reverse xs)
reverse-cut xs k l = ap (λ ys. reverse (take (length ys - k) ys)) (sym (reverse-reverse xs)) ∙ ap (λ n. reverse (take (n - k) (reverse (reverse xs)))) (length-reverse (reverse xs)) ∙ cut (reverse xs) k (omega (arith, l, length-reverse xs))
  where
    cut : {X : Type 0} (ys : List X) (k : ℕ) → k ≤ length ys → reverse (take (length ys - k) (reverse ys)) ≡ drop k ys
    cut ys k h =
        let parts : reverse ys ≡ reverse (drop k ys) ++ reverse (take k ys) = ap reverse (sym (take-append-drop k ys)) ∙ reverse-append (take k ys) (drop k ys) in
        let long : length ys - k ≡ length (reverse (drop k ys)) = sym (length-reverse (drop k ys) ∙ length-drop k ys) in
        ap reverse (ap (λ zs. take (length ys - k) zs) parts ∙ ap (λ n. take n (reverse (drop k ys) ++ reverse (take k ys))) long ∙ take-append_seam (reverse (drop k ys)) (reverse (take k ys))) ∙ reverse-reverse (drop k ys)
