-- The digits of a name that GENSYM makes are those of the definition: as many as there are, and four at least.
use Rattle.std.proofs.Common.{◌≡◌, ℕ, zero, suc, ◌+◌, ◌-◌, ◌*◌, ◌/◌, ◌%◌, ◌^◌, ◌<◌, ◌≤◌, Bool, true, false, nat_lt, [], ◌∷◌, ◌++◌, length, decimal, refl, sym, ap, subst, ◌∙◌, arith, length-append, lit≤}
use Rattle.std.specs.Prelude.{replicate}
use Rattle.std.proofs.lemmas.Bool.{ltb-true, ltb-false}
use Rattle.std.proofs.lemmas.Fmt.{decimal_digit, decimal_nonempty, decimal_step}
use Rattle.std.proofs.lemmas.List.{replicate-append-replicate}
use Rattle.std.proofs.Math.Nat.{pow-suc}
use mathlib.Core.List.{append_assoc}
use Rattle.rl_syms.specs.Gensym.{IsWidth, digits}
use Rattle.rl_meaning.specs.Atoms.{padded}

-- one digit more is a tenth of the number, and its last digit
below_tenth : (n p : ℕ) → n < p * 10 → n / 10 < p
below_tenth n p h = omega (arith, h)

last_longer : (n : ℕ) → 10 ≤ n → n < 2 ^ 64 → length (decimal n) ≡ length (decimal (n / 10)) + 1
last_longer n l h = ap length (decimal_step n l h) ∙ length-append (decimal (n / 10)) ((48 + n % 10) ∷ [])

zeros_on : (w : ℕ) → ◌++◌ {A = ℕ} (replicate w 48) (48 ∷ []) ≡ replicate (suc w) 48
zeros_on w = let more : w + 1 ≡ suc w = omega arith in replicate-append-replicate w 1 48 ∙ ap (λ k. replicate k 48) more

padded_digits : (w n : ℕ) → n < 10 ^ suc w → n < 2 ^ 64 → digits (suc w) n ≡ replicate (suc w - length (decimal n)) 48 ++ decimal n
padded_digits zero n l h =
    let small : n < 10 = l in
    let last : n % 10 ≡ n = omega (arith, small) in
    let one : length (decimal n) ≡ 1 = ap length (decimal_digit n small) in
    ap (λ d. (48 + d) ∷ []) last ∙ sym (ap (λ k. replicate (1 - k) 48 ++ decimal n) one ∙ decimal_digit n small)
padded_digits (suc w) n l h =
    let less = below_tenth n (10 ^ suc w) (subst (λ p. n < p) (pow-suc 10 (suc w)) l) in
    let fits : n / 10 < 2 ^ 64 = omega (arith, h) in
    ap (λ ds. ds ++ (48 + n % 10) ∷ []) (padded_digits w (n / 10) less fits) ∙ go (nat_lt n 10) refl
  where
    go : (b : Bool) → nat_lt n 10 ≡ b → replicate (suc w - length (decimal (n / 10))) 48 ++ decimal (n / 10) ++ (48 + n % 10) ∷ [] ≡ replicate (suc (suc w) - length (decimal n)) 48 ++ decimal n
    go true e =
        let small = ltb-true n 10 e in
        let none : n / 10 ≡ 0 = omega (arith, small) in
        let last : n % 10 ≡ n = omega (arith, small) in
        let one : length (decimal n) ≡ 1 = ap length (decimal_digit n small) in
        let zero_is : decimal 0 ≡ 48 ∷ [] = decimal_digit 0 (omega arith) in
        let less : suc w - 1 ≡ w = omega arith in
        let less_now : suc (suc w) - 1 ≡ suc w = omega arith in
        ap (λ z. replicate (suc w - length (decimal z)) 48 ++ decimal z ++ (48 + n % 10) ∷ []) none
        ∙ ap (λ ds. replicate (suc w - length ds) 48 ++ ds ++ (48 + n % 10) ∷ []) zero_is
        ∙ ap (λ k. replicate k 48 ++ 48 ∷ [] ++ (48 + n % 10) ∷ []) less
        ∙ ap (λ d. replicate w 48 ++ 48 ∷ [] ++ (48 + d) ∷ []) last
        ∙ ap (λ z. z ++ (48 + n) ∷ []) (zeros_on w)
        ∙ sym (ap (λ k. replicate (suc (suc w) - k) 48 ++ decimal n) one ∙ ap (λ k. replicate k 48 ++ decimal n) less_now ∙ ap (λ ds. replicate (suc w) 48 ++ ds) (decimal_digit n small))
    go false e =
        let large = ltb-false n 10 e in
        let step = decimal_step n large h in
        let longer = last_longer n large h in
        let less : suc (suc w) - (length (decimal (n / 10)) + 1) ≡ suc w - length (decimal (n / 10)) = omega arith in
        append_assoc (replicate (suc w - length (decimal (n / 10))) 48) (decimal (n / 10)) ((48 + n % 10) ∷ [])
        ∙ sym (ap (λ k. replicate (suc (suc w) - k) 48 ++ decimal n) longer ∙ ap (λ k. replicate k 48 ++ decimal n) less ∙ ap (λ ds. replicate (suc w - length (decimal (n / 10))) 48 ++ ds) step)

power_some : (k : ℕ) → 1 ≤ 10 ^ k
power_some zero = lit≤ tt
power_some (suc k) = let more = pow-suc 10 k in let rest = power_some k in omega (arith, more, rest)

-- a number of so many digits has no fewer
long_decimal : (k n : ℕ) → 10 ^ k ≤ n → n < 2 ^ 64 → suc k ≤ length (decimal n)
long_decimal zero n l h = let some = decimal_nonempty n h in omega (arith, some)
long_decimal (suc k) n l h =
    let more : 10 ^ k * 10 ≤ n = subst (λ p. p ≤ n) (pow-suc 10 k) l in
    let large : 10 ≤ n = ten_at_least (10 ^ k) n (power_some k) more in
    let tenth : 10 ^ k ≤ n / 10 = omega (arith, more) in
    let fits : n / 10 < 2 ^ 64 = omega (arith, h) in
    let rest = long_decimal k (n / 10) tenth fits in
    let longer = last_longer n large h in
    omega (arith, rest, longer)
  where
    ten_at_least : (p n : ℕ) → 1 ≤ p → p * 10 ≤ n → 10 ≤ n
    ten_at_least p n a b = omega (arith, a, b)

pub digits_are_padded : (w n : ℕ) → IsWidth w n → n < 2 ^ 64 → digits w n ≡ padded (decimal n)
digits_are_padded zero n is h = let four = is.four in absurd (omega (arith, four))
digits_are_padded (suc w) n is h = padded_digits w n is.fits h ∙ ap (λ k. replicate k 48 ++ decimal n) (go (nat_lt 4 (suc w)) refl)
  where
    go : (b : Bool) → nat_lt 4 (suc w) ≡ b → suc w - length (decimal n) ≡ 4 - length (decimal n)
    go true e =
        let less : suc w - 1 ≡ w = omega arith in
        let four = ltb-true 4 (suc w) e in
        let long = long_decimal w n (subst (λ k. 10 ^ k ≤ n) less (is.needed four)) h in
        omega (arith, long, four)
    go false e = let most = ltb-false 4 (suc w) e in let four = is.four in omega (arith, most, four)
