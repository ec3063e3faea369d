-- Powers with a large exponent: out of range, or told by whether the exponent is odd.
use Rattle.std.proofs.Common.{◌≡◌, refl, sym, ap, subst, ◌∙◌, arith, ℕ, zero, suc, ◌%◌, ◌^◌, ◌<◌, ◌≤◌, ◌≤ℤ◌, ℤ, pos, negsuc, Bool, true, false, cond, Option, Some, None}
use Rattle.std.proofs.Math.Nat.{pow-zero, pow-suc, pow-le-pow_left, pow-le-pow_right}
use Rattle.std.proofs.lemmas.Int.{ints}
use Rattle.std.specs.Prelude.{FitsSigned, unsigned_abs, neg_ℤ, nat_le, ◌==◌}
use Rattle.std.specs.Int.{w128, int_pow}
use Rattle.std.specs.Option.{SomeIff}
use Rattle.rl_num.specs.Arithmetic.{integer_power, is_representable, range_bits}

zero_power : (n : ℕ) → 0 ^ suc n ≡ 0
zero_power n = omega (arith, pow-suc 0 n)

pub one_power : (n : ℕ) → 1 ^ n ≡ 1
one_power zero = pow-zero 1
one_power (suc n) = omega (arith, pow-suc 1 n, one_power n)

-- 0 and 1 are their own powers
small_power : (b n : ℕ) → b ≤ 1 → 0 < n → b ≡ b ^ n
small_power b zero small some = absurd (omega arith)
small_power zero (suc n) small some = sym (zero_power n)
small_power (suc b) (suc n) small some =
    let one : suc b ≡ 1 = omega arith in
    subst (λ x. x ≡ x ^ suc n) (sym one) (sym (one_power (suc n)))

-- the size of a power
pub size_of_power : (u : ℤ) (n : ℕ) → unsigned_abs (int_pow u n) ≡ unsigned_abs u ^ n
size_of_power (pos a) n = refl
size_of_power (negsuc a) n = by (n % 2 == 0) (suc a ^ n)
  where
    by : (t : Bool) (m : ℕ) → unsigned_abs (cond t (pos m) (neg_ℤ (pos m))) ≡ m
    by true m = refl
    by false zero = refl
    by false (suc m) = refl

size_within : (z : ℤ) → FitsSigned w128 z → unsigned_abs z ≤ 2 ^ 127
size_within (pos n) f = omega (arith, f.sfits)
size_within (negsuc n) f = omega (arith, f.sfits)

out_by_size : (z : ℤ) (m : ℕ) → unsigned_abs z ≡ m → 2 ^ suc range_bits ≤ m → is_representable z ≡ false
out_by_size (pos n) m size large = grind (arith, size, large)
out_by_size (negsuc n) m size large = grind (arith, size, large)

-- the power of a base below 2 in size is told by whether the exponent is odd
pub small_base_power : (u : ℤ) (n k : ℕ) → unsigned_abs u ≤ 1 → 0 < n → 0 < k → n % 2 ≡ k % 2 → int_pow u n ≡ int_pow u k
small_base_power (pos a) n k small some_n some_k even =
    let at_n : a ≡ a ^ n = small_power a n (omega (arith, small)) some_n in
    let at_k : a ≡ a ^ k = small_power a k (omega (arith, small)) some_k in
    ap pos (sym at_n ∙ at_k)
small_base_power (negsuc a) n k small some_n some_k even =
    let at_n : suc a ≡ suc a ^ n = small_power (suc a) n (omega (arith, small)) some_n in
    let at_k : suc a ≡ suc a ^ k = small_power (suc a) k (omega (arith, small)) some_k in
    ap (λ x. cond (x == 0) (pos (suc a ^ n)) (neg_ℤ (pos (suc a ^ n)))) even
    ∙ ap (λ y. cond (k % 2 == 0) (pos y) (neg_ℤ (pos y))) (sym at_n ∙ at_k)

-- of any other base the power is at least as large as that of 2
pub power_of_two_below : (u : ℤ) (n : ℕ) → 2 ≤ unsigned_abs u → 2 ^ n ≤ unsigned_abs u ^ n
power_of_two_below u n large = pow-le-pow_left large n

-- so with an exponent from 128 on it is outside 128 bits
large_power_is_out : (u : ℤ) (n : ℕ) → 2 ≤ unsigned_abs u → 128 ≤ n → FitsSigned w128 (int_pow u n) → ⊥
large_power_is_out u n large many f =
    let below = power_of_two_below u n large in
    let rises : 2 ^ 128 ≤ 2 ^ n = pow-le-pow_right (omega arith) many in
    omega (arith, below, rises, size_of_power u n, size_within (int_pow u n) f)

-- and with an exponent above the bits of an integer it is out of range
pub power_is_out_of_range : (u : ℤ) (n : ℕ) → 2 ≤ unsigned_abs u → range_bits < n → is_representable (int_pow u n) ≡ false
power_is_out_of_range u n large many =
    let below = power_of_two_below u n large in
    let rises : 2 ^ suc range_bits ≤ 2 ^ n = pow-le-pow_right (omega arith) {i = suc range_bits} {j = n} (omega arith) in
    out_by_size (int_pow u n) (unsigned_abs u ^ n) (size_of_power u n) (omega (arith, below, rises))

by_lower : (u : ℤ) (n k : ℕ) (r : Option ℤ) → 2 ≤ unsigned_abs u → 128 ≤ n → 128 ≤ k → SomeIff r (FitsSigned w128 (int_pow u k)) (int_pow u k) → SomeIff r (FitsSigned w128 (int_pow u n)) (int_pow u n)
by_lower u n k None large many_n many_k is = large_power_is_out u n large many_n
by_lower u n k (Some z) large many_n many_k is = absurd (large_power_is_out u k large many_k is.0)

-- a lower exponent serves as well
pub lower_exponent_serves : (u : ℤ) (n k : ℕ) (r : Option ℤ) → 128 ≤ n → 128 ≤ k → n % 2 ≡ k % 2 → SomeIff r (FitsSigned w128 (int_pow u k)) (int_pow u k) → SomeIff r (FitsSigned w128 (int_pow u n)) (int_pow u n)
lower_exponent_serves u n k r many_n many_k even is = by (nat_le (unsigned_abs u) 1) refl
  where
    by : (t : Bool) → nat_le (unsigned_abs u) 1 ≡ t → SomeIff r (FitsSigned w128 (int_pow u n)) (int_pow u n)
    by true e = subst (λ (z : ℤ). SomeIff r (FitsSigned w128 z) z) (small_base_power u k n (grind (arith, e)) (omega arith) (omega arith) (sym even)) is
    by false e = by_lower u n k r (grind (arith, e)) many_n many_k is

pub power_of_natural : (u e : ℤ) (n : ℕ) → pos 0 ≤ℤ e → n ≡ unsigned_abs e → int_pow u n ≡ integer_power u e
power_of_natural u (pos m) n natural same = ap (int_pow u) same
power_of_natural u (negsuc m) n natural same = absurd (omega (arith, ints, natural))
