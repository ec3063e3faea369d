-- Numbers by their digits.
use Rattle.std.specs.Prelude.{ℕ, zero, suc, ℤ, pos, negsuc, ◌+◌, ◌-◌, ◌*◌, List, [], ◌∷◌}

-- the number whose digits go on so
abbrev pub number_after : ℕ → List ℕ → ℕ
number_after n [] = n
number_after n (d ∷ ds) = number_after (10 * n + (d - 48)) ds

abbrev pub digits_number : List ℕ → ℕ
digits_number digits = number_after 0 digits

abbrev pub negated : ℕ → ℤ
negated zero = pos 0
negated (suc n) = negsuc n
