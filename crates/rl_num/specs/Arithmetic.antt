-- Operations on integers: the exact result of each, and the fault where there is none.
use Rattle.std.specs.Prelude.{ℕ, ℤ, pos, negsuc, ◌^◌, Bool, false, not, ◌&&◌, cond, nat_lt, ◌==◌, Option, Some, None}
use Rattle.std.specs.Int.{int_pow}
use Rattle.rl_cells.specs.Cell.{CellStore, has_room, is_wide}
use Rattle.rl_num.specs.declared.number.NumFault.{NumFault}
use Rattle.rl_num.specs.declared.number.NumFault.TheVariants.{Overflow, ZeroDivisor, BadExponent, Full}

-- the bits of an integer beside its sign
abbrev pub range_bits : ℕ
range_bits = 59

-- integers lie from -(2^59) to 2^59 - 1
abbrev pub is_representable : ℤ → Bool
is_representable (pos n) = nat_lt n (2 ^ range_bits)
is_representable (negsuc n) = nat_lt n (2 ^ range_bits)

-- why an integer of the range has no value: it wants a cell, and none is left
abbrev pub cell_fault : CellStore → ℤ → Option NumFault
cell_fault s z = cond (is_wide z && not (has_room s 1)) (Some Full) None

-- why an operation with this exact result has no answer: the result is out of range, or no cell is left for it
abbrev pub range_fault : CellStore → ℤ → Option NumFault
range_fault s z = cond (is_representable z) (cell_fault s z) (Some Overflow)

abbrev pub is_zero_integer : ℤ → Bool
is_zero_integer (pos n) = n == 0
is_zero_integer (negsuc n) = false

-- why a division by d with this exact result has no answer
abbrev pub division_fault : CellStore → (d z : ℤ) → Option NumFault
division_fault s d z = cond (is_zero_integer d) (Some ZeroDivisor) (range_fault s z)

-- u to the power e; 0 where e is negative
abbrev pub integer_power : (u e : ℤ) → ℤ
integer_power u (pos n) = int_pow u n
integer_power u (negsuc n) = pos 0

-- why u to the power e has no answer
abbrev pub power_fault : CellStore → (u e : ℤ) → Option NumFault
power_fault s u (pos n) = range_fault s (int_pow u n)
power_fault s u (negsuc n) = Some BadExponent
