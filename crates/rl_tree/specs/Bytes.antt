-- The classes of bytes in Lisp text (Standard Lisp Report 1979, with this project's letters past 127).
use Rattle.std.specs.Prelude.{ℕ, ◌-◌, Bool, ◌&&◌, ◌||◌, ◌==◌, nat_le, if◌then◌else◌}

-- tab, line feed, form feed, carriage return and space
abbrev pub is_blank : ℕ → Bool
is_blank b = b == 9 || b == 10 || b == 12 || b == 13 || b == 32

abbrev pub is_digit : ℕ → Bool
is_digit b = nat_le 48 b && nat_le b 57

abbrev pub is_lower : ℕ → Bool
is_lower b = nat_le 97 b && nat_le b 122

abbrev pub is_upper : ℕ → Bool
is_upper b = nat_le 65 b && nat_le b 90

-- A to Z, a to z and the bytes from 128 on
abbrev pub is_letter : ℕ → Bool
is_letter b = is_upper b || is_lower b || nat_le 128 b

-- what may follow in a name: a letter, a digit or `_`
abbrev pub is_name_byte : ℕ → Bool
is_name_byte b = is_letter b || is_digit b || b == 95

-- a to z become A to Z
abbrev pub raised : ℕ → ℕ
raised b = if is_lower b then b - 32 else b
