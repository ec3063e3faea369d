-- What is the system's: the special forms, the natives and the functions of the prelude, by the numbers of their identifiers. They are defined at opening, and no program defines or removes them (this project's).
use Rattle.std.specs.Prelude.{ℕ, Bool, ◌&&◌, ◌||◌, ◌==◌, nat_le}
use Rattle.rl_meaning.specs.Symbols.{quote_number, return_number}

abbrev pub is_from_to : ℕ → ℕ → ℕ → Bool
is_from_to first last i = nat_le first i && nat_le i last

-- QUOTE; FUNCTION to RETURN; LIST to DM; ATOM, the first native, to PROG2, the last function of the prelude
abbrev pub is_system : ℕ → Bool
is_system i = i == quote_number || is_from_to 6 return_number i || is_from_to 16 23 i || is_from_to 27 153 i
