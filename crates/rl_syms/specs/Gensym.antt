-- The names that are made up: G and the number, of four digits at least.
use Rattle.std.specs.Prelude.{◌≡◌, ℕ, zero, suc, ◌+◌, ◌-◌, ◌/◌, ◌%◌, ◌^◌, ◌<◌, ◌≤◌, min, true, false, List, [], ◌∷◌, ◌++◌, None}
use Rattle.rl_tags.specs.Tagged.{Tagged}
use Rattle.rl_cells.specs.Cell.{CellStore, has_room}
use Rattle.rl_syms.specs.Table.{nil_value}
use Rattle.rl_syms.specs.Made.{id_cost, new_id, with_id}

-- the last digits of a number, this many
abbrev pub digits : ℕ → ℕ → List ℕ
digits zero n = []
digits (suc w) n = digits w (n / 10) ++ (48 + n % 10) ∷ []

-- a number has this many digits, with zeros before it where they would be fewer than four
pub record IsWidth (w n : ℕ) : Type 0 where
  pub four : 4 ≤ w
  pub most : w ≤ 20
  pub fits : n < 10 ^ w
  pub needed : 4 < w → 10 ^ (w - 1) ≤ n

pub record IsGensym (name : List ℕ) (n : ℕ) : Type 0 where
  pub width : ℕ
  pub is_width : IsWidth width n
  pub is : name ≡ 71 ∷ digits width n

-- the number of the name that comes after the n-th of these; 2^64 - 1 stays
abbrev pub next_number : ℕ → ℕ
next_number n = min (n + 1) (2 ^ 64 - 1)

-- the identifier with the n-th of these names is made; it is not interned
pub record MakesGensym (old new : CellStore) (n : ℕ) (id : Tagged) : Type 0 where
  pub name : List ℕ
  pub is_name : IsGensym name n
  pub room : has_room old (id_cost name) ≡ true
  pub place : id ≡ new_id old name
  pub cells : new ≡ with_id old name nil_value None

-- there is no room for the identifier with the n-th of these names
pub record LacksGensym (old : CellStore) (n : ℕ) : Type 0 where
  pub name : List ℕ
  pub is_name : IsGensym name n
  pub full : has_room old (id_cost name) ≡ false
