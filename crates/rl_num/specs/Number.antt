-- Integers as values: a small one is a word of its own, and one outside 60 bits stands in a cell.
use Rattle.std.specs.Prelude.{◌≡◌, ℤ, pos, Bool, true, false, List, length}
use Rattle.rl_tags.specs.Tagged.{Tagged, Number, BigAt}
use Rattle.rl_cells.specs.Cell.{Cell, CellStore, BigCell, cell_at, big_in, grown, has_room, is_big_cell, is_wide}

-- whether a value is an integer of these cells
abbrev pub is_integer_value : List Cell → Tagged → Bool
is_integer_value cells (Number z) = true
is_integer_value cells (BigAt k) = is_big_cell (cell_at cells k)
is_integer_value cells _ = false

-- the integer that a value is; 0 for any other value
abbrev pub integer_of : List Cell → Tagged → ℤ
integer_of cells (Number z) = z
integer_of cells (BigAt k) = big_in (cell_at cells k)
integer_of cells _ = pos 0

-- the value of an integer: a small one makes nothing, and a wide one takes a cell
pub record IsMadeInteger (old new : CellStore) (z : ℤ) (v : Tagged) : Type 0 where
  pub small : is_wide z ≡ false → (v ≡ Number z) × (new ≡ old)
  pub wide : is_wide z ≡ true → (has_room old 1 ≡ true) × (v ≡ BigAt (length old.cells)) × (new ≡ grown old (BigCell z))

-- the integer wants a cell, and none is left
pub record IsFull (old : CellStore) (z : ℤ) : Type 0 where
  pub wide : is_wide z ≡ true
  pub full : has_room old 1 ≡ false
