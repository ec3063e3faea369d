-- How the words hold the cells: two words for each.
use Rattle.std.specs.Prelude.{◌≡◌, ℕ, ℤ, pos, negsuc, nat_lt, cond, ◌+◌, ◌-◌, ◌*◌, ◌/◌, ◌%◌, ◌<◌, ◌≤◌, ◌^◌, List, length, slice_index, slice_index_or, Option, Some, None}
use Rattle.std.specs.Int.{to_le_bytes, w64}
use Rattle.rl_tags.specs.Tagged.{Number, IsWordOf}
use Rattle.rl_cells.specs.Cell.{Cell, PairCell, StrCell, VectorCell, BigCell, BlockCell, More, cost_of, cell_at, IsClosed}

-- the byte i of a text whose first word is at a place
abbrev pub byte_in : List ℕ → ℕ → ℕ → ℕ
byte_in words at i = slice_index (to_le_bytes w64 (slice_index words (at + i / 8))) (i % 8)

-- a number of 128 bits in two's complement
abbrev pub signed128 : ℕ → ℤ
signed128 i = cond (nat_lt i (2 ^ 127)) (pos i) (negsuc (2 ^ 128 - 1 - i))

-- the words hold this object at the cell k
abbrev pub IsLaid : List ℕ → ℕ → Cell → Type 0
IsLaid words k (PairCell a d) = IsWordOf (slice_index words (2 * k)) a × IsWordOf (slice_index words (2 * k + 1)) d
IsLaid words k (StrCell bytes) = (slice_index words (2 * k) ≡ length bytes) × ((i : ℕ) → i < length bytes → slice_index bytes i ≡ byte_in words (2 * k + 2) i)
IsLaid words k (VectorCell xs) = (slice_index words (2 * k) ≡ length xs) × ((i : ℕ) → i < length xs → IsWordOf (slice_index words (2 * k + 2 + i)) (slice_index_or xs i (Number (pos 0))))
IsLaid words k (BigCell z) = signed128 (slice_index words (2 * k) + 2 ^ 64 * slice_index words (2 * k + 1)) ≡ z
IsLaid words k (BlockCell t ws) = (i : ℕ) → i < length ws → slice_index ws i ≡ slice_index words (2 * k + i)
IsLaid words k More = Unit {0}

-- the words hold the cells, and objects lie apart
pub record IsStored (words : List ℕ) (cells : List Cell) : Type 0 where
  pub laid : (k : ℕ) → IsLaid words k (cell_at cells k)
  pub apart : (k j : ℕ) → 0 < j → j < cost_of (cell_at cells k) → cell_at cells (k + j) ≡ More
  pub within : (k : ℕ) → 0 < cost_of (cell_at cells k) → k + cost_of (cell_at cells k) ≤ length cells

-- no object that begins before the place n reaches past it
pub record IsBoundary (cells : List Cell) (n : ℕ) : Type 0 where
  pub long : n ≤ length cells
  pub below : (k : ℕ) → k < n → k + cost_of (cell_at cells k) ≤ n

-- the spare cells begin where no object is cut
abbrev pub IsCut : Option ℕ → List Cell → Type 0
IsCut None cells = Unit {0}
IsCut (Some mark) cells = IsBoundary cells mark

-- n cells are within the bounds of opening and of the run
abbrev pub IsCounted : Option ℕ → ℕ → ℕ → Type 0
IsCounted None bound n = n ≤ 65536
IsCounted (Some used) bound n = (used ≤ bound) × (n ≤ 65536 + used)

-- n cells in all are within the bounds, and past a mark within that of the spare cells
abbrev pub IsWithin : Option ℕ → Option ℕ → ℕ → ℕ → Type 0
IsWithin count_run None bound n = IsCounted count_run bound n
IsWithin count_run (Some mark) bound n = IsCounted count_run bound mark × (n ≤ mark + 1000000)

pub record IsSound (words : List ℕ) (cells : List Cell) (taken bound : ℕ) (count_run mark : Option ℕ) : Type 0 where
  pub long : length words ≡ 2 * (1065536 + bound)
  pub count : taken ≡ length cells
  pub bounded : bound ≤ 64000000
  pub room : IsWithin count_run mark bound taken
  pub stored : IsStored words cells
  pub closed : IsClosed cells
  pub cut : IsCut mark cells
