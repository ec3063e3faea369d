-- What the store holds: a list of cells. An object begins at a cell, which is its place; the cells after it that it takes too are `More`.
use Rattle.std.specs.Prelude.{ℕ, ℤ, pos, negsuc, ◌+◌, ◌-◌, ◌/◌, ◌%◌, ◌^◌, Bool, true, false, ◌&&◌, nat_le, cond, List, [], ◌∷◌, ◌++◌, length, replicate, slice_index_or, slice_set, take, Option, Some, None, IsTrue}
use Rattle.std.specs.List.{list_all}
use Rattle.rl_tags.specs.Tagged.{Tagged, Number, IdAt, StrAt, PairAt, VectorAt, BigAt, FunAt, tagged_of}
use Rattle.rl_tags.specs.declared.Tag.{Tag}
use Rattle.rl_tags.specs.declared.Tag.TheVariants as tag

-- an object, or a cell where none begins: a pair by its car and cdr, a string by its bytes, a vector by its values, an integer outside 60 bits, and a block of raw words under the tag of what it is
pub data Cell : Type 0 where
  PairCell : Tagged → Tagged → Cell
  StrCell : List ℕ → Cell
  VectorCell : List Tagged → Cell
  BigCell : ℤ → Cell
  BlockCell : Tag → List ℕ → Cell
  More : Cell

-- the cells that an object takes
abbrev pub cost_of : Cell → ℕ
cost_of (PairCell a d) = 1
cost_of (StrCell bytes) = 1 + (length bytes + 15) / 16
cost_of (VectorCell xs) = 1 + (length xs + 1) / 2
cost_of (BigCell z) = 1
cost_of (BlockCell t words) = (length words + 1) / 2
cost_of More = 0

-- the object that begins at a place, or More where none does
abbrev pub cell_at : List Cell → ℕ → Cell
cell_at cells k = slice_index_or cells k More

-- the cells of a new object
abbrev pub placed : Cell → List Cell
placed c = c ∷ replicate (cost_of c - 1) More

abbrev pub is_pair_cell : Cell → Bool
is_pair_cell (PairCell a d) = true
is_pair_cell _ = false

abbrev pub is_str_cell : Cell → Bool
is_str_cell (StrCell bytes) = true
is_str_cell _ = false

abbrev pub is_vector_cell : Cell → Bool
is_vector_cell (VectorCell xs) = true
is_vector_cell _ = false

abbrev pub is_big_cell : Cell → Bool
is_big_cell (BigCell z) = true
is_big_cell _ = false

abbrev pub is_id_cell : Cell → Bool
is_id_cell (BlockCell tag.Id words) = true
is_id_cell _ = false

abbrev pub is_fun_cell : Cell → Bool
is_fun_cell (BlockCell tag.Fun words) = true
is_fun_cell _ = false

-- a small integer, or a value that names an object of its kind in these cells; a held function is named by the low 32 bits of the place, and the bits above may name a part of it
abbrev pub is_live : List Cell → Tagged → Bool
is_live cells (Number n) = true
is_live cells (IdAt k) = is_id_cell (cell_at cells k)
is_live cells (StrAt k) = is_str_cell (cell_at cells k)
is_live cells (PairAt k) = is_pair_cell (cell_at cells k)
is_live cells (VectorAt k) = is_vector_cell (cell_at cells k)
is_live cells (BigAt k) = is_big_cell (cell_at cells k)
is_live cells (FunAt k) = is_fun_cell (cell_at cells (k % 2 ^ 32))

abbrev pub is_pair : List Cell → Tagged → Bool
is_pair cells (PairAt k) = is_pair_cell (cell_at cells k)
is_pair cells _ = false

abbrev pub is_str : List Cell → Tagged → Bool
is_str cells (StrAt k) = is_str_cell (cell_at cells k)
is_str cells _ = false

abbrev pub is_vector : List Cell → Tagged → Bool
is_vector cells (VectorAt k) = is_vector_cell (cell_at cells k)
is_vector cells _ = false

abbrev pub is_big : List Cell → Tagged → Bool
is_big cells (BigAt k) = is_big_cell (cell_at cells k)
is_big cells _ = false

abbrev pub car_in : Cell → Tagged
car_in (PairCell a d) = a
car_in _ = Number (pos 0)

abbrev pub cdr_in : Cell → Tagged
cdr_in (PairCell a d) = d
cdr_in _ = Number (pos 0)

-- the car of a pair; 0 for any other value
abbrev pub car_of : List Cell → Tagged → Tagged
car_of cells (PairAt k) = car_in (cell_at cells k)
car_of cells _ = Number (pos 0)

-- the cdr of a pair; 0 for any other value
abbrev pub cdr_of : List Cell → Tagged → Tagged
cdr_of cells (PairAt k) = cdr_in (cell_at cells k)
cdr_of cells _ = Number (pos 0)

abbrev pub vector_in : Cell → List Tagged
vector_in (VectorCell xs) = xs
vector_in _ = []

abbrev pub bytes_in : Cell → List ℕ
bytes_in (StrCell bytes) = bytes
bytes_in _ = []

-- the values of a vector; none for any other value
abbrev pub vector_of : List Cell → Tagged → List Tagged
vector_of cells (VectorAt k) = vector_in (cell_at cells k)
vector_of cells _ = []

-- the bytes of a string; none for any other value
abbrev pub bytes_of : List Cell → Tagged → List ℕ
bytes_of cells (StrAt k) = bytes_in (cell_at cells k)
bytes_of cells _ = []

abbrev pub big_in : Cell → ℤ
big_in (BigCell z) = z
big_in _ = pos 0

-- the integer outside 60 bits; 0 for any other value
abbrev pub big_of : List Cell → Tagged → ℤ
big_of cells (BigAt k) = big_in (cell_at cells k)
big_of cells _ = pos 0

-- whether an integer is outside 60 bits, below -(2^59) or above 2^59 - 1
abbrev pub is_wide : ℤ → Bool
is_wide (pos n) = nat_le (2 ^ 59) n
is_wide (negsuc m) = nat_le (2 ^ 59) m

-- the cells before the place n
abbrev pub take_cells : ℕ → List Cell → List Cell
take_cells n cells = take n cells

abbrev pub words_in : Cell → List ℕ
words_in (BlockCell t words) = words
words_in _ = []

-- the words of an identifier or a held function; none for any other value
abbrev pub words_of : List Cell → Tagged → List ℕ
words_of cells (IdAt k) = words_in (cell_at cells k)
words_of cells (FunAt k) = words_in (cell_at cells k)
words_of cells _ = []

abbrev pub is_block : List Cell → Tagged → Bool
is_block cells (IdAt k) = is_id_cell (cell_at cells k)
is_block cells (FunAt k) = is_fun_cell (cell_at cells k)
is_block cells _ = false

-- a block with another word at i
abbrev pub block_with : Cell → ℕ → ℕ → Cell
block_with (BlockCell t words) i w = BlockCell t (slice_set words i w)
block_with c i w = c

abbrev pub is_block_tag : Tag → Bool
is_block_tag tag.Id = true
is_block_tag tag.Fun = true
is_block_tag _ = false

-- the cells with another object at the place that a value names
abbrev pub changed_at : List Cell → Tagged → Cell → List Cell
changed_at cells (Number n) c = cells
changed_at cells (IdAt k) c = slice_set cells k c
changed_at cells (StrAt k) c = slice_set cells k c
changed_at cells (PairAt k) c = slice_set cells k c
changed_at cells (VectorAt k) c = slice_set cells k c
changed_at cells (BigAt k) c = slice_set cells k c
changed_at cells (FunAt k) c = slice_set cells k c

-- a word that stands for a live value, or for none
abbrev pub is_live_word : List Cell → ℕ → Bool
is_live_word cells w = cond (nat_le (w % 16) 6) (is_live cells (tagged_of w)) true

-- the values in an object are live, and an integer that takes a cell needs one
abbrev pub is_closed_cell : List Cell → Cell → Bool
is_closed_cell cells (PairCell a d) = is_live cells a && is_live cells d
is_closed_cell cells (VectorCell xs) = list_all (is_live cells) xs
is_closed_cell cells (BlockCell t words) = list_all (is_live_word cells) words
is_closed_cell cells (BigCell z) = is_wide z
is_closed_cell cells _ = true

-- each value that an object holds is live
pub record IsClosed (cells : List Cell) : Type 0 where
  pub at : (k : ℕ) → IsTrue (is_closed_cell cells (cell_at cells k))

-- what is seen of the store: its cells, its bound, how many cells were taken since opening ended, or None before, and the place where the spare cells begin, or None where none are in use
pub record CellStore : Type 0 where
  pub cells : List Cell
  pub bound : ℕ
  pub count : Option ℕ
  pub mark : Option ℕ

abbrev pub counted : Option ℕ → ℕ
counted None = 0
counted (Some n) = n

-- the cells that are counted
abbrev pub used_of : CellStore → ℕ
used_of s = counted s.count

-- n cells are taken in all; opening has 65536 cells of its own, the run has as many as its bound says, and past a mark there are 1000000 spare ones
abbrev pub room_in : Option ℕ → Option ℕ → ℕ → ℕ → ℕ → Bool
room_in None None n bound cost = nat_le (n + cost) 65536
room_in (Some used) None n bound cost = nat_le (used + cost) bound
room_in _ (Some mark) n bound cost = nat_le (n + cost) (mark + 1000000)

-- whether an object of this cost fits
abbrev pub has_room : CellStore → ℕ → Bool
has_room s cost = room_in s.count s.mark (length s.cells) s.bound cost

-- spare cells do not count, nor do those of opening
abbrev pub more_counted : Option ℕ → Option ℕ → ℕ → Option ℕ
more_counted None None cost = None
more_counted (Some used) None cost = Some (used + cost)
more_counted count (Some mark) cost = count

-- the store with one more object
abbrev pub grown : CellStore → Cell → CellStore
grown s c = record { cells = s.cells ++ placed c; bound = s.bound; count = more_counted s.count s.mark (cost_of c); mark = s.mark }
