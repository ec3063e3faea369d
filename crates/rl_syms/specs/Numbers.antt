-- Numbers by making.
use Rattle.std.specs.Prelude.{◌≡◌, ℕ, ◌+◌, ◌<◌, ◌≤◌, Bool, true, false, ◌||◌, List, [], ◌∷◌, ◌++◌, length, slice_index_or}
use Rattle.std.specs.List.{flat_map}
use Rattle.rl_tags.specs.declared.Tag.TheVariants as tag
use Rattle.rl_cells.specs.Cell.{Cell, BlockCell, bytes_of, cell_at, is_id_cell, is_fun_cell, is_pair_cell, is_vector_cell}
use Rattle.rl_syms.specs.Contents.{ids_before, funs_before, number_at}
use Rattle.rl_syms.specs.Table.{name_in_cells, symbol_of}

-- what begins at a cell that passes the test has the number of those that were made before it: numbers grow with places, each is that of one place, and what is added leaves them
pub record NumbersByMaking (passes : Cell → Bool) (before : List Cell → ℕ → ℕ) : Type 0 where
  pub none : (cells : List Cell) → before cells 0 ≡ 0
  pub here : (cells : List Cell) (k : ℕ) → passes (cell_at cells k) ≡ true → before cells (k + 1) ≡ before cells k + 1
  pub elsewhere : (cells : List Cell) (k : ℕ) → passes (cell_at cells k) ≡ false → before cells (k + 1) ≡ before cells k
  pub ordered : (cells : List Cell) (j k : ℕ) → j ≤ k → before cells j ≤ before cells k
  pub later : (cells : List Cell) (j k : ℕ) → passes (cell_at cells j) ≡ true → j < k → before cells j < before cells k
  pub distinct : (cells : List Cell) (j k : ℕ) → passes (cell_at cells j) ≡ true → passes (cell_at cells k) ≡ true → before cells j ≡ before cells k → j ≡ k
  pub within : (cells : List Cell) (k : ℕ) → passes (cell_at cells k) ≡ true → before cells k < before cells (length cells)
  pub each : (cells : List Cell) (i : ℕ) → i < before cells (length cells) → (k : ℕ) × (passes (cell_at cells k) ≡ true) × (before cells k ≡ i)
  pub past : (cells : List Cell) (k : ℕ) → length cells ≤ k → before cells k ≡ before cells (length cells)
  pub stays : (cells more : List Cell) (k : ℕ) → k ≤ length cells → before (cells ++ more) k ≡ before cells k
  pub same : (old new : List Cell) (k : ℕ) → ((j : ℕ) → j < k → passes (cell_at new j) ≡ passes (cell_at old j)) → before new k ≡ before old k

abbrev pub IdentifiersAreNumbered : Type 0
IdentifiersAreNumbered = NumbersByMaking is_id_cell ids_before

abbrev pub FunctionsAreNumbered : Type 0
FunctionsAreNumbered = NumbersByMaking is_fun_cell funs_before

-- whether a pair or a vector begins at a cell
abbrev pub is_object_cell : Cell → Bool
is_object_cell c = is_pair_cell c || is_vector_cell c

abbrev pub ObjectsAreNumbered : Type 0
ObjectsAreNumbered = NumbersByMaking is_object_cell number_at

-- the name of the identifier that a cell begins
abbrev pub cell_names : List Cell → Cell → List (List ℕ)
cell_names cells (BlockCell tag.Id words) = bytes_of cells (symbol_of words).name ∷ []
cell_names cells _ = []

-- the name of the identifier that was made i-th
unfoldable pub numbered_name : List Cell → ℕ → List ℕ
numbered_name cells i = slice_index_or (flat_map (cell_names cells) cells) i []

-- an identifier has the name of its number
abbrev pub NamesAreNumbered : Type 0
NamesAreNumbered = (cells : List Cell) (k : ℕ) → is_id_cell (cell_at cells k) ≡ true → numbered_name cells (ids_before cells k) ≡ name_in_cells cells k
