-- What a list of cells means: its values, and the objects in the order of their making. Strings and integers are what they hold; pairs and vectors together, identifiers, and held functions have the numbers of their making; a function pointer is a function and a place in it. So what a value means says nothing of places in the cells.
use Rattle.std.specs.Prelude.{ℕ, ◌+◌, ◌/◌, ◌%◌, ◌^◌, List, [], ◌∷◌, map, take, count_by}
use Rattle.std.specs.List.{flat_map}
use Rattle.rl_tags.specs.Tagged.{Tagged, Number, IdAt, StrAt, PairAt, VectorAt, BigAt, FunAt}
use Rattle.rl_cells.specs.Cell.{Cell, PairCell, VectorCell, cell_at, bytes_in, big_in, is_id_cell, is_fun_cell}
use Rattle.rl_tree.specs.Value.{Value, Int, Id, Str, Ref, Fun, Object, Pair, Vector, Store}

-- a pair or a vector begins here
abbrev pub object_count : Cell → ℕ
object_count (PairCell a d) = 1
object_count (VectorCell xs) = 1
object_count _ = 0

abbrev pub objects_among : List Cell → ℕ
objects_among [] = 0
objects_among (c ∷ cells) = object_count c + objects_among cells

-- how many pairs and vectors were made before the place k
abbrev pub number_at : List Cell → ℕ → ℕ
number_at cells k = objects_among (take k cells)

-- how many identifiers were made before the place k
unfoldable pub ids_before : List Cell → ℕ → ℕ
ids_before cells k = count_by is_id_cell (take k cells)

-- how many held functions were made before the place k
unfoldable pub funs_before : List Cell → ℕ → ℕ
funs_before cells k = count_by is_fun_cell (take k cells)

abbrev pub value_of : List Cell → Tagged → Value
value_of cells (Number n) = Int n
value_of cells (IdAt k) = Id (ids_before cells k)
value_of cells (StrAt k) = Str (bytes_in (cell_at cells k))
value_of cells (PairAt k) = Ref (number_at cells k)
value_of cells (VectorAt k) = Ref (number_at cells k)
value_of cells (BigAt k) = Int (big_in (cell_at cells k))
value_of cells (FunAt k) = Fun (funs_before cells (k % 2 ^ 32)) (k / 2 ^ 32)

-- the object that a cell begins, by the meaning of the values in it
abbrev pub object_in : (Tagged → Value) → Cell → List Object
object_in meaning (PairCell a d) = Pair (meaning a) (meaning d) ∷ []
object_in meaning (VectorCell xs) = Vector (map meaning xs) ∷ []
object_in meaning _ = []

-- the objects of cells, by this meaning of the values in them
abbrev pub objects_meant : (Tagged → Value) → List Cell → Store
objects_meant meaning cells = flat_map (object_in meaning) cells

abbrev pub store_of : List Cell → Store
store_of cells = objects_meant (value_of cells) cells
