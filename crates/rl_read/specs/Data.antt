-- What values in cells are as data: atoms by what they hold, pairs and vectors by their parts, so many deep.
use Rattle.std.specs.Prelude.{◌≡◌, ℕ, suc, true, List, length, map, Option}
use Rattle.std.specs.List.{AllByRecursion}
use Rattle.rl_tags.specs.Tagged.{Tagged, Number, IdAt, StrAt, PairAt, VectorAt}
use Rattle.rl_cells.specs.Cell.{Cell, cell_at, is_id_cell, is_str_cell, is_pair_cell, is_vector_cell, car_in, cdr_in, bytes_in, vector_in}
use Rattle.rl_syms.specs.Table.{Among, name_in_cells, ids_from}
use Rattle.rl_text.specs.Datum.{Datum, Int, Id, Str, Pair, Vector, nil, elements}
use Rattle.rl_read.specs.Stock.{Stock}

-- the value is a datum with pairs and vectors nested at most n deep, and its identifiers are interned
abbrev pub IsDatumWithin : ℕ → List Cell → Option Tagged → Tagged → Type 0
IsDatumWithin n cells head (Number z) = Unit {0}
IsDatumWithin n cells head (IdAt k) = (is_id_cell (cell_at cells k) ≡ true) × Among k (ids_from cells head)
IsDatumWithin n cells head (StrAt k) = is_str_cell (cell_at cells k) ≡ true
IsDatumWithin (suc n) cells head (PairAt k) = (is_pair_cell (cell_at cells k) ≡ true) × IsDatumWithin n cells head (car_in (cell_at cells k)) × IsDatumWithin n cells head (cdr_in (cell_at cells k))
IsDatumWithin (suc n) cells head (VectorAt k) = (is_vector_cell (cell_at cells k) ≡ true) × AllByRecursion (IsDatumWithin n cells head) (vector_in (cell_at cells k))
IsDatumWithin _ cells head v = ⊥

-- the datum that it is
abbrev pub datum_within : ℕ → List Cell → Tagged → Datum
datum_within n cells (Number z) = Int z
datum_within n cells (IdAt k) = Id (name_in_cells cells k)
datum_within n cells (StrAt k) = Str (bytes_in (cell_at cells k))
datum_within (suc n) cells (PairAt k) = Pair (datum_within n cells (car_in (cell_at cells k))) (datum_within n cells (cdr_in (cell_at cells k)))
datum_within (suc n) cells (VectorAt k) = Vector (elements (map (datum_within n cells) (vector_in (cell_at cells k))))
datum_within _ cells v = nil

-- as each pair and each vector takes a cell, so many cells are as deep as it can be
abbrev pub IsDatum : List Cell → Option Tagged → Tagged → Type 0
IsDatum cells head v = IsDatumWithin (length cells) cells head v

abbrev pub datum_of : List Cell → Tagged → Datum
datum_of cells v = datum_within (length cells) cells v

-- what was a datum is the same datum
pub record KeepsData (old new : Stock) : Type 0 where
  pub is : (v : Tagged) → IsDatum old.cells.cells old.head v → IsDatum new.cells.cells new.head v
  pub same : (v : Tagged) → IsDatum old.cells.cells old.head v → datum_of new.cells.cells v ≡ datum_of old.cells.cells v
