-- What the list of cells becomes by a call.
use Rattle.std.specs.Prelude.{List, ◌++◌, replicate, slice_set}
use Rattle.rl_tags.specs.Ids.{nil_id}
use Rattle.rl_cells.specs.Cell.{Cell, PairCell, StrCell, VectorCell, BigCell, BlockCell, block_with, cell_at, placed, car_in, cdr_in, vector_in, take_cells}
use Rattle.rl_cells.specs.declared.objects.Change.{Change}
use Rattle.rl_cells.specs.declared.objects.Change.TheVariants as change

-- the cells after a change
abbrev pub changed : List Cell → Change → List Cell
changed cells (change.Pair a d) = cells ++ placed (PairCell a d)
changed cells (change.Str bytes) = cells ++ placed (StrCell bytes.now)
changed cells (change.Vector n) = cells ++ placed (VectorCell (replicate n nil_id))
changed cells (change.SetCar k x) = slice_set cells k (PairCell x (cdr_in (cell_at cells k)))
changed cells (change.SetCdr k x) = slice_set cells k (PairCell (car_in (cell_at cells k)) x)
changed cells (change.Put k i x) = slice_set cells k (VectorCell (slice_set (vector_in (cell_at cells k)) i x))
changed cells (change.Big z) = cells ++ placed (BigCell z)
changed cells (change.Block t n) = cells ++ placed (BlockCell t (replicate n 0))
changed cells (change.SetWord k i w) = slice_set cells k (block_with (cell_at cells k) i w)
changed cells (change.Cut n) = take_cells n cells
