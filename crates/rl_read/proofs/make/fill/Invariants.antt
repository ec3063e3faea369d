use Rattle.std.proofs.Common.{◌≡◌, ◌-◌, ◌++◌, length, take, true}
use Rattle.rl_cells.specs.Cell.{VectorCell, changed_at, is_live, is_vector, vector_of}
use Rattle.rl_read.specs.Stock.{elements_from}
use Rattle.rl_read.proofs.make.fill.Given as goal

-- the first places have their elements, and the rest of the list is still to come
abbrev pub invariant-loop-i : goal.invariant-loop-i
invariant-loop-i l = record {
  vector : is_vector l.w.cells.cells l.v ≡ true;
  places : length (vector_of l.w.cells.cells l.v) ≡ l.n;
  live : is_live l.w.cells.cells l.at ≡ true;
  world : l.w ≡ record l.fn.w { cells = record l.fn.w.cells { cells = changed_at l.fn.w.cells.cells l.v (VectorCell (vector_of l.w.cells.cells l.v)) } };
  rest : elements_from l.n l.fn.w.cells.cells l.fn.list ≡ take l.i (vector_of l.w.cells.cells l.v) ++ elements_from (l.n - l.i) l.fn.w.cells.cells l.at;
}
