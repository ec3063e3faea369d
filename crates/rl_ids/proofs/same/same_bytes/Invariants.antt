use Rattle.std.proofs.Common.{◌≡◌, ℕ, ◌<◌, get_or, length}
use Rattle.rl_cells.specs.Cell.{bytes_of}
use Rattle.rl_ids.proofs.same.same_bytes.Given as goal

abbrev pub invariant-loop-i : goal.invariant-loop-i
invariant-loop-i l = (k : ℕ) → k < l.i → get_or (bytes_of l.w.cells.cells l.u) k 0 ≡ get_or (bytes_of l.w.cells.cells l.v) k 0
