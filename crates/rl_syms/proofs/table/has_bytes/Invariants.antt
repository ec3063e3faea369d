use Rattle.std.proofs.Common.{◌≡◌, ℕ, ◌<◌, get_or}
use Rattle.rl_cells.specs.Cell.{bytes_of}
use Rattle.rl_syms.proofs.table.has_bytes.Given as goal

abbrev pub invariant-loop-i : goal.invariant-loop-i
invariant-loop-i l = (k : ℕ) → k < l.i → get_or (bytes_of l.c.cells l.s) k 0 ≡ get_or l.bytes k 0
