use Rattle.std.proofs.Common.{true, ◌-◌, ◌≡◌, ◌+◌, ◌≤◌, ◌^◌, length}
use Rattle.rl_cells.specs.Cell.{is_live}
use Rattle.rl_read.specs.Stock.{elements_from}
use Rattle.rl_read.proofs.make.count.Given as goal

abbrev pub invariant-loop-n : goal.invariant-loop-n
invariant-loop-n l = record {
  live : is_live l.w.cells.cells l.at ≡ true;
  within : l.n ≤ 2147483649;
  counted : length (elements_from (2 ^ 31 + 1) l.w.cells.cells l.fn.list) ≡ l.n + length (elements_from (2147483649 - l.n) l.w.cells.cells l.at);
}

-- proposed from the loop's first test
abbrev pub decreases-loop-n : goal.decreases-loop-n
decreases-loop-n l = 2147483649 - l.n
