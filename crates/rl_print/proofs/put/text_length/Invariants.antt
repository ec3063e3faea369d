use Rattle.std.proofs.Common.{◌≡◌, ◌+◌, ◌-◌, ◌^◌, ◌≤◌, length, min}
use Rattle.rl_print.specs.AtomText.{text_left}
use Rattle.rl_print.proofs.put.text_length.Given as goal

abbrev pub invariant-loop-n : goal.invariant-loop-n
invariant-loop-n l = record {
  counted : min (l.n + length (text_left l.w.cells.cells l.left)) (2 ^ 64 - 1) ≡ min (length (text_left l.w.cells.cells l.fn.text)) (2 ^ 64 - 1);
  small : l.n ≤ 2 ^ 64 - 1;
  atom : l.left.atom ≡ l.fn.text.atom;
}

abbrev pub decreases-loop-n : goal.decreases-loop-n
decreases-loop-n l = length (text_left l.w.cells.cells l.left)
