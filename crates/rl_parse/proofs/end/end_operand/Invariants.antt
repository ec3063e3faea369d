use Rattle.std.proofs.Common.{◌≡◌, ◌≤◌, length}
use Rattle.rl_parse.specs.Machine.{machine_after}
use Rattle.rl_parse.proofs.end.end_operand.Given as goal

abbrev pub invariant-loop-frame : goal.invariant-loop-frame
invariant-loop-frame l = record {
  after : machine_after l.fn.stack l.fn.lambda l.fn.kind ≡ machine_after l.stack l.lambda l.kind;
  fewer : length l.stack ≤ length l.fn.stack;
}

abbrev pub decreases-loop-frame : goal.decreases-loop-frame
decreases-loop-frame l = length l.stack
