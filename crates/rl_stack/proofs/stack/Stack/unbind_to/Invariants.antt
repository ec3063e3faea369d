use Rattle.std.proofs.Common.{◌-◌, ◌≤◌, length}
use Rattle.rl_stack.specs.Saving.{UndoesNewest}
use Rattle.rl_stack.proofs.stack.Stack.unbind_to.Given as goal

abbrev pub invariant-loop-self : goal.invariant-loop-self
invariant-loop-self l = record {
  undoes : UndoesNewest (length l.fn.self.saved - length l.self.saved) l.fn.w l.w l.fn.self l.self;
  enough : length l.fn.self.saved - length l.self.saved ≤ length l.fn.self.saved - l.depth;
}

abbrev pub decreases-loop-self : goal.decreases-loop-self
decreases-loop-self l = length l.self.saved
