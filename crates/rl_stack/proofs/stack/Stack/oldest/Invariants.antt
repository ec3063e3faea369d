use Rattle.std.proofs.Common.{◌-◌, ◌≤◌, length, take}
use Rattle.rl_stack.proofs.TopValues.{FoundAmong}
use Rattle.rl_stack.proofs.stack.Stack.oldest.Given as goal

abbrev pub invariant-loop-k : goal.invariant-loop-k
invariant-loop-k l = record {
  within : l.k ≤ length l.self.saved;
  found : FoundAmong l.id l.found (take l.k l.self.saved);
}

abbrev pub decreases-loop-k : goal.decreases-loop-k
decreases-loop-k l = length l.self.saved - l.k
