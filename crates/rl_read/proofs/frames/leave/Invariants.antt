use Rattle.std.proofs.Common.{◌≡◌, ◌≤◌, length}
use Rattle.rl_read.proofs.frames.leave.Given as goal
use Rattle.rl_world.specs.Walks.{IsSteady}

abbrev pub invariant-loop-w : goal.invariant-loop-w
invariant-loop-w l = record {
  above : l.base ≤ length l.w.levels.walk;
  steady : IsSteady l.base l.fn.w.levels l.w.levels;
  world : l.w ≡ record l.fn.w { levels = l.w.levels };
}

abbrev pub decreases-loop-w : goal.decreases-loop-w
decreases-loop-w l = length l.w.levels.walk
