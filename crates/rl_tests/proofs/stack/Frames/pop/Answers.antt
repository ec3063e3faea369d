use Rattle.std.proofs.Common.{sym, subst}
use Rattle.rl_stack.specs.StackState.{StackState}
use Rattle.rl_tests.specs.Alike.{AreAlike}
use Rattle.rl_tests.proofs.AlikeFrames.{dropped_alike}
use Rattle.rl_tests.proofs.stack.Frames.pop.Goals as goal

pub invariant_of-self : goal.invariant_of-self
invariant_of-self c = (c.pop_frame.ensures.grows.world, c.pop_frame.ensures.stands, subst (λ (s : StackState). AreAlike s.frames) (sym c.pop_frame.ensures.popped) (dropped_alike c.self.inside.stack.frames c.self.invariant.2))
