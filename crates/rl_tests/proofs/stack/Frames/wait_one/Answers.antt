use Rattle.std.proofs.Common.{sym, subst}
use Rattle.rl_state.specs.Worlds.{IsWorld}
use Rattle.rl_stack.specs.ShowsStack.{StandsIn}
use Rattle.rl_stack.specs.StackState.{StackState}
use Rattle.rl_tests.specs.Alike.{AreAlike}
use Rattle.rl_tests.proofs.AlikeFrames.{waiting_alike}
use Rattle.rl_tests.proofs.stack.Frames.wait_one.Goals as goal

pub invariant_of-self : goal.invariant_of-self
invariant_of-self c =
    let w = c.self.inside.world in
    let s = c.self.inside.stack in
    let stays = c.what_is_stacked_stays.ensures in
    subst (λ (x : StackState). IsWorld w × StandsIn w x × AreAlike x.frames) (sym c.push.ensures) (c.self.invariant.0, stays.stands w s _ (stays.waiting s _) c.self.invariant.1, waiting_alike s _ c.self.invariant.2)
