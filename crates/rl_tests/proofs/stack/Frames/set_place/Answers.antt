use Rattle.std.proofs.Common.{sym, subst}
use Rattle.rl_state.specs.Worlds.{IsWorld}
use Rattle.rl_stack.specs.ShowsStack.{StandsIn}
use Rattle.rl_stack.specs.StackState.{StackState}
use Rattle.rl_tests.specs.Alike.{AreAlike}
use Rattle.rl_tests.proofs.AlikeFrames.{placed_alike}
use Rattle.rl_tests.proofs.stack.Frames.set_place.Goals as goal

pub invariant_of-self : goal.invariant_of-self
invariant_of-self c =
    let w = c.self.inside.world in
    let s = c.self.inside.stack in
    let stays = c.what_is_stacked_stays.ensures in
    subst (λ (x : StackState). IsWorld w × StandsIn w x × AreAlike x.frames) (sym c.set_place.ensures) (c.self.invariant.0, stays.stands w s _ (stays.placed s c.args.p) c.self.invariant.1, placed_alike s.frames c.args.p c.self.invariant.2)
