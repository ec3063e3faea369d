use Rattle.std.proofs.Common.{sym, subst}
use Rattle.rl_stack.specs.ShowsStack.{StandsIn}
use Rattle.rl_stack.specs.StackState.{StackState, with_waiting}
use Rattle.rl_tests.specs.Alike.{AreAlike}
use Rattle.rl_tests.proofs.AlikeFrames.{popped_alike}
use Rattle.rl_tests.proofs.stack.Frames.take.Goals as goal

pub invariant_of-self : goal.invariant_of-self
invariant_of-self c =
    let w = c.self.inside.world in
    let v = c.pop.result in
    let s = c.pop.new.self in
    let stays = c.what_is_stacked_stays.ensures in
    let k = stays.waiting s v in
    let stood = subst (λ (x : StackState). StandsIn w x) c.pop.ensures c.self.invariant.1 in
    (c.self.invariant.0, stays.stands w (with_waiting v s) s (record { nest = sym k.nest; saved = sym k.saved; levels = sym k.levels }) stood, popped_alike s v (subst (λ (x : StackState). AreAlike x.frames) c.pop.ensures c.self.invariant.2))
