use Rattle.rl_tests.proofs.stack.Bench.set_top.Goals as goal

pub invariant_of-self : goal.invariant_of-self
invariant_of-self c = (c.set_top.ensures.grows.world, c.set_top.ensures.stands c.self.invariant.1, c.set_top.ensures.live)
