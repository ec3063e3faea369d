use Rattle.rl_tests.proofs.printing.Bench.prin1.Goals as goal

pub invariant_of-self : goal.invariant_of-self
invariant_of-self c = rw c.print1.ensures.world.world c.self.invariant
