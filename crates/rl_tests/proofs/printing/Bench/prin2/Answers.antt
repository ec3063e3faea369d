use Rattle.rl_tests.proofs.printing.Bench.prin2.Goals as goal

pub invariant_of-self : goal.invariant_of-self
invariant_of-self c = rw c.print2.ensures.world.world c.self.invariant
