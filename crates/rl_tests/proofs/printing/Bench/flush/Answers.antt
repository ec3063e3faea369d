use Rattle.rl_tests.proofs.printing.Bench.flush.Goals as goal

pub invariant_of-self : goal.invariant_of-self
invariant_of-self c = rw c.flush.ensures.outside.world c.self.invariant
