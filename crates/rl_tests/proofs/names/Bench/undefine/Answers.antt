use Rattle.rl_tests.proofs.names.Bench.undefine.Goals as goal

pub invariant_of-self : goal.invariant_of-self
invariant_of-self c = (c.set_function.ensures.table, c.set_function.ensures.sets.ids c.self.inside.id c.self.invariant.1)
