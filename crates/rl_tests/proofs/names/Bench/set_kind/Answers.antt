use Rattle.rl_tests.proofs.names.Bench.set_kind.Goals as goal

pub invariant_of-self : goal.invariant_of-self
invariant_of-self c = (c.set_kind.ensures.table, c.set_kind.ensures.sets.ids c.self.inside.id c.self.invariant.1)
