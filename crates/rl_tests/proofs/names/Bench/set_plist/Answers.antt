use Rattle.rl_tests.proofs.names.Bench.set_plist.Goals as goal

pub invariant_of-self : goal.invariant_of-self
invariant_of-self c = (c.set_plist.ensures.table, c.set_plist.ensures.sets.ids c.self.inside.id c.self.invariant.1)
