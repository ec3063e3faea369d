use Rattle.rl_print.proofs.advance.advance.Goals as goal

pub returns-in-Element-clause-ok : goal.returns-in-Element-clause-ok
returns-in-Element-clause-ok c = rw c.in-Element.is (c.element.ensures.ok c.args.base c.requires.ready)

pub returns-in-Element-clause-err : goal.returns-in-Element-clause-err
returns-in-Element-clause-err c = rw c.in-Element.is (c.element.ensures.err c.args.base c.requires.ready)

pub returns-in-Element-clause-world : goal.returns-in-Element-clause-world
returns-in-Element-clause-world c = c.element.ensures.world c.args.base c.requires.ready
