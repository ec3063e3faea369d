use Rattle.rl_read.proofs.step.at_mark.Goals as goal

pub returns-in-Close : goal.returns-in-Close
returns-in-Close c = rw c.in-Close.is c.close_list.ensures

pub returns-in-CloseVector : goal.returns-in-CloseVector
returns-in-CloseVector c = rw c.in-CloseVector.is c.close_vector.ensures

pub returns-in-Dot : goal.returns-in-Dot
returns-in-Dot c = rw c.in-Dot.is (c.dot.ensures c.args.base c.args.w.now c.requires.ready)

pub returns-in-Open : goal.returns-in-Open
returns-in-Open c = rw c.in-Open.is (c.opens.ensures c.args.base c.requires.ready)

pub returns-in-OpenVector : goal.returns-in-OpenVector
returns-in-OpenVector c = rw c.in-OpenVector.is (c.opens-in-OpenVector.ensures c.args.base c.requires.ready)

pub returns-in-Quote : goal.returns-in-Quote
returns-in-Quote c = rw c.in-Quote.is (c.opens-in-Quote.ensures c.args.base c.requires.ready)
