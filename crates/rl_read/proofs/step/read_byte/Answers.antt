use Rattle.rl_read.proofs.step.read_byte.Goals as goal

pub returns-in-Gap : goal.returns-in-Gap
returns-in-Gap c = rw c.in-Gap.is c.at_gap.ensures

pub returns-in-Comment : goal.returns-in-Comment
returns-in-Comment c = rw c.in-Comment.is (c.in_comment.ensures c.args.base c.args.w.now c.args.word.now.items c.requires.ready)

pub returns-in-Name : goal.returns-in-Name
returns-in-Name c = rw c.in-Name.is c.in_name.ensures
