use Rattle.rl_read.proofs.CallsFollow.{nothing_made}
use Rattle.rl_read.proofs.make.end_with.Goals as goal

pub returns-in-Empty-clause-none : goal.returns-in-Empty-clause-none
returns-in-Empty-clause-none c = nothing_made c.args.w.now c.requires.able
