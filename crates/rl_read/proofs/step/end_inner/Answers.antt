use Rattle.rl_read.proofs.CallsFollow.{nothing_made}
use Rattle.rl_read.proofs.step.end_inner.Goals as goal

pub returns-in-Shut-clause-none : goal.returns-in-Shut-clause-none
returns-in-Shut-clause-none c = nothing_made c.args.w.now c.requires.able
