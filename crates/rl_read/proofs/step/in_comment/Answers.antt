use Rattle.std.proofs.Common.{refl}
use Rattle.std.proofs.lemmas.Bool.{ne_eqb}
use Rattle.rl_read.proofs.CallsFollow.{reads_here}
use Rattle.rl_read.proofs.step.in_comment.Goals as goal

pub returns-else-b-eq10 : goal.returns-else-b-eq10
returns-else-b-eq10 c = λ base w bytes r. reads_here base w c.args.group r (λ t. rw (ne_eqb c.args.b 10 c.if-b-eq10.false) refl) (r, tt)
