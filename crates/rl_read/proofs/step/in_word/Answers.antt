use Rattle.std.proofs.Common.{refl, sym, ◌∙◌}
use Rattle.rl_read.proofs.GroupAdmits.{admits_ready}
use Rattle.rl_read.proofs.CallsFollow.{reads_here}
use Rattle.rl_read.proofs.step.in_word.Goals as goal

pub returns-then-admits : goal.returns-then-admits
returns-then-admits c = λ base w bytes r is. reads_here base w c.args.group r (λ t. rw (admits_ready base w c.args.group r ∙ (sym c.admits.ensures ∙ c.if-admits.true)) refl) (r, is)

pub returns-else-admits : goal.returns-else-admits
returns-else-admits c = λ base w bytes r is. reads_here base w c.args.group r (λ t. rw (admits_ready base w c.args.group r ∙ (sym c.admits.ensures ∙ c.if-admits.false)) refl) (c.args.group, r)
