use Rattle.rl_agrees.proofs.OneRunLaws.{job_plain}
use Rattle.rl_agrees.proofs.OneRunTogether.{later_read}
use Rattle.rl_agrees.proofs.laws.only_statements_leave.Goals as goal

pub returns : goal.returns
returns c = record { plain = job_plain (later_read c.what_a_maker_keeps_stands.ensures) }
