use Rattle.rl_agrees.proofs.OneRunMarks.{job_below}
use Rattle.rl_agrees.proofs.OneRunTogether.{later_read, marks_read}
use Rattle.rl_agrees.proofs.laws.marks_stay.Goals as goal

pub returns : goal.returns
returns c = record { below = job_below (marks_read c.what_a_maker_keeps_stands.ensures) (later_read c.what_a_maker_keeps_stands.ensures) }
