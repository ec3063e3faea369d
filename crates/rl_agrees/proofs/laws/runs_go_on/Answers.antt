use Rattle.rl_agrees.proofs.OneRunLaws.{job_later, run_later, file_later}
use Rattle.rl_agrees.proofs.OneRunTogether.{later_read}
use Rattle.rl_agrees.proofs.laws.runs_go_on.Goals as goal

pub returns : goal.returns
returns c = let reads = later_read c.what_a_maker_keeps_stands.ensures in record { job_ = job_later reads; run = run_later reads; file = file_later reads }
