use Rattle.rl_agrees.proofs.OneRunHeads.{job_heads, heads_on}
use Rattle.rl_agrees.proofs.OneRunTogether.{heads_read, later_read}
use Rattle.rl_agrees.proofs.laws.heads_stay.Goals as goal

pub returns : goal.returns
returns c = record { heads = job_heads (heads_read c.what_a_maker_keeps_stands.ensures) (later_read c.what_a_maker_keeps_stands.ensures); and_then = heads_on }
