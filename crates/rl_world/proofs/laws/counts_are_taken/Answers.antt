use Rattle.rl_world.proofs.CountsTaken.{counts_taken}
use Rattle.rl_world.proofs.laws.counts_are_taken.Goals as goal

pub returns : goal.returns
returns c = counts_taken
