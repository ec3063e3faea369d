use Rattle.rl_stack.proofs.Stacked.{stacked_stays}
use Rattle.rl_stack.proofs.laws.what_is_stacked_stays.Goals as goal

pub returns : goal.returns
returns c = stacked_stays
