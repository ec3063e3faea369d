use Rattle.rl_forms.proofs.Closing.{fronts}
use Rattle.rl_forms.proofs.laws.all_and_nothing_are_fronts.Goals as goal

pub returns : goal.returns
returns c = fronts
