use Rattle.rl_state.proofs.ToldOn.{out_grows}
use Rattle.rl_state.proofs.laws.output_grows.Goals as goal

pub returns : goal.returns
returns c = out_grows
