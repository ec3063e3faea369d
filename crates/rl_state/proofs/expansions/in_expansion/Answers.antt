use Rattle.rl_state.proofs.Expanding.{is_expanding}
use Rattle.rl_state.proofs.expansions.in_expansion.Goals as goal

pub returns : goal.returns
returns c s shown = is_expanding c.args.w.now c.in_expansion.result c.in_expansion.ensures.some c.in_expansion.ensures.open s shown
