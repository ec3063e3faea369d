use Rattle.rl_state.proofs.Totals.{shown}
use Rattle.rl_state.proofs.TiedBytes.{is_tied}
use Rattle.rl_state.proofs.laws.a_world_is_tied.Goals as goal

pub returns : goal.returns
returns c = is_tied (shown c.identifiers_are_numbered.ensures)
