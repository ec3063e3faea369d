use Rattle.rl_state.proofs.TiedRuns.{whole_run}
use Rattle.rl_state.proofs.laws.runs_are_tied.Goals as goal

pub returns : goal.returns
returns g c = whole_run c.identifiers_are_numbered.ensures g.T.Taking.relates
