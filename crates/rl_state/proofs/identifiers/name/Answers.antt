use Rattle.rl_state.proofs.Set.{name_read}
use Rattle.rl_state.proofs.identifiers.name.Goals as goal

pub returns-clause-means : goal.returns-clause-means
returns-clause-means c = name_read c.args.w.now c.args.id c.name.result c.requires.id c.name.ensures.name
