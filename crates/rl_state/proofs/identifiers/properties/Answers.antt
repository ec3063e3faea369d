use Rattle.rl_state.proofs.Set.{properties_read}
use Rattle.rl_state.proofs.identifiers.properties.Goals as goal

pub returns-clause-means : goal.returns-clause-means
returns-clause-means c = properties_read c.args.w.now c.args.id c.plist.result c.requires.id c.plist.ensures.plist
