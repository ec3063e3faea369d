use Rattle.rl_state.proofs.Set.{definition_read}
use Rattle.rl_state.proofs.identifiers.definition.Goals as goal

pub returns-clause-means : goal.returns-clause-means
returns-clause-means c = definition_read c.args.w.now c.args.id c.function.result c.requires.id c.function.ensures.definition
