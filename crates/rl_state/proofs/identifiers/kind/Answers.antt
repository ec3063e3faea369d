use Rattle.rl_state.proofs.Set.{kind_read}
use Rattle.rl_state.proofs.identifiers.kind.Goals as goal

pub returns : goal.returns
returns c = kind_read c.args.w.now c.args.id c.kind.result c.requires.id c.kind.ensures
