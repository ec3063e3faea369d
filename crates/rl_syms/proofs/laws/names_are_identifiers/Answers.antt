use Rattle.rl_syms.proofs.Left.{named_is_id}
use Rattle.rl_syms.proofs.laws.names_are_identifiers.Goals as goal

pub returns : goal.returns
returns c = named_is_id
