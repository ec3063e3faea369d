use Rattle.rl_syms.proofs.IdentifiersKept.{one_name}
use Rattle.rl_syms.proofs.laws.names_are_distinct.Goals as goal

pub returns : goal.returns
returns c = one_name
