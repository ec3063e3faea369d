use Rattle.rl_syms.proofs.Numbers.{ids_numbered}
use Rattle.rl_syms.proofs.laws.identifiers_are_numbered.Goals as goal

pub returns : goal.returns
returns c = ids_numbered
