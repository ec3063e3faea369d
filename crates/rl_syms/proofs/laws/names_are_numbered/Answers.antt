use Rattle.rl_syms.proofs.NamesByNumber.{names_numbered}
use Rattle.rl_syms.proofs.laws.names_are_numbered.Goals as goal

pub returns : goal.returns
returns c = names_numbered
