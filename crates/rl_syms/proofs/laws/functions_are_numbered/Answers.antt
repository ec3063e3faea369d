use Rattle.rl_syms.proofs.Numbers.{funs_numbered}
use Rattle.rl_syms.proofs.laws.functions_are_numbered.Goals as goal

pub returns : goal.returns
returns c = funs_numbered
