use Rattle.rl_syms.proofs.Numbers.{objects_numbered}
use Rattle.rl_syms.proofs.laws.objects_are_numbered.Goals as goal

pub returns : goal.returns
returns c = objects_numbered
