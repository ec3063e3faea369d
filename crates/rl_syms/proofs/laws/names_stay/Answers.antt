use Rattle.rl_syms.proofs.Left.{name_stays}
use Rattle.rl_syms.proofs.laws.names_stay.Goals as goal

pub returns : goal.returns
returns c = name_stays
