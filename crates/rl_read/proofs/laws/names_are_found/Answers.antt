use Rattle.rl_read.proofs.NamesFound.{names_found}
use Rattle.rl_read.proofs.laws.names_are_found.Goals as goal

pub returns : goal.returns
returns c = names_found
