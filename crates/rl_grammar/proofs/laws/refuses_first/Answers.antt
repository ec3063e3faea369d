use Rattle.rl_grammar.proofs.Prefix.{refused_first}
use Rattle.rl_grammar.proofs.laws.refuses_first.Goals as goal

pub returns : goal.returns
returns c ts k = refused_first ts k
