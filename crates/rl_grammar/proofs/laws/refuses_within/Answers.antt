use Rattle.rl_grammar.proofs.PrefixWithin.{refused_within}
use Rattle.rl_grammar.proofs.laws.refuses_within.Goals as goal

pub returns : goal.returns
returns c ts k = refused_within ts k
