use Rattle.rl_grammar.proofs.PrefixWithin.{parses_within}
use Rattle.rl_grammar.proofs.laws.parses_within.Goals as goal

pub returns : goal.returns
returns c ts a s rest = parses_within ts a s rest
