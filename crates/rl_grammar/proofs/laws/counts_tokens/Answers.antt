use Rattle.rl_grammar.proofs.PrefixWithin.{counts_tokens}
use Rattle.rl_grammar.proofs.laws.counts_tokens.Goals as goal

pub returns : goal.returns
returns c ts a s is = counts_tokens ts a s is
