use Rattle.rl_grammar.proofs.Sources.{token_slice}
use Rattle.rl_grammar.proofs.laws.tokens_are_slices.Goals as goal

pub returns : goal.returns
returns c token at rest is = token_slice token at rest is
