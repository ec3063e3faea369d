use Rattle.rl_grammar.proofs.Sources.{finds_no_source}
use Rattle.rl_grammar.proofs.laws.finds_no_source.Goals as goal

pub returns : goal.returns
returns c bytes = finds_no_source bytes
