use Rattle.rl_grammar.proofs.Sources.{reads_source}
use Rattle.rl_grammar.proofs.laws.reads_source.Goals as goal

pub returns : goal.returns
returns c bytes b s rest = reads_source c.what_is_found_is_spelled.ensures bytes b s rest
