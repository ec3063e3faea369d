use Rattle.rl_grammar.proofs.Further.{looks_no_further}
use Rattle.rl_grammar.proofs.laws.looks_no_further.Goals as goal

pub returns : goal.returns
returns c bytes more some = looks_no_further c.what_is_found_is_spelled.ensures bytes more some
