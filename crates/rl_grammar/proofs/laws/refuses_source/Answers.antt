use Rattle.rl_grammar.proofs.Unreadable.{refuses_source}
use Rattle.rl_grammar.proofs.laws.refuses_source.Goals as goal

pub returns : goal.returns
returns c bytes from = refuses_source c.what_is_found_is_spelled.ensures c.blank_text_has_none.ensures c.unreadable_at_first_byte.ensures bytes from
