use Rattle.rl_grammar.proofs.BadBytes.{stops_are_bad}
use Rattle.rl_grammar.proofs.laws.refuses_byte.Goals as goal

pub returns : goal.returns
returns c bytes k = stops_are_bad c.what_is_found_is_spelled.ensures c.blank_text_has_none.ensures c.unreadable_at_first_byte.ensures bytes k
