use Rattle.rl_grammar.proofs.Lexed.{none_found, blank_found}
use Rattle.rl_grammar.proofs.laws.finds_no_token.Goals as goal

pub returns : goal.returns
returns c bytes = (none_found bytes, blank_found bytes)
