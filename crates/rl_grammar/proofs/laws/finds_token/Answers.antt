use Rattle.rl_grammar.proofs.Lexed.{found_is_first, first_is_found}
use Rattle.rl_grammar.proofs.laws.finds_token.Goals as goal

pub returns : goal.returns
returns c bytes at rest token =
    (found_is_first c.what_is_found_is_spelled.ensures bytes at rest token, first_is_found c.what_is_found_is_spelled.ensures bytes at rest token)
