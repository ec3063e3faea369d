use Rattle.rl_grammar.proofs.Whole.{statement_is_parsed}
use Rattle.rl_grammar.proofs.Whole.{parsed_is_statement}
use Rattle.rl_grammar.proofs.laws.parses_grammar.Goals as goal

pub returns : goal.returns
returns c ts a s rest = (parsed_is_statement ts a s rest, statement_is_parsed ts a s rest)
