use Rattle.std.proofs.Common.{◌≡◌, drop}
use Rattle.rl_grammar.specs.Lexer.{has_no_escape}
use Rattle.rl_lex.proofs.atom.is_bare.Given as goal

abbrev pub invariant-loop-b : goal.invariant-loop-b
invariant-loop-b l = has_no_escape l.text ≡ has_no_escape (drop l.b-index l.text)
