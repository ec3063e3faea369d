use Rattle.std.proofs.Common.{◌≡◌, drop, map}
use Rattle.rl_tree.specs.Bytes.{raised}
use Rattle.rl_grammar.specs.Written.{same_name}
use Rattle.rl_lex.proofs.word.is_word.Given as goal

abbrev pub invariant-loop-i : goal.invariant-loop-i
invariant-loop-i l = same_name (map raised l.text) l.word ≡ same_name (drop l.i (map raised l.text)) (drop l.i l.word)
