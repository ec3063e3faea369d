use Rattle.std.proofs.Common.{◌≡◌, ◌≤◌, ◌-◌, true, length, drop}
use Rattle.rl_grammar.specs.Lexer.{behind_gap}
use Rattle.rl_lex.proofs.gap.comment_end.Given as goal

abbrev pub invariant-loop-i : goal.invariant-loop-i
invariant-loop-i l = record {
  after : l.at ≤ l.i;
  within : l.i ≤ length l.bytes;
  goes : behind_gap true (drop l.at l.bytes) ≡ behind_gap true (drop l.i l.bytes);
}

abbrev pub decreases-loop-i : goal.decreases-loop-i
decreases-loop-i l = length l.bytes - l.i
