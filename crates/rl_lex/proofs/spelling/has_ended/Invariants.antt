use Rattle.std.proofs.Common.{◌≡◌, ◌≤◌, length}
use Rattle.rl_lex.specs.Parts.{parts_behind}
use Rattle.rl_lex.proofs.spelling.has_ended.Given as goal

abbrev pub invariant-loop-part : goal.invariant-loop-part
invariant-loop-part l = record {
  behind : parts_behind l.fn.nest ≡ parts_behind l.nest;
  fewer : length l.nest ≤ length l.fn.nest;
}

abbrev pub decreases-loop-part : goal.decreases-loop-part
decreases-loop-part l = length l.nest
