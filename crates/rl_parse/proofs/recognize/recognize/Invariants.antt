use Rattle.std.proofs.Common.{◌≡◌, ℕ, ◌+◌, ◌-◌, ◌<◌, ◌≤◌, length, drop}
use Rattle.rl_grammar.specs.Source.{longest}
use Rattle.rl_grammar.specs.Statement.{StatementPlace, Start}
use Rattle.rl_grammar.specs.SourceReader.{read_source}
use Rattle.rl_parse.specs.Frames.{nested_in}
use Rattle.rl_parse.specs.Recognition.{Stands, behind_longest}
use Rattle.rl_parse.proofs.Rising.{Rises}
use Rattle.rl_parse.proofs.recognize.recognize.Given as goal

abbrev pub invariant-loop-at : goal.invariant-loop-at
invariant-loop-at l = record {
  within : l.at ≤ length l.bytes;
  short : l.at ≤ longest;
  state : StatementPlace;
  stands : Stands l.place l.stack state;
  rises : Rises l.stack;
  low : nested_in l.stack ≤ 201;
  reads : (n : ℕ) → length l.bytes < n → (m : ℕ) × (length l.bytes < l.at + m) × (read_source n (behind_longest l.bytes) Start l.bytes ≡ read_source m (behind_longest l.bytes) state (drop l.at l.bytes));
}

abbrev pub decreases-loop-at : goal.decreases-loop-at
decreases-loop-at l = length l.bytes - l.at
