use Rattle.std.proofs.Common.{◌≡◌, length}
use Rattle.rl_io.specs.Told.{WhereTold}
use Rattle.rl_read.specs.Taken.{TakesBytes}
use Rattle.rl_read.specs.Stock.{stock_of}
use Rattle.rl_read.specs.Frames.{IsReadyToRead, frames_in}
use Rattle.rl_read.specs.Steps.{IsMode, mode_of}
use Rattle.rl_read.specs.Reads.{KeepsByReading}
use Rattle.rl_read.specs.ReadingKeepsCells.{LeavesWhatStood, keeping_what_stood}
use Rattle.rl_text.specs.Keeping.{FramesKept}
use Rattle.std.specs.Prelude.{if◌then◌else◌}
use Rattle.rl_world.specs.Counts.{count_turns_left}
use Rattle.rl_read.specs.Reads.{IsGoing}
use Rattle.rl_read.proofs.read.read_form.Given as goal
use Rattle.rl_world.specs.Walks.{IsSteady}

abbrev pub invariant-loop-b : goal.invariant-loop-b
invariant-loop-b g l = record {
  base : l.base ≡ length l.fn.w.levels.walk;
  ready : IsReadyToRead l.base l.w l.group;
  word : IsMode l.mode l.word.items;
  turns : g.T.Bytes.takes_turns l.text ≡ g.T.Bytes.takes_turns l.fn.text;
  goes : TakesBytes (g.T.Bytes.unread l.fn.text l.fn.w.input) (g.T.Bytes.unread l.text l.w.input) (λ before now. IsGoing (g.T.Bytes.takes_turns l.fn.text) l.fn.w (mode_of l.mode l.word.items) (frames_in l.base l.w l.group) (stock_of l.w) l.k before now);
  printed : WhereTold (g.T.Bytes.printed l.fn.text l.fn.w.output.waiting) (g.T.Bytes.printed l.text l.w.output.waiting) (λ before now. now ≡ before);
  reads : g.T.Bytes.reads l.text ≡ g.T.Bytes.reads l.fn.text;
  writes : g.T.Bytes.writes l.text ≡ g.T.Bytes.writes l.fn.text;
  kept : g.T.Bytes.kept l.text ≡ g.T.Bytes.kept l.fn.text;
  keeps : KeepsByReading l.fn.w l.w;
  stands : LeavesWhatStood (stock_of l.fn.w) (stock_of l.w);
  behind : FramesKept (keeping_what_stood (stock_of l.fn.w)) (frames_in l.base l.w l.group);
  steady : IsSteady l.base l.fn.w.levels l.w.levels;
}

abbrev pub decreases-loop-b : goal.decreases-loop-b
decreases-loop-b g l = if g.T.Bytes.takes_turns l.text then count_turns_left l.w.counts else g.T.Bytes.number l.text l.w.input
