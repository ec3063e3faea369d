use Rattle.std.proofs.Common.{◌≡◌, ◌≤◌, ◌<◌, ◌-◌, ◌^◌, List, length, drop}
use Rattle.rl_text.specs.Reader.{ReaderFrame, InNumber}
use Rattle.rl_text.specs.Reading.{Items}
use Rattle.rl_lex.specs.Scans.{data_read, digits_read_at}
use Rattle.rl_lex.proofs.atom.digits_end.Given as goal

abbrev pub invariant-loop-i : goal.invariant-loop-i
invariant-loop-i l = record {
  after : l.at < l.i;
  within : l.i ≤ length l.bytes;
  small : l.n ≤ 2 ^ 59;
  reads : (fs : List (ReaderFrame Items)) → digits_read_at l.minus l.bytes l.at fs ≡ data_read (InNumber l.minus l.n) fs (drop l.i l.bytes);
}

abbrev pub decreases-loop-i : goal.decreases-loop-i
decreases-loop-i l = length l.bytes - l.i
