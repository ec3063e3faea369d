use Rattle.std.proofs.Common.{◌≡◌, ℕ, ◌≤◌, ◌<◌, ◌-◌, List, length, drop, true}
use Rattle.rl_text.specs.Reader.{ReaderFrame, InText, admits}
use Rattle.rl_text.specs.Reading.{Items}
use Rattle.rl_lex.specs.Scans.{data_read, read_at}
use Rattle.rl_lex.proofs.atom.text_end.Given as goal

abbrev pub invariant-loop-i : goal.invariant-loop-i
invariant-loop-i l = record {
  after : l.at < l.i;
  within : l.i ≤ length l.bytes;
  text : List ℕ;
  counted : length text ≡ l.count;
  short : l.count ≤ 65535;
  reads : (fs : List (ReaderFrame Items)) → admits fs ≡ true → read_at l.bytes l.at fs ≡ data_read (InText text) fs (drop l.i l.bytes);
}

abbrev pub decreases-loop-i : goal.decreases-loop-i
decreases-loop-i l = length l.bytes - l.i
