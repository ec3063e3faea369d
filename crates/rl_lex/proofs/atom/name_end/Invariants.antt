use Rattle.std.proofs.Common.{◌≡◌, ℕ, ◌≤◌, ◌<◌, ◌-◌, ◌⊎◌, List, length, drop, true}
use Rattle.rl_text.specs.Reader.{ReaderFrame, InName, admits}
use Rattle.rl_text.specs.Reading.{Items}
use Rattle.rl_lex.specs.Scans.{IsTextOf, data_read, read_at}
use Rattle.rl_lex.proofs.atom.name_end.Given as goal

abbrev pub invariant-loop-i : goal.invariant-loop-i
invariant-loop-i l = record {
  after : (l.i ≡ l.at) ⊎ (l.at < l.i);
  within : l.i ≤ length l.bytes;
  name : List ℕ;
  counted : length name ≡ l.count;
  short : l.count ≤ 255;
  text : IsTextOf l.bytes l.at l.i name;
  reads : (fs : List (ReaderFrame Items)) → admits fs ≡ true → read_at l.bytes l.at fs ≡ data_read (InName name) fs (drop l.i l.bytes);
}

abbrev pub decreases-loop-i : goal.decreases-loop-i
decreases-loop-i l = length l.bytes - l.i
