use Rattle.std.proofs.Common.{◌≡◌, ◌≤◌, ◌<◌, ◌-◌, List, length, drop}
use Rattle.rl_text.specs.Reader.{ReaderFrame, Gap}
use Rattle.rl_text.specs.Reading.{Items}
use Rattle.rl_lex.specs.Scans.{data_read}
use Rattle.rl_lex.specs.Parts.{ArePartsOf, quote_read_at}
use Rattle.rl_lex.proofs.spelling.quoted_end.Given as goal

abbrev pub invariant-loop-i : goal.invariant-loop-i
invariant-loop-i l = record {
  after : l.at < l.i;
  within : l.i ≤ length l.bytes;
  deep : length l.nest ≤ l.i;
  frames : List (ReaderFrame Items);
  parts : ArePartsOf l.nest frames;
  reads : quote_read_at l.bytes l.at ≡ data_read Gap frames (drop l.i l.bytes);
}

abbrev pub decreases-loop-i : goal.decreases-loop-i
decreases-loop-i l = length l.bytes - l.i
