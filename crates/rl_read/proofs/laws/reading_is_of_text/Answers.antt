use Rattle.rl_read.proofs.ReadIsSpelled.{reads_found, reads_none, reads_refused}
use Rattle.rl_read.proofs.laws.reading_is_of_text.Goals as goal

pub returns : goal.returns
returns c = record {
  read = λ turns k made bytes rest v e. let found = reads_found (c.related_makers_end_related.ensures tt) turns k made bytes rest v e in (found.0, (c.what_is_found_is_spelled.ensures bytes found.0 rest).0 found.1);
  none = λ turns k made bytes e. (c.blank_text_has_none.ensures bytes).0 (reads_none (c.related_makers_end_related.ensures tt) turns k made bytes e);
  refused = λ turns k made bytes from e. (c.unreadable_at_first_byte.ensures bytes _).0 (reads_refused (c.related_makers_end_related.ensures tt) turns k made bytes from e);
}
