use Rattle.std.proofs.Common.{subst, sym}
use Rattle.rl_text.specs.Datum.{Datum}
use Rattle.rl_text.specs.Spelling.{IsSpelled}
use Rattle.rl_read.proofs.MadeStands.{AreLaws}
use Rattle.rl_read.proofs.ReadIsDatum.{reads_result, result_datum, result_keeps, result_named}
use Rattle.rl_read.proofs.laws.what_is_read_is_the_datum.Goals as goal

laws_of : (c : goal.After-names_are_identifiers) → AreLaws
laws_of c = record {
  added = c.objects_are_added.ensures;
  changed = c.objects_are_changed.ensures;
  kept = c.table_is_kept.ensures;
  leave = c.others_leave_identifiers.ensures;
  enter = c.names_enter.ensures;
  ids = c.names_are_identifiers.ensures;
}

pub returns : goal.returns
returns c = record {
  spelled = λ turns k made bytes rest v n e.
      let r = reads_result (laws_of c) (c.related_makers_end_related.ensures tt) turns k made bytes rest v n e in
      let is = result_datum (laws_of c) _ made v r.0 r.2 in
      subst (λ (d : Datum). IsSpelled bytes d rest) (sym is.1) ((c.what_is_found_is_spelled.ensures bytes r.0 rest).0 r.1);
  is = λ turns k made bytes rest v n e. let r = reads_result (laws_of c) (c.related_makers_end_related.ensures tt) turns k made bytes rest v n e in (result_datum (laws_of c) _ made v r.0 r.2).0;
  keeps = λ turns k made bytes rest v n e. let r = reads_result (laws_of c) (c.related_makers_end_related.ensures tt) turns k made bytes rest v n e in result_keeps k made v r.0 r.2;
  named = λ turns k made bytes rest v n e. let r = reads_result (laws_of c) (c.related_makers_end_related.ensures tt) turns k made bytes rest v n e in result_named _ made v r.0 r.2;
}
