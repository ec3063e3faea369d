use Rattle.std.proofs.Common.{false, map, ◌∙◌, ◌≡◌, []}
use Rattle.rl_read.specs.Given.{slice_left}
use Rattle.rl_read.specs.Reads.{IsRefusedText}
use Rattle.rl_forms.specs.KnownData.{datum_in}
use Rattle.rl_forms.proofs.ReadForms.{IsRead, IsEnd, slice_told, read_running, read_output, read_shorter, read_known, read_more, end_known, end_read, refused_read}
use Rattle.rl_forms.proofs.reading.forms_in.Goals as goal

pub forms-smaller : goal.forms-smaller
forms-smaller c = read_shorter c.what_is_read_is_the_datum.ensures c.forms.world c.read_form.new.w c.in-Ok.form (slice_left c.forms.text) (slice_left c.read_form.new.text) c.forms.invariant.running (slice_told c.forms.text c.read_form.new.text (IsRead c.forms.world c.read_form.new.w c.in-Ok.form) c.in-Ok.ensures.ok)

pub forms-preserved : goal.forms-preserved
forms-preserved c =
    let before = slice_left c.forms.text in
    let now = slice_left c.read_form.new.text in
    record {
      running = read_running c.forms.world c.read_form.new.w c.forms.invariant.running c.in-Ok.ensures.able.table c.in-Ok.ensures.keeps;
      able = c.in-Ok.ensures.able;
      known = rw c.in_ok-push-in-Ok.ensures.items (read_known c.what_is_read_is_the_datum.ensures c.forms.world c.read_form.new.w c.in-Ok.form before now _ c.forms.invariant.running (slice_told c.forms.text c.read_form.new.text (IsRead c.forms.world c.read_form.new.w c.in-Ok.form) c.in-Ok.ensures.ok) c.forms.invariant.known);
      read = read_more c.what_is_read_is_the_datum.ensures c.what_is_found_is_spelled.ensures c.forms.world c.read_form.new.w c.in-Ok.form c.args.bytes.now before now c.forms.forms.items c.push.new.self.items c.forms.invariant.running (slice_told c.forms.text c.read_form.new.text (IsRead c.forms.world c.read_form.new.w c.in-Ok.form) c.in-Ok.ensures.ok) c.forms.invariant.known c.in_ok-push-in-Ok.ensures.items c.forms.invariant.read;
      output = read_output c.forms.world c.read_form.new.w c.in-Ok.ensures.keeps (c.in-Ok.ensures.printed (λ e. cc)) ∙ c.forms.invariant.output;
    }

pub returns-in-Err-End-clause-read : goal.returns-in-Err-End-clause-read
returns-in-Err-End-clause-read c =
    end_read c.reading_is_of_text.ensures c.what_is_found_is_spelled.ensures c.blank_text_has_none.ensures c.forms.world c.read_form.new.w c.args.bytes.now (slice_left c.forms.text) c.forms.forms.items (slice_told c.forms.text c.read_form.new.text (λ before now. (now ≡ []) × IsEnd c.forms.world c.read_form.new.w before) (c.in-Err-End.ensures.end cc)).1 c.forms.invariant.known c.forms.invariant.read

pub returns-in-Err-End-clause-forms : goal.returns-in-Err-End-clause-forms
returns-in-Err-End-clause-forms c = record {
  running = read_running c.forms.world c.read_form.new.w c.forms.invariant.running c.in-Err-End.ensures.able.table c.in-Err-End.ensures.keeps;
  known = end_known c.reading_is_of_text.ensures c.forms.world c.read_form.new.w (slice_left c.forms.text) c.forms.forms.items (slice_told c.forms.text c.read_form.new.text (λ before now. (now ≡ []) × IsEnd c.forms.world c.read_form.new.w before) (c.in-Err-End.ensures.end cc)).1 c.forms.invariant.known;
  output = read_output c.forms.world c.read_form.new.w c.in-Err-End.ensures.keeps (c.in-Err-End.ensures.printed (λ e. cc)) ∙ c.forms.invariant.output;
}

pub returns-in-Err-Syntax-clause-read : goal.returns-in-Err-Syntax-clause-read
returns-in-Err-Syntax-clause-read c =
    refused_read c.reading_is_of_text.ensures c.what_is_found_is_spelled.ensures c.unreadable_at_first_byte.ensures c.forms.world c.read_form.new.w c.args.bytes.now (slice_left c.forms.text) (slice_left c.read_form.new.text) c.in-Err-Syntax.field-0-0 (map (datum_in c.forms.world) c.forms.forms.items) (slice_told c.forms.text c.read_form.new.text (λ before now. IsRefusedText false c.forms.world c.read_form.new.w before now c.in-Err-Syntax.field-0-0) (c.in-Err-Syntax.ensures.syntax c.in-Err-Syntax.field-0-0 cc)) c.forms.invariant.read
