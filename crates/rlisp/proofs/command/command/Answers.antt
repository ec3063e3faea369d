use Rattle.std.proofs.Common.{◌≡◌, ℕ, sym, ap, subst, ◌∙◌}
use Rattle.rlisp.specs.Status.{status_number}
use Rattle.rlisp.specs.Headline.{NumberAgrees, OfFile}
use Rattle.rlisp.specs.Texts.{texts_of}
use Rattle.rlisp.proofs.Numbers.{is_done, is_usage, is_missing, is_write_fault, is_file_fault, is_unbuilt, silent_by, all_agree}
use Rattle.rlisp.proofs.command.command.Goals as goal

pub returns-clause-usage : goal.returns-clause-usage
returns-clause-usage g c = (
  λ e. let s = is_usage c.rlisp-status.result (sym c.end_with.ensures.number ∙ e) in (s.0, (c.rlisp-status.ensures.usage s.0).0 s.1),
  λ h. c.end_with.ensures.number ∙ ap status_number ((c.rlisp-status.ensures.usage h.0).1 h.1),
)

pub returns-clause-missing : goal.returns-clause-missing
returns-clause-missing g c = λ e. let s = is_missing c.rlisp-status.result (sym c.end_with.ensures.number ∙ e) in (s.0, c.rlisp-status.ensures.missing s.0 s.1)

pub returns-clause-unbuilt : goal.returns-clause-unbuilt
returns-clause-unbuilt g c = λ e. c.rlisp-status.ensures.unbuilt (is_unbuilt c.rlisp-status.result (sym c.end_with.ensures.number ∙ e))

pub returns-clause-done : goal.returns-clause-done
returns-clause-done g c = λ e. c.rlisp-status.ensures.done (is_done c.rlisp-status.result (sym c.end_with.ensures.number ∙ e))

pub returns-clause-write_fault : goal.returns-clause-write_fault
returns-clause-write_fault g c = λ e. c.rlisp-status.ensures.write_fault (is_write_fault c.rlisp-status.result (sym c.end_with.ensures.number ∙ e))

pub returns-clause-file_fault : goal.returns-clause-file_fault
returns-clause-file_fault g c = λ e. c.rlisp-status.ensures.file_fault (is_file_fault c.rlisp-status.result (sym c.end_with.ensures.number ∙ e))

pub returns-clause-steady_out : goal.returns-clause-steady_out
returns-clause-steady_out g c = λ n. c.rlisp-status.ensures.steady_out (λ e. n (c.end_with.ensures.number ∙ ap status_number e))

pub returns-clause-steady_files : goal.returns-clause-steady_files
returns-clause-steady_files g c = λ n. c.rlisp-status.ensures.steady_files (λ e. n (c.end_with.ensures.number ∙ ap status_number e))

pub returns-clause-number : goal.returns-clause-number
returns-clause-number g c = (c.rlisp-status.result, c.end_with.ensures.number)

pub returns-clause-silent : goal.returns-clause-silent
returns-clause-silent g c = λ a b d. c.rlisp-status.ensures.silent (silent_by c.rlisp-status.result (λ e. a (c.end_with.ensures.number ∙ e)) (λ e. b (c.end_with.ensures.number ∙ e)) (λ e. d (c.end_with.ensures.number ∙ e)))

pub returns-clause-complete : goal.returns-clause-complete
returns-clause-complete g c = λ p q.
    let P : ℕ → Type 0 = λ n. OfFile (texts_of c.args.words.now) (g.F.Files.contents c.args.files.now) (NumberAgrees n) in
    subst P (sym c.end_with.ensures.number) (all_agree (texts_of c.args.words.now) (g.F.Files.contents c.args.files.now) c.rlisp-status.result (c.rlisp-status.ensures.complete p q))

pub returns-clause-quiet : goal.returns-clause-quiet
returns-clause-quiet g c = λ e. c.end_with.ensures.quiet (sym c.end_with.ensures.number ∙ e)
