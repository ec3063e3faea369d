use Rattle.std.proofs.Common.{ap, refl, sym, ◌∙◌}
use Rattle.rl_text.specs.Reader as reader
use Rattle.rl_read.specs.Steps.{ended_of}
use Rattle.rl_read.specs.declared.step.Ended.{Ended}
use Rattle.rl_read.proofs.TextEnds.{text_after, text_lacks, text_refused, text_whole}
use Rattle.rl_read.proofs.read.word_at_end.Goals as goal

pub returns-in-Err-clause-ends : goal.returns-in-Err-clause-ends
returns-in-Err-clause-ends c = text_lacks c.in-Err.ensures

pub returns-in-Whole-clause-ends : goal.returns-in-Whole-clause-ends
returns-in-Whole-clause-ends c = text_whole (rw c.in-Whole.is at c.in-Ok.ensures)

pub returns-in-Inside-clause-ends : goal.returns-in-Inside-clause-ends
returns-in-Inside-clause-ends c =
    text_after c.in-Ok.ensures.reading
    (text_refused c.args.base c.word_ended.new.w c.refused.new.w _ c.args.k c.refused.result c.refused.ensures.syntax (λ t. ap reader.ends_after (c.in-Ok.ensures.means t ∙ ap (λ (e : Ended). ended_of c.args.base c.word_ended.new.w e) c.in-Inside.is)) c.refused.ensures.left c.refused.ensures.levels c.in-Ok.ensures.able)
    (λ t. refl)

pub returns-in-Inside-clause-some : goal.returns-in-Inside-clause-some
returns-in-Inside-clause-some c = λ is. (let both = sym c.refused.ensures.syntax ∙ is in cc)
