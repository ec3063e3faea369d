use Rattle.rl_read.specs.Stock.{stock_of}
use Rattle.rl_read.specs.Frames.{frames_in}
use Rattle.rl_read.proofs.MakingStays.{reading_refl}
use Rattle.rl_read.proofs.TextEnds.{between_ends, may_end_else, open_ends, text_after, text_refused, word_ends}
use Rattle.rl_read.proofs.read.at_end.Goals as goal

pub returns-in-Gap : goal.returns-in-Gap
returns-in-Gap c =
    text_after (reading_refl c.args.base c.args.w.now) c.gap_at_end.ensures.ends
    (λ t. between_ends t c.args.mode c.args.word.now.items (frames_in c.args.base c.args.w.now c.args.group) (stock_of c.args.w.now) c.in-Gap.is)

pub returns-in-Escape : goal.returns-in-Escape
returns-in-Escape c =
    text_refused c.args.base c.args.w.now c.refused.new.w _ c.args.k c.refused.result c.refused.ensures.syntax
    (λ t. open_ends t c.args.mode c.args.word.now.items (frames_in c.args.base c.args.w.now c.args.group) (stock_of c.args.w.now) c.in-Escape.is)
    c.refused.ensures.left c.refused.ensures.levels c.requires.ready.able

pub returns-in_default : goal.returns-in_default
returns-in_default c =
    text_after (reading_refl c.args.base c.args.w.now) c.word_at_end.ensures.ends
    (λ t. word_ends t c.args.mode c.args.word.now.items (frames_in c.args.base c.args.w.now c.args.group) (stock_of c.args.w.now)
    (may_end_else c.args.mode c.in_default.not-Gap c.in_default.not-Comment c.in_default.not-Escape c.in_default.not-Text))
