use Rattle.std.proofs.Common.{ap, refl, ◌∙◌}
use Rattle.rl_text.specs.Reader as reader
use Rattle.rl_read.specs.Stock.{in_stock, stock_of}
use Rattle.rl_read.specs.Frames.{frames_in}
use Rattle.rl_read.specs.Steps.{ended_of, word_atom}
use Rattle.rl_read.proofs.CallsFollow.{reads_after, reads_then}
use Rattle.rl_read.proofs.ByteInWord.{inside_before}
use Rattle.rl_read.proofs.step.before.Goals as goal

pub returns-in-Err : goal.returns-in-Err
returns-in-Err c = reads_then (λ t e. reader.goes_before (in_stock t) c.args.b e) c.in-Err.ensures (λ t. refl) c.in-Err.ensures.sound

pub returns-in-Whole : goal.returns-in-Whole
returns-in-Whole c =
    let is = rw c.in-Whole.is at c.in-Ok.ensures in
    reads_then (λ t e. reader.goes_before (in_stock t) c.args.b e) is (λ t. refl) is.sound

pub returns-in-Inside : goal.returns-in-Inside
returns-in-Inside c =
    reads_after c.in-Ok.ensures.reading c.at_gap.ensures
    (λ t. inside_before t c.args.b (word_atom c.args.mode c.args.word.now.items) (frames_in c.args.base c.args.w.now c.args.group) (frames_in c.args.base c.word_ended.new.w c.in-Inside.group) (stock_of c.args.w.now) (stock_of c.word_ended.new.w) (c.in-Ok.ensures.means t ∙ ap (ended_of c.args.base c.word_ended.new.w) c.in-Inside.is))
