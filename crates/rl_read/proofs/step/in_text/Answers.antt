use Rattle.rl_read.specs.Stock.{stock_of}
use Rattle.rl_read.specs.Frames.{frames_in}
use Rattle.rl_read.proofs.CallsFollow.{reads_same}
use Rattle.rl_read.proofs.ByteInWord.{quote_else, quote_goes, text_before, text_goes}
use Rattle.rl_read.proofs.step.in_text.Goals as goal

pub returns-else-b-eq34 : goal.returns-else-b-eq34
returns-else-b-eq34 c =
    rw c.in-Text.is
    (reads_same (c.grown.ensures c.args.base c.args.w.now c.requires.ready (λ l. tt))
    (λ t. text_goes t c.args.b c.args.word.now.items (frames_in c.args.base c.args.w.now c.args.group) (stock_of c.args.w.now) c.if-b-eq34.false))

pub returns-then-b-eq34-2 : goal.returns-then-b-eq34-2
returns-then-b-eq34-2 c =
    reads_same (c.grown-then-b-eq34-2.ensures c.args.base c.args.w.now c.requires.ready (λ l. tt))
    (λ t. quote_goes t c.args.mode c.args.b c.args.word.now.items (frames_in c.args.base c.args.w.now c.args.group) (stock_of c.args.w.now) (quote_else c.args.mode c.requires.text c.in_default.not-Text) c.if-b-eq34-2.true)

pub returns-else-b-eq34-2 : goal.returns-else-b-eq34-2
returns-else-b-eq34-2 c =
    reads_same c.before-in_default.ensures
    (λ t. text_before t c.args.mode c.args.b c.args.word.now.items (frames_in c.args.base c.args.w.now c.args.group) (stock_of c.args.w.now) (quote_else c.args.mode c.requires.text c.in_default.not-Text) c.if-b-eq34-2.false)
