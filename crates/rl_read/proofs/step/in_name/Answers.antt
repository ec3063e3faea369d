use Rattle.std.proofs.Common.{◌∙◌, arith, length-append, sym}
use Rattle.rl_read.specs.Stock.{stock_of}
use Rattle.rl_read.specs.Frames.{frames_in}
use Rattle.rl_read.proofs.CallsFollow.{reads_same}
use Rattle.rl_read.proofs.ByteInWord.{name_before, name_goes}
use Rattle.rl_read.proofs.step.in_name.Goals as goal

pub returns-then-is_name_byte : goal.returns-then-is_name_byte
returns-then-is_name_byte c =
    reads_same (rw c.raised.ensures at (c.grown.ensures c.args.base c.args.w.now c.requires.ready (λ l. (simp length-append (omega arith), simp length-append (omega arith)))))
    (λ t. name_goes t c.args.b c.args.word.now.items (frames_in c.args.base c.args.w.now c.args.group) (stock_of c.args.w.now) (sym c.is_name_byte.ensures ∙ c.if-is_name_byte.true))

pub returns-then-b-ne33 : goal.returns-then-b-ne33
returns-then-b-ne33 c =
    reads_same c.before-then-b-ne33.ensures
    (λ t. name_before t c.args.b c.args.word.now.items (frames_in c.args.base c.args.w.now c.args.group) (stock_of c.args.w.now) (sym c.is_name_byte.ensures ∙ c.if-is_name_byte.false) c.if-b-ne33.true)
