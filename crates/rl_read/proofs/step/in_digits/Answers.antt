use Rattle.std.proofs.Common.{◌≡◌, false, true, sym, ◌∙◌}
use Rattle.rl_tree.specs.Bytes.{is_digit}
use Rattle.rl_read.specs.Stock.{stock_of}
use Rattle.rl_read.specs.Frames.{frames_in}
use Rattle.rl_read.proofs.CallsFollow.{reads_here, reads_same}
use Rattle.rl_read.proofs.ByteInWord.{digits_before, none_else_digits}
use Rattle.rl_read.proofs.step.in_digits.Goals as goal

pub returns-then-not-is_ascii_digit : goal.returns-then-not-is_ascii_digit
returns-then-not-is_ascii_digit c =
    let other : is_digit c.args.b ≡ false = sym c.is_ascii_digit.ensures.value ∙ c.if-not-is_ascii_digit.true in
    reads_same c.before-then-not-is_ascii_digit.ensures
    (λ t. digits_before t c.args.mode c.args.b c.args.word.now.items (frames_in c.args.base c.args.w.now c.args.group) (stock_of c.args.w.now) c.requires.digits other)

pub returns-in-Number : goal.returns-in-Number
returns-in-Number c =
    let is : is_digit c.args.b ≡ true = sym c.is_ascii_digit.ensures.value ∙ c.if-not-is_ascii_digit.false in
    rw c.in-Number.is
    (reads_here c.args.base c.args.w.now c.args.group c.requires.ready (λ t. rw is (c.in_number.ensures.step c.args.base c.args.w.now c.args.word.now.items)) (c.in_number.ensures.ready c.args.base c.args.w.now c.args.word.now.items c.requires.ready))

pub returns-in_default : goal.returns-in_default
returns-in_default c = absurd (none_else_digits c.args.mode c.requires.digits c.in_default.not-Sign c.in_default.not-Number)
