use Rattle.std.proofs.Common.{◌≤◌, ◌<◌, ◌∷◌, ◌++◌, [], arith, length}
use Rattle.rl_read.specs.Frames.{frames_in}
use Rattle.rl_read.specs.Stock.{stock_of}
use Rattle.rl_read.specs.Steps.{mode_of}
use Rattle.rl_read.proofs.CallsFollow.{reads_here}
use Rattle.rl_read.proofs.ByteInWord.{grown_goes, grown_refused}
use Rattle.rl_read.proofs.step.grown.Goals as goal

pub returns-then-len-most : goal.returns-then-len-most
returns-then-len-most c = λ base w r may.
    let full : c.args.most ≤ length c.args.word.now.items = omega (arith, c.len.ensures.value, c.if-len-most.true) in
    reads_here base w c.args.group r (λ t. grown_refused c.args.most c.args.word.now.items (mode_of c.args.mode (c.args.word.now.items ++ c.args.b ∷ [])) (frames_in base w c.args.group) (stock_of w) full) (c.args.group, r)

pub returns : goal.returns
returns c = λ base w r may.
    let more : length c.args.word.now.items < c.args.most = omega (arith, c.len.ensures.value, c.if-len-most.false) in
    rw c.push.ensures.items (reads_here base w c.args.group r (λ t. grown_goes c.args.most c.args.word.now.items (mode_of c.args.mode (c.args.word.now.items ++ c.args.b ∷ [])) (frames_in base w c.args.group) (stock_of w) more) (r, may more))
