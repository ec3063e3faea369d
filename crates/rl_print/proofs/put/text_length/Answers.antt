use Rattle.std.proofs.Common.{◌≡◌, length, ap, arith}
use Rattle.rl_print.specs.AtomText.{text_left}
use Rattle.rl_print.proofs.put.text_length.Goals as goal

pub returns : goal.returns
returns c =
    let none : length (text_left c.args.w.now.cells.cells c.loop-n.left) ≡ 0 = ap length c.in_default.ensures.gives in
    omega (arith, none, c.loop-n.invariant.counted, c.loop-n.invariant.small)
