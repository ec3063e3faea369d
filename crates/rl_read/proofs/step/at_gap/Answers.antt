use Rattle.std.proofs.Common.{[], ◌∷◌, arith, refl}
use Rattle.rl_text.specs.Byte as byte
use Rattle.rl_text.specs.ByteClass.{mark_of}
use Rattle.rl_text.specs.Reader as reader
use Rattle.rl_tree.specs.Bytes.{raised}
use Rattle.rl_read.proofs.CallsFollow.{gap_step, reads_here, step_refused}
use Rattle.rl_read.proofs.step.at_gap.Goals as goal

pub returns-in-Blank : goal.returns-in-Blank
returns-in-Blank c = gap_step c.args.group c.args.b byte.Blank c.in-Blank.ensures [] c.clear.ensures (reads_here c.args.base c.args.w.now c.args.group c.requires.ready (λ t. refl) (c.requires.ready, tt))

pub returns-in-Percent : goal.returns-in-Percent
returns-in-Percent c = gap_step c.args.group c.args.b byte.Percent c.in-Percent.ensures [] c.clear.ensures (reads_here c.args.base c.args.w.now c.args.group c.requires.ready (λ t. refl) (c.requires.ready, tt))

pub returns-in-Marks : goal.returns-in-Marks
returns-in-Marks c = gap_step c.args.group c.args.b (byte.Marks (mark_of c.in-Marks.mark)) c.in-Marks.ensures [] c.clear.ensures c.at_mark.ensures

pub returns-in-Text : goal.returns-in-Text
returns-in-Text c = gap_step c.args.group c.args.b byte.Text c.in-Text.ensures [] c.clear.ensures (c.in_word.ensures c.args.base c.args.w.now [] c.requires.ready tt)

pub returns-in-Escape : goal.returns-in-Escape
returns-in-Escape c = gap_step c.args.group c.args.b byte.Escape c.in-Escape.ensures [] c.clear.ensures (c.in_word-in-Escape.ensures c.args.base c.args.w.now [] c.requires.ready (omega arith))

pub returns-in-Letter : goal.returns-in-Letter
returns-in-Letter c =
    gap_step c.args.group c.args.b byte.Letter c.in-Letter.ensures (raised c.args.b ∷ []) (rw (c.push.ensures.items, c.clear.ensures, c.raised.ensures) refl)
    (c.in_word-in-Letter.ensures c.args.base c.args.w.now (raised c.args.b ∷ []) c.requires.ready (omega arith, omega arith))

pub returns-in-Digit : goal.returns-in-Digit
returns-in-Digit c =
    gap_step c.args.group c.args.b byte.Digit c.in-Digit.ensures [] c.clear.ensures
    (rw c.from.ensures at (c.in_word-in-Digit.ensures c.args.base c.args.w.now [] c.requires.ready (omega (arith, c.from.ensures, c.ranges.b.fits))))

pub returns-in-Sign : goal.returns-in-Sign
returns-in-Sign c = gap_step c.args.group c.args.b byte.Sign c.in-Sign.ensures [] c.clear.ensures (c.in_word-in-Sign.ensures c.args.base c.args.w.now [] c.requires.ready tt)

pub returns-in-Special : goal.returns-in-Special
returns-in-Special c = gap_step c.args.group c.args.b byte.Special c.in-Special.ensures [] c.clear.ensures c.at_special.ensures

pub returns-in-Nothing : goal.returns-in-Nothing
returns-in-Nothing c =
    gap_step c.args.group c.args.b byte.Nothing c.in-Nothing.ensures [] c.clear.ensures
    (step_refused c.args.base c.args.w.now c.args.group [] (λ m fs k. reader.at_class m byte.Nothing c.args.b fs k) c.requires.ready (λ t. refl))
