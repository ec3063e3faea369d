use Rattle.std.proofs.Common.{◌≡◌, false, length, get_or, refl, sym, ◌∙◌, arith}
use Rattle.rl_tree.specs.Bytes.{is_digit}
use Rattle.rl_text.specs.Reader.{InNumber}
use Rattle.rl_text.specs.Word.{Integer, signed}
use Rattle.rl_lex.proofs.ReadBytes.{read_before, read_last, digits_end_before}
use Rattle.rl_lex.proofs.atom.digits_end.Goals as goal

pub returns-then-not-is_ascii_digit : goal.returns-then-not-is_ascii_digit
returns-then-not-is_ascii_digit c =
    let l = c.loop-i.invariant in
    let bytes = c.args.bytes.now in
    let other : is_digit (get_or bytes c.loop-i.i 0) ≡ false = sym c.is_ascii_digit.ensures.value ∙ c.if-not-is_ascii_digit.true in (
      c.loop-i.n,
      record {
        after = l.after;
        within = l.within;
        reads = λ fs admitted. l.reads fs ∙ read_before (InNumber c.args.minus c.loop-i.n) (Integer (signed c.args.minus c.loop-i.n)) fs bytes c.loop-i.i c.loop-i-test.true (digits_end_before c.args.minus c.loop-i.n (get_or bytes c.loop-i.i 0) fs other);
      },
    )

pub returns : goal.returns
returns c =
    let l = c.loop-i.invariant in
    let bytes = c.args.bytes.now in
    let end : c.loop-i.i ≡ length bytes = omega (arith, l.within, c.loop-i-test.false) in (
      c.loop-i.n,
      record {
        after = l.after;
        within = l.within;
        reads = λ fs admitted. l.reads fs ∙ read_last (InNumber c.args.minus c.loop-i.n) (Integer (signed c.args.minus c.loop-i.n)) fs bytes c.loop-i.i end refl;
      },
    )
