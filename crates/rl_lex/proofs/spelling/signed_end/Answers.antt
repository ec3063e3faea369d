use Rattle.std.proofs.Common.{[], ◌∷◌, get_or, sym, ◌∙◌, arith}
use Rattle.rl_text.specs.Word.{Identifier}
use Rattle.rl_lex.proofs.Elements.{signed_are_word, sign_last, sign_before}
use Rattle.rl_lex.proofs.spelling.signed_end.Goals as goal
use Rattle.rl_lex.proofs.spelling.signed_end.Goals.{else-next-bytes-via-then-next-bytes+else-is_ascii_digit, else-next-bytes-via-else-next-bytes}

pub returns-then-is_ascii_digit : goal.returns-then-is_ascii_digit
returns-then-is_ascii_digit c =
    signed_are_word c.args.bytes.now c.args.at c.digits_end.result c.if-next-bytes.true c.requires.begins (sym c.is_ascii_digit.ensures.value ∙ c.if-is_ascii_digit.true) c.digits_end.ensures

pub returns-else-next-bytes : goal.returns-else-next-bytes
returns-else-next-bytes c =
    let bytes = c.args.bytes.now in
    let at = c.args.at in (
      Identifier (get_or bytes at 0 ∷ []),
      record {
        after = omega arith;
        within = omega (arith, c.requires.here);
        reads = λ fs admitted. elim c.else-next-bytes.branch [
          | else-next-bytes-via-then-next-bytes+else-is_ascii_digit w ↦ sign_before bytes at fs w.if-next-bytes.true c.requires.begins (sym w.is_ascii_digit.ensures.value ∙ w.if-is_ascii_digit.false) admitted
          | else-next-bytes-via-else-next-bytes w ↦ sign_last bytes at fs c.requires.here c.requires.begins w.if-next-bytes.false admitted
        ];
      },
    )
