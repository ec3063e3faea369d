use Rattle.std.proofs.Common.{◌<◌, ◌++◌, ◌∷◌, [], length, get_or, ◌∙◌, arith}
use Rattle.rl_text.specs.Reader.{InText}
use Rattle.rl_lex.proofs.ReadBytes.{read_refused, read_on, text_grows, text_full}
use Rattle.rl_lex.proofs.atom.text_character.Goals as goal

pub returns-then-count-eq-LONGEST_TEXT : goal.returns-then-count-eq-LONGEST_TEXT
returns-then-count-eq-LONGEST_TEXT c = λ text counted short. record {
  after = omega arith;
  within = omega arith;
  reads = λ fs. read_refused (InText text) fs c.args.bytes.now c.args.at c.requires (text_full text _ fs c.if-bytes-at-eq34.false (counted ∙ c.if-count-eq-LONGEST_TEXT.true));
}

pub returns : goal.returns
returns c = λ text counted short.
    let bytes = c.args.bytes.now in
    let at = c.args.at in
    let room : length text < 65535 = omega arith in (
      record {
        after = omega arith;
        within = omega arith;
        byte = get_or bytes at 0;
        reads = λ fs. read_on (InText text) (InText (text ++ get_or bytes at 0 ∷ [])) fs fs bytes at c.requires (text_grows text _ fs c.if-bytes-at-eq34.false room);
      },
      room,
    )
