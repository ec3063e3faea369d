use Rattle.std.proofs.Common.{◌<◌, ◌+◌, ◌++◌, ◌∷◌, [], length, refl, ◌∙◌, arith}
use Rattle.rl_text.specs.Reader.{InText, AfterQuote}
use Rattle.rl_text.specs.Word.{String}
use Rattle.rl_lex.proofs.ReadBytes.{read_refused, read_on, read_on_twice, read_before, read_last, text_quotes, quote_grows, quote_full, quote_ends}
use Rattle.rl_lex.proofs.atom.quote_character.Goals as goal
use Rattle.rl_lex.proofs.atom.quote_character.Goals.{then-next-bytes-via-then-next-bytes, then-next-bytes-via-else-next-bytes+then-bytes-next-ne34}

pub returns-then-next-bytes : goal.returns-then-next-bytes
returns-then-next-bytes c = λ text counted short.
    let bytes = c.args.bytes.now in
    let at = c.args.at in
    record {
      after = omega arith;
      within = omega arith;
      reads = λ fs. read_on (InText text) (AfterQuote text) fs fs bytes at c.requires.here (text_quotes text _ fs c.requires.quote) ∙
          elim c.then-next-bytes.branch [
            | then-next-bytes-via-then-next-bytes w ↦ read_last (AfterQuote text) (String text) fs bytes (at + 1) w.if-next-bytes.true refl
            | then-next-bytes-via-else-next-bytes+then-bytes-next-ne34 w ↦ read_before (AfterQuote text) (String text) fs bytes (at + 1) (omega arith) (quote_ends text _ fs w.if-bytes-next-ne34.true)
          ];
    }

pub returns-then-count-eq-LONGEST_TEXT : goal.returns-then-count-eq-LONGEST_TEXT
returns-then-count-eq-LONGEST_TEXT c = λ text counted short.
    let bytes = c.args.bytes.now in
    let at = c.args.at in
    record {
      after = omega arith;
      within = omega arith;
      reads = λ fs. read_on (InText text) (AfterQuote text) fs fs bytes at c.requires.here (text_quotes text _ fs c.requires.quote) ∙ read_refused (AfterQuote text) fs bytes (at + 1) (omega arith) (quote_full text _ fs c.if-bytes-next-ne34.false (counted ∙ c.if-count-eq-LONGEST_TEXT.true));
    }

pub returns : goal.returns
returns c = λ text counted short.
    let bytes = c.args.bytes.now in
    let at = c.args.at in
    let room : length text < 65535 = omega arith in (
      record {
        after = omega arith;
        within = omega arith;
        byte = 34;
        reads = λ fs. read_on_twice (InText text) (AfterQuote text) (InText (text ++ 34 ∷ [])) fs bytes at (omega arith) (text_quotes text _ fs c.requires.quote) (quote_grows text _ fs c.if-bytes-next-ne34.false room);
      },
      room,
    )
