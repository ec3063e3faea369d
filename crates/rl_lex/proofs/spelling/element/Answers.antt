use Rattle.std.proofs.Common.{[], ◌∷◌, get_or, sym, arith}
use Rattle.rl_text.specs.Word.{Identifier}
use Rattle.rl_text.specs.ByteClass.{mark_of}
use Rattle.rl_lex.proofs.Elements.{digits_are_word, special_reads, comment_reads, marked_reads}
use Rattle.rl_lex.proofs.spelling.element.Goals as goal

pub word_moves-requires-in-Digit-clause-scan : goal.word_moves-requires-in-Digit-clause-scan
word_moves-requires-in-Digit-clause-scan c = digits_are_word c.args.bytes.now c.args.at c.digits_end.result c.requires.here (sym c.in-Digit.ensures) c.digits_end.ensures

pub word_moves-requires-in-Special-clause-scan : goal.word_moves-requires-in-Special-clause-scan
word_moves-requires-in-Special-clause-scan c =
    let bytes = c.args.bytes.now in
    let at = c.args.at in (
      Identifier (get_or bytes at 0 ∷ []),
      record {
        after = omega arith;
        within = omega (arith, c.requires.here);
        reads = λ fs admitted. special_reads bytes at fs c.requires.here (sym c.in-Special.ensures) admitted;
      },
    )

pub returns-in-Percent-clause-moved : goal.returns-in-Percent-clause-moved
returns-in-Percent-clause-moved c = λ fs is. record {
  after = omega (arith, c.comment_end.ensures.after);
  within = c.comment_end.ensures.within;
  more = fs;
  parts = is;
  reads = comment_reads c.args.bytes.now c.args.at c.comment_end.result fs c.requires.here (sym c.in-Percent.ensures) c.comment_end.ensures.behind;
}

pub returns-in-Marks-clause-moved : goal.returns-in-Marks-clause-moved
returns-in-Marks-clause-moved c = λ fs is.
    marked_reads c.args.bytes.now c.args.at c.at_mark.new.nest fs c.at_mark.result (mark_of c.in-Marks.mark) c.requires.here (sym c.in-Marks.ensures) (c.at_mark.ensures.moved fs is)
