use Rattle.std.proofs.Common.{◌<◌, ◌+◌, length, get_or, refl, sym, arith}
use Rattle.rl_grammar.specs.Written.{long_mark}
use Rattle.rl_lex.proofs.Lexemes.{lone_mark, long_token, short_before, short_lexeme, mapped_some, mapped_none}
use Rattle.rl_lex.proofs.next.marked.Goals as goal

pub returns-then-next-bytes : goal.returns-then-next-bytes
returns-then-next-bytes c =
    short_lexeme c.args.bytes.now c.args.at c.short.result c.requires.here (lone_mark c.args.bytes.now c.args.at (sym c.if-next-bytes.true) c.requires.begins) c.short.ensures

pub returns-in-Some : goal.returns-in-Some
returns-in-Some c =
    let bytes = c.args.bytes.now in
    let at = c.args.at in
    let two : at + 1 < length bytes = omega (arith, c.requires.here, c.if-next-bytes.false) in
    let found = mapped_some (long_mark (get_or bytes at 0) (get_or bytes (at + 1) 0)) c.in-Some.kind c.in-Some.ensures in
    record {
      here = refl;
      takes = omega arith;
      within = omega (arith, two);
      token = found.0;
      is = long_token bytes at found.0 two c.requires.begins found.1;
      kind = found.2;
    }

pub returns-in-None : goal.returns-in-None
returns-in-None c =
    let bytes = c.args.bytes.now in
    let at = c.args.at in
    let two : at + 1 < length bytes = omega (arith, c.requires.here, c.if-next-bytes.false) in
    short_lexeme bytes at c.short-in-None.result c.requires.here (short_before bytes at two c.requires.begins (mapped_none (long_mark (get_or bytes at 0) (get_or bytes (at + 1) 0)) c.in-None.ensures)) c.short-in-None.ensures
