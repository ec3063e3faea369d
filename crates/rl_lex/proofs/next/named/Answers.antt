use Rattle.std.proofs.Common.{get_or}
use Rattle.rl_lex.proofs.Lexemes.{name_lexeme, name_begins_spelling, word_fails}
use Rattle.rl_lex.proofs.next.named.Goals as goal

pub returns-in-Ends : goal.returns-in-Ends
returns-in-Ends c =
    let bytes = c.args.bytes.now in
    let e = c.in-Ends.ensures in
    name_lexeme bytes c.args.at c.in-Ends.to c.name_kind.result e.0 c.requires.here (name_begins_spelling (get_or bytes c.args.at 0) c.requires.begins) e.1 e.2 c.name_kind.ensures

pub returns-in-Bad : goal.returns-in-Bad
returns-in-Bad c =
    let bytes = c.args.bytes.now in
    word_fails bytes c.args.at c.in-Bad.k c.requires.here (name_begins_spelling (get_or bytes c.args.at 0) c.requires.begins) c.in-Bad.ensures
