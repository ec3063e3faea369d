use Rattle.std.proofs.Common.{◌<◌, length, arith}
use Rattle.rl_lex.proofs.Lexemes.{bad_next, token_next}
use Rattle.rl_lex.proofs.next.next_token.Goals as goal

pub returns-clause-token : goal.returns-clause-token
returns-clause-token c =
    let e = c.gap_end-from.ensures in
    let here : c.gap_end-from.result < length c.args.bytes.now = omega (arith, e.within, c.if-from-bytes.false) in
    token_next c.finds_token.ensures c.args.bytes.now c.args.at c.gap_end-from.result c.lexeme.result e.after here e.behind c.lexeme.ensures

pub returns-clause-bad : goal.returns-clause-bad
returns-clause-bad c =
    let e = c.gap_end-from.ensures in
    let here : c.gap_end-from.result < length c.args.bytes.now = omega (arith, e.within, c.if-from-bytes.false) in
    bad_next c.refuses_byte.ensures c.args.bytes.now c.args.at c.gap_end-from.result c.lexeme.result e.after here e.behind c.lexeme.ensures
