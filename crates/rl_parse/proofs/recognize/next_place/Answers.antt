use Rattle.std.proofs.Common.{arith}
use Rattle.rl_parse.proofs.Advancing.{token_advances, token_past, blank_ends, bad_ends, bad_past}
use Rattle.rl_parse.proofs.recognize.next_place.Goals as goal

pub returns-then-token-limit : goal.returns-then-token-limit
returns-then-token-limit c = λ s stands.
    token_advances c.finds_token.ensures c.args.bytes.now c.args.at c.args.place c.args.stack.now c.take.new.stack s c.in-Token.token c.take.result c.in-Token.ensures.token (omega (arith, c.limit_of-limit.ensures, c.if-token-limit.true)) stands c.take.ensures

pub returns-else-token-limit : goal.returns-else-token-limit
returns-else-token-limit c = λ s stands n. (
  omega (arith, c.limit_of-limit.ensures, c.requires.here, c.requires.before),
  omega (arith, c.limit_of-limit.ensures),
  token_past c.finds_token.ensures c.args.bytes.now c.args.at n s c.in-Token.token c.limit_of-limit.result c.in-Token.ensures.token c.limit_of-limit.ensures (omega (arith, c.if-token-limit.false)),
)

pub returns-in-End : goal.returns-in-End
returns-in-End c = λ s stands n. (
  omega (arith, c.limit_of-limit.ensures, c.requires.here, c.requires.before),
  omega (arith, c.limit_of-limit.ensures),
  blank_ends c.finds_no_token.ensures c.args.bytes.now c.args.at n s c.limit_of-limit.result c.limit_of-limit.ensures c.in-End.ensures.end,
)

pub returns-then-k-limit : goal.returns-then-k-limit
returns-then-k-limit c = λ s stands n.
    let bad = c.in-Bad.ensures.bad in (
      bad.after,
      bad.within,
      bad_ends c.refuses_byte.ensures c.args.bytes.now c.args.at n s c.in-Bad.k c.limit_of-limit.result c.limit_of-limit.ensures c.requires.here bad c.if-k-limit.true,
    )

pub returns-else-k-limit : goal.returns-else-k-limit
returns-else-k-limit c = λ s stands n. (
  omega (arith, c.limit_of-limit.ensures, c.requires.here, c.requires.before),
  omega (arith, c.limit_of-limit.ensures),
  bad_past c.refuses_byte.ensures c.args.bytes.now c.args.at n s c.in-Bad.k c.limit_of-limit.result c.limit_of-limit.ensures c.requires.here c.in-Bad.ensures.bad (omega (arith, c.if-k-limit.false)),
)
