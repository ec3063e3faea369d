use Rattle.std.proofs.Common.{length, reverse, ap, arith}
use Rattle.rl_parse.proofs.Nested.{nested_few}
use Rattle.rl_parse.proofs.stack.Stack.push.Goals as goal

pub overflow_add-self : goal.overflow_add-self
overflow_add-self c =
    let few = nested_few (reverse c.self.inside.frames.items) in
    let many = ap length c.self.view_is in
    omega (arith, few, many, c.self.invariant, c.requires)
