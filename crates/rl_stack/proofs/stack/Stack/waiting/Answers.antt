use Rattle.std.proofs.Common.{sym, reverse}
use Rattle.rl_stack.proofs.FramesLie.{laid_long, waiting_long}
use Rattle.rl_stack.proofs.stack.Stack.waiting.Goals as goal

pub returns : goal.returns
returns c = rw (← c.self.view_is) (sym (waiting_long 16 c.self.inside.waiting (reverse c.self.inside.heads.items) (reverse c.self.inside.words.items) (laid_long c.self.inside.waiting c.self.inside.heads c.self.inside.words c.self.invariant.apart)))
