use Rattle.std.proofs.Common.{reverse, arith}
use Rattle.std.proofs.lemmas.List.{length-reverse}
use Rattle.rl_stack.proofs.FramesLie.{frames_long}
use Rattle.rl_stack.proofs.stack.Stack.frames.Goals as goal

pub returns : goal.returns
returns c = rw (← c.self.view_is) (let f = frames_long c.self.inside.waiting (reverse c.self.inside.heads.items) (reverse c.self.inside.words.items) in omega (arith, c.len.ensures, c.self.inside.heads.ok.0, length-reverse c.self.inside.heads.items, f))
