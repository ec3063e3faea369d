use Rattle.std.proofs.Common.{◌≡◌, ◌+◌, ◌-◌, length, take, ap, ◌∙◌, arith}
use Rattle.rl_stack.proofs.FramesLie.{taken_apart, taken_shown}
use Rattle.rl_stack.proofs.stack.Stack.take_frame.Goals as goal

pub invariant_of-self : goal.invariant_of-self
invariant_of-self c =
    let n : c.len.result - (c.self.inside.waiting + c.in-Some.head.slots) ≡ length c.self.inside.words.items - (c.self.inside.waiting + c.in-Some.head.slots) = omega (arith, c.len.ensures, c.self.inside.words.ok.0) in
    let t = taken_apart c.self.inside.waiting c.self.inside.heads c.pop.new.self c.self.inside.words c.truncate.new.self c.in-Some.head c.in-Some.ensures.items (c.truncate.ensures.items ∙ ap (λ k. take k c.self.inside.words.items) n) c.self.invariant.apart in
    record {
      bounded = c.self.invariant.bounded;
      apart = t.1;
      levels = omega (arith, t.0, c.self.invariant.levels);
      heads_room = omega (arith, c.self.invariant.heads_room, c.in-Some.ensures.capacity);
      words_room = omega (arith, c.self.invariant.words_room, c.truncate.ensures.capacity);
      saved_room = c.self.invariant.saved_room;
      registers = c.self.invariant.registers;
    }

pub returns-clause-frames : goal.returns-clause-frames
returns-clause-frames c =
    let n : c.len.result - (c.self.inside.waiting + c.in-Some.head.slots) ≡ length c.self.inside.words.items - (c.self.inside.waiting + c.in-Some.head.slots) = omega (arith, c.len.ensures, c.self.inside.words.ok.0) in
    taken_shown c.self.inside.nest c.self.inside.waiting c.self.inside.heads c.pop.new.self c.self.inside.words c.truncate.new.self _ _ _ c.in-Some.head c.self.view_is c.in-Some.ensures.items (c.truncate.ensures.items ∙ ap (λ k. take k c.self.inside.words.items) n) c.self.invariant.apart
