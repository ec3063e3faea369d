use Rattle.std.proofs.Common.{◌-◌, arith}
use Rattle.rl_stack.proofs.FramesLie.{place_kept, place_set}
use Rattle.rl_stack.proofs.stack.Stack.set_place.Goals as goal

pub invariant_of-self : goal.invariant_of-self
invariant_of-self c =
    let k = place_kept c.self.inside.nest c.self.inside.waiting c.self.inside.heads c.self.inside.words _ _ _ (c.len-at.result - 1) c.args.p c.index_mut.result.now c.self.view_is c.self.invariant.apart c.requires (omega (arith, c.len-at.ensures, c.self.inside.heads.ok.0)) c.index_mut.ensures.value in
    record {
      bounded = c.self.invariant.bounded;
      apart = k.0;
      levels = omega (arith, k.1, c.self.invariant.levels);
      heads_room = c.self.invariant.heads_room;
      words_room = c.self.invariant.words_room;
      saved_room = c.self.invariant.saved_room;
      registers = c.self.invariant.registers;
    }

pub returns : goal.returns
returns c = place_set c.self.inside.nest c.self.inside.waiting c.self.inside.heads c.self.inside.words _ _ _ (c.len-at.result - 1) c.args.p c.index_mut.result.now c.self.view_is c.requires (omega (arith, c.len-at.ensures, c.self.inside.heads.ok.0)) c.index_mut.ensures.value
