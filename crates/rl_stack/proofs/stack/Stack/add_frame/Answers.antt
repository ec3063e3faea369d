use Rattle.std.proofs.Common.{ap, arith}
use Rattle.rl_stack.specs.StackState.{StackState}
use Rattle.rl_stack.proofs.FramesLie.{added_apart, added_shown, heads_room}
use Rattle.rl_stack.proofs.stack.Stack.add_frame.Goals as goal

pub push_reserved-requires : goal.push_reserved-requires
push_reserved-requires c =
    let r = heads_room c.self.inside.nest c.self.inside.waiting c.args.levels c.args.slots c.self.inside.heads c.self.inside.words _ _ _ c.self.view_is c.self.invariant.apart c.requires.fits c.requires.levels in
    omega (arith, r.0, c.self.inside.heads.ok.0, c.self.invariant.heads_room)

pub push_nils-requires : goal.push_nils-requires
push_nils-requires c =
    let r = heads_room c.self.inside.nest c.self.inside.waiting c.args.levels c.args.slots c.self.inside.heads c.self.inside.words _ _ _ c.self.view_is c.self.invariant.apart c.requires.fits c.requires.levels in
    omega (arith, r.1, c.self.inside.words.ok.0, c.self.invariant.words_room)

pub invariant_of-self : goal.invariant_of-self
invariant_of-self c =
    let t = added_apart c.self.inside.nest c.self.inside.waiting c.args.levels c.args.slots c.args.owner c.self.inside.heads c.push_reserved.new.self c.self.inside.words c.push_nils.new.words _ _ _ c.self.view_is c.push_reserved.ensures.items c.push_nils.ensures.items c.self.invariant.apart c.requires.newest c.requires.fits in
    let nest = ap (λ (s : StackState). s.nest) c.self.view_is in
    record {
      bounded = c.self.invariant.bounded;
      apart = t.0;
      levels = omega (arith, t.1, c.requires.levels, nest);
      heads_room = omega (arith, c.self.invariant.heads_room, c.push_reserved.ensures.capacity);
      words_room = omega (arith, c.self.invariant.words_room, c.push_nils.ensures.capacity);
      saved_room = c.self.invariant.saved_room;
      registers = c.self.invariant.registers;
    }

pub returns : goal.returns
returns c = added_shown c.self.inside.nest c.self.inside.waiting c.args.levels c.args.slots c.args.owner c.self.inside.heads c.push_reserved.new.self c.self.inside.words c.push_nils.new.words _ _ _ c.self.view_is c.push_reserved.ensures.items c.push_nils.ensures.items
