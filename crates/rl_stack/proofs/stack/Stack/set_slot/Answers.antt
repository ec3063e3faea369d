use Rattle.std.proofs.Common.{◌+◌, ◌-◌, arith}
use Rattle.rl_stack.proofs.FramesLie.{slot_set, slots_within}
use Rattle.rl_stack.proofs.stack.Stack.set_slot.Goals as goal

pub overflow_sub-at : goal.overflow_sub-at
overflow_sub-at c =
    let l = slots_within c.self.inside.nest c.self.inside.waiting c.self.inside.heads c.self.inside.words _ _ _ c.args.i c.self.view_is c.self.invariant.apart c.requires in
    omega (arith, l, c.len.ensures, c.self.inside.words.ok.0)

pub overflow_sub-at-2 : goal.overflow_sub-at-2
overflow_sub-at-2 c =
    let l = slots_within c.self.inside.nest c.self.inside.waiting c.self.inside.heads c.self.inside.words _ _ _ c.args.i c.self.view_is c.self.invariant.apart c.requires in
    omega (arith, l, c.len.ensures, c.self.inside.words.ok.0)

pub index_mut-requires : goal.index_mut-requires
index_mut-requires c =
    let l = slots_within c.self.inside.nest c.self.inside.waiting c.self.inside.heads c.self.inside.words _ _ _ c.args.i c.self.view_is c.self.invariant.apart c.requires in
    omega (arith, l, c.len.ensures, c.self.inside.words.ok.0)

pub returns : goal.returns
returns c =
    slot_set c.self.inside.nest c.self.inside.waiting c.self.inside.heads c.self.inside.words _ _ _ c.args.i (c.len.result - 1 - (c.self.inside.waiting + c.args.i)) c.args.v c.self.view_is c.self.invariant.apart c.requires
    (omega (arith, c.len.ensures, c.self.inside.words.ok.0))
