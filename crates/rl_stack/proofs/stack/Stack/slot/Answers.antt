use Rattle.std.proofs.Common.{◌+◌, ◌-◌, arith}
use Rattle.rl_stack.proofs.FramesLie.{slot_shown, slots_within}
use Rattle.rl_stack.proofs.stack.Stack.slot.Goals as goal

pub overflow_sub-len : goal.overflow_sub-len
overflow_sub-len c =
    let l = slots_within c.self.inside.nest c.self.inside.waiting c.self.inside.heads c.self.inside.words _ _ _ c.args.i c.self.view_is c.self.invariant.apart c.requires in
    omega (arith, l, c.len.ensures, c.self.inside.words.ok.0)

pub overflow_sub-len-2 : goal.overflow_sub-len-2
overflow_sub-len-2 c =
    let l = slots_within c.self.inside.nest c.self.inside.waiting c.self.inside.heads c.self.inside.words _ _ _ c.args.i c.self.view_is c.self.invariant.apart c.requires in
    omega (arith, l, c.len.ensures, c.self.inside.words.ok.0)

pub index-requires : goal.index-requires
index-requires c =
    let l = slots_within c.self.inside.nest c.self.inside.waiting c.self.inside.heads c.self.inside.words _ _ _ c.args.i c.self.view_is c.self.invariant.apart c.requires in
    omega (arith, l, c.len.ensures, c.self.inside.words.ok.0)

pub returns : goal.returns
returns c =
    slot_shown c.self.inside.nest c.self.inside.waiting c.self.inside.heads c.self.inside.words _ _ _ c.args.i (c.len.result - 1 - (c.self.inside.waiting + c.args.i)) c.index.result.now c.self.view_is c.self.invariant.apart c.requires
    (omega (arith, c.len.ensures, c.self.inside.words.ok.0)) c.index.ensures
