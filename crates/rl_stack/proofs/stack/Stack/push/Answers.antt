use Rattle.std.proofs.Common.{◌≡◌, ◌+◌, suc, length, ap, subst, ◌∙◌, reverse, arith}
use Rattle.std.proofs.lemmas.List.{length-reverse}
use Rattle.rl_stack.specs.StackLayout.{LieApart, frames_laid, unframed_laid}
use Rattle.rl_stack.specs.StackState.{MayWait, with_waiting}
use Rattle.rl_stack.proofs.Reversed.{reverse-pushed}
use Rattle.rl_stack.proofs.FramesLie.{laid_long, lie_pushed, state_laid, state_pushed, waiting_least, words_fit}
use Rattle.rl_stack.proofs.stack.Stack.push.Goals as goal

pub push_reserved-requires : goal.push_reserved-requires
push_reserved-requires c =
    let m : MayWait (frames_laid c.self.inside.waiting (reverse c.self.inside.heads.items) (reverse c.self.inside.words.items)) (unframed_laid c.self.inside.waiting (reverse c.self.inside.heads.items) (reverse c.self.inside.words.items)) = rw (← c.self.view_is) at c.requires in
    let p = lie_pushed c.self.inside.waiting (reverse c.self.inside.heads.items) (reverse c.self.inside.words.items) (laid_long c.self.inside.waiting c.self.inside.heads c.self.inside.words c.self.invariant.apart) m in
    let r = words_fit 16 (c.self.inside.waiting + 1) (reverse c.self.inside.heads.items) _ p in
    omega (arith, r, c.self.inside.words.ok.0, length-reverse c.self.inside.words.items, c.self.invariant.levels, c.self.invariant.words_room)

pub overflow_add-self : goal.overflow_add-self
overflow_add-self c =
    let m : MayWait (frames_laid c.self.inside.waiting (reverse c.self.inside.heads.items) (reverse c.self.inside.words.items)) (unframed_laid c.self.inside.waiting (reverse c.self.inside.heads.items) (reverse c.self.inside.words.items)) = rw (← c.self.view_is) at c.requires in
    let p = lie_pushed c.self.inside.waiting (reverse c.self.inside.heads.items) (reverse c.self.inside.words.items) (laid_long c.self.inside.waiting c.self.inside.heads c.self.inside.words c.self.invariant.apart) m in
    let r = words_fit 16 (c.self.inside.waiting + 1) (reverse c.self.inside.heads.items) _ p in
    let l = waiting_least 16 (c.self.inside.waiting + 1) (reverse c.self.inside.heads.items) _ p in
    omega (arith, r, l, c.self.invariant.levels, c.self.invariant.bounded)

pub invariant_of-self : goal.invariant_of-self
invariant_of-self c =
    let m : MayWait (frames_laid c.self.inside.waiting (reverse c.self.inside.heads.items) (reverse c.self.inside.words.items)) (unframed_laid c.self.inside.waiting (reverse c.self.inside.heads.items) (reverse c.self.inside.words.items)) = rw (← c.self.view_is) at c.requires in
    let p = lie_pushed c.self.inside.waiting (reverse c.self.inside.heads.items) (reverse c.self.inside.words.items) (laid_long c.self.inside.waiting c.self.inside.heads c.self.inside.words c.self.invariant.apart) m in
    let n : length (reverse c.self.inside.words.items) + 1 ≡ length c.push_reserved.new.self.items = omega (arith, length-reverse c.self.inside.words.items, c.push_reserved.new.self.ok.0, c.self.inside.words.ok.0, c.push_reserved.ensures.len) in
    record {
      bounded = c.self.invariant.bounded;
      apart = subst (LieApart 16 (c.self.inside.waiting + 1) (reverse c.self.inside.heads.items)) n p;
      levels = c.self.invariant.levels;
      heads_room = c.self.invariant.heads_room;
      words_room = omega (arith, c.self.invariant.words_room, c.push_reserved.ensures.capacity);
      saved_room = c.self.invariant.saved_room;
      registers = c.self.invariant.registers;
    }

pub returns : goal.returns
returns c =
    let e : c.self.inside.waiting + 1 ≡ suc c.self.inside.waiting = omega arith in
    let v = ap reverse c.push_reserved.ensures.items ∙ reverse-pushed c.self.inside.words.items c.args.v in
    let s = state_pushed c.self.inside.nest c.self.inside.waiting (reverse c.self.inside.heads.items) (reverse c.self.inside.words.items) (reverse c.self.inside.saved.items) c.self.inside.registers c.args.v in
    ap (λ k. state_laid c.self.inside.nest k (reverse c.self.inside.heads.items) (reverse c.push_reserved.new.self.items) (reverse c.self.inside.saved.items) c.self.inside.registers) e
    ∙ ap (λ ws. state_laid c.self.inside.nest (suc c.self.inside.waiting) (reverse c.self.inside.heads.items) ws (reverse c.self.inside.saved.items) c.self.inside.registers) v
    ∙ s ∙ ap (with_waiting c.args.v) c.self.view_is
