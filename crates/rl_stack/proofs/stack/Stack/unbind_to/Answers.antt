use Rattle.std.proofs.Common.{◌≡◌, ◌+◌, ◌-◌, length, subst, sym, arith}
use Rattle.rl_stack.specs.Saving.{UndoesNewest}
use Rattle.rl_stack.proofs.Undone.{fewer_left, shows_oldest, undoes_more, undoes_nothing}
use Rattle.rl_stack.proofs.stack.Stack.unbind_to.Goals as goal

pub loop-self-init : goal.loop-self-init
loop-self-init c =
    let z : length c.args.self.now.saved - length c.args.self.now.saved ≡ 0 = omega arith in
    record {
      undoes = subst (λ n. UndoesNewest n c.args.w.now c.args.w.now c.args.self.now c.args.self.now) (sym z) (undoes_nothing c.args.w.now c.args.self.now c.requires.world c.requires.live c.requires.stands);
      enough = omega (arith, z);
    }

pub loop-self-preserved : goal.loop-self-preserved
loop-self-preserved c =
    let i = c.loop-self.invariant.undoes in
    let e = c.loop-self.invariant.enough in
    let k = fewer_left (length c.args.self.now.saved - length c.loop-self.self.saved) c.args.w.now c.loop-self.w c.args.self.now c.loop-self.self i in
    let j = fewer_left 1 c.loop-self.w c.unbind_one.new.w c.loop-self.self c.unbind_one.new.self c.unbind_one.ensures in
    let d = c.depth.ensures in
    let t = c.loop-self-test.true in
    let n : length c.args.self.now.saved - length c.loop-self.self.saved + 1 ≡ length c.args.self.now.saved - length c.unbind_one.new.self.saved = omega (arith, k, j, d, t) in
    record {
      undoes = subst (λ n. UndoesNewest n c.args.w.now c.unbind_one.new.w c.args.self.now c.unbind_one.new.self) n (undoes_more (length c.args.self.now.saved - length c.loop-self.self.saved) c.args.w.now c.loop-self.w c.unbind_one.new.w c.args.self.now c.loop-self.self c.unbind_one.new.self i c.unbind_one.ensures);
      enough = omega (arith, k, j, d, t, e);
    }

pub returns-clause-undoes : goal.returns-clause-undoes
returns-clause-undoes c =
    let d = c.depth.ensures in
    let t = c.loop-self-test.false in
    let e = c.loop-self.invariant.enough in
    let n : length c.args.self.now.saved - length c.loop-self.self.saved ≡ length c.args.self.now.saved - c.args.depth = omega (arith, d, t, e) in
    subst (λ n. UndoesNewest n c.args.w.now c.loop-self.w c.args.self.now c.loop-self.self) n c.loop-self.invariant.undoes

pub returns-clause-shows : goal.returns-clause-shows
returns-clause-shows c = shows_oldest c.args.depth c.args.w.now c.loop-self.w c.args.self.now c.loop-self.self (returns-clause-undoes c)
