use Rattle.std.proofs.Common.{◌≡◌, ◌-◌, ◌≤◌, suc, ◌∷◌, length, ap, sym, subst, ◌∙◌, reverse, arith}
use Rattle.rl_stack.specs.StackLayout.{LieApart}
use Rattle.rl_stack.proofs.Reversed.{reverse-pushed}
use Rattle.rl_stack.proofs.FramesLie.{lie_popped, state_laid, state_pushed, waiting_least, waits_some}
use Rattle.rl_stack.proofs.stack.Stack.pop.Goals as goal

pub overflow_sub-self : goal.overflow_sub-self
overflow_sub-self c = waits_some c.self.inside.nest c.self.inside.waiting c.self.inside.heads c.self.inside.words _ _ _ c.self.view_is c.self.invariant.apart c.requires

pub unreachable-requires : goal.unreachable-requires
unreachable-requires c =
    let m : 1 ≤ c.self.inside.waiting = waits_some c.self.inside.nest c.self.inside.waiting c.self.inside.heads c.self.inside.words _ _ _ c.self.view_is c.self.invariant.apart c.requires in
    let l = waiting_least 16 c.self.inside.waiting (reverse c.self.inside.heads.items) _ c.self.invariant.apart in
    let z = c.in-None.ensures.cases in
    omega (arith, m, l, z.0, c.self.inside.words.ok.0)

pub invariant_of-self : goal.invariant_of-self
invariant_of-self c =
    let m : 1 ≤ c.self.inside.waiting = waits_some c.self.inside.nest c.self.inside.waiting c.self.inside.heads c.self.inside.words _ _ _ c.self.view_is c.self.invariant.apart c.requires in
    let w : c.self.inside.waiting ≡ suc (c.self.inside.waiting - 1) = omega (arith, m) in
    let n : length c.self.inside.words.items ≡ suc (length c.pop.new.self.items) = omega (arith, c.pop.new.self.ok.0, c.self.inside.words.ok.0, c.in-Some.ensures.cases) in
    let a : LieApart 16 (suc (c.self.inside.waiting - 1)) (reverse c.self.inside.heads.items) (suc (length c.pop.new.self.items)) = subst (λ k. LieApart 16 k (reverse c.self.inside.heads.items) (suc (length c.pop.new.self.items))) w (subst (LieApart 16 c.self.inside.waiting (reverse c.self.inside.heads.items)) n c.self.invariant.apart) in
    record {
      bounded = c.self.invariant.bounded;
      apart = lie_popped (c.self.inside.waiting - 1) (reverse c.self.inside.heads.items) (length c.pop.new.self.items) a;
      levels = c.self.invariant.levels;
      heads_room = c.self.invariant.heads_room;
      words_room = omega (arith, c.self.invariant.words_room, c.in-Some.ensures.capacity);
      saved_room = c.self.invariant.saved_room;
      registers = c.self.invariant.registers;
    }

pub returns : goal.returns
returns c =
    let m : 1 ≤ c.self.inside.waiting = waits_some c.self.inside.nest c.self.inside.waiting c.self.inside.heads c.self.inside.words _ _ _ c.self.view_is c.self.invariant.apart c.requires in
    let w : c.self.inside.waiting ≡ suc (c.self.inside.waiting - 1) = omega (arith, m) in
    let v : reverse c.self.inside.words.items ≡ c.in-Some.v ∷ reverse c.pop.new.self.items = ap reverse c.in-Some.ensures.items ∙ reverse-pushed c.pop.new.self.items c.in-Some.v in
    let s = state_pushed c.self.inside.nest (c.self.inside.waiting - 1) (reverse c.self.inside.heads.items) (reverse c.pop.new.self.items) (reverse c.self.inside.saved.items) c.self.inside.registers c.in-Some.v in
    sym c.self.view_is ∙ ap (λ ws. state_laid c.self.inside.nest c.self.inside.waiting (reverse c.self.inside.heads.items) ws (reverse c.self.inside.saved.items) c.self.inside.registers) v
    ∙ ap (λ k. state_laid c.self.inside.nest k (reverse c.self.inside.heads.items) (c.in-Some.v ∷ reverse c.pop.new.self.items) (reverse c.self.inside.saved.items) c.self.inside.registers) w ∙ s
