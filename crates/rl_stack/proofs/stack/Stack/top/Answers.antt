use Rattle.std.proofs.Common.{◌≡◌, ◌<◌, ◌≤◌, ◌+◌, suc, false, length, drop, sym, subst, ◌∙◌, arith}
use Rattle.rl_state.specs.ShownState.{number_in, option_value_in}
use Rattle.rl_stack.specs.ShowsStack.{tops_of, value_below}
use Rattle.rl_stack.proofs.EntriesKept.{seen_below}
use Rattle.rl_stack.proofs.TopValues.{passes_all, passes_live, passes_one}
use Rattle.rl_stack.proofs.stack.Stack.top.Goals as goal

pub loop-k-init : goal.loop-k-init
loop-k-init c = record {
  within = omega (arith);
  live = c.cell-value.ensures.live;
  below = λ s h.
      let i = number_in c.args.w.now.cells.cells c.args.id in
      sym (c.cell-value.ensures.seen s h.world) ∙ seen_below false i (tops_of s i) s.bindings;
}

pub loop-k-preserved : goal.loop-k-preserved
loop-k-preserved c =
    let d = c.depth.ensures in
    let t = c.loop-k-test.true in
    let k : c.loop-k.k < length c.args.self.now.saved = omega (arith, d, t) in
    let cells = c.args.w.now.cells.cells in
    let law = c.identifiers_are_numbered.ensures in
    let n : suc c.loop-k.k ≡ c.loop-k.k + 1 = omega arith in
    record {
      within = omega (arith, k);
      live = passes_live law cells c.args.id c.loop-k.value c.hidden_from-value.result c.loop-k.k c.saved_at.result c.args.self.now.saved c.requires.id c.requires.live.saved c.saved_at.ensures c.hidden_from-value.ensures c.loop-k.invariant.live;
      below = λ s h.
          let i = number_in cells c.args.id in
          subst (λ m. option_value_in cells c.hidden_from-value.result ≡ value_below i (tops_of s i) (drop m s.bindings)) n
          (passes_one law cells (tops_of s) c.args.id c.loop-k.value c.hidden_from-value.result c.loop-k.k c.saved_at.result c.args.self.now.saved s.bindings c.requires.id c.requires.live.saved h.entries c.saved_at.ensures c.hidden_from-value.ensures (c.loop-k.invariant.below s h));
    }

pub returns-clause-means : goal.returns-clause-means
returns-clause-means c s h =
    let d = c.depth.ensures in
    let t = c.loop-k-test.false in
    let k : length c.args.self.now.saved ≤ c.loop-k.k = omega (arith, d, t) in
    sym (c.loop-k.invariant.below s h ∙ passes_all c.args.w.now.cells.cells (tops_of s) (number_in c.args.w.now.cells.cells c.args.id) c.loop-k.k c.args.self.now.saved s.bindings h.entries k)
