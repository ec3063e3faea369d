use Rattle.std.proofs.Common.{◌≡◌, ◌-◌, ◌≤◌, true, length, drop}
use Rattle.std.specs.Option.{ForSome}
use Rattle.rl_cells.specs.Cell.{is_live}
use Rattle.rl_meaning.specs.State.{State}
use Rattle.rl_state.specs.ShownState.{number_in, option_value_in}
use Rattle.rl_stack.specs.ShowsStack.{ShowsStack, tops_of, value_below}
use Rattle.rl_stack.proofs.stack.Stack.top.Given as goal

abbrev pub invariant-loop-k : goal.invariant-loop-k
invariant-loop-k l = record {
  within : l.k ≤ length l.self.saved;
  live : ForSome l.value (λ v. is_live l.w.cells.cells v ≡ true);
  below : (s : State) → ShowsStack l.w l.self s → option_value_in l.w.cells.cells l.value ≡ value_below (number_in l.w.cells.cells l.id) (tops_of s (number_in l.w.cells.cells l.id)) (drop l.k s.bindings);
}

abbrev pub decreases-loop-k : goal.decreases-loop-k
decreases-loop-k l = length l.self.saved - l.k
