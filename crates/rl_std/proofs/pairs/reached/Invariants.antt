use Rattle.std.proofs.Common.{◌≡◌, true, length}
use Rattle.rl_cells.specs.Cell.{is_live}
use Rattle.rl_meaning.specs.Lists.{part}
use Rattle.rl_meaning.specs.State.{State}
use Rattle.rl_syms.specs.Contents.{value_of}
use Rattle.rl_state.specs.Ending.{EndsShown}
use Rattle.rl_state.specs.ShownState.{ShowsState}
use Rattle.rl_std.specs.Paths.{letters_left, letters_of}
use Rattle.rl_std.proofs.pairs.reached.Given as goal

abbrev pub invariant-loop-left : goal.invariant-loop-left
invariant-loop-left l = record {
  live : is_live l.fn.w.cells.cells l.at ≡ true;
  comes : (s : State) → ShowsState l.fn.w s → EndsShown s (part (letters_of l.fn.path) (value_of l.fn.w.cells.cells l.fn.v) s) (part (letters_left l.left) (value_of l.fn.w.cells.cells l.at)) l.fn.w;
}

abbrev pub decreases-loop-left : goal.decreases-loop-left
decreases-loop-left l = length (letters_left l.left)
