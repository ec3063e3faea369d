use Rattle.std.proofs.Common.{◌≡◌, true, Option}
use Rattle.rl_cells.specs.Cell.{is_live}
use Rattle.rl_tree.specs.Value.{Value}
use Rattle.rl_world.specs.Counts.{count_turns_left}
use Rattle.rl_meaning.specs.Lists.{Chain, append, nconc, reversed}
use Rattle.rl_meaning.specs.State.{State}
use Rattle.rl_syms.specs.Contents.{value_of}
use Rattle.rl_state.specs.Ending.{EndsShown}
use Rattle.rl_state.specs.ShownState.{ShowsState, option_value_in}
use Rattle.rl_std.specs.Chains.{IsListChain, list_chain_in}
use Rattle.rl_std.proofs.Along.{walking}
use Rattle.rl_std.proofs.Visits.{behind, copying, joining, lasting, resulting, turning_round}
use Rattle.rl_std.proofs.Ways.{IsOnWay}
use Rattle.rl_std.proofs.lists.reverse.Given as goal

abbrev pub ghosts-walks_are_unbounded : goal.ghosts-walks_are_unbounded
ghosts-walks_are_unbounded a = record { what = Value }

abbrev pub invariant-loop-p : goal.invariant-loop-p
invariant-loop-p l = record {
  way : IsOnWay l.fn.w l.w l.at;
  list : is_live l.w.cells.cells l.list ≡ true;
  comes : (s : State) → ShowsState l.fn.w s → EndsShown s (reversed (value_of l.fn.w.cells.cells l.fn.u) s) (walking turning_round resulting (value_of l.w.cells.cells l.list) (value_of l.w.cells.cells l.at)) l.w;
}

abbrev pub decreases-loop-p : goal.decreases-loop-p
decreases-loop-p l = count_turns_left l.w.counts
