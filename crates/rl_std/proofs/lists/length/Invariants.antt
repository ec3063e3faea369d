use Rattle.std.proofs.Common.{◌≡◌, ℕ, ◌+◌}
use Rattle.rl_world.specs.Counts.{count_turns_left}
use Rattle.rl_meaning.specs.Lists.{list_length}
use Rattle.rl_meaning.specs.State.{State}
use Rattle.rl_syms.specs.Contents.{value_of}
use Rattle.rl_state.specs.Ending.{EndsShown}
use Rattle.rl_state.specs.ShownState.{ShowsState}
use Rattle.rl_std.proofs.Along.{walking}
use Rattle.rl_std.proofs.Visits.{counted, counting}
use Rattle.rl_std.proofs.Ways.{IsOnWay}
use Rattle.rl_std.proofs.lists.length.Given as goal

-- its walk comes to a count
abbrev pub ghosts-walks_are_unbounded : goal.ghosts-walks_are_unbounded
ghosts-walks_are_unbounded a = record { what = ℕ }

abbrev pub invariant-loop-p : goal.invariant-loop-p
invariant-loop-p l = record {
  way : IsOnWay l.fn.w l.w l.at;
  count : l.n + count_turns_left l.w.counts ≡ count_turns_left l.fn.w.counts;
  comes : (s : State) → ShowsState l.fn.w s → EndsShown s (list_length (value_of l.fn.w.cells.cells l.fn.u) s) (walking counting counted l.n (value_of l.w.cells.cells l.at)) l.w;
}

abbrev pub decreases-loop-p : goal.decreases-loop-p
decreases-loop-p l = count_turns_left l.w.counts
