use Rattle.std.proofs.Common.{◌≡◌, true}
use Rattle.std.specs.Option.{ForSome}
use Rattle.rl_cells.specs.Cell.{is_live}
use Rattle.rl_world.specs.Counts.{count_turns_left}
use Rattle.rl_meaning.specs.Properties.{PropertyPlace}
use Rattle.rl_meaning.specs.State.{State}
use Rattle.rl_state.specs.ShownState.{ShowsState}
use Rattle.rl_state.specs.Worlds.{IsWorld, ObjectsAlone, WorldGrows}
use Rattle.rl_ids.proofs.PropertyLists.{Looking, search_of}
use Rattle.rl_ids.proofs.elements.look_for.Given as goal

-- its walk comes to a place
abbrev pub ghosts-walks_are_unbounded : goal.ghosts-walks_are_unbounded
ghosts-walks_are_unbounded a = record { what = PropertyPlace }

abbrev pub invariant-loop-here : goal.invariant-loop-here
invariant-loop-here l = record {
  world : IsWorld l.w;
  at : is_live l.w.cells.cells l.at ≡ true;
  before : ForSome l.before (λ v. is_live l.w.cells.cells v ≡ true);
  alone : l.w ≡ record l.fn.w { counts = l.w.counts };
  grows : WorldGrows l.fn.w l.w;
  rest : ObjectsAlone l.fn.w l.w;
  walking : (s : State) → ShowsState l.fn.w s → Looking l.fn.w l.wanted l.p s l.w (search_of l.fn.w l.wanted l.p s l.fn.list) l.before l.at;
}

abbrev pub decreases-loop-here : goal.decreases-loop-here
decreases-loop-here l = count_turns_left l.w.counts
