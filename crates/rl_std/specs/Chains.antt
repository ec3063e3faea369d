-- Lists that are not whole yet, in cells: the first and the last pair.
use Rattle.std.specs.Prelude.{◌≡◌, true, List, Option, Some, None, Result, Ok, Err}
use Rattle.std.specs.Option.{ForSome}
use Rattle.rl_tags.specs.Tagged.{Tagged}
use Rattle.rl_cells.specs.Cell.{Cell, is_pair}
use Rattle.rl_world.specs.declared.stop.Stop as stops
use Rattle.rl_world.specs.declared.world.World.{World}
use Rattle.rl_meaning.specs.State.{State}
use Rattle.rl_meaning.specs.Lists.{Chain}
use Rattle.rl_meaning.specs.Outcome.{Outcome, Done}
use Rattle.rl_syms.specs.Contents.{value_of}
use Rattle.rl_state.specs.Ending.{EndsShown, StopsWith, stop_in}

abbrev pub list_chain_in : List Cell → Option (Tagged × Tagged) → Chain
list_chain_in cells None = None
list_chain_in cells (Some c) = Some (value_of cells c.0, value_of cells c.1)

-- both are pairs
abbrev pub IsListChain : List Cell → Option (Tagged × Tagged) → Type 0
IsListChain cells chain = ForSome chain (λ c. (is_pair cells c.0 ≡ true) × (is_pair cells c.1 ≡ true))

-- it ends with this list
abbrev pub MeansChain : State → Outcome Chain → Result (Option (Tagged × Tagged)) stops.Stop → World → Type 0
MeansChain s o (Ok c) w = EndsShown s o (λ t. Done (list_chain_in w.cells.cells c) t) w
MeansChain s o (Err why) w = StopsWith s o (stop_in w.cells.cells why)
