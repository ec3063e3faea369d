-- The levels of a world, as the definition hands them down.
use Rattle.std.specs.Prelude.{◌-◌, Some, Result, Ok, Err}
use Rattle.rl_world.specs.declared.stop.Stop as stops
use Rattle.rl_world.specs.declared.world.World.{World}
use Rattle.rl_meaning.specs.State.{State}
use Rattle.rl_meaning.specs.Outcome.{Outcome, Done, Levels}
use Rattle.rl_state.specs.Ending.{EndsShown, StopsWith, stop_in}

-- the levels that may still be entered
abbrev pub levels_shown : World → Levels
levels_shown w = Some (w.levels.bound - w.levels.level)

-- levels are entered, and so many are left
abbrev pub MeansLevels : State → Outcome Levels → Result (Unit {0}) stops.Stop → World → Type 0
MeansLevels s o (Ok v) w = EndsShown s o (λ t. Done (levels_shown w) t) w
MeansLevels s o (Err why) w = StopsWith s o (stop_in w.cells.cells why)
