-- Elements of property lists: what is looked for, where it was found, and what is done with a flag.
use Rattle.std.specs.Prelude.{ℕ, Bool, List, Result, Ok, Err}
use Rattle.rl_tree.specs.Value.{Value}
use Rattle.rl_cells.specs.Cell.{Cell}
use Rattle.rl_world.specs.declared.stop.Stop as stops
use Rattle.rl_world.specs.declared.world.World.{World}
use Rattle.rl_meaning.specs.State.{State}
use Rattle.rl_meaning.specs.Outcome.{Outcome, Done}
use Rattle.rl_meaning.specs.Properties.{PropertyPlace, is_flag, is_property}
use Rattle.rl_state.specs.Ending.{EndsShown, StopsWith, stop_in}
use Rattle.rl_state.specs.ShownState.{option_value_in}
use Rattle.rl_ids.specs.declared.elements.Wanted.{Wanted}
use Rattle.rl_ids.specs.declared.elements.Wanted.TheVariants as wanted
use Rattle.rl_ids.specs.declared.elements.Sought.{Sought}

-- a property, or a flag, of this name
abbrev pub passes : Wanted → Value → State → Value → Bool
passes wanted.Property p s x = is_property p s x
passes wanted.Flag p s x = is_flag p s x

abbrev pub place_shown : List Cell → Sought → PropertyPlace
place_shown cells r = record { before = option_value_in cells r.before; at = option_value_in cells r.at }

-- it was looked for, or the search stops
abbrev pub MeansPlace : State → Outcome PropertyPlace → Result Sought stops.Stop → World → Type 0
MeansPlace s o (Ok r) w = EndsShown s o (λ t. Done (place_shown w.cells.cells r) t) w
MeansPlace s o (Err why) w = StopsWith s o (stop_in w.cells.cells why)
