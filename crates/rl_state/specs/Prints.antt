-- That a call prints what the definition prints.
use Rattle.std.specs.Prelude.{List, ℕ, Result, Ok, Err}
use Rattle.rl_world.specs.declared.stop.Stop as stops
use Rattle.rl_world.specs.declared.stop.Stop.TheVariants as stop
use Rattle.rl_meaning.specs.Outcome.{Outcome, Done, Stopped}
use Rattle.rl_meaning.specs.Opening.{state_of}
use Rattle.rl_state.specs.Ending.{Reaches, stop_in}
use Rattle.rl_state.specs.Ties.{LeavesFronts, Ties, ToldAtStart, WorldAndTold}

-- it ends with this, or for want of a turn or of a level, in a state to which the world ties; where a write failed, the sinks have fronts of all that the definition prints
abbrev pub PrintsAs : {A : Type 0} → ToldAtStart → Outcome A → A → Result (Unit {0}) stops.Stop → WorldAndTold → List ℕ → Type 0
PrintsAs at o a (Ok u) e coming = Reaches (Ties at e coming) o (λ t. Done a t)
PrintsAs at o a (Err stop.Write) e coming = LeavesFronts at e (state_of o)
PrintsAs at o a (Err why) e coming = Reaches (Ties at e coming) o (λ t. Stopped (stop_in e.world.cells.cells why) t)
