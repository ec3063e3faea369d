-- That a call ends as the definition says.
use Rattle.std.specs.Prelude.{◌≡◌, ℤ, pos, true, List, Option, Some, None, Result, Ok, Err}
use Rattle.rl_tags.specs.Tagged.{Tagged}
use Rattle.rl_tree.specs.Value.{Value, Int}
use Rattle.rl_cells.specs.Cell.{Cell, is_live}
use Rattle.rl_world.specs.declared.stop.Stop as stops
use Rattle.rl_world.specs.declared.stop.Stop.TheVariants as stop
use Rattle.rl_world.specs.declared.stop.NStep as steps
use Rattle.rl_world.specs.declared.stop.NStep.TheVariants as step
use Rattle.rl_world.specs.declared.world.World.{World}
use Rattle.rl_meaning.specs.State.{State}
use Rattle.rl_meaning.specs.Outcome.{Outcome, Done, Failed, Stopped, Stop, Turns, Cells, Depth, Expands, Unbuilt}
use Rattle.rl_syms.specs.Contents.{value_of}
use Rattle.rl_state.specs.ShownState.{number_in}
use Rattle.rl_state.specs.ShownState.{ShowsState}
use Rattle.rl_state.specs.Beside.{StaysBeside}

-- it ends so, in some state that is as it should be
pub record Reaches {A : Type 0} (wanted : State → Type 0) (o : Outcome A) (end : State → Outcome A) : Type 0 where
  pub state : State
  pub is : o ≡ end state
  pub good : wanted state

-- the world shows the state, and what is beside it stays
pub record IsShownBeside (w : World) (s t : State) : Type 0 where
  pub shows : ShowsState w t
  pub stays : StaysBeside s t

abbrev pub EndsShown : {A : Type 0} → State → Outcome A → (State → Outcome A) → World → Type 0
EndsShown s o end w = Reaches (IsShownBeside w s) o end

-- a bound of the definition is met
abbrev pub stop_in : List Cell → stops.Stop → Stop
stop_in cells stop.Turns = Turns
stop_in cells stop.Cells = Cells
stop_in cells stop.Depth = Depth
stop_in cells (stop.Expansion name) = Expands (number_in cells name)
stop_in cells _ = Unbuilt

-- a stop is met in some state; no world shows it
abbrev pub StopsWith : {A : Type 0} → State → Outcome A → Stop → Type 0
StopsWith s o why = Reaches (StaysBeside s) o (λ t. Stopped why t)

abbrev pub MeansValue : State → Outcome Value → Result Tagged stops.Stop → World → Type 0
MeansValue s o (Ok v) w = EndsShown s o (λ t. Done (value_of w.cells.cells v) t) w
MeansValue s o (Err why) w = StopsWith s o (stop_in w.cells.cells why)

-- a step of which nothing is given
abbrev pub MeansDone : State → Outcome (Unit {0}) → Result (Unit {0}) stops.Stop → World → Type 0
MeansDone s o (Ok v) w = EndsShown s o (λ t. Done tt t) w
MeansDone s o (Err why) w = StopsWith s o (stop_in w.cells.cells why)

-- a step by which a value is made that the state does not hold
abbrev pub MeansUnseen : State → Outcome (Unit {0}) → Result Tagged stops.Stop → World → Type 0
MeansUnseen s o (Ok v) w = EndsShown s o (λ t. Done tt t) w
MeansUnseen s o (Err why) w = StopsWith s o (stop_in w.cells.cells why)

-- the integer that a value is; 0 for any other
abbrev pub integer_meant : Value → ℤ
integer_meant (Int z) = z
integer_meant v = pos 0

abbrev pub MeansAnswer : State → Outcome Value → steps.NStep → World → Type 0
MeansAnswer s o (step.Done v) w = EndsShown s o (λ t. Done (value_of w.cells.cells v) t) w
MeansAnswer s o (step.Error n m) w = EndsShown s o (λ t. Failed (integer_meant (value_of w.cells.cells n)) (value_of w.cells.cells m) t) w
MeansAnswer s o (step.Stop why) w = StopsWith s o (stop_in w.cells.cells why)

abbrev pub parts_in : List Cell → Option (Tagged × Tagged) → Option (Value × Value)
parts_in cells None = None
parts_in cells (Some p) = Some (value_of cells p.0, value_of cells p.1)

-- what is answered is live
abbrev pub IsAnswerLive : List Cell → steps.NStep → Type 0
IsAnswerLive cells (step.Done v) = is_live cells v ≡ true
IsAnswerLive cells (step.Error n m) = (is_live cells n ≡ true) × (is_live cells m ≡ true)
IsAnswerLive cells (step.Stop why) = Unit {0}
