-- That a call reads what the definition reads.
use Rattle.std.specs.Prelude.{◌≡◌, List, ℕ, drop, true}
use Rattle.rl_io.specs.declared.traits.Io.{Io}
use Rattle.rl_meaning.specs.Input.{FormReading, Unreadable, read_bytes, with_input}
use Rattle.rl_meaning.specs.Outcome.{Done, Levels, Stop, Stopped}
use Rattle.rl_meaning.specs.State.{State}
use Rattle.rl_state.specs.Ties.{IsPrintedBefore, Ties, ToldAtStart, WorldAndTold}

-- the reading of the input comes to this, and the world ties to the state with these bytes left
abbrev pub ReadsTo : Levels → FormReading → List ℕ → WorldAndTold → ToldAtStart → List ℕ → State → Type 0
ReadsTo levels reading left e at rest s = (t : State) × (read_bytes true levels s.outside.input s ≡ Done reading t) × Ties at e rest (with_input left t)

-- the text is refused at the byte of this number, and these bytes are left behind it
abbrev pub ReadsNone : Levels → ℕ → List ℕ → WorldAndTold → ToldAtStart → List ℕ → State → Type 0
ReadsNone levels k left e at rest s = (from : List ℕ) × (left ≡ drop 1 from) × (t : State) × (read_bytes true levels s.outside.input s ≡ Done (Unreadable k from) t) × Ties at e rest (with_input left t)

-- the reading stops for this, and where a sink tells, all that was printed, or noted, until then is there or waits
pub record ReadsUntil (levels : Levels) (why : Stop) (e : WorldAndTold) (at : ToldAtStart) (s : State) : Type 0 where
  pub state : State
  pub is : read_bytes true levels s.outside.input s ≡ Stopped why state
  pub output : IsPrintedBefore at.out e.out e.world.output.waiting state.outside.output
  pub notes : IsPrintedBefore at.notes e.notes e.world.notes state.outside.notes

-- of the objects the input and the output alone change, each by the same reference
pub record KeepsNotesAndFiles {I O N F : Type 0} (before now : Io I O N F) : Type 0 where
  pub notes : now.notes ≡ before.notes
  pub files : now.files ≡ before.files
  pub same_input : now.input.ghost_name ≡ before.input.ghost_name
  pub same_out : now.out.ghost_name ≡ before.out.ghost_name
