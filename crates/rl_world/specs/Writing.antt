-- What a call that writes leaves: the count of a sink's faults, what waits, and all that it does not write.
use Rattle.std.specs.Prelude.{◌≡◌, ◌⊎◌, ℕ, List, [], Result, Ok, Err}
use Rattle.rl_io.specs.Faults.{Rose}
use Rattle.rl_io.specs.declared.traits.Io.{Io}
use Rattle.rl_world.specs.declared.stop.Stop.{Stop}
use Rattle.rl_world.specs.declared.stop.Stop.TheVariants as stop
use Rattle.rl_world.specs.declared.world.World.{World}

-- a write failed: the sink's count rose, and what waited is dropped
pub record WriteFailed (before now : ℕ) (waiting : List ℕ) : Type 0 where
  pub rose : Rose before now
  pub dropped : waiting ≡ []

-- a call that stops where a write failed, and there alone; else the count is as it was
abbrev pub OnlyWriteFaults : {A : Type 0} → Result A Stop → ℕ → ℕ → List ℕ → Type 0
OnlyWriteFaults (Ok v) before now waiting = now ≡ before
OnlyWriteFaults (Err s) before now waiting = (s ≡ stop.Write) × WriteFailed before now waiting

abbrev pub StopFaults : Stop → ℕ → ℕ → List ℕ → Type 0
StopFaults stop.Write before now waiting = WriteFailed before now waiting
StopFaults s before now waiting = now ≡ before

-- a call that stops with `Write` where a write failed, and there alone; else, at another stop too, the count is as it was
abbrev pub WriteFaults : {A : Type 0} → Result A Stop → ℕ → ℕ → List ℕ → Type 0
WriteFaults (Ok v) before now waiting = now ≡ before
WriteFaults (Err s) before now waiting = StopFaults s before now waiting

-- of the objects the output alone
pub record ChangesOutObject {I O N F : Type 0} (before now : Io I O N F) : Type 0 where
  pub objects : now ≡ record before { out = now.out }
  pub same_out : now.out.ghost_name ≡ before.out.ghost_name

-- of the world what waits to be printed and the column, and of the objects the output
pub record ChangesOutAlone {I O N F : Type 0} (old new : World) (before now : Io I O N F) : Type 0 where
  pub world : new ≡ record old { output = record old.output { waiting = new.output.waiting; column = new.output.column } }
  pub outside : ChangesOutObject before now

-- of the world the notes that wait, and of the objects the notes
pub record ChangesNotesAlone {I O N F : Type 0} (old new : World) (before now : Io I O N F) : Type 0 where
  pub world : new ≡ record old { notes = new.notes }
  pub objects : now ≡ record before { notes = now.notes }
  pub same_notes : now.notes.ghost_name ≡ before.notes.ghost_name

-- of the world nothing but that none waits, and of the objects the output and the notes
pub record EmptiesBuffersAlone {I O N F : Type 0} (old new : World) (before now : Io I O N F) : Type 0 where
  pub world : new ≡ record old { output = record old.output { waiting = [] }; notes = [] }
  pub objects : now ≡ record before { out = now.out; notes = now.notes }
  pub same_out : now.out.ghost_name ≡ before.out.ghost_name
  pub same_notes : now.notes.ghost_name ≡ before.notes.ghost_name

-- the count rose, or is as it was
abbrev pub RoseOrStays : ℕ → ℕ → Type 0
RoseOrStays before now = Rose before now ⊎ (now ≡ before)

-- a flush failed: at one of the two sinks, and the other's count rose too or is as it was
pub record FlushFailed (s : Stop) (out_before out notes_before notes : ℕ) : Type 0 where
  pub stop : s ≡ stop.Write
  pub printed : RoseOrStays out_before out
  pub noted : RoseOrStays notes_before notes
  pub some : Rose out_before out ⊎ Rose notes_before notes

-- a flush that does not fail leaves both counts
abbrev pub FlushFaults : {A : Type 0} → Result A Stop → ℕ → ℕ → ℕ → ℕ → Type 0
FlushFaults (Ok v) out_before out notes_before notes = (out ≡ out_before) × (notes ≡ notes_before)
FlushFaults (Err s) out_before out notes_before notes = FlushFailed s out_before out notes_before notes
