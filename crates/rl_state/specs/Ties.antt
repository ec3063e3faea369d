-- Bytes that go out and come in, as the lists of a state of the definition.
use Rattle.std.specs.Prelude.{◌≡◌, ◌⊎◌, ℕ, ◌+◌, ◌-◌, ◌<◌, ◌^◌, List, [], ◌∷◌, ◌++◌, length, drop, Option, Some, None, Result, Ok, Err, true}
use Rattle.rl_io.specs.Faults.{Rose}
use Rattle.rl_io.specs.Told.{WhereTold}
use Rattle.rl_io.specs.declared.traits.Io.{Io}
use Rattle.rl_world.specs.Input.{with_back}
use Rattle.rl_world.specs.declared.stop.Stop as stops
use Rattle.rl_world.specs.declared.stop.Stop.TheVariants as stop
use Rattle.rl_world.specs.declared.world.World.{World}
use Rattle.rl_meaning.specs.State.{State}
use Rattle.rl_meaning.specs.Input.{with_input}
use Rattle.rl_state.specs.ShownState.{ShowsState}
use Rattle.rl_state.specs.StateOfWorld.{state_in}

-- what the objects of a run tell as it begins
pub record ToldAtStart : Type 0 where
  pub out : Option (List ℕ)
  pub notes : Option (List ℕ)
  pub source : Option (List ℕ)

-- a world, and what the sinks of output and notes, and the source, tell
pub record WorldAndTold : Type 0 where
  pub world : World
  pub out : Option (List ℕ)
  pub notes : Option (List ℕ)
  pub source : Option (List ℕ)

abbrev pub and_told : World → Option (List ℕ) → Option (List ℕ) → Option (List ℕ) → WorldAndTold
and_told w o n i = record { world = w; out = o; notes = n; source = i }

-- a world, and what these objects tell by these contents
abbrev pub told_in : {I O N F : Type 0} → (O → Option (List ℕ)) → (N → Option (List ℕ)) → (I → Option (List ℕ)) → World → Io I O N F → WorldAndTold
told_in printed noted left w io = and_told w (printed io.out.now) (noted io.notes.now) (left io.input.now)

-- where the sink tells, it has a front of what was printed, and the rest waits
abbrev pub IsPrintedBefore : Option (List ℕ) → Option (List ℕ) → List ℕ → List ℕ → Type 0
IsPrintedBefore start now waiting output = WhereTold start now (λ before held. before ++ output ≡ held ++ waiting)

-- and where a write failed, it has a front, and the rest is lost
abbrev pub IsPrintedInPart : Option (List ℕ) → Option (List ℕ) → List ℕ → Type 0
IsPrintedInPart start now output = WhereTold start now (λ before held. (lost : List ℕ) × (before ++ output ≡ held ++ lost))

-- a state that the world shows, with these bytes still to come from the source
pub record Ties (at : ToldAtStart) (e : WorldAndTold) (coming : List ℕ) (s : State) : Type 0 where
  pub shows : ShowsState e.world s
  pub output : IsPrintedBefore at.out e.out e.world.output.waiting s.outside.output
  pub notes : IsPrintedBefore at.notes e.notes e.world.notes s.outside.notes
  pub input : s.outside.input ≡ with_back e.world.input.back coming
  pub left : WhereTold at.source e.source (λ before left. left ≡ coming)
  pub ended : e.world.input.ended ≡ true → coming ≡ []
  -- the whole input is shorter than a count can tell
  pub few : s.outside.taken + length s.outside.input < 2 ^ 64

-- nothing was taken of the input
pub record TakesNothing (old new : WorldAndTold) : Type 0 where
  pub input : new.world.input ≡ old.world.input
  pub source : new.source ≡ old.source

-- a call failed: of the output and of the notes, each sink that tells has a front
pub record LeavesFronts (at : ToldAtStart) (e : WorldAndTold) (t : State) : Type 0 where
  pub output : IsPrintedInPart at.out e.out t.outside.output
  pub notes : IsPrintedInPart at.notes e.notes t.outside.notes

-- it prints or notes, and a failed write leaves fronts
abbrev pub PrintsTied : ToldAtStart → Result (Unit {0}) stops.Stop → WorldAndTold → List ℕ → State → Type 0
PrintsTied at (Ok u) e coming t = Ties at e coming t
PrintsTied at (Err why) e coming t = LeavesFronts at e t

-- these bytes are noted; a note of the definition is a line of them
abbrev pub with_noted : List ℕ → State → State
with_noted bytes s = record s { outside = record s.outside { notes = s.outside.notes ++ bytes } }

-- lines are so long from here on
abbrev pub with_lines : ℕ → State → State
with_lines n s = record s { outside = record s.outside { line_length = n } }

-- some bytes came from the source, and whatever is to come, in each state in which those are to come and then this, the call means what is said
pub record TakesInput (old new : WorldAndTold) (P : ToldAtStart → List ℕ → State → Type 0) : Type 0 where
  pub bytes : List ℕ
  pub told : WhereTold old.source new.source (λ before now. before ≡ bytes ++ now)
  -- where the source tells and the input has ended, nothing is left of it
  pub dry : WhereTold old.source new.source (λ before now. (old.world.input.ended ≡ true → before ≡ []) → new.world.input.ended ≡ true → now ≡ [])
  pub ended : old.world.input.ended ≡ true → (bytes ≡ []) × (new.world.input.ended ≡ true)
  pub means : (at : ToldAtStart) (rest : List ℕ) (s : State) → Ties at old (bytes ++ rest) s → (new.world.input.ended ≡ true → rest ≡ []) → P at rest s

-- it ends in such a state, which the world shows
abbrev pub EndsTied : (State → State → Type 0) → WorldAndTold → ToldAtStart → List ℕ → State → Type 0
EndsTied R e at rest s = (t : State) × R s t × Ties at e rest t

-- this byte is the first of the input, or there is none
abbrev pub IsNextOf : Option ℕ → List ℕ → Type 0
IsNextOf None input = input ≡ []
IsNextOf (Some b) input = (rest : List ℕ) × (input ≡ b ∷ rest)

abbrev pub after_byte : Option ℕ → State → State
after_byte None s = s
after_byte (Some b) s = with_input (drop 1 s.outside.input) s

-- the next byte of the input is taken, or there is none
abbrev pub GivesNext : Option ℕ → State → State → Type 0
GivesNext b s t = IsNextOf b s.outside.input × (t ≡ after_byte b s)

-- each world has such a state, whatever is to come
abbrev pub EachWorldTies : Type 0
EachWorldTies = (w : World) (coming : List ℕ) → (w.input.ended ≡ true → coming ≡ []) → w.input.given + length (with_back w.input.back coming) < 2 ^ 64
    → (o n : Option (List ℕ)) → (s : State) × Ties (record { out = None; notes = None; source = None }) (and_told w o n None) coming s × Ties (record { out = None; notes = None; source = Some coming }) (and_told w o n (Some coming)) coming s

-- a step, and then what is said of the state after it
pub record ThenHolds (R : State → State → Type 0) (P : ToldAtStart → List ℕ → State → Type 0) (at : ToldAtStart) (rest : List ℕ) (s : State) : Type 0 where
  pub mid : State
  pub first : R s mid
  pub second : P at rest mid

-- ---- a byte that is put back

-- this byte is again the first of the input
abbrev pub given_back : ℕ → State → State
given_back b s = record s { outside = record s.outside { input = b ∷ s.outside.input; taken = s.outside.taken - 1 } }

-- the first byte is seen, and nothing changes
abbrev pub SeesNext : Option ℕ → State → State → Type 0
SeesNext b s t = IsNextOf b s.outside.input × (t ≡ s)

-- ---- a whole run, where nothing waits and nothing was put back

-- the state of a world with this input
abbrev pub with_coming : World → List ℕ → State
with_coming w coming = record (state_in w) { outside = record (state_in w).outside { input = with_back w.input.back coming } }

-- the end of a whole run, and what the sinks that tell have gained
pub record RunEndsTied (R : State → State → Type 0) (old new : WorldAndTold) (s : State) : Type 0 where
  pub state : State
  pub runs : R s state
  pub printed : WhereTold old.out new.out (λ before now. now ≡ before ++ state.outside.output)
  pub noted : WhereTold old.notes new.notes (λ before now. now ≡ before ++ state.outside.notes)

-- these bytes came, which the source had where it tells; from the state of the first world with these as its input the run comes to one so related, and where a sink tells it has gained what is printed or noted there
pub record IsWholeRun (R : State → State → Type 0) (old new : WorldAndTold) : Type 0 where
  pub bytes : List ℕ
  pub taken : WhereTold old.source new.source (λ before now. before ≡ bytes ++ now)
  pub ends : length bytes < 2 ^ 64 → RunEndsTied R old new (with_coming old.world bytes)

-- ---- what may differ after a call that takes input

-- of the world the input and that no output waits, and of the objects the input and the output
pub record ChangesInputAlone {I O N F : Type 0} (old new : World) (before now : Io I O N F) : Type 0 where
  pub world : new ≡ record old { output = record old.output { waiting = [] }; input = new.input }
  pub objects : now ≡ record before { input = now.input; out = now.out }
  pub same_input : now.input.ghost_name ≡ before.input.ghost_name
  pub same_out : now.out.ghost_name ≡ before.out.ghost_name

-- a call that takes input stops where a write or a read failed, and there alone, and the other count is as it was; else both are
abbrev pub TakingFaults : {A : Type 0} → Result A stops.Stop → ℕ → ℕ → ℕ → ℕ → Type 0
TakingFaults (Ok v) out_before out source_before source = (out ≡ out_before) × (source ≡ source_before)
TakingFaults (Err s) out_before out source_before source = ((s ≡ stop.Write) × Rose out_before out × (source ≡ source_before)) ⊎ ((s ≡ stop.Read) × Rose source_before source × (out ≡ out_before))
