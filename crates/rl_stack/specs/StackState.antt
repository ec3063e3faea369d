-- The stack of a run, as contracts see it: frames, bindings and registers. All that is stacked stands the newest first.
use Rattle.std.specs.Prelude.{◌≤◌, ℕ, ◌+◌, ◌*◌, List, [], ◌∷◌, length, replicate, slice_set}
use Rattle.rl_tags.specs.Tagged.{Tagged}
use Rattle.rl_tags.specs.Ids.{nil_id}
use Rattle.rl_stack.specs.declared.saved.Saved as stacked
use Rattle.rl_stack.specs.declared.saved.Saved.TheVariants as saved

-- a frame: its levels, whose it is, how far it has come, its slots, and the values that wait above them
pub record StackFrame : Type 0 where
  pub levels : ℕ
  pub owner : ℕ
  pub place : ℕ
  pub slots : List Tagged
  pub waiting : List Tagged

-- for how many levels it has room, the frames, the values that wait on none, what bindings hid, with the marks, and the registers
pub record StackState : Type 0 where
  pub nest : ℕ
  pub frames : List StackFrame
  pub unframed : List Tagged
  pub saved : List stacked.Saved
  pub registers : List Tagged

-- with no frames and no bindings, and registers NIL
abbrev pub opened_stack : ℕ → StackState
opened_stack nest = record { nest = nest; frames = []; unframed = []; saved = []; registers = replicate 15 nil_id }

-- ---- the newest frame

abbrev pub HasFrame : List StackFrame → Type 0
HasFrame [] = ⊥
HasFrame (f ∷ fs) = Unit {0}

-- there is a frame, and of the newest this holds
abbrev pub OnNewest : List StackFrame → (StackFrame → Type 0) → Type 0
OnNewest [] P = ⊥
OnNewest (f ∷ fs) P = P f

abbrev pub with_newest : (StackFrame → StackFrame) → List StackFrame → List StackFrame
with_newest g [] = []
with_newest g (f ∷ fs) = g f ∷ fs

abbrev pub with_place : ℕ → StackFrame → StackFrame
with_place p f = record f { place = p }

abbrev pub with_slot_value : ℕ → Tagged → StackFrame → StackFrame
with_slot_value i v f = record f { slots = slice_set f.slots i v }

-- the values that wait on the newest frame, or on none
abbrev pub waiting_of : List StackFrame → List Tagged → List Tagged
waiting_of [] unframed = unframed
waiting_of (f ∷ fs) unframed = f.waiting

-- one value more waits there
abbrev pub with_waiting : Tagged → StackState → StackState
with_waiting v s = waits s.frames
  where
    waits : List StackFrame → StackState
    waits [] = record s { unframed = v ∷ s.unframed }
    waits (f ∷ fs) = record s { frames = record f { waiting = v ∷ f.waiting } ∷ fs }

-- ---- room

-- a frame has 64 words for each of its levels, 4 of which it takes itself
abbrev pub FitsWith : ℕ → StackFrame → Type 0
FitsWith more f = length f.slots + length f.waiting + more + 4 ≤ 64 * f.levels

-- on the newest frame, or on none, 16 values more may wait
abbrev pub MayWait : List StackFrame → List Tagged → Type 0
MayWait [] unframed = length unframed + 1 ≤ 16
MayWait (f ∷ fs) unframed = length f.slots + length f.waiting + 5 ≤ 64 * f.levels + 16

-- but not where another frame comes above it
abbrev pub NewestFits : List StackFrame → Type 0
NewestFits [] = Unit {0}
NewestFits (f ∷ fs) = FitsWith 0 f

-- ---- levels

abbrev pub levels_of_frames : List StackFrame → ℕ
levels_of_frames [] = 0
levels_of_frames (f ∷ fs) = f.levels + levels_of_frames fs

-- the levels that are left as this is undone
abbrev pub levels_of_one : stacked.Saved → ℕ
levels_of_one (saved.Mark f) = 0
levels_of_one (saved.Binding id local hid levels) = levels

abbrev pub levels_of_saved : List stacked.Saved → ℕ
levels_of_saved [] = 0
levels_of_saved (x ∷ saves) = levels_of_one x + levels_of_saved saves
