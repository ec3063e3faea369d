-- Frames of one level and two slots stay so.
use Rattle.std.proofs.Common.{ℕ, List, [], ◌∷◌, drop, arith}
use Rattle.std.proofs.lemmas.List.{length-set}
use Rattle.rl_tags.specs.Tagged.{Tagged}
use Rattle.rl_stack.specs.StackState.{StackFrame, StackState, with_newest, with_place, with_slot_value, with_waiting}
use Rattle.rl_stack.specs.declared.saved.Saved as stacked
use Rattle.rl_tests.specs.Alike.{AreAlike}

pub placed_alike : (fs : List StackFrame) (p : ℕ) → AreAlike fs → AreAlike (with_newest (with_place p) fs)
placed_alike [] p a = tt
placed_alike (f ∷ fs) p a = a

pub slotted_alike : (fs : List StackFrame) (i : ℕ) (v : Tagged) → AreAlike fs → AreAlike (with_newest (with_slot_value i v) fs)
slotted_alike [] i v a = tt
slotted_alike (f ∷ fs) i v a = (omega (arith, length-set f.slots i v, a.0), a.1, a.2)

pub dropped_alike : (fs : List StackFrame) → AreAlike fs → AreAlike (drop 1 fs)
dropped_alike [] a = tt
dropped_alike (f ∷ fs) a = a.2

-- a stack told by its parts, so that its frames can be taken apart
abbrev parts : ℕ → List StackFrame → List Tagged → List stacked.Saved → List Tagged → StackState
parts nest fs unframed saves registers = record { nest = nest; frames = fs; unframed = unframed; saved = saves; registers = registers }

go_waiting : (nest : ℕ) (fs : List StackFrame) (unframed : List Tagged) (saves : List stacked.Saved) (registers : List Tagged) (v : Tagged) → AreAlike fs → AreAlike (with_waiting v (parts nest fs unframed saves registers)).frames
go_waiting nest [] unframed saves registers v a = tt
go_waiting nest (f ∷ fs) unframed saves registers v a = a

pub waiting_alike : (stack : StackState) (v : Tagged) → AreAlike stack.frames → AreAlike (with_waiting v stack).frames
waiting_alike stack v a = go_waiting stack.nest stack.frames stack.unframed stack.saved stack.registers v a

go_popped : (nest : ℕ) (fs : List StackFrame) (unframed : List Tagged) (saves : List stacked.Saved) (registers : List Tagged) (v : Tagged) → AreAlike (with_waiting v (parts nest fs unframed saves registers)).frames → AreAlike fs
go_popped nest [] unframed saves registers v a = tt
go_popped nest (f ∷ fs) unframed saves registers v a = a

pub popped_alike : (stack : StackState) (v : Tagged) → AreAlike (with_waiting v stack).frames → AreAlike stack.frames
popped_alike stack v a = go_popped stack.nest stack.frames stack.unframed stack.saved stack.registers v a
