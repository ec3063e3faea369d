-- What is known of the states that a world and a stack show together.
use Rattle.std.specs.Prelude.{◌≡◌, ℕ, true, [], List, Some, slice_get, slice_set}
use Rattle.rl_tags.specs.Tagged.{Tagged}
use Rattle.rl_cells.specs.Cell.{Cell, is_live}
use Rattle.rl_world.specs.declared.world.World.{World}
use Rattle.rl_meaning.specs.State.{State, Watched, Function, Compilation}
use Rattle.rl_state.specs.Beside.{KeepsBindings}
use Rattle.rl_state.specs.ShownState.{ShowsState}
use Rattle.rl_state.specs.StateOfWorld.{state_in}
use Rattle.rl_state.specs.Worlds.{IsWorld, WorldGrows}
use Rattle.rl_stack.specs.ShowsStack.{IsStackLive, ShowsStack, StandsIn}
use Rattle.rl_stack.specs.StackState.{OnNewest, StackState, levels_of_frames, opened_stack, with_newest, with_place, with_slot_value, with_waiting}

-- what neither a world nor a stack determines
pub record SameBesideStack (s t : State) : Type 0 where
  pub functions : s.functions ≡ t.functions
  pub compilation : s.compilation ≡ t.compilation
  pub watched : s.watched ≡ t.watched
  pub files : s.outside.files ≡ t.outside.files
  pub input : s.outside.input ≡ t.outside.input
  pub output : s.outside.output ≡ t.outside.output
  pub notes : s.outside.notes ≡ t.outside.notes

-- world and stack determine all the rest
abbrev pub StackDetermines : Type 0
StackDetermines = (w : World) (stack : StackState) (s t : State) → IsStackLive w.cells.cells stack → ShowsStack w stack s → ShowsStack w stack t → SameBesideStack s t → s ≡ t

-- a world shows a state with a stack on which nothing is bound
abbrev pub EmptyStackShows : Type 0
EmptyStackShows = (w : World) (stack : StackState) → stack.saved ≡ [] → ShowsStack w stack (state_in w)

-- a call that leaves the bindings leaves the stack shown, and what is on it live
pub record StackStays : Type 0 where
  pub shows : (w x : World) (stack : StackState) (s t : State) → WorldGrows w x → IsStackLive w.cells.cells stack → ShowsStack w stack s → ShowsState x t → KeepsBindings s t → ShowsStack x stack t
  pub live : (w x : World) (stack : StackState) → WorldGrows w x → IsStackLive w.cells.cells stack → IsStackLive x.cells.cells stack

-- what is watched, held forms and their code are no part of what is shown
abbrev pub WatchedIsHidden : Type 0
WatchedIsHidden = (w : World) (stack : StackState) (s : State) (watched : Watched) (functions : List Function) (compilation : Compilation) → ShowsStack w stack s
    → ShowsStack w stack (record s { watched = watched; functions = functions; compilation = compilation })

-- the bindings, and the levels of the frames, stay
pub record KeepsSaved (old new : StackState) : Type 0 where
  pub nest : new.nest ≡ old.nest
  pub saved : new.saved ≡ old.saved
  pub levels : levels_of_frames new.frames ≡ levels_of_frames old.frames

-- values that wait, places, slots and registers leave what is shown; they are live with what they hold
pub record StackedStays : Type 0 where
  pub opened : (w : World) (nest : ℕ) → IsWorld w → IsStackLive w.cells.cells (opened_stack nest)
  pub shows : (w : World) (old new : StackState) (s : State) → KeepsSaved old new → ShowsStack w old s → ShowsStack w new s
  pub stands : (w : World) (old new : StackState) → KeepsSaved old new → StandsIn w old → StandsIn w new
  pub waiting : (stack : StackState) (v : Tagged) → KeepsSaved stack (with_waiting v stack)
  pub placed : (stack : StackState) (p : ℕ) → KeepsSaved stack (record stack { frames = with_newest (with_place p) stack.frames })
  pub slotted : (stack : StackState) (i : ℕ) (v : Tagged) → KeepsSaved stack (record stack { frames = with_newest (with_slot_value i v) stack.frames })
  pub live_waiting : (cells : List Cell) (stack : StackState) (v : Tagged) → is_live cells v ≡ true → IsStackLive cells stack → IsStackLive cells (with_waiting v stack)
  pub live_popped : (cells : List Cell) (stack : StackState) (v : Tagged) → IsStackLive cells (with_waiting v stack) → (is_live cells v ≡ true) × IsStackLive cells stack
  pub live_placed : (cells : List Cell) (stack : StackState) (p : ℕ) → IsStackLive cells stack → IsStackLive cells (record stack { frames = with_newest (with_place p) stack.frames })
  pub live_slotted : (cells : List Cell) (stack : StackState) (i : ℕ) (v : Tagged) → is_live cells v ≡ true → IsStackLive cells stack → IsStackLive cells (record stack { frames = with_newest (with_slot_value i v) stack.frames })
  pub live_slot : (cells : List Cell) (stack : StackState) (i : ℕ) (v : Tagged) → OnNewest stack.frames (λ f. slice_get f.slots i ≡ Some v) → IsStackLive cells stack → is_live cells v ≡ true
  pub live_registered : (cells : List Cell) (stack : StackState) (i : ℕ) (v : Tagged) → is_live cells v ≡ true → IsStackLive cells stack → IsStackLive cells (record stack { registers = slice_set stack.registers i v })
  pub live_register : (cells : List Cell) (stack : StackState) (i : ℕ) (v : Tagged) → slice_get stack.registers i ≡ Some v → IsStackLive cells stack → is_live cells v ≡ true
