-- Values that wait, slots and registers: what is shown stays, and what is live.
use Rattle.std.proofs.Common.{◌≡◌, ℕ, zero, suc, ◌+◌, true, List, [], ◌∷◌, set, Some, refl, sym, ap, subst, arith}
use Rattle.std.specs.Prelude.{slice_get}
use Rattle.rl_tags.specs.Tagged.{Tagged}
use Rattle.rl_cells.specs.Cell.{Cell, is_live}
use Rattle.rl_world.specs.declared.world.World.{World}
use Rattle.rl_meaning.specs.State.{State}
use Rattle.rl_stack.specs.ShowsStack.{AreFramesLive, AreLive, IsStackLive, ShowsEntries, ShowsStack, StandsIn, tops_of}
use Rattle.rl_stack.specs.StackLaws.{KeepsSaved, StackedStays}
use Rattle.rl_stack.specs.StackState.{OnNewest, StackFrame, StackState, levels_of_frames, levels_of_saved, with_newest, with_place, with_slot_value, with_waiting}
use Rattle.rl_stack.specs.declared.saved.Saved as stacked
use Rattle.rl_stack.proofs.StackKept.{nils_live}

saved_shows : (w : World) (old new : StackState) (s : State) → KeepsSaved old new → ShowsStack w old s → ShowsStack w new s
saved_shows w old new s k h = record { world = h.world; entries = subst (λ saves. ShowsEntries w.cells.cells (tops_of s) saves s.bindings) (sym k.saved) h.entries }

saved_stands : (w : World) (old new : StackState) → KeepsSaved old new → StandsIn w old → StandsIn w new
saved_stands w old new k h =
    let n = ap levels_of_saved k.saved in
    record { nest = omega (arith, h.nest, k.nest); levels = omega (arith, h.levels, k.levels, n) }

-- the frames change, and their levels stay
keeps : (stack : StackState) (g : StackFrame → StackFrame) → ((f : StackFrame) → (g f).levels ≡ f.levels) → KeepsSaved stack (record stack { frames = with_newest g stack.frames })
keeps stack g same = record { nest = refl; saved = refl; levels = go stack.frames }
  where
    go : (fs : List StackFrame) → levels_of_frames (with_newest g fs) ≡ levels_of_frames fs
    go [] = refl
    go (f ∷ fs) = ap (λ n. n + levels_of_frames fs) (same f)

-- a stack told by its parts, so that its frames can be taken apart
abbrev parts : ℕ → List StackFrame → List Tagged → List stacked.Saved → List Tagged → StackState
parts nest fs unframed saves registers = record { nest = nest; frames = fs; unframed = unframed; saved = saves; registers = registers }

keeps_waiting : (nest : ℕ) (fs : List StackFrame) (unframed : List Tagged) (saves : List stacked.Saved) (registers : List Tagged) (v : Tagged) → KeepsSaved (parts nest fs unframed saves registers) (with_waiting v (parts nest fs unframed saves registers))
keeps_waiting nest [] unframed saves registers v = record { nest = refl; saved = refl; levels = refl }
keeps_waiting nest (f ∷ fs) unframed saves registers v = record { nest = refl; saved = refl; levels = refl }

waiting_live : (cells : List Cell) (nest : ℕ) (fs : List StackFrame) (unframed : List Tagged) (saves : List stacked.Saved) (registers : List Tagged) (v : Tagged) → is_live cells v ≡ true → IsStackLive cells (parts nest fs unframed saves registers) → IsStackLive cells (with_waiting v (parts nest fs unframed saves registers))
waiting_live cells nest [] unframed saves registers v h l = record { frames = l.frames; unframed = (h, l.unframed); saved = l.saved; registers = l.registers }
waiting_live cells nest (f ∷ fs) unframed saves registers v h l = record { frames = (l.frames.0, (h, l.frames.1), l.frames.2); unframed = l.unframed; saved = l.saved; registers = l.registers }

popped_live : (cells : List Cell) (nest : ℕ) (fs : List StackFrame) (unframed : List Tagged) (saves : List stacked.Saved) (registers : List Tagged) (v : Tagged) → IsStackLive cells (with_waiting v (parts nest fs unframed saves registers)) → (is_live cells v ≡ true) × IsStackLive cells (parts nest fs unframed saves registers)
popped_live cells nest [] unframed saves registers v l = (l.unframed.0, record { frames = l.frames; unframed = l.unframed.1; saved = l.saved; registers = l.registers })
popped_live cells nest (f ∷ fs) unframed saves registers v l = (l.frames.1.0, record { frames = (l.frames.0, l.frames.1.1, l.frames.2); unframed = l.unframed; saved = l.saved; registers = l.registers })

set_live : (cells : List Cell) (vs : List Tagged) (i : ℕ) (v : Tagged) → is_live cells v ≡ true → AreLive cells vs → AreLive cells (set vs i v)
set_live cells [] i v h l = tt
set_live cells (x ∷ vs) zero v h l = (h, l.1)
set_live cells (x ∷ vs) (suc i) v h l = (l.0, set_live cells vs i v h l.1)

get_live : (cells : List Cell) (vs : List Tagged) (i : ℕ) (v : Tagged) → slice_get vs i ≡ Some v → AreLive cells vs → is_live cells v ≡ true
get_live cells [] i v e l = absurd (cc)
get_live cells (x ∷ vs) zero v e l = let s : x ≡ v = cc in subst (λ y. is_live cells y ≡ true) s l.0
get_live cells (x ∷ vs) (suc i) v e l = get_live cells vs i v e l.1

placed_live : (cells : List Cell) (fs : List StackFrame) (p : ℕ) → AreFramesLive cells fs → AreFramesLive cells (with_newest (with_place p) fs)
placed_live cells [] p l = tt
placed_live cells (f ∷ fs) p l = l

slotted_live : (cells : List Cell) (fs : List StackFrame) (i : ℕ) (v : Tagged) → is_live cells v ≡ true → AreFramesLive cells fs → AreFramesLive cells (with_newest (with_slot_value i v) fs)
slotted_live cells [] i v h l = tt
slotted_live cells (f ∷ fs) i v h l = (set_live cells f.slots i v h l.0, l.1, l.2)

slot_live : (cells : List Cell) (fs : List StackFrame) (i : ℕ) (v : Tagged) → OnNewest fs (λ f. slice_get f.slots i ≡ Some v) → AreFramesLive cells fs → is_live cells v ≡ true
slot_live cells [] i v e l = absurd e
slot_live cells (f ∷ fs) i v e l = get_live cells f.slots i v e l.0

pub stacked_stays : StackedStays
stacked_stays = record {
  opened = λ w nest i. record { frames = tt; unframed = tt; saved = tt; registers = nils_live w.cells.cells 15 i.table.nil };
  shows = saved_shows;
  stands = saved_stands;
  waiting = λ stack v. keeps_waiting stack.nest stack.frames stack.unframed stack.saved stack.registers v;
  placed = λ stack p. keeps stack (with_place p) (λ f. refl);
  slotted = λ stack i v. keeps stack (with_slot_value i v) (λ f. refl);
  live_waiting = λ cells stack v h l. waiting_live cells stack.nest stack.frames stack.unframed stack.saved stack.registers v h l;
  live_popped = λ cells stack v l. popped_live cells stack.nest stack.frames stack.unframed stack.saved stack.registers v l;
  live_placed = λ cells stack p l. record { frames = placed_live cells stack.frames p l.frames; unframed = l.unframed; saved = l.saved; registers = l.registers };
  live_slotted = λ cells stack i v h l. record { frames = slotted_live cells stack.frames i v h l.frames; unframed = l.unframed; saved = l.saved; registers = l.registers };
  live_slot = λ cells stack i v e l. slot_live cells stack.frames i v e l.frames;
  live_registered = λ cells stack i v h l. record { frames = l.frames; unframed = l.unframed; saved = l.saved; registers = set_live cells stack.registers i v h l.registers };
  live_register = λ cells stack i v e l. get_live cells stack.registers i v e l.registers;
}
