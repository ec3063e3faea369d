-- How a stack lies in memory: the heads of its frames, and one list of values, which has the slots of each frame and above them what waits there. All stands the newest first.
use Rattle.std.specs.Prelude.{◌≡◌, ◌≤◌, ℕ, ◌+◌, ◌*◌, List, [], ◌∷◌, length, take, drop, reverse, vec_capacity}
use Rattle.std.specs.Global.{Vec}
use Rattle.rl_tags.specs.Tagged.{Tagged}
use Rattle.rl_stack.specs.declared.stack.FrameHead as heads
use Rattle.rl_stack.specs.declared.saved.Saved as stacked
use Rattle.rl_stack.specs.StackState.{StackFrame}

abbrev pub frame_laid : ℕ → heads.FrameHead → List Tagged → StackFrame
frame_laid waiting h words = record {
  levels = h.levels;
  owner = h.owner;
  place = h.place;
  slots = take h.slots (drop waiting words);
  waiting = take waiting words;
}

-- the frames, of which so many values wait on the newest
abbrev pub frames_laid : ℕ → List heads.FrameHead → List Tagged → List StackFrame
frames_laid waiting [] words = []
frames_laid waiting (h ∷ hs) words = frame_laid waiting h words ∷ frames_laid h.below hs (drop h.slots (drop waiting words))

-- the values below all frames
abbrev pub unframed_laid : ℕ → List heads.FrameHead → List Tagged → List Tagged
unframed_laid waiting [] words = words
unframed_laid waiting (h ∷ hs) words = unframed_laid h.below hs (drop h.slots (drop waiting words))

abbrev pub levels_laid : List heads.FrameHead → ℕ
levels_laid [] = 0
levels_laid (h ∷ hs) = h.levels + levels_laid hs

-- the words are those of the frames and those that wait on none, and each frame has room for its own, the newest for some more
abbrev pub LieApart : ℕ → ℕ → List heads.FrameHead → ℕ → Type 0
LieApart more waiting [] words = (waiting ≡ words) × (words ≤ 16)
LieApart more waiting (h ∷ hs) words = (rest : ℕ) × (words ≡ waiting + h.slots + rest) × (h.slots + 4 ≤ 64 * h.levels) × (waiting + h.slots + 4 ≤ 64 * h.levels + more) × LieApart 0 h.below hs rest

-- all stands in the memory that was taken at opening
pub record HasStackRoom (nest waiting : ℕ) (frames : Vec heads.FrameHead) (words : Vec Tagged) (saves : Vec stacked.Saved) (fifteen : List Tagged) : Type 0 where
  pub bounded : nest ≤ 500000
  pub apart : LieApart 16 waiting (reverse frames.items) (length words.items)
  pub levels : levels_laid (reverse frames.items) ≤ nest
  pub heads_room : nest ≤ vec_capacity frames
  pub words_room : 64 * nest + 32 ≤ vec_capacity words
  pub saved_room : 16 * nest + 16 ≤ vec_capacity saves
  pub registers : length fifteen ≡ 15
