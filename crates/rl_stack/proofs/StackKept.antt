-- World and stack as frames come and go: cells and bindings stay.
use Rattle.std.proofs.Common.{◌≡◌, ◌+◌, ◌-◌, ◌≤◌, ℕ, suc, zero, List, [], ◌∷◌, length, drop, replicate, true, sym, ap, subst, ◌∙◌, arith}
use Rattle.rl_tags.specs.Ids.{nil_id}
use Rattle.rl_cells.specs.Cell.{Cell, is_live}
use Rattle.rl_world.specs.Levels.{WorldLevels}
use Rattle.rl_world.specs.declared.world.World.{World}
use Rattle.rl_meaning.specs.State.{State}
use Rattle.rl_state.specs.ShownState.{ShowsState}
use Rattle.rl_state.specs.Worlds.{WorldGrows}
use Rattle.rl_stack.specs.ShowsStack.{AreFramesLive, AreLive, IsStackLive, ShowsEntries, ShowsStack, StandsIn, tops_of}
use Rattle.rl_stack.specs.StackState.{OnNewest, HasFrame, StackFrame, StackState, levels_of_frames, levels_of_saved}
use Rattle.rl_stack.proofs.EntriesKept.{stack_kept}

pub levels_show : (w x : World) (l : WorldLevels) → x ≡ record w { levels = l } → (s : State) → ShowsState w s → ShowsState x s
levels_show w x l e s h = subst (λ y. ShowsState y s) (sym e) (record {
  store = h.store;
  symbols = record { many = h.symbols.many; symbols = h.symbols.symbols; values = h.symbols.values };
  counts = h.counts;
  gensyms = h.gensyms;
  column = h.column;
  line_length = h.line_length;
  taken = h.taken;
  free = h.free;
  bound = h.bound;
})

-- a world of which levels alone changed
pub levels_shown_on : (w x : World) (l : WorldLevels) (old new : StackState) → x ≡ record w { levels = l } → new ≡ record old { frames = new.frames } → ((s : State) → ShowsState w s → ShowsState x s)
    → (s : State) → ShowsStack w old s → ShowsStack x new s
levels_shown_on w x l old new e f shows s h = record {
  world = shows s h.world;
  entries = subst (λ (z : World). ShowsEntries z.cells.cells (tops_of s) new.saved s.bindings) (sym e) (subst (λ (z : StackState). ShowsEntries w.cells.cells (tops_of s) z.saved s.bindings) (sym f) h.entries);
}

pub nils_live : (cells : List Cell) (n : ℕ) → is_live cells nil_id ≡ true → AreLive cells (replicate n nil_id)
nils_live cells zero h = tt
nils_live cells (suc n) h = (h, nils_live cells n h)

tail_live : (cells : List Cell) (fs : List StackFrame) → AreFramesLive cells fs → AreFramesLive cells (drop 1 fs)
tail_live cells [] h = tt
tail_live cells (f ∷ fs) h = h.2

pub frame_live : (w x : World) (old new : StackState) (levels slots owner : ℕ) → WorldGrows w x → is_live x.cells.cells nil_id ≡ true
    → new ≡ record old { frames = record { levels = levels; owner = owner; place = 0; slots = replicate slots nil_id; waiting = [] } ∷ old.frames } → IsStackLive w.cells.cells old → IsStackLive x.cells.cells new
frame_live w x old new levels slots owner g nil e h =
    let k = stack_kept w x old g h in
    subst (IsStackLive x.cells.cells) (sym e) (record { frames = (nils_live x.cells.cells slots nil, tt, k.frames); unframed = k.unframed; saved = k.saved; registers = k.registers })

pub frame_gone_live : (w x : World) (old new : StackState) → WorldGrows w x → new ≡ record old { frames = drop 1 old.frames } → IsStackLive w.cells.cells old → IsStackLive x.cells.cells new
frame_gone_live w x old new g e h =
    let k = stack_kept w x old g h in
    subst (IsStackLive x.cells.cells) (sym e) (record { frames = tail_live x.cells.cells old.frames k.frames; unframed = k.unframed; saved = k.saved; registers = k.registers })

pub frame_stands : (w x : World) (old new : StackState) (levels slots owner : ℕ) → x ≡ record w { levels = record w.levels { level = w.levels.level + levels } }
    → new ≡ record old { frames = record { levels = levels; owner = owner; place = 0; slots = replicate slots nil_id; waiting = [] } ∷ old.frames } → StandsIn w old → StandsIn x new
frame_stands w x old new levels slots owner e f h =
    subst (λ z. StandsIn z new) (sym e) (subst (λ z. StandsIn (record w { levels = record w.levels { level = w.levels.level + levels } }) z) (sym f) (record { nest = h.nest; levels = omega (arith, h.levels) }))

-- the levels of the newest frame are among those that are entered
pub newest_entered : (w : World) (old : StackState) (n : ℕ) → HasFrame old.frames → OnNewest old.frames (λ f. n ≡ f.levels) → StandsIn w old → n + length w.levels.walk ≤ w.levels.level
newest_entered w old n f is h = go old.frames f is (h.levels)
  where
    go : (fs : List StackFrame) → HasFrame fs → OnNewest fs (λ f. n ≡ f.levels) → levels_of_frames fs + levels_of_saved old.saved + length w.levels.walk ≤ w.levels.level → n + length w.levels.walk ≤ w.levels.level
    go [] f is l = absurd f
    go (g ∷ fs) f is l = omega (arith, is, l)

pub frame_gone_stands : (w x : World) (old new : StackState) (n : ℕ) → x ≡ record w { levels = record w.levels { level = w.levels.level - n } } → new ≡ record old { frames = drop 1 old.frames }
    → HasFrame old.frames → OnNewest old.frames (λ f. n ≡ f.levels) → StandsIn w old → StandsIn x new
frame_gone_stands w x old new n e f some is h =
    subst (λ z. StandsIn z new) (sym e) (subst (λ z. StandsIn (record w { levels = record w.levels { level = w.levels.level - n } }) z) (sym f) (record { nest = h.nest; levels = go old.frames some is h.levels }))
  where
    go : (fs : List StackFrame) → HasFrame fs → OnNewest fs (λ f. n ≡ f.levels) → levels_of_frames fs + levels_of_saved old.saved + length w.levels.walk ≤ w.levels.level
        → levels_of_frames (drop 1 fs) + levels_of_saved old.saved + length w.levels.walk ≤ w.levels.level - n
    go [] f is l = absurd f
    go (g ∷ fs) f is l = omega (arith, is, l)

pub on_newest : (fs : List StackFrame) (n : ℕ) (P : ℕ → Type 0) → OnNewest fs (λ f. n ≡ f.levels) → P n → OnNewest fs (λ f. P f.levels)
on_newest [] n P is p = is
on_newest (f ∷ fs) n P is p = subst P is p

pub frames_alone : (old new : StackState) (fs : List StackFrame) → new ≡ record old { frames = fs } → new ≡ record old { frames = new.frames }
frames_alone old new fs e = e ∙ ap (λ (z : StackState). record old { frames = z.frames }) (sym e)
