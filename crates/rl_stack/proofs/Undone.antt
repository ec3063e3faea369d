-- Bindings and marks are undone one after the other.
use Rattle.std.proofs.Common.{◌≡◌, ℕ, zero, suc, ◌+◌, ◌-◌, take, drop, List, [], ◌∷◌, length, refl, sym, ap, subst, ◌∙◌, arith}
use Rattle.std.proofs.lemmas.List.{length-drop}
use Rattle.rl_cells.specs.Cell.{Cell}
use Rattle.rl_tree.specs.Value.{Value}
use Rattle.std.specs.Prelude.{Option}
use Rattle.rl_world.specs.Levels.{WorldLevels}
use Rattle.rl_world.specs.declared.world.World.{World}
use Rattle.rl_meaning.specs.State.{State, Entry, Binding, Mark}
use Rattle.rl_meaning.specs.Variables.{with_oldest}
use Rattle.rl_state.specs.Worlds.{IsWorld}
use Rattle.rl_stack.specs.Saving.{UndoesNewest}
use Rattle.rl_stack.specs.ShowsStack.{IsStackLive, ShowsEntries, ShowsStack, StandsIn, tops_of}
use Rattle.rl_stack.specs.StackState.{StackState, levels_of_saved}
use Rattle.rl_stack.specs.declared.saved.Saved as stacked
use Rattle.rl_stack.specs.declared.saved.Saved.TheVariants as saved
use Rattle.rl_stack.proofs.Bound.{grows_then}
use Rattle.rl_stack.proofs.Reversed.{drop-both}

pub depth_shown : (cells : List Cell) (tops : ℕ → Option Value) (saves : List stacked.Saved) (entries : List Entry) → ShowsEntries cells tops saves entries → length entries ≡ length saves
depth_shown cells tops [] [] h = refl
depth_shown cells tops (saved.Mark f ∷ saves) (Mark m ∷ entries) h = ap suc (depth_shown cells tops saves entries h.1)
depth_shown cells tops (saved.Binding id local hid levels ∷ saves) (Binding y scope v ∷ entries) h = ap suc (depth_shown cells tops saves entries h.1)
depth_shown cells tops [] (Mark m ∷ entries) h = absurd h
depth_shown cells tops [] (Binding y scope v ∷ entries) h = absurd h
depth_shown cells tops (saved.Mark f ∷ saves) [] h = absurd h
depth_shown cells tops (saved.Mark f ∷ saves) (Binding y scope v ∷ entries) h = absurd h
depth_shown cells tops (saved.Binding id local hid levels ∷ saves) [] h = absurd h
depth_shown cells tops (saved.Binding id local hid levels ∷ saves) (Mark m ∷ entries) h = absurd h

take_none : (k : ℕ) → ◌≡◌ {A = List stacked.Saved} (take k []) []
take_none zero = refl
take_none (suc k) = refl

levels_split : (n : ℕ) (saves : List stacked.Saved) → levels_of_saved (take (n + 1) saves) ≡ levels_of_saved (take n saves) + levels_of_saved (take 1 (drop n saves))
levels_split zero [] = refl
levels_split zero (x ∷ saves) = omega arith
levels_split (suc n) [] = ap levels_of_saved (take_none (suc n + 1))
levels_split (suc n) (x ∷ saves) =
    let e : suc n + 1 ≡ suc (n + 1) = omega arith in
    let r = levels_split n saves in
    ap (λ k. levels_of_saved (take k (x ∷ saves))) e ∙ (omega (arith, r))

-- nothing is undone yet
pub undoes_nothing : (w : World) (stack : StackState) → IsWorld w → IsStackLive w.cells.cells stack → StandsIn w stack → UndoesNewest 0 w w stack stack
undoes_nothing w stack i live stands = record {
  shows = λ s h. h;
  saved = refl;
  levels = ap (λ n. record w.levels { level = n }) (let z : w.levels.level ≡ w.levels.level - 0 = omega arith in z);
  rest = refl;
  functions = record { words = λ k. refl };
  stands = stands;
  live = live;
  grows = record { world = i; live = λ v h. h; values = λ v h. refl };
}

-- one more is undone
pub undoes_more : (n : ℕ) (w x y : World) (old mid new : StackState) → UndoesNewest n w x old mid → UndoesNewest 1 x y mid new → UndoesNewest (n + 1) w y old new
undoes_more n w x y old mid new a b = record {
  shows = λ s h. subst (λ es. ShowsStack y new (record s { bindings = es })) (drop-both 1 n s.bindings) (b.shows _ (a.shows s h));
  saved = b.saved ∙ ap (λ (z : StackState). record z { saved = drop 1 z.saved }) a.saved ∙ ap (λ saves. record old { saved = saves }) (drop-both 1 n old.saved);
  levels =
      let split = levels_split n old.saved in
      let first : mid.saved ≡ drop n old.saved = ap (λ (z : StackState). z.saved) a.saved in
      let sum : w.levels.level - levels_of_saved (take n old.saved) - levels_of_saved (take 1 (drop n old.saved)) ≡ w.levels.level - levels_of_saved (take (n + 1) old.saved) = omega (arith, split) in
      b.levels ∙ ap (λ (z : WorldLevels). record z { level = z.level - levels_of_saved (take 1 mid.saved) }) a.levels
      ∙ ap (λ saves. record w.levels { level = w.levels.level - levels_of_saved (take n old.saved) - levels_of_saved (take 1 saves) }) first
      ∙ ap (λ k. record w.levels { level = k }) sum;
  rest = b.rest ∙ ap (λ (z : World). record z { cells = y.cells; syms = y.syms; counts = y.counts; levels = y.levels }) a.rest;
  functions = record { words = λ k. b.functions.words k ∙ a.functions.words k };
  stands = b.stands;
  live = b.live;
  grows = grows_then w x y a.grows b.grows;
}

-- as many as are too many are undone
pub shows_oldest : (n : ℕ) (w x : World) (old new : StackState) → UndoesNewest (length old.saved - n) w x old new → (s : State) → ShowsStack w old s → ShowsStack x new (with_oldest n s)
shows_oldest n w x old new u s h =
    let d = depth_shown w.cells.cells (tops_of s) old.saved s.bindings h.entries in
    subst (λ k. ShowsStack x new (record s { bindings = drop (k - n) s.bindings })) (sym d) (u.shows s h)

pub fewer_left : (n : ℕ) (w x : World) (old new : StackState) → UndoesNewest n w x old new → length new.saved ≡ length old.saved - n
fewer_left n w x old new u = ap (λ (z : StackState). length z.saved) u.saved ∙ length-drop n old.saved
