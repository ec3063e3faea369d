-- What bindings and marks do to a stack.
use Rattle.std.specs.Prelude.{◌≡◌, ◌≢◌, ℕ, zero, suc, ◌-◌, List, [], ◌∷◌, length, take, drop, Option}
use Rattle.rl_tags.specs.Tagged.{Tagged}
use Rattle.rl_syms.specs.Functions.{KeepsHeldFunctions}
use Rattle.rl_world.specs.declared.world.World.{World}
use Rattle.rl_meaning.specs.State.{State}
use Rattle.rl_state.specs.Worlds.{WorldGrows}
use Rattle.rl_stack.specs.ShowsStack.{IsStackLive, ShowsStack, StandsIn}
use Rattle.rl_stack.specs.StackState.{StackState, levels_of_one, levels_of_saved}
use Rattle.rl_stack.specs.declared.saved.Saved as stacked
use Rattle.rl_stack.specs.declared.saved.Saved.TheVariants as saved

-- one binding or mark more, whose undoing leaves so many levels
pub record SavesOne (levels : ℕ) (old new : StackState) : Type 0 where
  pub entry : stacked.Saved
  pub is : new ≡ record old { saved = entry ∷ old.saved }
  pub leaves : levels_of_one entry ≡ levels

-- the newest n bindings and marks are undone, and the levels kept with them are left
pub record UndoesNewest (n : ℕ) (w x : World) (old new : StackState) : Type 0 where
  pub shows : (s : State) → ShowsStack w old s → ShowsStack x new (record s { bindings = drop n s.bindings })
  pub saved : new ≡ record old { saved = drop n old.saved }
  pub levels : x.levels ≡ record w.levels { level = w.levels.level - levels_of_saved (take n old.saved) }
  pub rest : x ≡ record w { cells = x.cells; syms = x.syms; counts = x.counts; levels = x.levels }
  pub functions : KeepsHeldFunctions w.cells.cells x.cells.cells
  pub stands : StandsIn x new
  pub live : IsStackLive x.cells.cells new
  pub grows : WorldGrows w x

-- what a variable has below this binding or mark, where it has o above it
abbrev pub HidesFrom : Tagged → Option Tagged → stacked.Saved → Option Tagged → Type 0
HidesFrom id o (saved.Mark f) r = r ≡ o
HidesFrom id o (saved.Binding x local hid levels) r = (x ≡ id → r ≡ hid) × (x ≢ id → r ≡ o)

-- a binding of this variable
abbrev pub BindsIt : Tagged → stacked.Saved → Type 0
BindsIt id (saved.Mark f) = ⊥
BindsIt id (saved.Binding x local hid levels) = x ≡ id

-- none of them binds it
abbrev pub NoneBinds : Tagged → List stacked.Saved → Type 0
NoneBinds id [] = Unit {0}
NoneBinds id (x ∷ saves) = (BindsIt id x → ⊥) × NoneBinds id saves

-- this one, counted from the newest, is the oldest binding of the variable
abbrev pub IsOldestOf : Tagged → ℕ → List stacked.Saved → Type 0
IsOldestOf id k [] = ⊥
IsOldestOf id zero (x ∷ saves) = BindsIt id x × NoneBinds id saves
IsOldestOf id (suc k) (x ∷ saves) = IsOldestOf id k saves

-- a binding, counted from the newest, hides this
abbrev pub with_hid : ℕ → Option Tagged → List stacked.Saved → List stacked.Saved
with_hid k hid [] = []
with_hid zero hid (saved.Mark f ∷ saves) = saved.Mark f ∷ saves
with_hid zero hid (saved.Binding id local old levels ∷ saves) = saved.Binding id local hid levels ∷ saves
with_hid (suc k) hid (x ∷ saves) = x ∷ with_hid k hid saves

-- no more than what one binding hides is another
pub record SetsHidden (old new : StackState) : Type 0 where
  pub rest : new ≡ record old { saved = new.saved }
  pub long : length new.saved ≡ length old.saved
  pub levels : (n : ℕ) → levels_of_saved (take n new.saved) ≡ levels_of_saved (take n old.saved)
