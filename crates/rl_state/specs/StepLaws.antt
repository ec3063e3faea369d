-- How calls follow one another: what is shown, what stays, and what grows.
use Rattle.std.specs.Prelude.{◌≡◌, ◌≢◌, map, true, None, Some}
use Rattle.rl_tags.specs.Tagged.{Tagged, tag_of}
use Rattle.rl_tags.specs.declared.Tag.TheVariants as tag
use Rattle.rl_cells.specs.Cell.{car_of, cdr_of, is_live, is_pair, is_vector, vector_of}
use Rattle.rl_syms.specs.Contents.{value_of}
use Rattle.rl_meaning.specs.Symbols.{pair_at, vector_at}
use Rattle.rl_tree.specs.Value.{Object, Value}
use Rattle.rl_meaning.specs.Constants.{changing, reading_object}
use Rattle.rl_meaning.specs.Copying.{with_object}
use Rattle.rl_meaning.specs.State.{State}
use Rattle.rl_world.specs.Counts.{TakesTurnsAndCells, WorldCounts}
use Rattle.rl_world.specs.declared.world.World.{World}
use Rattle.rl_state.specs.Beside.{StaysBeside}
use Rattle.rl_state.specs.Ending.{IsShownBeside}
use Rattle.rl_state.specs.ShownState.{ShowsState}
use Rattle.rl_state.specs.Worlds.{IsWorld, ObjectsAlone, WorldGrows}

pub record StepsFollow : Type 0 where
  -- where nothing is done all stays, and one step after another keeps what both keep
  pub still : (w : World) (s : State) → ShowsState w s → IsShownBeside w s s
  pub stays : (s t u : State) → StaysBeside s t → StaysBeside t u → StaysBeside s u
  pub stands : (w : World) → IsWorld w → WorldGrows w w
  pub grows : (w x y : World) → WorldGrows w x → WorldGrows x y → WorldGrows w y
  pub none : (w : World) → ObjectsAlone w w
  pub alone : (w x y : World) → ObjectsAlone w x → ObjectsAlone x y → ObjectsAlone w y
  -- where turns and cells were taken, and no object made or changed
  pub counted : (w : World) (k : WorldCounts) → TakesTurnsAndCells w.counts k → ObjectsAlone w (record w { counts = k })
  -- where a pair or a vector is changed
  pub changed : (w : World) (v : Value) (o : Object) (s : State) → ShowsState w (with_object v o s) → IsShownBeside w s (with_object v o s)
  -- what is read or changed is watched, and that is not shown
  pub reading : (w : World) (v : Value) (s : State) → ShowsState w s → IsShownBeside w s (reading_object v s)
  pub changing : (w : World) (v : Value) (o : Object) (s : State) → ShowsState w (with_object v o s) → IsShownBeside w s (changing v (with_object v o s))

-- what a state has at a pair and at a vector, and that it has none at any other value
pub record ObjectsAreShown : Type 0 where
  pub pair : (w : World) (v : Tagged) → is_pair w.cells.cells v ≡ true → (s : State) → ShowsState w s → pair_at s (value_of w.cells.cells v) ≡ Some (value_of w.cells.cells (car_of w.cells.cells v), value_of w.cells.cells (cdr_of w.cells.cells v))
  pub no_pair : (w : World) (v : Tagged) → is_live w.cells.cells v ≡ true → tag_of v ≢ tag.Pair → (s : State) → ShowsState w s → pair_at s (value_of w.cells.cells v) ≡ None
  pub vector : (w : World) (v : Tagged) → is_vector w.cells.cells v ≡ true → (s : State) → ShowsState w s → vector_at s (value_of w.cells.cells v) ≡ Some (map (value_of w.cells.cells) (vector_of w.cells.cells v))
  pub no_vector : (w : World) (v : Tagged) → is_live w.cells.cells v ≡ true → tag_of v ≢ tag.Vector → (s : State) → ShowsState w s → vector_at s (value_of w.cells.cells v) ≡ None
