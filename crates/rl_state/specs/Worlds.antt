-- Worlds in opening or of a run, and what stays as they go on.
use Rattle.std.specs.Prelude.{◌≡◌, ◌≢◌, length, Option, ◌≤◌, ◌-◌, ◌^◌, ℕ, true, List, Some, None}
use Rattle.std.specs.Option.{ForSome}
use Rattle.rl_tags.specs.Tagged.{Tagged, index_of}
use Rattle.rl_tags.specs.Ids.{t_id, emsg_star_id}
use Rattle.rl_cells.specs.Cell.{Cell, CellStore, is_live}
use Rattle.rl_syms.specs.Functions.{KeepsHeldFunctions}
use Rattle.rl_syms.specs.Table.{IsTable, is_id}
use Rattle.rl_world.specs.Bounds.{BoundsAgree}
use Rattle.rl_world.specs.Counts.{TakesTurnsAndCells, WorldCounts}
use Rattle.rl_world.specs.Errors.{AreTexts}
use Rattle.rl_world.specs.Walks.{IsSteady}
use Rattle.rl_world.specs.declared.world.World.{World}
use Rattle.rl_tree.specs.Value.{Value}
use Rattle.rl_syms.specs.Contents.{ids_before, value_of}
use Rattle.rl_state.specs.ShownState.{ShowsState, value_seen}
use Rattle.rl_meaning.specs.State.{State}
use Rattle.rl_meaning.specs.Symbols.{symbol_at, message_id}
use Rattle.rl_meaning.specs.Variables.{Nearest, nearest}

-- in opening or in a run: counts and cells agree, no compilation expands, and so no spare cells are in use, and in opening no expansion is open and no turn of the run was taken
pub record AreWorldCounts (c : CellStore) (k : WorldCounts) : Type 0 where
  pub bounds : BoundsAgree k c
  pub together : k.aside ≡ None
  pub unexpanded : (ticks : ℕ) → k.opening ≡ Some ticks → k.outermost ≡ None
  pub untaken : (ticks : ℕ) → k.opening ≡ Some ticks → k.turns ≡ 0
  -- numbers of turns are small integers
  pub few : k.bound ≤ 2 ^ 59 - 1

-- an identifier of opening has its number
pub record HasNumber (cells : List Cell) (id : Tagged) (i : ℕ) : Type 0 where
  pub is_id : is_id cells id ≡ true
  pub number : ids_before cells (index_of id) ≡ i

pub record IsWorld (w : World) : Type 0 where
  pub table : IsTable w.cells.cells w.syms.head
  pub t : HasNumber w.cells.cells t_id 1
  pub message : HasNumber w.cells.cells emsg_star_id 3
  pub texts : AreTexts w.cells.cells w.texts 14
  pub running : AreWorldCounts w.cells w.counts
  pub levels : w.levels.level ≤ w.levels.bound
  -- as many identifiers were made by GENSYM as there are at most
  pub made : w.syms.made ≤ ids_before w.cells.cells (length w.cells.cells)
  -- what is expanded is a name
  pub expanding : ForSome w.counts.outermost (λ e. is_id w.cells.cells e.name ≡ true)

-- what was live is live, and means what it meant
pub record WorldGrows (old new : World) : Type 0 where
  pub world : IsWorld new
  pub live : (v : Tagged) → is_live old.cells.cells v ≡ true → is_live new.cells.cells v ≡ true
  pub values : (v : Tagged) → is_live old.cells.cells v ≡ true → value_of new.cells.cells v ≡ value_of old.cells.cells v

-- of a world nothing but objects, names, and the turns and cells that were taken has changed: held functions, levels, output, input and notes are as they were
pub record ObjectsAlone (old new : World) : Type 0 where
  pub rest : new ≡ record old { cells = new.cells; syms = new.syms; counts = new.counts }
  pub counts : TakesTurnsAndCells old.counts new.counts
  pub functions : KeepsHeldFunctions old.cells.cells new.cells.cells

-- of a world nothing but the turns that were taken, levels, and what waits to be printed has changed, and what walks kept stays below
pub record PrintsAlone (old new : World) : Type 0 where
  pub rest : new ≡ record old { counts = new.counts; levels = new.levels; output = record old.output { waiting = new.output.waiting; column = new.output.column } }
  pub counts : TakesTurnsAndCells old.counts new.counts
  pub steady : IsSteady (length old.levels.walk) old.levels new.levels

-- what no world determines: functions and compilation, bindings and the values below them, what is watched, files, and what was read, printed and noted
pub record SameBesideWorld (s t : State) : Type 0 where
  pub functions : s.functions ≡ t.functions
  pub bindings : s.bindings ≡ t.bindings
  pub compilation : s.compilation ≡ t.compilation
  pub watched : s.watched ≡ t.watched
  pub files : s.outside.files ≡ t.outside.files
  pub input : s.outside.input ≡ t.outside.input
  pub output : s.outside.output ≡ t.outside.output
  pub notes : s.outside.notes ≡ t.outside.notes
  pub hidden : (i : ℕ) (b : Nearest) → nearest i s ≡ Some b → (symbol_at s i).top ≡ (symbol_at t i).top

-- a world determines all the rest
abbrev pub WorldDetermines : Type 0
WorldDetermines = (w : World) (s t : State) → ShowsState w s → ShowsState w t → SameBesideWorld s t → s ≡ t

-- one variable alone is value_seen otherwise: its bindings and top values may differ, and nothing else of the state
pub record SeenOtherwise (i : ℕ) (o : Option Value) (s t : State) : Type 0 where
  pub store : t.store ≡ s.store
  pub many : length t.symbols ≡ length s.symbols
  pub symbols : (j : ℕ) → symbol_at t j ≡ record (symbol_at s j) { top = (symbol_at t j).top }
  pub counts : t.counts ≡ s.counts
  pub gensyms : t.gensyms ≡ s.gensyms
  pub outside : t.outside ≡ s.outside
  pub here : value_seen t i ≡ o
  pub others : (j : ℕ) → j ≢ i → value_seen t j ≡ value_seen s j
  pub free : nearest message_id t ≡ None
  pub bound : (j : ℕ) → length t.symbols ≤ j → nearest j t ≡ None
