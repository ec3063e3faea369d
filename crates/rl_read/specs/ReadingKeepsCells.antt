-- Reading makes objects and changes none that stood before it.
use Rattle.std.specs.Prelude.{◌≡◌, ℕ, ◌<◌, ◌≤◌, Bool, List, length, None, Some}
use Rattle.rl_tags.specs.Tagged.{Tagged, PairAt}
use Rattle.rl_cells.specs.Cell.{Cell, cell_at}
use Rattle.rl_syms.specs.Functions.{KeepsHeldFunctions}
use Rattle.rl_text.specs.Keeping.{MakerKeeps, FramesKept, StepKept, OutcomeKept}
use Rattle.rl_text.specs.Makers.{IsFit}
use Rattle.rl_text.specs.Reader.{ReaderFrame, Mode, reader_step, at_end, read_by}
use Rattle.rl_world.specs.Counts.{TakesTurnsAndCells}
use Rattle.rl_world.specs.declared.stop.Stop.{Stop}
use Rattle.rl_read.specs.Stock.{Stock, PairChain, in_stock}

-- the cells that stood stand, with more behind them, among which no held function begins
pub record CellsStay (old new : List Cell) : Type 0 where
  pub longer : length old ≤ length new
  pub stands : (k : ℕ) → k < length old → cell_at new k ≡ cell_at old k
  pub functions : KeepsHeldFunctions old new

-- the cells that stood stand, and of the counts turns and cells alone were taken
pub record LeavesWhatStood (old new : Stock) : Type 0 where
  pub cells : CellsStay old.cells.cells new.cells.cells
  pub counts : TakesTurnsAndCells old.counts new.counts

-- the last pair of a list that is not whole yet, if it has one, was made behind the cells that stood
abbrev pub IsChainBehind : Stock → PairChain → Type 0
IsChainBehind start None = Unit {0}
IsChainBehind start (Some c) = (i : ℕ) × (length start.cells.cells ≤ i) × (c.1 ≡ PairAt i)

-- what making keeps of a stock that stood at first
abbrev pub keeping_what_stood : Stock → MakerKeeps Stock Tagged PairChain Stop
keeping_what_stood start = record { states = λ k. LeavesWhatStood start k; values = λ v. Unit {0}; lists = λ c. IsChainBehind start c; wants = λ s k. LeavesWhatStood start k }

-- however a text ends, behind each byte of it, and at its end
pub record ReadingKeepsCells : Type 0 where
  pub text : (start : Stock) (turns : Bool) (k : Stock) (bytes : List ℕ) → LeavesWhatStood start k → OutcomeKept (keeping_what_stood start) (read_by (in_stock turns) k bytes)
  pub byte : (start : Stock) (turns : Bool) (mode : Mode) (b : ℕ) (fs : List (ReaderFrame PairChain)) (k : Stock) → IsFit mode → FramesKept (keeping_what_stood start) fs → LeavesWhatStood start k → StepKept (keeping_what_stood start) (reader_step (in_stock turns) mode b fs k)
  pub end : (start : Stock) (turns : Bool) (mode : Mode) (fs : List (ReaderFrame PairChain)) (k : Stock) → IsFit mode → FramesKept (keeping_what_stood start) fs → LeavesWhatStood start k → OutcomeKept (keeping_what_stood start) (at_end (in_stock turns) mode fs k)
  -- and a stock stands by itself
  pub first : (k : Stock) → LeavesWhatStood k k
