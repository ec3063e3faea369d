-- That the texts of errors stay, whatever a call makes, changes or releases.
use Rattle.std.specs.Prelude.{◌≡◌, ℕ, ◌<◌, true, List, length, slice_index_or}
use Rattle.rl_tags.specs.Tagged.{Tagged, index_of}
use Rattle.rl_cells.specs.Cell.{Cell, take_cells}
use Rattle.rl_syms.specs.Frame.{Adds, KeepsIdentifiers, Sets}
use Rattle.rl_syms.specs.Table.{SymbolCells, is_id}
use Rattle.rl_world.specs.Errors.{AreTexts}

-- the texts stand before this place
abbrev pub AreTextsBefore : List Tagged → ℕ → ℕ → Type 0
AreTextsBefore texts n place = (i : ℕ) (d : Tagged) → i < n → index_of (slice_index_or texts i d) < place

-- texts stay strings with their bytes: where other objects are made or changed, where identifiers are made, where one is changed, and where what was made past a place behind them is released
pub record AreTextsKept : Type 0 where
  pub before : (cells : List Cell) (texts : List Tagged) (n : ℕ) → AreTexts cells texts n → AreTextsBefore texts n (length cells)
  pub blocks : (old new : List Cell) (texts : List Tagged) (n : ℕ) → KeepsIdentifiers old new → AreTexts old texts n → AreTexts new texts n
  pub added : (old new : List Cell) (texts : List Tagged) (n : ℕ) → Adds old new → AreTexts old texts n → AreTexts new texts n
  pub set : (old new : List Cell) (id : Tagged) (s : SymbolCells) (texts : List Tagged) (n : ℕ) → is_id old id ≡ true → Sets old new id s → AreTexts old texts n → AreTexts new texts n
  pub released : (cells : List Cell) (mark : ℕ) (texts : List Tagged) (n : ℕ) → AreTextsBefore texts n mark → AreTexts cells texts n → AreTexts (take_cells mark cells) texts n
