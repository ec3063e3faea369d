-- The cells at the end of opening: those of the names, and then the strings of the texts of errors.
use Rattle.std.specs.Prelude.{◌≡◌, ℕ, ◌+◌, List, [], ◌∷◌, ◌++◌, length, Option}
use Rattle.rl_tags.specs.Tagged.{Tagged, StrAt}
use Rattle.rl_tags.specs.Opening.{names_at_opening}
use Rattle.rl_tree.specs.ErrorTexts.{error_texts}
use Rattle.rl_cells.specs.Cell.{Cell, CellStore, StrCell, placed}
use Rattle.rl_syms.specs.Opened.{HasFirst, IsOpened}
use Rattle.rl_syms.specs.Table.{IsTable}

-- strings of these bytes, one after another behind these cells
abbrev pub with_strings : List (List ℕ) → List Cell → List Cell
with_strings [] cells = cells
with_strings (bytes ∷ more) cells = with_strings more (cells ++ placed (StrCell bytes))

-- and what names them
abbrev pub strings_named : List (List ℕ) → List Cell → List Tagged
strings_named [] cells = []
strings_named (bytes ∷ more) cells = StrAt (length cells) ∷ strings_named more (cells ++ placed (StrCell bytes))

-- the cells that the names of opening take, each with its number, and then the texts, which take 35; nothing else
pub record AreOpeningCells (cells : List Cell) (texts : List Tagged) (head : Option Tagged) : Type 0 where
  pub names : CellStore
  pub first : HasFirst (length names_at_opening) names head
  pub table : IsTable names.cells head
  pub opened : IsOpened names.cells head
  pub cells_are : cells ≡ with_strings error_texts names.cells
  pub texts_are : texts ≡ strings_named error_texts names.cells
  pub long : length cells ≡ length names.cells + 35
