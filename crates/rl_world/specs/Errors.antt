-- The texts of system errors, as strings in cells.
use Rattle.std.specs.Prelude.{◌≡◌, ℕ, ◌<◌, true, List, [], slice_index_or}
use Rattle.rl_tags.specs.Tagged.{Tagged}
use Rattle.rl_tree.specs.ErrorTexts.{error_texts}
use Rattle.rl_cells.specs.Cell.{Cell, bytes_of, cell_at, is_str}
use Rattle.rl_syms.specs.Opened.{is_name_cell}

-- these values are strings of the first texts
pub record AreTexts (cells : List Cell) (texts : List Tagged) (n : ℕ) : Type 0 where
  pub string : (i : ℕ) (d : Tagged) → i < n → is_str cells (slice_index_or texts i d) ≡ true
  pub text : (i : ℕ) (d : Tagged) → i < n → bytes_of cells (slice_index_or texts i d) ≡ slice_index_or error_texts i []

-- where there are identifiers and strings alone, no other objects are made
abbrev pub AddsTexts : List Cell → List Cell → Type 0
AddsTexts old new = (k : ℕ) → is_name_cell (cell_at old k) ≡ true → is_name_cell (cell_at new k) ≡ true
