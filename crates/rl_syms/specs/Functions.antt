-- Held functions as blocks of words, and that calls leave them as they were.
use Rattle.std.specs.Prelude.{◌≡◌, ◌≢◌, ℕ, ◌+◌, ◌^◌, ◌<◌, Bool, true, false, List, ◌++◌, length, slice_set, Option, Some, None}
use Rattle.rl_tags.specs.Tagged.{Tagged, FunAt, index_of}
use Rattle.rl_tags.specs.declared.Tag.TheVariants as tag
use Rattle.rl_tree.specs.Value.{Fun}
use Rattle.rl_cells.specs.Cell.{Cell, CellStore, PairCell, VectorCell, BlockCell, block_with, cell_at, changed_at, is_fun_cell, is_live, is_pair, is_vector, placed, words_of}
use Rattle.rl_syms.specs.Contents.{funs_before, value_of}
use Rattle.rl_syms.specs.Frame.{Sets}
use Rattle.rl_syms.specs.Made.{with_id}
use Rattle.rl_syms.specs.Table.{SymbolCells, is_id}

-- the words of the held function that begins at a cell
abbrev pub words_of_function : Cell → Option (List ℕ)
words_of_function (BlockCell tag.Fun words) = Some words
words_of_function _ = None

-- whether a value is a held function, and no place in one
abbrev pub is_held_function : List Cell → Tagged → Bool
is_held_function cells (FunAt k) = is_fun_cell (cell_at cells k)
is_held_function cells _ = false

-- each held function has the words that it had, and none begins elsewhere
pub record KeepsHeldFunctions (old new : List Cell) : Type 0 where
  pub words : (k : ℕ) → words_of_function (cell_at new k) ≡ words_of_function (cell_at old k)

-- a held function of these words begins where the cells ended, and is the next one; all others are as they were
pub record GainsFunction (old new : List Cell) (words : List ℕ) (f : Tagged) : Type 0 where
  pub place : f ≡ FunAt (length old)
  pub stands : is_held_function new f ≡ true
  pub words_are : words_of new f ≡ words
  pub means : value_of new f ≡ Fun (funs_before old (length old)) 0
  pub many : funs_before new (length new) ≡ funs_before old (length old) + 1
  pub others : (k : ℕ) → k ≢ length old → words_of_function (cell_at new k) ≡ words_of_function (cell_at old k)

-- one word of one held function is this; all others are as they were
pub record ChangesFunction (old new : List Cell) (f : Tagged) (i word : ℕ) : Type 0 where
  pub stands : is_held_function new f ≡ true
  pub words_are : words_of new f ≡ slice_set (words_of old f) i word
  pub many : funs_before new (length new) ≡ funs_before old (length old)
  pub others : (k : ℕ) → k ≢ index_of f → words_of_function (cell_at new k) ≡ words_of_function (cell_at old k)

-- what makes or changes another object leaves held functions, and so do several such calls; a new function, and a new word of one, leave all others; those that are left live and mean what they did, are as many, and have the same words
pub record FunctionsStand : Type 0 where
  pub none : (cells : List Cell) → KeepsHeldFunctions cells cells
  pub both : (a b c : List Cell) → KeepsHeldFunctions a b → KeepsHeldFunctions b c → KeepsHeldFunctions a c
  pub made : (cells : List Cell) (c : Cell) → words_of_function c ≡ None → KeepsHeldFunctions cells (cells ++ placed c)
  pub named : (s : CellStore) (name : List ℕ) (plist : Tagged) (next : Option Tagged) → KeepsHeldFunctions s.cells (with_id s name plist next).cells
  pub pair : (cells : List Cell) (p a d : Tagged) → is_pair cells p ≡ true → KeepsHeldFunctions cells (changed_at cells p (PairCell a d))
  pub vector : (cells : List Cell) (v : Tagged) (xs : List Tagged) → is_vector cells v ≡ true → KeepsHeldFunctions cells (changed_at cells v (VectorCell xs))
  pub set : (old new : List Cell) (id : Tagged) (y : SymbolCells) → is_id old id ≡ true → Sets old new id y → KeepsHeldFunctions old new
  pub function : (cells : List Cell) (words : List ℕ) → length cells < 2 ^ 32 → GainsFunction cells (cells ++ placed (BlockCell tag.Fun words)) words (FunAt (length cells))
  pub word : (cells : List Cell) (f : Tagged) (i w : ℕ) → is_held_function cells f ≡ true → ChangesFunction cells (changed_at cells f (block_with (cell_at cells (index_of f)) i w)) f i w
  pub live : (old new : List Cell) (k : ℕ) → KeepsHeldFunctions old new → is_live new (FunAt k) ≡ is_live old (FunAt k)
  pub values : (old new : List Cell) (k : ℕ) → KeepsHeldFunctions old new → value_of new (FunAt k) ≡ value_of old (FunAt k)
  pub many : (old new : List Cell) → KeepsHeldFunctions old new → funs_before new (length new) ≡ funs_before old (length old)
  pub words : (old new : List Cell) (f : Tagged) → KeepsHeldFunctions old new → is_held_function old f ≡ true → words_of new f ≡ words_of old f
