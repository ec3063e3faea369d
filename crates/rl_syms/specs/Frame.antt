-- What the calls leave as it was.
use Rattle.std.specs.Prelude.{◌≡◌, ◌≢◌, ℕ, ◌<◌, List, length, Option, Some, None, true}
use Rattle.rl_tags.specs.Tagged.{Tagged, index_of}
use Rattle.rl_tags.specs.declared.Tag.TheVariants as tag
use Rattle.rl_cells.specs.Cell.{Cell, BlockCell, cell_at, is_live, is_str, bytes_of}
use Rattle.rl_syms.specs.Table.{IsFree, SymbolCells, ids_from, is_id, name_in_cells, symbol_in_cells}
use Rattle.rl_syms.specs.Contents.{store_of, value_of}

-- the words of the identifier that begins at a cell
abbrev pub words_of_id : Cell → Option (List ℕ)
words_of_id (BlockCell tag.Id words) = Some words
words_of_id _ = None

-- what makes or changes other objects: identifiers stay as they were, none is made, and strings keep their bytes
pub record KeepsIdentifiers (old new : List Cell) : Type 0 where
  pub live : (v : Tagged) → is_live old v ≡ true → is_live new v ≡ true
  pub texts : (v : Tagged) → is_str old v ≡ true → bytes_of new v ≡ bytes_of old v
  pub words : (k : ℕ) → words_of_id (cell_at new k) ≡ words_of_id (cell_at old k)

-- objects may have been made; those that stood are as they were
pub record Adds (old new : List Cell) : Type 0 where
  pub live : (v : Tagged) → is_live old v ≡ true → is_live new v ≡ true
  pub ids : (v : Tagged) → is_id old v ≡ true → is_id new v ≡ true
  pub stands : (k : ℕ) → k < length old → cell_at new k ≡ cell_at old k

-- the same values live and mean what they meant, the objects are as they were, and the same names are interned
pub record KeepsMeaning (old new : List Cell) : Type 0 where
  pub long : length new ≡ length old
  pub live : (v : Tagged) → is_live new v ≡ is_live old v
  pub values : (v : Tagged) → value_of new v ≡ value_of old v
  pub store : store_of new ≡ store_of old
  pub chains : (head : Option Tagged) → ids_from new head ≡ ids_from old head
  pub names : (k : ℕ) → name_in_cells new k ≡ name_in_cells old k
  pub free : (head : Option Tagged) (name : List ℕ) → IsFree old head name → IsFree new head name

-- one identifier alone has changed, and is this now; all means what it meant
pub record Sets (old new : List Cell) (id : Tagged) (s : SymbolCells) : Type 0 where
  pub live : (v : Tagged) → is_live old v ≡ true → is_live new v ≡ true
  pub ids : (v : Tagged) → is_id old v ≡ true → is_id new v ≡ true
  pub symbol : symbol_in_cells new (index_of id) ≡ s
  pub others : (k : ℕ) → k ≢ index_of id → cell_at new k ≡ cell_at old k
  pub rest : KeepsMeaning old new
