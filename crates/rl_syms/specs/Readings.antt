-- What making and changing objects does to the store, for any reading of the values in them.
use Rattle.std.specs.Prelude.{◌≡◌, ℕ, ◌+◌, ◌≤◌, ◌⊎◌, true, List, [], ◌∷◌, ◌++◌, length, slice_get, slice_set, Option, Some}
use Rattle.rl_tags.specs.Tagged.{Tagged, index_of}
use Rattle.rl_cells.specs.Cell.{Cell, CellStore, IsClosed, cell_at, is_closed_cell, is_id_cell, is_live, placed}
use Rattle.rl_tree.specs.Value.{Value, Id, Object, changed_store}
use Rattle.rl_syms.specs.Contents.{ids_before, number_at, object_count, object_in, objects_meant, store_of, value_of}
use Rattle.rl_syms.specs.Table.{IsTable, ids_from, nil_value, symbol_in_cells}
use Rattle.rl_syms.specs.Made.{new_id, with_id}
use Rattle.rl_syms.specs.Opened.{IsBlank}

-- two readings give what lives the same meaning
abbrev pub ReadAlike : List Cell → (Tagged → Value) → (Tagged → Value) → Type 0
ReadAlike cells before after = (v : Tagged) → is_live cells v ≡ true → after v ≡ before v

-- objects that are added stand behind those that there are, which stay; one that is changed is alone in that, and is read at its number
pub record MeantByAnyReading : Type 0 where
  pub grows : (before after : Tagged → Value) (cells more : List Cell) → IsClosed cells → ReadAlike cells before after
      → objects_meant after (cells ++ more) ≡ objects_meant before cells ++ objects_meant after more
  pub made : (before after : Tagged → Value) (cells : List Cell) (c : Cell) → IsClosed cells → is_closed_cell cells c ≡ true → ReadAlike cells before after
      → objects_meant after (cells ++ placed c) ≡ objects_meant before cells ++ object_in before c
  pub same : (before after : Tagged → Value) (cells : List Cell) → IsClosed cells → ReadAlike cells before after → objects_meant after cells ≡ objects_meant before cells
  pub changed : (meaning : Tagged → Value) (cells : List Cell) (k : ℕ) (c : Cell) (object : Object) → object_count (cell_at cells k) ≡ 1 → object_in meaning c ≡ object ∷ []
      → objects_meant meaning (slice_set cells k c) ≡ changed_store (objects_meant meaning cells) (number_at cells k) object
  pub kept : (meaning : Tagged → Value) (cells : List Cell) (k : ℕ) (c : Cell) → object_in meaning c ≡ object_in meaning (cell_at cells k) → objects_meant meaning (slice_set cells k c) ≡ objects_meant meaning cells
  pub read : (meaning : Tagged → Value) (cells : List Cell) (k : ℕ) (object : Object) → object_in meaning (cell_at cells k) ≡ object ∷ [] → slice_get (objects_meant meaning cells) (number_at cells k) ≡ Some object

-- a new identifier with NIL as its property list has the next number, and is blank; what lived means what it meant, the objects and the chain are as they were, and no other identifier is made
pub record NamingMeans : Type 0 where
  pub values : (s : CellStore) (name : List ℕ) (link : Option Tagged) (v : Tagged) → is_live s.cells v ≡ true → value_of (with_id s name nil_value link).cells v ≡ value_of s.cells v
  pub named : (s : CellStore) (name : List ℕ) (link : Option Tagged) → value_of (with_id s name nil_value link).cells (new_id s name) ≡ Id (ids_before s.cells (length s.cells))
  pub many : (s : CellStore) (name : List ℕ) (link : Option Tagged) → ids_before (with_id s name nil_value link).cells (length (with_id s name nil_value link).cells) ≡ ids_before s.cells (length s.cells) + 1
  pub store : (s : CellStore) (name : List ℕ) (link : Option Tagged) → IsClosed s.cells → store_of (with_id s name nil_value link).cells ≡ store_of s.cells
  pub only : (s : CellStore) (name : List ℕ) (link : Option Tagged) (k : ℕ) → is_id_cell (cell_at (with_id s name nil_value link).cells k) ≡ true → (k ≡ index_of (new_id s name)) ⊎ (is_id_cell (cell_at s.cells k) ≡ true)
  pub blank : (s : CellStore) (name : List ℕ) (link : Option Tagged) → IsBlank (symbol_in_cells (with_id s name nil_value link).cells (index_of (new_id s name)))
  pub chain : (s : CellStore) (name : List ℕ) (link head : Option Tagged) → IsTable s.cells head → ids_from (with_id s name nil_value link).cells head ≡ ids_from s.cells head
  pub entered : (s : CellStore) (name : List ℕ) (head : Option Tagged) → 1 ≤ length name → length name ≤ 255 → IsTable s.cells head → ids_from (with_id s name nil_value head).cells (Some (new_id s name)) ≡ index_of (new_id s name) ∷ ids_from s.cells head
