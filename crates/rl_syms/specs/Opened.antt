-- What opening makes.
use Rattle.std.specs.Prelude.{◌≡◌, ℕ, ◌*◌, ◌<◌, ◌⊎◌, Bool, true, false, List, [], ◌∷◌, length, slice_index_or, take, Option, Some, None}
use Rattle.rl_tags.specs.Tagged.{Tagged, IdAt}
use Rattle.rl_tags.specs.Opening.{name_at, names_at_opening, place_of}
use Rattle.rl_tags.specs.declared.names.TheConstants.{OPENING_NAMES}
use Rattle.rl_tree.specs.declared.held.VarKind.TheVariants.{Plain}
use Rattle.rl_tags.specs.declared.Tag.TheVariants as tag
use Rattle.rl_cells.specs.Cell.{Cell, CellStore, StrCell, BlockCell, More, cell_at, is_id_cell}
use Rattle.rl_syms.specs.Table.{IsNamed, SymbolCells, symbol_in_cells, nil_value}
use Rattle.rl_syms.specs.Contents.{ids_before}
use Rattle.rl_syms.specs.Made.{new_id, with_id}

-- a name that has a constant, or one of one byte
abbrev pub IsOpeningName : List ℕ → Type 0
IsOpeningName bytes = ((i : ℕ) × (i < OPENING_NAMES) × (bytes ≡ name_at i)) ⊎ ((b : ℕ) × (b < 256) × (bytes ≡ b ∷ []))

-- neither value nor definition, NIL as the property list, and plain
pub record IsBlank (s : SymbolCells) : Type 0 where
  pub value : s.value ≡ None
  pub plist : s.plist ≡ nil_value
  pub definition : s.definition ≡ None
  pub kind : s.kind ≡ Plain

-- a string, an identifier, or a cell of one of these
abbrev pub is_name_cell : Cell → Bool
is_name_cell (StrCell bytes) = true
is_name_cell (BlockCell tag.Id words) = true
is_name_cell More = true
is_name_cell _ = false

-- all identifiers are blank, those that are interned have these names, and there are no other objects than identifiers and strings
pub record IsOpened (cells : List Cell) (head : Option Tagged) : Type 0 where
  pub blank : (k : ℕ) → is_id_cell (cell_at cells k) ≡ true → IsBlank (symbol_in_cells cells k)
  pub known : (bytes : List ℕ) (id : Tagged) → IsNamed cells head bytes id → IsOpeningName bytes
  pub objects : (k : ℕ) → is_name_cell (cell_at cells k) ≡ true

-- the i-th name that opening makes
abbrev pub made_name : ℕ → List ℕ
made_name i = slice_index_or names_at_opening i []

-- the store after new identifiers of these names were made one after the other, each chained to the one before
unfoldable pub with_names : CellStore → Option Tagged → List (List ℕ) → CellStore
with_names s link [] = s
with_names s link (name ∷ names) = with_names (with_id s name nil_value link) (Some (new_id s name)) names

-- the last of them
unfoldable pub last_named : CellStore → Option Tagged → List (List ℕ) → Option Tagged
last_named s link [] = link
last_named s link (name ∷ names) = last_named (with_id s name nil_value link) (Some (new_id s name)) names

-- the store as it begins, of which nothing was taken
abbrev pub empty_store : ℕ → CellStore
empty_store bound = record { cells = []; bound = bound; count = None; mark = None }

-- the first n names of opening were made, and nothing else, also no identifier that is not interned: the i-th is the identifier number i, and stands at its place; each takes five cells
pub record HasFirst (n : ℕ) (s : CellStore) (head : Option Tagged) : Type 0 where
  pub makes : s ≡ with_names (empty_store s.bound) None (take n names_at_opening)
  pub newest : head ≡ last_named (empty_store s.bound) None (take n names_at_opening)
  pub named : (i : ℕ) → i < n → IsNamed s.cells head (made_name i) (IdAt (place_of i))
  pub only : (bytes : List ℕ) (id : Tagged) → IsNamed s.cells head bytes id → (i : ℕ) × (i < n) × (bytes ≡ made_name i)
  pub numbered : (i : ℕ) → i < n → ids_before s.cells (place_of i) ≡ i
  pub places : (k : ℕ) → is_id_cell (cell_at s.cells k) ≡ true → (i : ℕ) × (i < n) × (k ≡ place_of i)
  pub many : ids_before s.cells (length s.cells) ≡ n
  pub long : length s.cells ≡ 5 * n
