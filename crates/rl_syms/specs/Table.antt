-- Identifiers: blocks of six words, which are the name, the value or none, the property list, the definition or none, the two kinds, and the next identifier of the chain or none. The chain goes from the newest interned identifier to the oldest.
use Rattle.std.specs.Prelude.{◌≡◌, ◌≢◌, ℕ, zero, suc, ◌/◌, ◌%◌, ◌<◌, ◌≤◌, ◌==◌, ◌⊎◌, nat_le, cond, Bool, true, false, List, [], ◌∷◌, length, slice_index, Option, Some, None, IsSome}
use Rattle.std.specs.Option.{ForSome}
use Rattle.rl_tags.specs.Tagged.{Tagged, IdAt, FunAt, tagged_of, index_of}
use Rattle.rl_tags.specs.Ids.{nil_id}
use Rattle.rl_syms.specs.Contents.{ids_before}
use Rattle.rl_cells.specs.Cell.{Cell, cell_at, is_id_cell, is_live, is_str, words_in, bytes_of}
use Rattle.rl_tree.specs.declared.held.Kind.{Kind}
use Rattle.rl_tree.specs.declared.held.Kind.TheVariants.{Expr, Fexpr, Macro}
use Rattle.rl_tree.specs.declared.held.VarKind.{VarKind}
use Rattle.rl_tree.specs.declared.held.VarKind.TheVariants.{Plain, Fluid, Global}

-- what a word holds, or None where its low four bits say that it holds nothing
abbrev pub held_in : ℕ → Option Tagged
held_in w = cond (nat_le (w % 16) 6) (Some (tagged_of w)) None

-- the two kinds in one word: that of the definition, and the declared one
abbrev pub kind_in_word : ℕ → Kind
kind_in_word w = cond (w / 64 == 0) Expr (cond (w / 64 == 1) Fexpr Macro)

abbrev pub var_kind_in : ℕ → VarKind
var_kind_in w = cond (w / 16 % 4 == 0) Plain (cond (w / 16 % 4 == 1) Fluid Global)

abbrev pub of_kind : Kind → Option Tagged → Option (Kind × Tagged)
of_kind k None = None
of_kind k (Some f) = Some (k, f)

-- what an identifier has
pub record SymbolCells : Type 0 where
  pub name : Tagged
  pub value : Option Tagged
  pub plist : Tagged
  pub definition : Option (Kind × Tagged)
  pub kind : VarKind
  pub next : Option Tagged

abbrev pub symbol_of : List ℕ → SymbolCells
symbol_of ws = record {
  name = tagged_of (slice_index ws 0);
  value = held_in (slice_index ws 1);
  plist = tagged_of (slice_index ws 2);
  definition = of_kind (kind_in_word (slice_index ws 4)) (held_in (slice_index ws 3));
  kind = var_kind_in (slice_index ws 4);
  next = held_in (slice_index ws 5);
}

abbrev pub word_in : List Cell → ℕ → ℕ → ℕ
word_in cells k i = slice_index (words_in (cell_at cells k)) i

-- the identifier at a place
abbrev pub symbol_in_cells : List Cell → ℕ → SymbolCells
symbol_in_cells cells k = symbol_of (words_in (cell_at cells k))

abbrev pub name_in_cells : List Cell → ℕ → List ℕ
name_in_cells cells k = bytes_of cells (symbol_in_cells cells k).name

abbrev pub next_at : List Cell → ℕ → Option Tagged
next_at cells k = (symbol_in_cells cells k).next

-- whether a value is an identifier of these cells
abbrev pub is_id : List Cell → Tagged → Bool
is_id cells (IdAt k) = is_id_cell (cell_at cells k)
is_id cells _ = false

abbrev pub chain : ℕ → List Cell → Option Tagged → List ℕ
chain zero cells v = []
chain (suc n) cells (Some (IdAt k)) = k ∷ chain n cells (next_at cells k)
chain (suc n) cells _ = []

-- whether a value is a function pointer
abbrev pub is_pointer : Tagged → Bool
is_pointer (FunAt k) = true
is_pointer _ = false

-- one more than the place of an identifier; 0 for none
abbrev pub rank_of : Option Tagged → ℕ
rank_of (Some (IdAt k)) = suc k
rank_of _ = 0

-- the identifiers from v on; each is older than the one before it
abbrev pub ids_from : List Cell → Option Tagged → List ℕ
ids_from cells v = chain (rank_of v) cells v

-- k is one of these
abbrev pub Among : ℕ → List ℕ → Type 0
Among k [] = ⊥
Among k (x ∷ xs) = (k ≡ x) ⊎ Among k xs

-- none, or an identifier before the place n
abbrev pub IsLink : List Cell → ℕ → Option Tagged → Type 0
IsLink cells n None = Unit {0}
IsLink cells n (Some (IdAt j)) = (j < n) × (is_id_cell (cell_at cells j) ≡ true)
IsLink cells n (Some _) = ⊥

-- a live string of 1 to 255 bytes
pub record IsName (cells : List Cell) (v : Option Tagged) (bytes : List ℕ) : Type 0 where
  pub text : Tagged
  pub is : v ≡ Some text
  pub string : is_str cells text ≡ true
  pub some : 1 ≤ length bytes
  pub short : length bytes ≤ 255

-- each identifier has six words and a name, and is chained to an older one; names on the chain are distinct
pub record IsChained (cells : List Cell) (head : Option Tagged) : Type 0 where
  pub six : (k : ℕ) → is_id_cell (cell_at cells k) ≡ true → length (words_in (cell_at cells k)) ≡ 6
  pub named : (k : ℕ) → is_id_cell (cell_at cells k) ≡ true → IsName cells (held_in (slice_index (words_in (cell_at cells k)) 0)) (name_in_cells cells k)
  pub listed : (k : ℕ) → is_id_cell (cell_at cells k) ≡ true → IsSome (held_in (slice_index (words_in (cell_at cells k)) 2))
  pub linked : (k : ℕ) → is_id_cell (cell_at cells k) ≡ true → IsLink cells k (next_at cells k)
  pub first : IsLink cells (rank_of head) head
  pub distinct : (j k : ℕ) → Among j (ids_from cells head) → Among k (ids_from cells head) → name_in_cells cells j ≡ name_in_cells cells k → j ≡ k

-- where NIL stands
abbrev pub nil_value : Tagged
nil_value = nil_id

-- the chain begins at head, and NIL stands, which was made first and is the property list of a new identifier; a definition is a function pointer
pub record IsTable (cells : List Cell) (head : Option Tagged) : Type 0 where
  pub chained : IsChained cells head
  pub nil : is_live cells nil_value ≡ true
  pub first : ids_before cells (index_of nil_value) ≡ 0
  pub defined : (k : ℕ) → is_id_cell (cell_at cells k) ≡ true → ForSome (held_in (word_in cells k 3)) (λ f. is_pointer f ≡ true)

-- the identifier is on the chain
abbrev pub IsInterned : List Cell → Option Tagged → Tagged → Type 0
IsInterned cells head id = (id ≡ IdAt (index_of id)) × Among (index_of id) (ids_from cells head)

-- the interned identifier of this name
pub record IsNamed (cells : List Cell) (head : Option Tagged) (name : List ℕ) (id : Tagged) : Type 0 where
  pub interned : IsInterned cells head id
  pub name_is : name_in_cells cells (index_of id) ≡ name

-- no interned identifier has this name
pub record IsFree (cells : List Cell) (head : Option Tagged) (name : List ℕ) : Type 0 where
  pub other : (k : ℕ) → Among k (ids_from cells head) → name_in_cells cells k ≢ name
