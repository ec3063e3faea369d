-- The states that a world may stand for: what a world determines of a state. Functions, bindings, what is watched, files, and what was read and printed are no part of a world.
use Rattle.std.specs.Prelude.{◌≡◌, ◌≤◌, ℕ, ◌-◌, ◌==◌, Bool, true, false, ◌||◌, List, [], ◌∷◌, length, Option, Some, None}
use Rattle.rl_tags.specs.Tagged.{Tagged, index_of}
use Rattle.rl_tree.specs.Value.{Value, Fun}
use Rattle.rl_tree.specs.declared.held.Kind.{Kind}
use Rattle.rl_cells.specs.Cell as cell
use Rattle.rl_cells.specs.Cell.{Cell, cell_at, is_id_cell, used_of}
use Rattle.rl_syms.specs.Table as table
use Rattle.rl_syms.specs.Table.{ids_from}
use Rattle.rl_world.specs.Counts as counted
use Rattle.rl_world.specs.declared.counts.Expansion as expansion
use Rattle.rl_world.specs.declared.counts.Aside.{Aside}
use Rattle.rl_world.specs.declared.world.World.{World}
use Rattle.rl_meaning.specs.State.{State, Symbol, Definition, Pointer, Counts, Expansion}
use Rattle.rl_meaning.specs.Symbols.{symbol_at, message_id}
use Rattle.rl_meaning.specs.Variables.{Nearest, nearest}
use Rattle.rl_syms.specs.Contents.{ids_before, value_of, store_of}

-- ---- identifiers

abbrev pub is_listed : ℕ → List ℕ → Bool
is_listed k [] = false
is_listed k (x ∷ xs) = k == x || is_listed k xs

-- the number of an identifier
abbrev pub number_in : List Cell → Tagged → ℕ
number_in cells id = ids_before cells (index_of id)

-- the function, and the place in it, that a value points to
abbrev pub pointer_named : Value → Pointer
pointer_named (Fun f place) = record { function = f; place = place }
pointer_named v = record { function = 0; place = 0 }

abbrev pub definition_in : List Cell → Option (Kind × Tagged) → Option Definition
definition_in cells None = None
definition_in cells (Some p) = Some (record { kind = p.0; function = pointer_named (value_of cells p.1) })

abbrev pub option_value_in : List Cell → Option Tagged → Option Value
option_value_in cells None = None
option_value_in cells (Some v) = Some (value_of cells v)

-- what the identifier at a place has, with this value below all bindings
unfoldable pub symbol_meant : List Cell → Option Tagged → ℕ → Option Value → Symbol
symbol_meant cells head k top = record {
  name = table.name_in_cells cells k;
  interned = is_listed k (ids_from cells head);
  top = top;
  properties = value_of cells (table.symbol_in_cells cells k).plist;
  definition = definition_in cells (table.symbol_in_cells cells k).definition;
  kind = (table.symbol_in_cells cells k).kind;
}

-- the value that a variable has: that of its nearest binding, or the one below all
abbrev pub seen_of : Option Nearest → Option Value → Option Value
seen_of None top = top
seen_of (Some b) top = Some b.value

abbrev pub value_seen : State → ℕ → Option Value
value_seen s i = seen_of (nearest i s) (symbol_at s i).top

-- ---- counts

abbrev pub expansion_in : List Cell → ℕ → Option expansion.Expansion → Option Expansion
expansion_in cells inner None = None
expansion_in cells inner (Some e) = Some (record { macro = number_in cells e.name; inner_count = inner - 1; turns = 100000 - e.turns; cells = 1000000 - e.cells })

abbrev pub turns_in : Option ℕ → ℕ → ℕ → ℕ
turns_in None bound turns = bound - turns
turns_in (Some ticks) bound turns = 1000000 - ticks

-- the cells that are left, of opening or of the run; where a compilation expands there is no bound
abbrev pub cells_in : Option Aside → ℕ → ℕ → Option ℕ
cells_in None taken bound = Some (bound - taken)
cells_in (Some aside) taken bound = None

-- opening has 1000000 turns
abbrev pub given_in : Option ℕ → ℕ → ℕ
given_in None bound = bound
given_in (Some ticks) bound = 1000000

abbrev pub counts_in : cell.CellStore → counted.WorldCounts → Counts
counts_in c k = record {
  given = given_in k.opening k.bound;
  turns = turns_in k.opening k.bound k.turns;
  cells = cells_in k.aside (counted.cells_taken k.opening c) (counted.cells_bound_at k.opening k.cells_bound);
  expansion = expansion_in c.cells k.open_count k.outermost;
}

-- ---- all

-- each identifier, and the value that its variable has
pub record ShowsSymbols (cells : List Cell) (head : Option Tagged) (s : State) : Type 0 where
  pub many : length s.symbols ≡ ids_before cells (length cells)
  pub symbols : (k : ℕ) → is_id_cell (cell_at cells k) ≡ true → symbol_at s (ids_before cells k) ≡ symbol_meant cells head k (symbol_at s (ids_before cells k)).top
  pub values : (k : ℕ) → is_id_cell (cell_at cells k) ≡ true → value_seen s (ids_before cells k) ≡ option_value_in cells (table.symbol_in_cells cells k).value

pub record ShowsState (w : World) (s : State) : Type 0 where
  pub store : s.store ≡ store_of w.cells.cells
  pub symbols : ShowsSymbols w.cells.cells w.syms.head s
  pub counts : s.counts ≡ counts_in w.cells w.counts
  pub gensyms : s.gensyms ≡ w.syms.made
  pub column : s.outside.column ≡ w.output.column
  pub line_length : s.outside.line_length ≡ w.output.line_length
  pub taken : s.outside.taken ≡ w.input.given
  -- EMSG!* is GLOBAL, and so is never bound
  pub free : nearest message_id s ≡ None
  -- what is bound is an identifier that there is
  pub bound : (i : ℕ) → length s.symbols ≤ i → nearest i s ≡ None
