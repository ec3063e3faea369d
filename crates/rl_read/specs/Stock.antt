-- What reading takes and makes in a world, told on its cells: turns, levels, room, and objects.
use Rattle.std.specs.Prelude.{ℕ, zero, suc, ◌+◌, ◌-◌, ◌^◌, nat_le, Bool, true, false, if◌then◌else◌, List, [], ◌∷◌, length, Option, Some, None}
use Rattle.std.specs.Str.{bytes_eq}
use Rattle.rl_tags.specs.Tagged.{Tagged, Number, IdAt, StrAt, PairAt, VectorAt}
use Rattle.rl_cells.specs.Cell.{CellStore, Cell, PairCell, StrCell, VectorCell, cell_at, car_in, cdr_in, car_of, cost_of, grown, changed_at}
use Rattle.rl_syms.specs.Table.{name_in_cells, ids_from, nil_value}
use Rattle.rl_syms.specs.Made.{id_cost, new_id, with_id}
use Rattle.rl_tree.specs.Name.{Name, quote_name}
use Rattle.rl_text.specs.Word.{Atom, Integer, Identifier, String}
use Rattle.rl_text.specs.Maker.{Made, Has, Wants, Maker}
use Rattle.rl_world.specs.Counts.{WorldCounts, tick_stop, ticked, room_stop, roomed}
use Rattle.rl_world.specs.declared.world.World.{World}
use Rattle.rl_world.specs.declared.stop.Stop.{Stop}
use Rattle.rl_world.specs.declared.stop.Stop.TheVariants as stop

-- the cells, where the chain of names begins, the counts, and the levels that are left
pub record Stock : Type 0 where
  pub cells : CellStore
  pub head : Option Tagged
  pub counts : WorldCounts
  pub left : ℕ

abbrev pub stock_of : World → Stock
stock_of w = record { cells = w.cells; head = w.syms.head; counts = w.counts; left = w.levels.bound - w.levels.level }

-- ---- turns and levels

abbrev pub turned_at : Option Stop → Stock → Made Stock (Unit {0}) Stop
turned_at (Some s) k = Wants s k
turned_at None k = Has tt (record k { counts = ticked k.counts })

-- a turn, where bytes take turns
abbrev pub turned : Bool → Stock → Made Stock (Unit {0}) Stop
turned true k = turned_at (tick_stop k.counts) k
turned false k = Has tt k

abbrev pub entered_at : ℕ → Stock → Made Stock (Unit {0}) Stop
entered_at zero k = Wants stop.Depth k
entered_at (suc n) k = Has tt (record k { left = n })

abbrev pub entered : Stock → Made Stock (Unit {0}) Stop
entered k = entered_at k.left k

abbrev pub level_left : Stock → Stock
level_left k = record k { left = suc k.left }

-- ---- objects

abbrev pub and_then_made : {A B : Type 0} → Made Stock A Stop → (A → Stock → Made Stock B Stop) → Made Stock B Stop
and_then_made (Has a k) next = next a k
and_then_made (Wants s k) next = Wants s k

abbrev pub with_room_at : Option Stop → ℕ → Stock → Made Stock (Unit {0}) Stop
with_room_at (Some s) cost k = Wants s k
with_room_at None cost k = Has tt (record k { counts = roomed k.counts cost })

-- room is asked for before cells are taken
abbrev pub with_room : ℕ → Stock → Made Stock (Unit {0}) Stop
with_room cost k = with_room_at (room_stop k.counts k.cells cost) cost k

-- a new object, by what names a place
abbrev pub object_made : (ℕ → Tagged) → Cell → Stock → Made Stock Tagged Stop
object_made at c k = and_then_made (with_room (cost_of c) k) (λ _ k. Has (at (length k.cells.cells)) (record k { cells = grown k.cells c }))

abbrev pub pair_made : Tagged → Tagged → Stock → Made Stock Tagged Stop
pair_made a d k = object_made (λ n. PairAt n) (PairCell a d) k

-- ---- atoms

-- the first of these identifiers that has the name
abbrev pub named_among : List Cell → Name → List ℕ → Option ℕ
named_among cells name [] = None
named_among cells name (i ∷ is) = if bytes_eq name (name_in_cells cells i) then Some i else named_among cells name is

abbrev pub identifier_at : Option ℕ → Name → Stock → Made Stock Tagged Stop
identifier_at (Some i) name k = Has (IdAt i) k
identifier_at None name k = and_then_made (with_room (id_cost name) k) (λ _ k. Has (new_id k.cells name) (record k { cells = with_id k.cells name nil_value k.head; head = Some (new_id k.cells name) }))

-- the interned identifier of a name, which is made where there is none
abbrev pub identifier_made : Name → Stock → Made Stock Tagged Stop
identifier_made name k = identifier_at (named_among k.cells.cells name (ids_from k.cells.cells k.head)) name k

abbrev pub atom_made : Atom → Stock → Made Stock Tagged Stop
atom_made (Integer z) k = Has (Number z) k
atom_made (Identifier name) k = identifier_made name k
atom_made (String bytes) k = object_made (λ n. StrAt n) (StrCell bytes) k

-- ---- lists, vectors and quotes

-- the pairs of a list that is not whole yet, by the first and the last of them
abbrev pub PairChain : Type 0
PairChain = Option (Tagged × Tagged)

abbrev pub stock_with_cdr : Tagged → Tagged → Stock → Stock
stock_with_cdr p v k = record k { cells = record k.cells { cells = changed_at k.cells.cells p (PairCell (car_of k.cells.cells p) v) } }

-- a new pair is hung behind the last one
abbrev pub chain_hung : PairChain → Tagged → Stock → Made Stock PairChain Stop
chain_hung None p k = Has (Some (p, p)) k
chain_hung (Some c) p k = Has (Some (c.0, p)) (stock_with_cdr c.1 p k)

abbrev pub chain_extended : PairChain → Tagged → Stock → Made Stock PairChain Stop
chain_extended c v k = and_then_made (pair_made v nil_value k) (λ p k. chain_hung c p k)

abbrev pub chain_ended : PairChain → Tagged → Stock → Made Stock PairChain Stop
chain_ended None v k = Has None k
chain_ended (Some c) v k = Has (Some c) (stock_with_cdr c.1 v k)

abbrev pub first_of_chain : PairChain → Tagged
first_of_chain None = nil_value
first_of_chain (Some c) = c.0

-- the elements of a list, at most n
abbrev pub elements_from : ℕ → List Cell → Tagged → List Tagged
elements_from (suc n) cells (PairAt p) = car_in (cell_at cells p) ∷ elements_from n cells (cdr_in (cell_at cells p))
elements_from _ cells v = []

-- a vector has at most 2^31 places, so one element more is looked at
abbrev pub elements_of : List Cell → PairChain → List Tagged
elements_of cells c = elements_from (2 ^ 31 + 1) cells (first_of_chain c)

-- of more elements none is made
abbrev pub vector_with : List Tagged → Stock → Made Stock Tagged Stop
vector_with xs k = if nat_le (length xs) (2 ^ 31) then object_made (λ n. VectorAt n) (VectorCell xs) k else Wants stop.Cells k

abbrev pub vector_made : PairChain → Stock → Made Stock Tagged Stop
vector_made c k = vector_with (elements_of k.cells.cells c) k

-- `(QUOTE e)`: the pair of e is made first
abbrev pub quote_made : Tagged → Stock → Made Stock Tagged Stop
quote_made v k = and_then_made (identifier_made quote_name k) (λ q k. and_then_made (pair_made v nil_value k) (λ p k. pair_made q p k))

-- ---- reading in a world

-- whether bytes take turns
abbrev pub in_stock : Bool → Maker Stock Tagged PairChain Stop
in_stock turns = record {
  turn = turned turns;
  enter = entered;
  leave = level_left;
  atom = atom_made;
  nil = nil_value;
  empty = None;
  extended = chain_extended;
  ended = chain_ended;
  list = first_of_chain;
  vector = vector_made;
  quoted = quote_made;
}
