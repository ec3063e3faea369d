-- What a new object comes to: it stops at the counts, or it is made.
use Rattle.std.proofs.Common.{◌≡◌, ℕ, ◌+◌, ◌/◌, List, length, None, Some, arith}
use Rattle.rl_tags.specs.Tagged.{Tagged}
use Rattle.rl_cells.specs.Cell.{Cell, cost_of, grown}
use Rattle.rl_syms.specs.Made.{id_cost, new_id, with_id}
use Rattle.rl_syms.specs.Table.{nil_value}
use Rattle.rl_text.specs.Maker.{Has, Wants}
use Rattle.rl_world.specs.Counts.{room_stop, roomed}
use Rattle.rl_world.specs.declared.stop.Stop.{Stop}
use Rattle.rl_read.specs.Stock.{Stock, identifier_at, object_made, with_room}

-- the counts do not allow it
pub room_stopped : (cost : ℕ) (k : Stock) (s : Stop) → room_stop k.counts k.cells cost ≡ Some s → with_room cost k ≡ Wants s k
room_stopped cost k s e = rw e

-- there is room
pub room_had : (cost : ℕ) (k : Stock) → room_stop k.counts k.cells cost ≡ None → with_room cost k ≡ Has tt (record k { counts = roomed k.counts cost })
room_had cost k e = rw e

-- no object is made where the counts do not allow it
pub object_stopped : (at : ℕ → Tagged) (c : Cell) (k : Stock) (s : Stop) → room_stop k.counts k.cells (cost_of c) ≡ Some s → object_made at c k ≡ Wants s k
object_stopped at c k s e = rw (room_stopped (cost_of c) k s e)

-- where there is room it stands behind the cells
pub object_had : (at : ℕ → Tagged) (c : Cell) (k : Stock) → room_stop k.counts k.cells (cost_of c) ≡ None → object_made at c k ≡ Has (at (length k.cells.cells)) (record k { cells = grown k.cells c; counts = roomed k.counts (cost_of c) })
object_had at c k e = rw (room_had (cost_of c) k e)

-- a new identifier takes the cells of its name as a string, and three more
pub id_cost_is : (name : List ℕ) → 4 + (length name + 15) / 16 ≡ id_cost name
id_cost_is name = omega arith

-- no identifier is made where the counts do not allow it
pub identifier_stopped : (name : List ℕ) (k : Stock) (s : Stop) → room_stop k.counts k.cells (id_cost name) ≡ Some s → identifier_at None name k ≡ Wants s k
identifier_stopped name k s e = rw (room_stopped (id_cost name) k s e)

-- where there is room it begins the chain of names
pub identifier_had : (name : List ℕ) (k : Stock) → room_stop k.counts k.cells (id_cost name) ≡ None → identifier_at None name k ≡ Has (new_id k.cells name) (record k { cells = with_id k.cells name nil_value k.head; head = Some (new_id k.cells name); counts = roomed k.counts (id_cost name) })
identifier_had name k e = rw (room_had (id_cost name) k e)
