use Rattle.std.proofs.Common.{refl, ◌∙◌, arith}
use Rattle.std.specs.Prelude.{replicate}
use Rattle.rl_tags.specs.Ids.{nil_id}
use Rattle.rl_cells.specs.Cell.{VectorCell}
use Rattle.rl_state.proofs.Made.{has_counted, made_ends, vector_ends, vector_stops, rest_made, rest_refl}
use Rattle.rl_state.proofs.objects.vector.Goals as goal

pub unwrap-requires : goal.unwrap-requires
unwrap-requires c = c.vector.ensures.full ∙ (has_counted c.cells_are_known.ensures.enough c.args.w.now c.room.new.self _ _ c.in-Ok.ensures.counted c.requires.world (rw c.vector_cost.ensures at c.in-Ok.ensures.ok))

pub returns-in-Ok-clause-means : goal.returns-in-Ok-clause-means
returns-in-Ok-clause-means c =
    vector_ends c.cells_are_known.ensures c.args.w.now c.room.new.self c.vector.new.self c.args.places c.unwrap.result
    (record { counted = (rw c.vector_cost.ensures at c.in-Ok.ensures.counted); made = rw c.unwrap.ensures at c.vector.ensures.ok; named = rw c.unwrap.ensures at c.vector.ensures.names; closed = c.vector.ensures.closed; room = (rw c.vector_cost.ensures at c.in-Ok.ensures.ok) }) c.requires.world

pub returns-in-Ok-clause-grows : goal.returns-in-Ok-clause-grows
returns-in-Ok-clause-grows c =
    made_ends c.cells_are_known.ensures c.args.w.now c.room.new.self c.vector.new.self (VectorCell (replicate c.args.places nil_id))
    (rw c.vector_cost.ensures at c.in-Ok.ensures.counted) (rw c.unwrap.ensures at c.vector.ensures.ok) refl (omega arith) c.requires.world

pub returns-in-Ok-clause-rest : goal.returns-in-Ok-clause-rest
returns-in-Ok-clause-rest c = rest_made c.counts_are_taken.ensures c.cells_are_known.ensures.functions c.args.w.now c.room.new.self c.vector.new.self (VectorCell (replicate c.args.places nil_id)) _ refl c.in-Ok.ensures.counted (rw c.unwrap.ensures at c.vector.ensures.ok)

pub returns-in-Err-clause-means : goal.returns-in-Err-clause-means
returns-in-Err-clause-means c = vector_stops c.args.w.now c.room.new.self c.args.places c.in-Err.why c.in-Err.ensures.err c.requires.world (rw c.vector_cost.ensures at c.in-Err.ensures.stop)

pub returns-in-Err-clause-rest : goal.returns-in-Err-clause-rest
returns-in-Err-clause-rest c = rest_refl c.counts_are_taken.ensures c.args.w.now c.room.new.self c.in-Err.ensures.err
