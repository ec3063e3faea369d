use Rattle.std.proofs.Common.{refl, ◌∙◌, arith}
use Rattle.rl_cells.specs.Cell.{StrCell}
use Rattle.rl_state.proofs.Made.{has_counted, made_ends, string_ends, string_stops, rest_made, rest_refl}
use Rattle.rl_state.proofs.objects.string.Goals as goal

pub unwrap-requires : goal.unwrap-requires
unwrap-requires c = c.string.ensures.full ∙ has_counted c.cells_are_known.ensures.enough c.args.w.now c.room.new.self _ _ c.in-Ok.ensures.counted c.requires.world (rw c.string_cost.ensures at c.in-Ok.ensures.ok)

pub returns-in-Ok-clause-means : goal.returns-in-Ok-clause-means
returns-in-Ok-clause-means c =
    string_ends c.cells_are_known.ensures c.args.w.now c.room.new.self c.string.new.self c.args.bytes.now c.unwrap.result
    (record { counted = (rw c.string_cost.ensures at c.in-Ok.ensures.counted); made = rw c.unwrap.ensures at c.string.ensures.ok; named = rw c.unwrap.ensures at c.string.ensures.names; closed = c.string.ensures.closed; room = (rw c.string_cost.ensures at c.in-Ok.ensures.ok) }) c.requires.world

pub returns-in-Ok-clause-grows : goal.returns-in-Ok-clause-grows
returns-in-Ok-clause-grows c =
    made_ends c.cells_are_known.ensures c.args.w.now c.room.new.self c.string.new.self (StrCell c.args.bytes.now)
    (rw c.string_cost.ensures at c.in-Ok.ensures.counted) (rw c.unwrap.ensures at c.string.ensures.ok) refl (omega arith) c.requires.world

pub returns-in-Ok-clause-rest : goal.returns-in-Ok-clause-rest
returns-in-Ok-clause-rest c = rest_made c.counts_are_taken.ensures c.cells_are_known.ensures.functions c.args.w.now c.room.new.self c.string.new.self (StrCell c.args.bytes.now) _ refl c.in-Ok.ensures.counted (rw c.unwrap.ensures at c.string.ensures.ok)

pub returns-in-Err-clause-means : goal.returns-in-Err-clause-means
returns-in-Err-clause-means c = string_stops c.args.w.now c.room.new.self c.args.bytes.now c.in-Err.why c.in-Err.ensures.err c.requires.world (rw c.string_cost.ensures at c.in-Err.ensures.stop)

pub returns-in-Err-clause-rest : goal.returns-in-Err-clause-rest
returns-in-Err-clause-rest c = rest_refl c.counts_are_taken.ensures c.args.w.now c.room.new.self c.in-Err.ensures.err
