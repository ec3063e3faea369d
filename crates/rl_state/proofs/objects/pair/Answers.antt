use Rattle.std.proofs.Common.{refl, ◌∙◌, arith}
use Rattle.rl_cells.specs.Cell.{PairCell}
use Rattle.rl_state.proofs.Pairs.{pair_by_place}
use Rattle.rl_state.proofs.Made.{has_counted, live_counted, made_ends, pair_ends, pair_stops, rest_made, rest_refl}
use Rattle.rl_state.proofs.objects.pair.Goals as goal

pub cons-requires-clause-car_live : goal.cons-requires-clause-car_live
cons-requires-clause-car_live c = live_counted c.args.w.now c.room.new.self _ c.args.a c.in-Ok.ensures.counted c.requires.a_live

pub cons-requires-clause-cdr_live : goal.cons-requires-clause-cdr_live
cons-requires-clause-cdr_live c = live_counted c.args.w.now c.room.new.self _ c.args.d c.in-Ok.ensures.counted c.requires.d_live

pub unwrap-requires : goal.unwrap-requires
unwrap-requires c = c.cons.ensures.full ∙ has_counted c.cells_are_known.ensures.enough c.args.w.now c.room.new.self _ _ c.in-Ok.ensures.counted c.requires.world c.in-Ok.ensures.ok

pub returns-in-Ok-clause-means : goal.returns-in-Ok-clause-means
returns-in-Ok-clause-means c =
    pair_ends c.cells_are_known.ensures c.args.w.now c.room.new.self c.cons.new.self c.args.a c.args.d c.unwrap.result
    (record { counted = c.in-Ok.ensures.counted; made = rw c.unwrap.ensures at c.cons.ensures.ok; named = rw c.unwrap.ensures at c.cons.ensures.names; closed = c.cons.ensures.closed; room = c.in-Ok.ensures.ok }) c.requires.world c.requires.a_live c.requires.d_live

pub returns-in-Ok-clause-grows : goal.returns-in-Ok-clause-grows
returns-in-Ok-clause-grows c =
    made_ends c.cells_are_known.ensures c.args.w.now c.room.new.self c.cons.new.self (PairCell c.args.a c.args.d)
    c.in-Ok.ensures.counted (rw c.unwrap.ensures at c.cons.ensures.ok) refl (omega arith) c.requires.world

pub returns-in-Ok-clause-rest : goal.returns-in-Ok-clause-rest
returns-in-Ok-clause-rest c = rest_made c.counts_are_taken.ensures c.cells_are_known.ensures.functions c.args.w.now c.room.new.self c.cons.new.self (PairCell c.args.a c.args.d) _ refl c.in-Ok.ensures.counted (rw c.unwrap.ensures at c.cons.ensures.ok)

pub returns-in-Err-clause-means : goal.returns-in-Err-clause-means
returns-in-Err-clause-means c = pair_stops c.args.w.now c.room.new.self c.args.a c.args.d c.in-Err.why c.in-Err.ensures.err c.requires.world c.in-Err.ensures.stop

pub returns-in-Err-clause-rest : goal.returns-in-Err-clause-rest
returns-in-Err-clause-rest c = rest_refl c.counts_are_taken.ensures c.args.w.now c.room.new.self c.in-Err.ensures.err

pub returns-in-Ok-clause-pair : goal.returns-in-Ok-clause-pair
returns-in-Ok-clause-pair c = pair_by_place _ c.unwrap.result _ (rw c.unwrap.ensures at c.cons.ensures.names) (rw c.unwrap.ensures at c.cons.ensures.live)
