use Rattle.std.proofs.Common.{refl, ◌∙◌, arith}
use Rattle.rl_state.proofs.Made.{grows_refl, has_counted, made_ends}
use Rattle.rl_state.proofs.HeldWords.{blank_function, function_ends, function_gains, function_rest, function_stops, function_takes}
use Rattle.rl_state.proofs.functions.function.Goals as goal

pub unwrap-requires : goal.unwrap-requires
unwrap-requires c = c.block.ensures.full ∙ has_counted c.cells_are_known.ensures.enough c.args.w.now c.room.new.self _ _ c.in-Ok.ensures.counted c.requires.world (rw c.function_cost.ensures at c.in-Ok.ensures.ok)

pub returns-in-Ok-clause-means : goal.returns-in-Ok-clause-means
returns-in-Ok-clause-means c =
    function_ends c.cells_are_known.ensures c.args.w.now c.room.new.self c.block.new.self c.args.words c.unwrap.result
    (record { counted = (rw c.function_cost.ensures at c.in-Ok.ensures.counted); made = rw c.unwrap.ensures at c.block.ensures.ok; named = rw c.unwrap.ensures at c.block.ensures.names; closed = c.block.ensures.closed; room = (rw c.function_cost.ensures at c.in-Ok.ensures.ok) }) c.requires.some c.requires.world

pub returns-in-Ok-clause-gains : goal.returns-in-Ok-clause-gains
returns-in-Ok-clause-gains c =
    function_gains c.cells_are_known.ensures.functions c.args.w.now c.room.new.self c.block.new.self c.args.words c.unwrap.result (rw c.function_cost.ensures at c.in-Ok.ensures.counted) (rw c.unwrap.ensures at c.block.ensures.ok) (rw c.unwrap.ensures at c.block.ensures.names)
    (let same = c.places-places.ensures in let few = c.places-places.type_inv in omega (arith, same, few))

pub returns-in-Ok-clause-live : goal.returns-in-Ok-clause-live
returns-in-Ok-clause-live c = rw c.unwrap.ensures at c.block.ensures.live

pub returns-in-Ok-clause-grows : goal.returns-in-Ok-clause-grows
returns-in-Ok-clause-grows c =
    made_ends c.cells_are_known.ensures c.args.w.now c.room.new.self c.block.new.self (blank_function c.args.words)
    (rw c.function_cost.ensures at c.in-Ok.ensures.counted) (rw c.unwrap.ensures at c.block.ensures.ok) refl (function_takes c.args.words c.requires.some) c.requires.world

pub returns-in-Ok-clause-rest : goal.returns-in-Ok-clause-rest
returns-in-Ok-clause-rest c = function_rest c.args.w.now c.room.new.self c.block.new.self _ c.in-Ok.ensures.counted

pub returns-in-Err-clause-means : goal.returns-in-Err-clause-means
returns-in-Err-clause-means c = function_stops c.args.w.now c.room.new.self c.args.words c.in-Err.why c.in-Err.ensures.err c.requires.world c.requires.some (rw c.function_cost.ensures at c.in-Err.ensures.stop)

pub returns-in-Err-clause-grows : goal.returns-in-Err-clause-grows
returns-in-Err-clause-grows c = grows_refl c.args.w.now c.room.new.self c.in-Err.ensures.err c.requires.world
