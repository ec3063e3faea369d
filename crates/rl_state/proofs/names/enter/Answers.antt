use Rattle.std.proofs.Common.{true}
use Rattle.rl_state.proofs.Made.{grows_refl, has_counted, rest_refl}
use Rattle.rl_state.proofs.Entering.{entered_head, entered_rest, gains_interned, interned_in, interned_made, interned_stops, named_ends, named_grows, not_counted, ok_with_room, table_counted}
use Rattle.rl_state.proofs.names.enter.Goals as goal

pub intern-requires-clause-table : goal.intern-requires-clause-table
intern-requires-clause-table c = table_counted c.args.w.now c.room.new.self _ c.in-Ok.ensures.counted c.requires.world.table

pub unwrap-requires : goal.unwrap-requires
unwrap-requires c = ok_with_room c.intern.result _ c.intern.ensures.no_room (has_counted c.cells_are_known.ensures.enough c.args.w.now c.room.new.self _ _ c.in-Ok.ensures.counted c.requires.world (rw c.identifier_cost.ensures at c.in-Ok.ensures.ok))

pub returns-in-Ok-clause-means : goal.returns-in-Ok-clause-means
returns-in-Ok-clause-means c s shown =
    let law = c.cells_are_known.ensures in
    let w = c.args.w.now in
    let name = c.args.name.now in
    let gains = gains_interned law w name c.requires.some c.requires.short c.requires.world c.requires.free in
    named_ends law w c.room.new.self c.intern.new.c c.intern.new.self c.unwrap.result name w.syms.head (entered_head w name) true not_counted c.requires.world gains
    (interned_in w c.room.new.self name c.requires.free c.intern.new.c c.intern.new.self c.unwrap.result (rw c.identifier_cost.ensures at c.in-Ok.ensures.counted) (rw c.unwrap.ensures at c.intern.ensures.ok) c.intern.ensures.made) c.is_closed.ensures _ s shown
    (interned_made law w name c.requires.world c.requires.free gains (rw c.identifier_cost.ensures at c.in-Ok.ensures.ok) s shown)

pub returns-in-Ok-clause-live : goal.returns-in-Ok-clause-live
returns-in-Ok-clause-live c = rw c.unwrap.ensures at c.intern.ensures.live

pub returns-in-Ok-clause-id : goal.returns-in-Ok-clause-id
returns-in-Ok-clause-id c = rw c.unwrap.ensures at c.intern.ensures.id

pub returns-in-Ok-clause-grows : goal.returns-in-Ok-clause-grows
returns-in-Ok-clause-grows c =
    let law = c.cells_are_known.ensures in
    let w = c.args.w.now in
    let name = c.args.name.now in
    let gains = gains_interned law w name c.requires.some c.requires.short c.requires.world c.requires.free in
    named_grows law w c.room.new.self c.intern.new.c c.intern.new.self c.unwrap.result name w.syms.head (entered_head w name) true not_counted c.requires.world gains
    (interned_in w c.room.new.self name c.requires.free c.intern.new.c c.intern.new.self c.unwrap.result (rw c.identifier_cost.ensures at c.in-Ok.ensures.counted) (rw c.unwrap.ensures at c.intern.ensures.ok) c.intern.ensures.made)

pub returns-in-Ok-clause-rest : goal.returns-in-Ok-clause-rest
returns-in-Ok-clause-rest c =
    let w = c.args.w.now in
    let name = c.args.name.now in
    entered_rest c.counts_are_taken.ensures c.cells_are_known.ensures.functions w c.room.new.self c.intern.new.c c.intern.new.self c.unwrap.result name w.syms.head (entered_head w name) not_counted
    (interned_in w c.room.new.self name c.requires.free c.intern.new.c c.intern.new.self c.unwrap.result (rw c.identifier_cost.ensures at c.in-Ok.ensures.counted) (rw c.unwrap.ensures at c.intern.ensures.ok) c.intern.ensures.made)

pub returns-in-Err-clause-means : goal.returns-in-Err-clause-means
returns-in-Err-clause-means c =
    interned_stops c.cells_are_known.ensures c.args.w.now c.room.new.self c.args.name.now c.in-Err.why c.requires.world c.requires.free c.in-Err.ensures.err
    (rw c.identifier_cost.ensures at c.in-Err.ensures.stop)

pub returns-in-Err-clause-grows : goal.returns-in-Err-clause-grows
returns-in-Err-clause-grows c = grows_refl c.args.w.now c.room.new.self c.in-Err.ensures.err c.requires.world

pub returns-in-Err-clause-rest : goal.returns-in-Err-clause-rest
returns-in-Err-clause-rest c = rest_refl c.counts_are_taken.ensures c.args.w.now c.room.new.self c.in-Err.ensures.err
