use Rattle.rl_state.proofs.Made.{grows_refl, has_counted, rest_refl}
use Rattle.rl_state.proofs.Entering.{entered_rest, table_counted}
use Rattle.std.proofs.Common.{None}
use Rattle.rl_state.proofs.Gensyms.{counted_on, few_made, gensym_ends, gensym_fits, gensym_grows, gensym_in, gensym_stops, next_name}
use Rattle.rl_state.proofs.names.gensym.Goals as goal

pub gensym-requires : goal.gensym-requires
gensym-requires c = record { table = table_counted c.args.w.now c.room.new.self _ c.in-Ok.ensures.counted c.requires.table }

pub unwrap-requires : goal.unwrap-requires
unwrap-requires c =
    let few = few_made c.cells_are_known.ensures c.args.w.now c.places-places.result c.requires c.places-places.ensures c.places-places.type_inv in
    gensym_fits c.args.w.now c.room.new.self c.gensym.result few c.in-Ok.ensures.counted c.gensym.ensures.no_room (has_counted c.cells_are_known.ensures.enough c.args.w.now c.room.new.self _ _ c.in-Ok.ensures.counted c.requires c.in-Ok.ensures.ok)

pub returns-in-Ok-clause-means : goal.returns-in-Ok-clause-means
returns-in-Ok-clause-means c =
    let w = c.args.w.now in
    let r = c.room.new.self in
    let few = few_made c.cells_are_known.ensures w c.places-places.result c.requires c.places-places.ensures c.places-places.type_inv in
    let into = gensym_in w r c.gensym.new.c c.gensym.new.self c.unwrap.result few c.in-Ok.ensures.counted (rw c.unwrap.ensures at c.gensym.ensures.ok) c.gensym.ensures.head (rw c.unwrap.ensures at c.gensym.ensures.counted) in
    gensym_ends c.cells_are_known.ensures c.names_are_identifiers.ensures w r c.gensym.new.c c.gensym.new.self c.unwrap.result few c.requires into c.gensym.ensures.table c.is_closed.ensures c.in-Ok.ensures.ok

pub returns-in-Ok-clause-live : goal.returns-in-Ok-clause-live
returns-in-Ok-clause-live c = rw c.unwrap.ensures at c.gensym.ensures.live

pub returns-in-Ok-clause-id : goal.returns-in-Ok-clause-id
returns-in-Ok-clause-id c = rw c.unwrap.ensures at c.gensym.ensures.id

pub returns-in-Ok-clause-grows : goal.returns-in-Ok-clause-grows
returns-in-Ok-clause-grows c =
    let w = c.args.w.now in
    let r = c.room.new.self in
    let few = few_made c.cells_are_known.ensures w c.places-places.result c.requires c.places-places.ensures c.places-places.type_inv in
    let into = gensym_in w r c.gensym.new.c c.gensym.new.self c.unwrap.result few c.in-Ok.ensures.counted (rw c.unwrap.ensures at c.gensym.ensures.ok) c.gensym.ensures.head (rw c.unwrap.ensures at c.gensym.ensures.counted) in
    gensym_grows c.cells_are_known.ensures c.names_are_identifiers.ensures w r c.gensym.new.c c.gensym.new.self c.unwrap.result few c.requires into c.gensym.ensures.table

pub returns-in-Ok-clause-rest : goal.returns-in-Ok-clause-rest
returns-in-Ok-clause-rest c =
    let w = c.args.w.now in
    let r = c.room.new.self in
    let few = few_made c.cells_are_known.ensures w c.places-places.result c.requires c.places-places.ensures c.places-places.type_inv in
    entered_rest c.counts_are_taken.ensures c.cells_are_known.ensures.functions w r c.gensym.new.c c.gensym.new.self c.unwrap.result (next_name w) None w.syms.head counted_on
    (gensym_in w r c.gensym.new.c c.gensym.new.self c.unwrap.result few c.in-Ok.ensures.counted (rw c.unwrap.ensures at c.gensym.ensures.ok) c.gensym.ensures.head (rw c.unwrap.ensures at c.gensym.ensures.counted))

pub returns-in-Err-clause-means : goal.returns-in-Err-clause-means
returns-in-Err-clause-means c =
    gensym_stops c.args.w.now c.room.new.self c.in-Err.why (few_made c.cells_are_known.ensures c.args.w.now c.places-places.result c.requires c.places-places.ensures c.places-places.type_inv) c.requires c.in-Err.ensures.err c.in-Err.ensures.stop

pub returns-in-Err-clause-grows : goal.returns-in-Err-clause-grows
returns-in-Err-clause-grows c = grows_refl c.args.w.now c.room.new.self c.in-Err.ensures.err c.requires

pub returns-in-Err-clause-rest : goal.returns-in-Err-clause-rest
returns-in-Err-clause-rest c = rest_refl c.counts_are_taken.ensures c.args.w.now c.room.new.self c.in-Err.ensures.err
