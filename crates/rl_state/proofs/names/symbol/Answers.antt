use Rattle.std.proofs.Common.{None, false, ap, arith, ◌∙◌}
use Rattle.rl_syms.specs.declared.table.Syms.{Syms}
use Rattle.rl_meaning.specs.Symbols.{new_symbol}
use Rattle.rl_state.proofs.Made.{grows_refl, has_counted, rest_refl}
use Rattle.rl_state.proofs.Entering.{entered_rest, gains_loose, loose_in, loose_table, named_ends, named_grows, not_counted, symbol_made, symbol_stops, table_counted}
use Rattle.rl_state.proofs.names.symbol.Goals as goal

pub loose-requires-clause-table : goal.loose-requires-clause-table
loose-requires-clause-table c = table_counted c.args.w.now c.room.new.self _ c.in-Ok.ensures.counted c.requires.world.table

pub unwrap-requires : goal.unwrap-requires
unwrap-requires c = c.loose.ensures.full ∙ has_counted c.cells_are_known.ensures.enough c.args.w.now c.room.new.self _ _ c.in-Ok.ensures.counted c.requires.world (rw c.identifier_cost.ensures at c.in-Ok.ensures.ok)

pub returns-in-Ok-clause-means : goal.returns-in-Ok-clause-means
returns-in-Ok-clause-means c s shown =
    let law = c.cells_are_known.ensures in
    let w = c.args.w.now in
    let r = c.room.new.self in
    let name = c.args.name.now in
    let into = loose_in w r c.loose.new.c c.loose.new.self c.unwrap.result name not_counted (rw c.identifier_cost.ensures at c.in-Ok.ensures.counted) (rw c.unwrap.ensures at c.loose.ensures.ok) (ap (λ (n : Syms). n.head) c.loose.ensures.same) (ap (λ (n : Syms). n.made) c.loose.ensures.same) (rw c.unwrap.ensures at c.loose.ensures.place) in
    let gains = gains_loose law c.names_are_identifiers.ensures w name not_counted c.requires.some c.requires.short c.requires.world (loose_table w r c.loose.new.c c.loose.new.self c.unwrap.result name not_counted into c.loose.ensures.table) (omega arith) in
    named_ends law w r c.loose.new.c c.loose.new.self c.unwrap.result name None w.syms.head false not_counted c.requires.world gains into c.is_closed.ensures _ s shown
    (symbol_made law w name None w.syms.head false not_counted c.requires.world gains (rw c.identifier_cost.ensures at c.in-Ok.ensures.ok) s shown)

pub returns-in-Ok-clause-live : goal.returns-in-Ok-clause-live
returns-in-Ok-clause-live c = rw c.unwrap.ensures at c.loose.ensures.live

pub returns-in-Ok-clause-id : goal.returns-in-Ok-clause-id
returns-in-Ok-clause-id c = rw c.unwrap.ensures at c.loose.ensures.id

pub returns-in-Ok-clause-grows : goal.returns-in-Ok-clause-grows
returns-in-Ok-clause-grows c =
    let law = c.cells_are_known.ensures in
    let w = c.args.w.now in
    let r = c.room.new.self in
    let name = c.args.name.now in
    let into = loose_in w r c.loose.new.c c.loose.new.self c.unwrap.result name not_counted (rw c.identifier_cost.ensures at c.in-Ok.ensures.counted) (rw c.unwrap.ensures at c.loose.ensures.ok) (ap (λ (n : Syms). n.head) c.loose.ensures.same) (ap (λ (n : Syms). n.made) c.loose.ensures.same) (rw c.unwrap.ensures at c.loose.ensures.place) in
    let gains = gains_loose law c.names_are_identifiers.ensures w name not_counted c.requires.some c.requires.short c.requires.world (loose_table w r c.loose.new.c c.loose.new.self c.unwrap.result name not_counted into c.loose.ensures.table) (omega arith) in
    named_grows law w r c.loose.new.c c.loose.new.self c.unwrap.result name None w.syms.head false not_counted c.requires.world gains into

pub returns-in-Ok-clause-rest : goal.returns-in-Ok-clause-rest
returns-in-Ok-clause-rest c =
    entered_rest c.counts_are_taken.ensures c.cells_are_known.ensures.functions c.args.w.now c.room.new.self c.loose.new.c c.loose.new.self c.unwrap.result c.args.name.now None c.args.w.now.syms.head not_counted
    (loose_in c.args.w.now c.room.new.self c.loose.new.c c.loose.new.self c.unwrap.result c.args.name.now not_counted (rw c.identifier_cost.ensures at c.in-Ok.ensures.counted) (rw c.unwrap.ensures at c.loose.ensures.ok) (ap (λ (n : Syms). n.head) c.loose.ensures.same) (ap (λ (n : Syms). n.made) c.loose.ensures.same) (rw c.unwrap.ensures at c.loose.ensures.place))

pub returns-in-Err-clause-means : goal.returns-in-Err-clause-means
returns-in-Err-clause-means c = symbol_stops c.args.w.now c.room.new.self (new_symbol c.args.name.now false) c.in-Err.why c.requires.world c.in-Err.ensures.err (rw c.identifier_cost.ensures at c.in-Err.ensures.stop)

pub returns-in-Err-clause-grows : goal.returns-in-Err-clause-grows
returns-in-Err-clause-grows c = grows_refl c.args.w.now c.room.new.self c.in-Err.ensures.err c.requires.world

pub returns-in-Err-clause-rest : goal.returns-in-Err-clause-rest
returns-in-Err-clause-rest c = rest_refl c.counts_are_taken.ensures c.args.w.now c.room.new.self c.in-Err.ensures.err
