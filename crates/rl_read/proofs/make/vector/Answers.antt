use Rattle.std.proofs.Common.{◌≡◌, ◌∙◌, ℕ, ◌+◌, ◌/◌, List, arith, length, refl, replicate, subst, sym}
use Rattle.std.proofs.lemmas.List.{length-replicate}
use Rattle.rl_tags.specs.Ids.{nil_id}
use Rattle.rl_tags.specs.Tagged.{Tagged, VectorAt}
use Rattle.rl_cells.specs.Cell.{VectorCell, grown, placed}
use Rattle.rl_world.specs.Counts.{roomed}
use Rattle.rl_world.specs.declared.world.World.{World}
use Rattle.rl_text.specs.Maker.{Has}
use Rattle.rl_world.specs.declared.stop.Stop.TheVariants as stop
use Rattle.rl_read.specs.Stock.{elements_from, first_of_chain, stock_of, vector_made}
use Rattle.rl_read.specs.Frames.{AreReadyToMake, IsMaking, chain_of}
use Rattle.rl_read.proofs.CallsFollow.{makes_none}
use Rattle.rl_read.proofs.StopsAreCounted.{room_counted}
use Rattle.rl_read.proofs.VectorOfList.{elements_counted, elements_few, first_live, vector_few, vector_lacks, vector_many, vector_world}
use Rattle.rl_read.proofs.ObjectMade.{object_had, object_stopped}
use Rattle.rl_read.proofs.MakingKeepsNames.{able_grown, making_grown, room_enough}
use Rattle.rl_read.proofs.MakingStays.{making_trans}
use Rattle.rl_read.proofs.make.vector.Goals as goal

pub overflow_add-n : goal.overflow_add-n
overflow_add-n c = omega (arith, c.count-n.ensures, elements_few 2147483649 c.args.w.now.cells.cells c.first_of-list.result)

pub returns-then-n-gt-MOST_PLACES : goal.returns-then-n-gt-MOST_PLACES
returns-then-n-gt-MOST_PLACES c =
    makes_none c.args.w.now stop.Cells c.requires.able (vector_many (chain_of c.args.chain.now) (stock_of c.args.w.now) c.first_of-list.result c.count-n.result c.first_of-list.ensures c.count-n.ensures (omega arith)) refl

pub returns-in-Err : goal.returns-in-Err
returns-in-Err c =
    rw c.in-Err.ensures.err
    (makes_none c.args.w.now c.in-Err.s c.requires.able
    (vector_lacks (chain_of c.args.chain.now) (stock_of c.args.w.now) (stock_of c.args.w.now) c.first_of-list.result c.count-n.result c.in-Err.s c.first_of-list.ensures c.count-n.ensures (omega arith)
    (object_stopped (λ n. VectorAt n) (VectorCell (elements_from 2147483649 c.args.w.now.cells.cells c.first_of-list.result)) (stock_of c.args.w.now) c.in-Err.s (rw (← c.count-n.ensures) c.in-Err.ensures.stop)))
    (room_counted c.args.w.now.counts c.args.w.now.cells (1 + (c.count-n.result + 1) / 2) c.in-Err.s c.in-Err.ensures.stop))

pub vector-requires-clause-short : goal.vector-requires-clause-short
vector-requires-clause-short c = omega (arith, c.count-n.ensures, elements_few 2147483649 c.args.w.now.cells.cells c.first_of-list.result)

pub count-n-requires : goal.count-n-requires
count-n-requires c = rw c.first_of-list.ensures (first_live c.args.w.now.cells.cells c.args.w.now.syms.head c.args.chain.now c.requires.able.table c.requires.chain)

pub unwrap-v-requires : goal.unwrap-v-requires
unwrap-v-requires c =
    c.vector.ensures.full ∙ rw (c.in_default.ensures.counted, length-replicate) (room_enough c.making_is_kept.ensures c.args.w.now (1 + (c.count-n.result + 1) / 2) c.requires.able c.in_default.ensures.ok)

pub fill-requires-clause-able : goal.fill-requires-clause-able
fill-requires-clause-able c =
    let made : c.vector.new.self ≡ grown c.room.new.self.cells (VectorCell (replicate c.count-n.result nil_id)) = rw c.unwrap-v.ensures at c.vector.ensures.ok in
    rw (made, c.in_default.ensures.counted)
    (subst (λ (n : ℕ). AreReadyToMake (grown c.args.w.now.cells (VectorCell (replicate c.count-n.result nil_id))) c.args.w.now.syms.head (roomed c.args.w.now.counts (1 + (n + 1) / 2))) (length-replicate c.count-n.result nil_id)
    (able_grown c.making_is_kept.ensures c.args.w.now (VectorCell (replicate c.count-n.result nil_id)) refl (omega arith) c.requires.able))

pub fill-requires-clause-list : goal.fill-requires-clause-list
fill-requires-clause-list c =
    let made : c.vector.new.self ≡ grown c.room.new.self.cells (VectorCell (replicate c.count-n.result nil_id)) = rw c.unwrap-v.ensures at c.vector.ensures.ok in
    rw (made, c.in_default.ensures.counted, c.first_of-list.ensures)
    (c.objects_are_added.ensures.live c.args.w.now.cells.cells (placed (VectorCell (replicate c.count-n.result nil_id))) (first_of_chain (chain_of c.args.chain.now))
    (first_live c.args.w.now.cells.cells c.args.w.now.syms.head c.args.chain.now c.requires.able.table c.requires.chain))

pub fill-requires-clause-elements : goal.fill-requires-clause-elements
fill-requires-clause-elements c =
    let made : c.vector.new.self ≡ grown c.room.new.self.cells (VectorCell (replicate c.count-n.result nil_id)) = rw c.unwrap-v.ensures at c.vector.ensures.ok in
    rw (made, c.in_default.ensures.counted, elements_counted c.objects_are_added.ensures 2147483649 c.count-n.result (replicate c.count-n.result nil_id) c.args.w.now.cells.cells c.first_of-list.result c.count-n.ensures)
    (sym c.count-n.ensures)

means : (c : goal.After-fill) → vector_made (chain_of c.args.chain.now) (stock_of c.args.w.now) ≡ Has c.unwrap-v.result (stock_of c.fill.new.w)
means c =
    let made : c.vector.new.self ≡ grown c.room.new.self.cells (VectorCell (replicate c.count-n.result nil_id)) = rw c.unwrap-v.ensures at c.vector.ensures.ok in
    let named : c.unwrap-v.result ≡ VectorAt (length c.room.new.self.cells.cells) = rw c.unwrap-v.ensures at c.vector.ensures.names in
    let list = c.first_of-list.result in
    let n = c.count-n.result in
    let xs : List Tagged = elements_from 2147483649 c.args.w.now.cells.cells list in
    let final =
    vector_world c.objects_are_added.ensures c.args.w.now c.room.new.self c.fill.new.w c.vector.new.self list c.unwrap-v.result 2147483649 n c.count-n.ensures c.in_default.ensures.counted named made
    c.fill.ensures.filled in
    vector_few (chain_of c.args.chain.now) (stock_of c.args.w.now) list n c.first_of-list.ensures c.count-n.ensures (omega arith)
    ∙ rw (final, named, c.in_default.ensures.counted) (object_had (λ n. VectorAt n) (VectorCell xs) (stock_of c.args.w.now) (rw (← c.count-n.ensures) c.in_default.ensures.ok))

making : (c : goal.After-fill) → IsMaking c.args.w.now c.fill.new.w
making c =
    let made : c.vector.new.self ≡ grown c.room.new.self.cells (VectorCell (replicate c.count-n.result nil_id)) = rw c.unwrap-v.ensures at c.vector.ensures.ok in
    let with_vector : World = record c.args.w.now { cells = grown c.args.w.now.cells (VectorCell (replicate c.count-n.result nil_id)); counts = roomed c.args.w.now.counts (1 + (c.count-n.result + 1) / 2) } in
    making_trans c.args.w.now with_vector c.fill.new.w
    (making_grown c.making_is_kept.ensures.kept c.making_is_kept.ensures.leave c.args.w.now (VectorCell (replicate c.count-n.result nil_id)) (roomed c.args.w.now.counts (1 + (c.count-n.result + 1) / 2)) refl c.requires.able.table)
    (rw (made, c.in_default.ensures.counted) at c.fill.ensures.none.making)

pub returns : goal.returns
returns c = record { means = means c; sound = c.fill.ensures.none.making.live c.unwrap-v.result (rw c.unwrap-v.ensures at c.vector.ensures.live); able = c.fill.ensures.none.able; making = making c }
