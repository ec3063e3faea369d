use Rattle.std.proofs.Common.{◌≡◌, ◌∙◌, arith, length, refl}
use Rattle.rl_tags.specs.Tagged.{PairAt}
use Rattle.rl_cells.specs.Cell.{PairCell, grown}
use Rattle.rl_world.specs.Counts.{roomed}
use Rattle.rl_read.specs.Stock.{stock_of}
use Rattle.rl_read.proofs.CallsFollow.{makes_none}
use Rattle.rl_read.proofs.ObjectMade.{object_had, object_stopped}
use Rattle.rl_read.proofs.MakingKeepsNames.{able_grown, making_grown, room_enough}
use Rattle.rl_read.proofs.StopsAreCounted.{room_counted}
use Rattle.rl_read.proofs.make.pair.Goals as goal

pub returns-in-Err-clause-made : goal.returns-in-Err-clause-made
returns-in-Err-clause-made c =
    rw c.in-Err.ensures.err
    (makes_none c.args.w.now c.in-Err.s c.requires.able
    (object_stopped (λ n. PairAt n) (PairCell c.args.car c.args.cdr) (stock_of c.args.w.now) c.in-Err.s c.in-Err.ensures.stop)
    (room_counted c.args.w.now.counts _ 1 c.in-Err.s c.in-Err.ensures.stop))

pub unwrap-requires : goal.unwrap-requires
unwrap-requires c = c.cons.ensures.full ∙ rw c.in_default.ensures.counted (room_enough c.making_is_kept.ensures c.args.w.now 1 c.requires.able c.in_default.ensures.ok)

made : (c : goal.After-unwrap) → c.cons.new.self ≡ grown c.room.new.self.cells (PairCell c.args.car c.args.cdr)
made c = rw c.unwrap.ensures at c.cons.ensures.ok

named : (c : goal.After-unwrap) → c.unwrap.result ≡ PairAt (length c.room.new.self.cells.cells)
named c = rw c.unwrap.ensures at c.cons.ensures.names

pub returns-clause-made : goal.returns-clause-made
returns-clause-made c = record {
  means = rw (made c, named c, c.in_default.ensures.counted) (object_had (λ n. PairAt n) (PairCell c.args.car c.args.cdr) (stock_of c.args.w.now) c.in_default.ensures.ok);
  sound = let live = rw c.unwrap.ensures at c.cons.ensures.live in rw (named c) (rw (named c) at live);
  able = rw (made c, c.in_default.ensures.counted) (able_grown c.making_is_kept.ensures c.args.w.now (PairCell c.args.car c.args.cdr) refl (omega arith) c.requires.able);
  making = rw (made c, c.in_default.ensures.counted) (making_grown c.making_is_kept.ensures.kept c.making_is_kept.ensures.leave c.args.w.now (PairCell c.args.car c.args.cdr) (roomed c.args.w.now.counts 1) refl c.requires.able.table);
}
