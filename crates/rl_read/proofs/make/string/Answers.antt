use Rattle.std.proofs.Common.{◌≡◌, ◌∙◌, arith, refl}
use Rattle.rl_tags.specs.Tagged.{StrAt}
use Rattle.rl_cells.specs.Cell.{StrCell, cost_of, grown}
use Rattle.rl_world.specs.Counts.{roomed}
use Rattle.rl_read.specs.Stock.{stock_of}
use Rattle.rl_read.proofs.CallsFollow.{makes_none}
use Rattle.rl_read.proofs.ObjectMade.{object_had, object_stopped}
use Rattle.rl_read.proofs.MakingKeepsNames.{able_grown, making_grown, room_enough}
use Rattle.rl_read.proofs.StopsAreCounted.{room_counted}
use Rattle.rl_read.proofs.make.string.Goals as goal

pub returns-in-Err : goal.returns-in-Err
returns-in-Err c =
    rw c.in-Err.ensures.err
    (makes_none c.args.w.now c.in-Err.s c.requires.able
    (object_stopped (λ n. StrAt n) (StrCell c.args.bytes.now) (stock_of c.args.w.now) c.in-Err.s c.in-Err.ensures.stop)
    (room_counted c.args.w.now.counts _ _ c.in-Err.s c.in-Err.ensures.stop))

pub unwrap-requires : goal.unwrap-requires
unwrap-requires c = c.string.ensures.full ∙ rw c.in_default.ensures.counted (room_enough c.making_is_kept.ensures c.args.w.now (cost_of (StrCell c.args.bytes.now)) c.requires.able c.in_default.ensures.ok)

made : (c : goal.After-unwrap) → c.string.new.self ≡ grown c.room.new.self.cells (StrCell c.args.bytes.now)
made c = rw c.unwrap.ensures at c.string.ensures.ok

pub returns : goal.returns
returns c = record {
  means = rw (made c, rw c.unwrap.ensures at c.string.ensures.names, c.in_default.ensures.counted) (object_had (λ n. StrAt n) (StrCell c.args.bytes.now) (stock_of c.args.w.now) c.in_default.ensures.ok);
  sound = rw c.unwrap.ensures at c.string.ensures.live;
  able = rw (made c, c.in_default.ensures.counted) (able_grown c.making_is_kept.ensures c.args.w.now (StrCell c.args.bytes.now) refl (omega arith) c.requires.able);
  making =
      rw (made c, c.in_default.ensures.counted)
      (making_grown c.making_is_kept.ensures.kept c.making_is_kept.ensures.leave c.args.w.now (StrCell c.args.bytes.now) (roomed c.args.w.now.counts (cost_of (StrCell c.args.bytes.now))) refl c.requires.able.table);
}
