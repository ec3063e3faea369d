use Rattle.std.proofs.Common.{◌+◌, ◌/◌, length}
use Rattle.rl_syms.specs.Made.{Enters}
use Rattle.rl_world.specs.Counts.{roomed}
use Rattle.rl_read.specs.Stock.{stock_of}
use Rattle.rl_read.proofs.CallsFollow.{makes_none}
use Rattle.rl_read.proofs.NameEntered.{able_named, entered, identifier_entered, making_entered}
use Rattle.rl_read.proofs.ObjectMade.{id_cost_is, identifier_stopped}
use Rattle.rl_read.proofs.MakingKeepsNames.{ok_with_room, room_enough}
use Rattle.rl_read.proofs.StopsAreCounted.{room_counted}
use Rattle.rl_read.proofs.make.new_identifier.Goals as goal

pub returns-in-Err : goal.returns-in-Err
returns-in-Err c =
    rw c.in-Err.ensures.err
    (makes_none c.args.w.now c.in-Err.s c.requires.able
    (identifier_stopped c.args.name.now (stock_of c.args.w.now) c.in-Err.s (rw (← id_cost_is c.args.name.now) c.in-Err.ensures.stop))
    (room_counted c.args.w.now.counts _ _ c.in-Err.s c.in-Err.ensures.stop))

pub unwrap-requires : goal.unwrap-requires
unwrap-requires c =
    ok_with_room c.intern.result _ c.intern.ensures.no_room
    (rw (c.in_default.ensures.counted, ← id_cost_is c.args.name.now) (room_enough c.making_is_kept.ensures c.args.w.now (4 + (length c.args.name.now + 15) / 16) c.requires.able c.in_default.ensures.ok))

-- the name is entered
enters : (c : goal.After-unwrap) → Enters c.args.w.now.cells c.intern.new.c c.args.w.now.syms.head c.intern.new.self.head c.args.name.now c.unwrap.result
enters c = entered c.args.w.now.cells c.intern.new.c c.args.w.now.syms.head c.intern.new.self.head c.args.name.now c.unwrap.result c.requires.free (rw (c.unwrap.ensures, c.in_default.ensures.counted) at c.intern.ensures.ok)

pub returns : goal.returns
returns c = record {
  means = rw (c.in_default.ensures.counted, id_cost_is c.args.name.now) (identifier_entered c.args.w.now c.intern.new.c c.intern.new.self c.args.name.now c.unwrap.result (enters c) (rw (← id_cost_is c.args.name.now) c.in_default.ensures.ok));
  sound = rw c.unwrap.ensures at c.intern.ensures.live;
  able = rw (c.in_default.ensures.counted, id_cost_is c.args.name.now) (able_named c.making_is_kept.ensures c.args.w.now c.intern.new.c c.intern.new.self c.args.name.now c.unwrap.result (enters c) c.intern.ensures.table c.requires.able);
  making =
      rw c.in_default.ensures.counted
      (making_entered c.args.w.now c.intern.new.c c.intern.new.self (roomed c.args.w.now.counts (4 + (length c.args.name.now + 15) / 16)) c.args.name.now c.unwrap.result (enters c)
      (rw c.in_default.ensures.counted at c.intern.ensures.made)
      (rw c.in_default.ensures.counted at c.intern.ensures.adds).live
      (rw c.in_default.ensures.counted at c.intern.ensures.keeps));
}
