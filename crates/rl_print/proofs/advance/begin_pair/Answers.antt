use Rattle.std.proofs.Common.{length, refl}
use Rattle.rl_tree.specs.Printing.{NoTurn}
use Rattle.rl_print.proofs.Reached.{Turned, pair_begun, root_no_turn}
use Rattle.rl_print.proofs.advance.begin_pair.Goals as goal

pub returns-in-Err-clause-err : goal.returns-in-Err-clause-err
returns-in-Err-clause-err c = rw c.in-Err.ensures.err record {
  ending = NoTurn;
  is_stop = c.in-Err.ensures.stop;
  means = root_no_turn c.meaning_of_reading.ensures c.args.w.now c.args.v c.requires.pair c.in-Err.ensures.none;
}

pub returns-clause-ok : goal.returns-clause-ok
returns-clause-ok c =
    let turned : Turned c.args.w.now c.turn.new.w = record { world = c.in_default.ensures.world; turns = c.in_default.ensures.taken } in
    pair_begun c.meaning_of_reading.ensures (length c.args.w.now.levels.walk) c.args.w.now c.turn.new.w c.args.v c.car-car.result c.cdr-cdr.result _ refl c.requires.table refl turned c.requires.pair c.car-car.ensures.value c.cdr-cdr.ensures.value c.car-car.ensures.live c.cdr-cdr.ensures.live
