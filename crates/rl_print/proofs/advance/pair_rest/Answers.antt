use Rattle.rl_tree.specs.Printing.{NoTurn}
use Rattle.rl_print.specs.declared.walk.Cursor.TheVariants as cursor
use Rattle.rl_print.specs.declared.walk.State.TheVariants as state
use Rattle.rl_print.proofs.Reached.{Turned, ready_turned, rest_no_turn, rest_pair_means, turn_less}
use Rattle.rl_print.proofs.advance.pair_rest.Goals as goal

pub returns-in-Err-clause-err : goal.returns-in-Err-clause-err
returns-in-Err-clause-err c base ready = rw c.in-Err.ensures.err record {
  ending = NoTurn;
  is_stop = c.in-Err.ensures.stop;
  means = rest_no_turn c.meaning_of_reading.ensures base c.args.w.now c.args.d c.requires.pair c.in-Err.ensures.none;
}

pub returns-clause-ok : goal.returns-clause-ok
returns-clause-ok c base ready =
    let turned : Turned c.args.w.now c.turn.new.w = record { world = c.in_default.ensures.world; turns = c.in_default.ensures.taken } in
    record {
      means = rest_pair_means c.meaning_of_reading.ensures base c.args.w.now c.turn.new.w c.args.d c.car-car.result c.cdr-cdr.result turned c.requires.pair c.car-car.ensures.value c.cdr-cdr.ensures.value;
      ready = ready_turned base c.args.w.now c.turn.new.w turned ready;
      next_is = (c.car-car.ensures.live, c.cdr-cdr.ensures.live);
      piece_is = tt;
      less = turn_less c.args.w.now c.turn.new.w (state.Next (cursor.Rest c.args.d)) c.car-car.result (cursor.Rest c.cdr-cdr.result) turned;
    }
