use Rattle.rl_tree.specs.Printing.{NoTurn, TooDeep}
use Rattle.rl_print.proofs.Reached.{Pushed, Turned, pair_means, pair_less, pair_no_level, pair_no_turn, ready_turned}
use Rattle.rl_print.proofs.advance.pair_element.Goals as goal

pub returns-in-Err-clause-err : goal.returns-in-Err-clause-err
returns-in-Err-clause-err c base ready = rw c.in-Err.ensures.err record {
  ending = NoTurn;
  is_stop = c.in-Err.ensures.stop;
  means = pair_no_turn c.meaning_of_reading.ensures base c.args.w.now c.args.v c.args.outer c.requires.pair c.in-Err.ensures.none;
}

pub returns-in-Err-push-clause-err : goal.returns-in-Err-push-clause-err
returns-in-Err-push-clause-err c base ready =
    let turned : Turned c.args.w.now c.turn.new.w = record { world = c.in_default.ensures.world; turns = c.in_default.ensures.taken } in
    rw c.in-Err-push.ensures.err record {
      ending = TooDeep;
      is_stop = c.in-Err-push.ensures.stop;
      means = pair_no_level c.meaning_of_reading.ensures base c.args.w.now c.turn.new.w c.args.v c.args.outer turned c.requires.pair c.in-Err-push.ensures.none;
    }

pub returns-clause-ok : goal.returns-clause-ok
returns-clause-ok c base ready =
    let turned : Turned c.args.w.now c.turn.new.w = record { world = c.in_default.ensures.world; turns = c.in_default.ensures.taken } in
    let pushed : Pushed base c.turn.new.w c.push.new.w c.args.outer = record { world = c.in_default-push.ensures.world; places = c.in_default-push.ensures.places base (ready_turned base c.args.w.now c.turn.new.w turned ready); levels = c.in_default-push.ensures.levels } in
    record {
      means = pair_means c.meaning_of_reading.ensures base c.args.w.now c.turn.new.w c.push.new.w c.args.v c.car-car.result c.cdr-cdr.result c.args.outer turned pushed c.requires.pair c.car-car.ensures.value c.cdr-cdr.ensures.value;
      ready = c.in_default-push.ensures.ready base (ready_turned base c.args.w.now c.turn.new.w turned ready);
      next_is = (c.car-car.ensures.live, c.cdr-cdr.ensures.live);
      piece_is = tt;
      less = pair_less base c.args.w.now c.turn.new.w c.push.new.w c.args.v c.car-car.result c.cdr-cdr.result c.args.outer turned pushed c.in_default-push.ensures.kept;
    }
