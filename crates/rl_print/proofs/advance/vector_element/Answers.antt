use Rattle.std.proofs.Common.{false}
use Rattle.rl_tree.specs.Printing.{TooDeep}
use Rattle.rl_print.proofs.Reached.{Pushed, pushed_view, vector_cursor, vector_less, vector_means, vector_no_level}
use Rattle.rl_print.proofs.advance.vector_element.Goals as goal

pub returns-in-Err-clause-err : goal.returns-in-Err-clause-err
returns-in-Err-clause-err c base ready = rw c.in-Err.ensures.err record {
  ending = TooDeep;
  is_stop = c.in-Err.ensures.stop;
  means = vector_no_level c.meaning_of_reading.ensures base c.args.w.now c.args.v c.args.outer c.requires.vector c.in-Err.ensures.none;
}

pub returns-clause-ok : goal.returns-clause-ok
returns-clause-ok c base ready =
    let pushed : Pushed base c.args.w.now c.push.new.w c.args.outer = record { world = c.in_default.ensures.world; places = c.in_default.ensures.places base ready; levels = c.in_default.ensures.levels } in
    record {
      means = vector_means c.meaning_of_reading.ensures base c.args.w.now c.push.new.w c.args.v c.args.outer pushed c.requires.vector;
      ready = c.in_default.ensures.ready base ready;
      next_is = vector_cursor c.args.w.now c.push.new.w c.args.v (pushed_view base c.args.w.now c.push.new.w c.args.outer pushed) c.requires.vector false;
      piece_is = tt;
      less = vector_less base c.args.w.now c.push.new.w c.args.v c.args.outer pushed c.in_default.ensures.kept;
    }
