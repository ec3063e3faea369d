use Rattle.rl_cells.specs.Cell.{PairCell, car_of}
use Rattle.rl_read.proofs.MakingKeepsNames.{able_changed, length_changed, making_changed}
use Rattle.rl_read.proofs.make.set_cdr.Goals as goal

pub returns-clause-none : goal.returns-clause-none
returns-clause-none c =
    rw c.set_cdr.ensures.changed
    (record {
      same = length_changed c.args.w.now.cells.cells c.args.p (PairCell (car_of c.args.w.now.cells.cells c.args.p) c.args.v);
      able = able_changed c.making_is_kept.ensures c.args.w.now c.args.p (car_of c.args.w.now.cells.cells c.args.p) c.args.v c.requires.pair c.requires.able;
      making = making_changed c.making_is_kept.ensures.kept c.making_is_kept.ensures.leave c.args.w.now c.args.p (car_of c.args.w.now.cells.cells c.args.p) c.args.v c.requires.pair c.requires.able.table;
    })
