use Rattle.std.proofs.Common.{◌≡◌, ◌∙◌, List, length-set, slice_set, sym, true}
use Rattle.std.proofs.Math.Nat.{sub-zero}
use Rattle.rl_tags.specs.Tagged.{Tagged}
use Rattle.rl_cells.specs.Cell.{VectorCell, car_of, cdr_of, changed_at, is_pair, vector_of}
use Rattle.rl_read.specs.Stock.{elements_from}
use Rattle.rl_read.proofs.VectorFilled.{car_was, cdr_was, changed_same, filled_all, filled_more, left_is_pair, left_pair, vector_here, vector_stays, world_filled}
use Rattle.rl_read.proofs.MakingKeepsNames.{able_vector, length_changed, making_vector, put_live}
use Rattle.rl_read.proofs.MakingStays.{pair_stays}
use Rattle.rl_read.proofs.make.fill.Goals as goal

pub loop-i-init : goal.loop-i-init
loop-i-init c = record {
  vector = c.requires.vector;
  places = c.requires.places;
  live = c.requires.list;
  world = rw (changed_same c.args.w.now.cells.cells c.args.v c.requires.vector);
  rest = rw sub-zero;
}

pub car-x-requires : goal.car-x-requires
car-x-requires c =
    left_is_pair c.args.w.now.cells.cells c.loop-i.w.cells.cells c.loop-i.at (elements_from c.args.n c.args.w.now.cells.cells c.args.list) (vector_of c.loop-i.w.cells.cells c.args.v) c.args.n c.loop-i.i
    c.requires.elements c.loop-i.invariant.places c.loop-i-test.true c.loop-i.invariant.rest c.loop-i.invariant.live

pub cdr-at-requires : goal.cdr-at-requires
cdr-at-requires c =
    let pair : is_pair c.loop-i.w.cells.cells c.loop-i.at ≡ true =
    left_is_pair c.args.w.now.cells.cells c.loop-i.w.cells.cells c.loop-i.at (elements_from c.args.n c.args.w.now.cells.cells c.args.list) (vector_of c.loop-i.w.cells.cells c.args.v) c.args.n c.loop-i.i
    c.requires.elements c.loop-i.invariant.places c.loop-i-test.true c.loop-i.invariant.rest c.loop-i.invariant.live in
    rw c.put.ensures.changed
    (pair_stays c.loop-i.w.cells.cells (changed_at c.loop-i.w.cells.cells c.args.v (VectorCell (slice_set (vector_of c.loop-i.w.cells.cells c.args.v) c.loop-i.i c.car-x.result))) c.loop-i.at
    (put_live c.making_is_kept.ensures.leave c.loop-i.w.cells.cells c.args.v c.car-x.result c.loop-i.i c.loop-i.invariant.vector) pair)

pub loop-i-preserved : goal.loop-i-preserved
loop-i-preserved c =
    let old = c.args.w.now.cells.cells in
    let now = c.loop-i.w.cells.cells in
    let ys : List Tagged = vector_of now c.args.v in
    let zs : List Tagged = slice_set ys c.loop-i.i c.car-x.result in
    let is_vector = c.loop-i.invariant.vector in
    let car : c.car-x.result ≡ car_of old c.loop-i.at = c.car-x.ensures.value ∙ car_was c.args.w.now c.loop-i.w c.args.v ys c.loop-i.at c.requires.vector c.loop-i.invariant.world in
    let cdr : c.cdr-at.result ≡ cdr_of old c.loop-i.at =
    c.cdr-at.ensures.value ∙ rw c.put.ensures.changed (cdr_was c.args.w.now c.loop-i.w c.args.v ys zs c.loop-i.at c.requires.vector is_vector c.loop-i.invariant.world) in
    let values : vector_of c.put.new.self.cells c.args.v ≡ zs = rw c.put.ensures.changed (vector_here now c.args.v zs is_vector) in
    record {
      vector = rw c.put.ensures.changed (vector_stays now c.args.v zs is_vector);
      places = rw (values, length-set) c.loop-i.invariant.places;
      live = c.cdr-at.ensures.live;
      world = rw c.put.ensures.changed (world_filled c.args.w.now c.loop-i.w c.args.v ys zs is_vector c.loop-i.invariant.world);
      rest =
          rw (values, car, cdr)
          (filled_more old c.loop-i.at (elements_from c.args.n old c.args.list) ys c.args.n c.loop-i.i
          (left_pair old c.loop-i.at (elements_from c.args.n old c.args.list) ys c.args.n c.loop-i.i c.requires.elements c.loop-i.invariant.places c.loop-i-test.true c.loop-i.invariant.rest)
          c.loop-i.invariant.places c.loop-i-test.true c.loop-i.invariant.rest);
    }

pub returns-clause-none : goal.returns-clause-none
returns-clause-none c =
    rw c.loop-i.invariant.world
    (record {
      same = length_changed c.args.w.now.cells.cells c.args.v (VectorCell (vector_of c.loop-i.w.cells.cells c.args.v));
      able = able_vector c.making_is_kept.ensures c.args.w.now c.args.v (vector_of c.loop-i.w.cells.cells c.args.v) c.requires.vector (c.loop-i.invariant.places ∙ sym c.requires.places) c.requires.able;
      making = making_vector c.making_is_kept.ensures.kept c.making_is_kept.ensures.leave c.args.w.now c.args.v (vector_of c.loop-i.w.cells.cells c.args.v) c.requires.vector (c.loop-i.invariant.places ∙ sym c.requires.places) c.requires.able.table;
    })

pub returns-clause-filled : goal.returns-clause-filled
returns-clause-filled c =
    let all : vector_of c.loop-i.w.cells.cells c.args.v ≡ elements_from c.args.n c.args.w.now.cells.cells c.args.list =
    filled_all c.args.w.now.cells.cells c.loop-i.at (elements_from c.args.n c.args.w.now.cells.cells c.args.list) (vector_of c.loop-i.w.cells.cells c.args.v) c.args.n c.loop-i.i c.loop-i.invariant.places c.loop-i-test.false c.loop-i.invariant.rest in
    rw (← all) c.loop-i.invariant.world
