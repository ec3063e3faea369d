use Rattle.rl_state.proofs.Pairs.{car_altered, car_shown, altered_grows, altered_is, altered_rest}
use Rattle.rl_state.proofs.objects.set_car.Goals as goal

pub returns-clause-shows : goal.returns-clause-shows
returns-clause-shows c =
    car_shown c.cells_are_known.ensures c.args.w.now _ _ c.args.p c.args.v c.requires.pair
    (car_altered c.cells_are_known.ensures c.args.w.now c.set_car.new.self c.args.p c.args.v c.requires.pair c.set_car.ensures.closed c.set_car.ensures.changed) c.requires.world

pub returns-clause-grows : goal.returns-clause-grows
returns-clause-grows c =
    altered_grows c.cells_are_known.ensures c.args.w.now _ _ _ _
    (car_altered c.cells_are_known.ensures c.args.w.now c.set_car.new.self c.args.p c.args.v c.requires.pair c.set_car.ensures.closed c.set_car.ensures.changed) c.requires.world

pub returns-clause-rest : goal.returns-clause-rest
returns-clause-rest c = altered_rest c.counts_are_taken.ensures c.args.w.now _ _ (c.cells_are_known.ensures.functions.pair c.args.w.now.cells.cells c.args.p _ _ c.requires.pair) (altered_is c.args.w.now c.set_car.new.self _ c.set_car.ensures.changed)
