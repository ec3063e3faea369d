use Rattle.rl_state.proofs.Pairs.{place_altered, place_shown, altered_grows, altered_is, altered_rest}
use Rattle.rl_state.proofs.objects.set_place.Goals as goal

pub returns-clause-shows : goal.returns-clause-shows
returns-clause-shows c =
    place_shown c.cells_are_known.ensures c.args.w.now _ _ c.args.v c.args.x c.args.i c.requires.vector
    (place_altered c.cells_are_known.ensures c.args.w.now c.put.new.self c.args.v c.args.x c.args.i c.requires.vector c.put.ensures.closed c.put.ensures.changed) c.requires.world

pub returns-clause-grows : goal.returns-clause-grows
returns-clause-grows c =
    altered_grows c.cells_are_known.ensures c.args.w.now _ _ _ _
    (place_altered c.cells_are_known.ensures c.args.w.now c.put.new.self c.args.v c.args.x c.args.i c.requires.vector c.put.ensures.closed c.put.ensures.changed) c.requires.world

pub returns-clause-rest : goal.returns-clause-rest
returns-clause-rest c = altered_rest c.counts_are_taken.ensures c.args.w.now _ _ (c.cells_are_known.ensures.functions.vector c.args.w.now.cells.cells c.args.v _ c.requires.vector) (altered_is c.args.w.now c.put.new.self _ c.put.ensures.changed)
