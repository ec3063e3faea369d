use Rattle.rl_state.proofs.Room.{turn_falls, turn_grows, turn_means, turn_stops}
use Rattle.rl_state.proofs.Made.{grows_refl, rest_refl, rest_ticked}
use Rattle.rl_state.proofs.turns.turn.Goals as goal

pub returns-in-Ok-clause-means : goal.returns-in-Ok-clause-means
returns-in-Ok-clause-means c = turn_means c.args.w.now c.tick.new.self c.in-Ok.ensures.counted c.requires.world c.in-Ok.ensures.ok

pub returns-in-Ok-clause-grows : goal.returns-in-Ok-clause-grows
returns-in-Ok-clause-grows c = turn_grows c.bounds_are_kept.ensures c.args.w.now c.tick.new.self c.in-Ok.ensures.counted c.requires.world

pub returns-in-Err-clause-means : goal.returns-in-Err-clause-means
returns-in-Err-clause-means c = turn_stops c.args.w.now c.tick.new.self c.in-Err.why c.in-Err.ensures.err c.requires.world c.in-Err.ensures.stop

pub returns-in-Ok-clause-falls : goal.returns-in-Ok-clause-falls
returns-in-Ok-clause-falls c = turn_falls c.args.w.now c.tick.new.self c.in-Ok.ensures.counted c.in-Ok.ensures.ok

pub returns-in-Ok-clause-rest : goal.returns-in-Ok-clause-rest
returns-in-Ok-clause-rest c = rest_ticked c.counts_are_taken.ensures c.args.w.now c.tick.new.self c.in-Ok.ensures.counted

pub returns-in-Err-clause-rest : goal.returns-in-Err-clause-rest
returns-in-Err-clause-rest c = rest_refl c.counts_are_taken.ensures c.args.w.now c.tick.new.self c.in-Err.ensures.err

pub returns-in-Err-clause-grows : goal.returns-in-Err-clause-grows
returns-in-Err-clause-grows c = grows_refl c.args.w.now c.tick.new.self c.in-Err.ensures.err c.requires.world
