use Rattle.std.proofs.Common.{refl}
use Rattle.rl_state.proofs.Entered.{deeper_done, deeper_stops, entered_within, levels_grow}
use Rattle.rl_state.proofs.Made.{grows_refl}
use Rattle.rl_state.proofs.levels.deeper.Goals as goal

pub returns-in-Ok-clause-means : goal.returns-in-Ok-clause-means
returns-in-Ok-clause-means c = deeper_done c.args.w.now c.enter_level.new.self c.args.n _ c.in-Ok.ensures.entered refl refl c.in-Ok.ensures.ok

pub returns-in-Ok-clause-grows : goal.returns-in-Ok-clause-grows
returns-in-Ok-clause-grows c = levels_grow c.args.w.now c.enter_level.new.self _ c.in-Ok.ensures.entered c.requires.world (entered_within c.args.w.now.levels c.args.n c.in-Ok.ensures.ok)

pub returns-in-Err-clause-means : goal.returns-in-Err-clause-means
returns-in-Err-clause-means c = deeper_stops c.args.w.now c.enter_level.new.self c.args.n c.in-Err.why c.in-Err.ensures.err c.requires.world c.in-Err.ensures.stop

pub returns-in-Err-clause-grows : goal.returns-in-Err-clause-grows
returns-in-Err-clause-grows c = grows_refl c.args.w.now c.enter_level.new.self c.in-Err.ensures.err c.requires.world
