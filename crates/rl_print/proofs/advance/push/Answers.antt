use Rattle.std.proofs.Common.{ap}
use Rattle.rl_world.specs.declared.world.World.{World}
use Rattle.rl_print.proofs.Kept.{places_pushed, ready_pushed}
use Rattle.rl_print.proofs.advance.push.Goals as goal

pub returns-in-Ok-clause-places : goal.returns-in-Ok-clause-places
returns-in-Ok-clause-places c base ready = places_pushed base c.args.w.now c.walk_push.new.self _ _ (ap (λ (w : World). w.cells) c.in-Ok.ensures.entered) (c.in-Ok.ensures.above base ready.above) (c.words_of-kind.ensures.place c.args.w.now.cells.cells)

pub returns-in-Ok-clause-ready : goal.returns-in-Ok-clause-ready
returns-in-Ok-clause-ready c base ready = ready_pushed base c.args.w.now c.walk_push.new.self _ (ap (λ (w : World). w.cells) c.in-Ok.ensures.entered) (ap (λ (w : World). w.syms) c.in-Ok.ensures.entered) (ap (λ (w : World). w.levels.walk) c.in-Ok.ensures.entered) (c.in-Ok.ensures.above base ready.above) (c.words_of-kind.ensures.kept c.args.w.now.cells.cells c.requires.cursor) ready

pub returns-in-Ok-clause-steady : goal.returns-in-Ok-clause-steady
returns-in-Ok-clause-steady c base ready = c.in-Ok.ensures.steady base ready.above
