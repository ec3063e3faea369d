use Rattle.std.proofs.Common.{ap}
use Rattle.rl_world.specs.declared.world.World.{World}
use Rattle.rl_read.proofs.MakingStays.{steady_refl}
use Rattle.rl_read.proofs.WalkKept.{levels_alone, ready_pushed}
use Rattle.rl_read.proofs.GroupBegins.{opened_pushed, opened_stops}
use Rattle.rl_read.proofs.frames.keep.Goals as goal

pub returns-in-Ok-clause-begins : goal.returns-in-Ok-clause-begins
returns-in-Ok-clause-begins c base ready =
    let above = c.in-Ok.ensures.above base ready.above in
    let is = c.words_of-a.ensures.group in
    record {
      means = opened_pushed base c.args.w.now c.walk_push.new.self _ c.args.opening c.args.outer.now c.begun.result c.in-Ok.ensures.ok c.in-Ok.ensures.entered above is c.requires.inner c.begun.ensures.frames;
      ready = ready_pushed base c.args.w.now c.walk_push.new.self c.words_of-a.result c.args.outer.now c.begun.result ready (levels_alone c.args.w.now c.walk_push.new.self _ c.in-Ok.ensures.entered) (ap (λ (w : World). w.levels.walk) c.in-Ok.ensures.entered) above is c.requires.inner
          (record { group_is = rw is ready.group_is; inner = rw is c.requires.inner; owed = c.words_of-a.ensures.owed }) (c.begun.ensures.group c.walk_push.new.self.cells.cells) c.begun.ensures.inside;
      steady = c.in-Ok.ensures.steady base ready.above;
    }

pub returns-in-Err-clause-begins : goal.returns-in-Err-clause-begins
returns-in-Err-clause-begins c base ready =
    rw c.in-Err.ensures.err
    (record {
      means = opened_stops base c.args.w.now c.args.opening c.args.outer.now c.in-Err.s c.in-Err.ensures.stop c.requires.inner;
      ready = tt;
      steady = steady_refl base c.args.w.now.levels;
    })
