use Rattle.std.proofs.Common.{ap}
use Rattle.rl_state.proofs.Outer.{grows_outer}
use Rattle.rl_state.proofs.TiedBytes.{flush_cut, flushed}
use Rattle.rl_state.proofs.outside.flush.Goals as goal

pub returns-in-Ok-clause-means : goal.returns-in-Ok-clause-means
returns-in-Ok-clause-means g c at coming s h =
    let changes = c.flush.ensures.outside in
    flushed at c.args.w.now c.flush.new.self _ _ _ _ _ _ coming s changes.world (ap (λ io. g.I.Source.left io.input.now) changes.objects) c.in-Ok.ensures.printed c.in-Ok.ensures.noted h

pub returns-in-Err-clause-means : goal.returns-in-Err-clause-means
returns-in-Err-clause-means g c at coming s h = flush_cut at c.args.w.now c.flush.new.self _ _ _ _ _ _ coming s c.in-Err.ensures.printed_front c.in-Err.ensures.noted_front h

pub returns-in-Ok-clause-grows : goal.returns-in-Ok-clause-grows
returns-in-Ok-clause-grows g c = grows_outer c.args.w.now c.flush.new.self _ _ _ c.flush.ensures.outside.world

pub returns-in-Err-clause-grows : goal.returns-in-Err-clause-grows
returns-in-Err-clause-grows g c = grows_outer c.args.w.now c.flush.new.self _ _ _ c.flush.ensures.outside.world
