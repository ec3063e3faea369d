use Rattle.std.proofs.Common.{ap}
use Rattle.rl_state.proofs.Outer.{grows_outer}
use Rattle.rl_state.proofs.TiedBytes.{put, put_cut}
use Rattle.rl_state.proofs.outside.put_byte.Goals as goal

pub returns-in-Ok-clause-means : goal.returns-in-Ok-clause-means
returns-in-Ok-clause-means g c at coming s h =
    let changes = c.put_byte.ensures.outside in
    put at c.args.w.now c.put_byte.new.self c.args.b _ _ _ _ _ _ coming s changes.world c.put_byte.ensures.column
    (ap (λ io. g.N.Sink.contents io.notes.now) changes.outside.objects) (ap (λ io. g.I.Source.left io.input.now) changes.outside.objects) c.in-Ok.ensures.ok h

pub returns-in-Err-clause-means : goal.returns-in-Err-clause-means
returns-in-Err-clause-means g c at coming s h =
    put_cut at c.args.w.now c.put_byte.new.self c.args.b _ _ _ _ _ _ coming s (ap (λ io. g.N.Sink.contents io.notes.now) c.put_byte.ensures.outside.outside.objects) c.in-Err.ensures.front h

pub returns-in-Ok-clause-grows : goal.returns-in-Ok-clause-grows
returns-in-Ok-clause-grows g c = grows_outer c.args.w.now c.put_byte.new.self _ _ _ c.put_byte.ensures.outside.world

pub returns-in-Err-clause-grows : goal.returns-in-Err-clause-grows
returns-in-Err-clause-grows g c = grows_outer c.args.w.now c.put_byte.new.self _ _ _ c.put_byte.ensures.outside.world
