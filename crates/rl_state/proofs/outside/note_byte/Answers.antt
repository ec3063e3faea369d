use Rattle.std.proofs.Common.{ap}
use Rattle.rl_state.proofs.Outer.{grows_outer}
use Rattle.rl_state.proofs.TiedBytes.{put_note, put_note_cut}
use Rattle.rl_state.proofs.outside.note_byte.Goals as goal

pub returns-in-Ok-clause-means : goal.returns-in-Ok-clause-means
returns-in-Ok-clause-means g c at coming s h =
    let changes = c.note_byte.ensures.outside in
    put_note at c.args.w.now c.note_byte.new.self c.args.b _ _ _ _ _ _ coming s changes.world
    (ap (λ io. g.O.Sink.contents io.out.now) changes.objects) (ap (λ io. g.I.Source.left io.input.now) changes.objects) c.in-Ok.ensures.ok h

pub returns-in-Err-clause-means : goal.returns-in-Err-clause-means
returns-in-Err-clause-means g c at coming s h =
    put_note_cut at c.args.w.now c.note_byte.new.self c.args.b _ _ _ _ _ _ coming s (ap (λ io. g.O.Sink.contents io.out.now) c.note_byte.ensures.outside.objects) c.in-Err.ensures.front h

pub returns-in-Ok-clause-grows : goal.returns-in-Ok-clause-grows
returns-in-Ok-clause-grows g c = grows_outer c.args.w.now c.note_byte.new.self _ _ _ c.note_byte.ensures.outside.world

pub returns-in-Err-clause-grows : goal.returns-in-Err-clause-grows
returns-in-Err-clause-grows g c = grows_outer c.args.w.now c.note_byte.new.self _ _ _ c.note_byte.ensures.outside.world
