use Rattle.std.proofs.Common.{◌∙◌}
use Rattle.rl_world.proofs.Waited.{written_follows, written_front}
use Rattle.rl_world.proofs.buffer.Buffer.flush.Goals as goal

pub returns-clause-front : goal.returns-clause-front
returns-clause-front g c = written_front _ _ c.write-written.result c.as_slice.result.now c.args.self.now c.write-written.ensures.appended c.write-written.ensures.front (c.as_slice.ensures.value ∙ c.self.view_is)

pub returns-clause-ok : goal.returns-clause-ok
returns-clause-ok g c = written_follows _ _ c.write-written.result c.as_slice.result.now c.args.self.now c.clear.new.self.items c.write-written.ensures.appended (c.as_slice.ensures.value ∙ c.self.view_is) c.clear.ensures
