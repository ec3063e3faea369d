use Rattle.std.proofs.Common.{ap}
use Rattle.rl_world.specs.declared.world.World.{World}
use Rattle.rl_read.proofs.InputTakes.{input_returns}
use Rattle.rl_read.proofs.bytes.IoBytes.back.Goals as goal

pub returns-clause-back : goal.returns-clause-back
returns-clause-back g c = input_returns c.args.w.now.input c.input_back.new.self.input (g.I.Source.left c.args.self.now.input.now) c.args.b c.requires.0 c.requires.1 (ap (λ (w : World). w.input) c.input_back.ensures)
