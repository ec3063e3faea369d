use Rattle.std.proofs.Common.{refl}
use Rattle.rl_text.specs.Reader as reader
use Rattle.rl_read.specs.Stock.{in_stock}
use Rattle.rl_read.specs.Frames.{frames_in}
use Rattle.rl_read.specs.Steps.{atom_meant}
use Rattle.rl_read.proofs.MakingStays.{ready_stays, reading_of_making}
use Rattle.rl_read.proofs.CallsFollow.{made_lacks, reads_after}
use Rattle.rl_read.proofs.ElementEnds.{atom_goes}
use Rattle.rl_read.proofs.step.atom_ended.Goals as goal

pub value_ended-requires-clause-ready : goal.value_ended-requires-clause-ready
value_ended-requires-clause-ready c = ready_stays c.args.base c.args.w.now c.make_atom.new.w c.args.group c.requires.ready c.in-Ok.ensures.making c.in-Ok.ensures.able

pub returns-in-Ok : goal.returns-in-Ok
returns-in-Ok c =
    reads_after (reading_of_making c.args.base c.args.w.now c.make_atom.new.w c.in-Ok.ensures.making) c.value_ended.ensures
    (λ t. atom_goes t c.args.base c.args.w.now c.make_atom.new.w (atom_meant c.args.a) c.in-Ok.v c.args.group c.in-Ok.ensures.means c.in-Ok.ensures.making)

pub returns-in-Err : goal.returns-in-Err
returns-in-Err c =
    made_lacks c.args.base c.args.group (λ m fs k. reader.atom_ended m (atom_meant c.args.a) fs k) (λ t v k. reader.value_ended (in_stock t) v (frames_in c.args.base c.args.w.now c.args.group) k) c.in-Err.ensures (λ t. refl)
