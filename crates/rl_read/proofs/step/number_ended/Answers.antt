use Rattle.std.proofs.Common.{ap, sym}
use Rattle.rl_tags.specs.Tagged.{Tagged}
use Rattle.rl_text.specs.Reader as reader
use Rattle.rl_read.specs.Stock.{in_stock, stock_of}
use Rattle.rl_read.specs.Frames.{frames_in}
use Rattle.rl_read.proofs.CallsFollow.{reads_same}
use Rattle.rl_read.proofs.step.number_ended.Goals as goal

pub returns : goal.returns
returns c =
    reads_same c.value_ended.ensures (λ t. ap (λ (v : Tagged). reader.value_ended (in_stock t) v (frames_in c.args.base c.args.w.now c.args.group) (stock_of c.args.w.now)) (sym c.number.ensures))
