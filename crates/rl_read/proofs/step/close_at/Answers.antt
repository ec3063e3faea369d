use Rattle.std.proofs.Common.{[], ap, ◌∙◌}
use Rattle.rl_text.specs.Reader as reader
use Rattle.rl_read.specs.Stock.{in_stock, stock_of}
use Rattle.rl_read.specs.Frames.{frames_in}
use Rattle.rl_read.specs.declared.frames.Group.{Group}
use Rattle.rl_read.specs.declared.frames.Group.TheVariants as group
use Rattle.rl_read.specs.declared.frames.Phase.{Phase}
use Rattle.rl_read.proofs.CallsFollow.{step_refused}
use Rattle.rl_read.proofs.step.close_at.Goals as goal

pub returns-in-Dotted : goal.returns-in-Dotted
returns-in-Dotted c =
    step_refused c.args.base c.args.w.now c.args.group.now [] (λ m fs k. reader.close_list m fs k) c.requires.ready
    (λ t. ap (λ (g : Group). reader.close_list (in_stock t) (frames_in c.args.base c.args.w.now g) (stock_of c.args.w.now)) (c.requires.list ∙ ap (λ (p : Phase). group.List c.args.l.now c.args.owed p) c.in-Dotted.is))
