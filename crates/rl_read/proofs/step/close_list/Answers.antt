use Rattle.std.proofs.Common.{[]}
use Rattle.rl_text.specs.Reader as reader
use Rattle.rl_read.proofs.BracketsClose.{no_list_closes}
use Rattle.rl_read.proofs.CallsFollow.{step_refused}
use Rattle.rl_read.proofs.step.close_list.Goals as goal

pub returns-in_default : goal.returns-in_default
returns-in_default c =
    step_refused c.args.base c.args.w.now c.args.group.now [] (λ m fs k. reader.close_list m fs k) c.requires.ready
    (λ t. no_list_closes t c.args.base c.args.w.now c.args.group.now c.requires.ready c.in_default.not-List)
