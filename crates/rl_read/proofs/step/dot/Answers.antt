use Rattle.std.proofs.Common.{[]}
use Rattle.rl_text.specs.Reader as reader
use Rattle.rl_read.proofs.GroupAdmits.{dot_refuses_ready, dot_refuses_list}
use Rattle.rl_read.proofs.CallsFollow.{step_refused}
use Rattle.rl_read.proofs.step.dot.Goals as goal

pub returns-in_default : goal.returns-in_default
returns-in_default c = λ base w r. step_refused base w c.args.group.now [] (λ m fs k. reader.dot m fs k) r (λ t. dot_refuses_ready base w t c.args.group.now r c.in_default.not-List)

pub returns-in_default-phase : goal.returns-in_default-phase
returns-in_default-phase c = λ base w r.
    step_refused base w c.args.group.now [] (λ m fs k. reader.dot m fs k) r
    (λ t. rw c.in-List.is (dot_refuses_list t c.in-List.l c.in-List.owed c.in-List.phase _ _ c.in_default-phase.not-Going))
