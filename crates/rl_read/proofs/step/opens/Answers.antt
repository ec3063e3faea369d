use Rattle.std.proofs.Common.{[], ◌≡◌, false, sym, ◌∙◌}
use Rattle.rl_text.specs.Reader as reader
use Rattle.rl_read.specs.Frames.{frames_in}
use Rattle.rl_read.specs.Stock.{stock_of}
use Rattle.rl_read.specs.Steps.{opens_at}
use Rattle.rl_read.proofs.GroupAdmits.{admits_ready, begins_step, opens_refused}
use Rattle.rl_read.proofs.CallsFollow.{step_refused}
use Rattle.rl_read.proofs.step.opens.Goals as goal

pub returns-then-not-admits : goal.returns-then-not-admits
returns-then-not-admits c base ready =
    let none : reader.admits (frames_in base c.args.w.now c.args.group.now) ≡ false = admits_ready base c.args.w.now c.args.group.now ready ∙ (sym c.admits.ensures ∙ c.if-not-admits.true) in
    step_refused base c.args.w.now c.args.group.now [] (λ m fs k. opens_at m c.args.opening fs k) ready (λ t. opens_refused t c.args.opening (frames_in base c.args.w.now c.args.group.now) (stock_of c.args.w.now) none)

pub returns-in-Ok : goal.returns-in-Ok
returns-in-Ok c base ready =
    begins_step _ (c.in-Ok.ensures.begins base ready) tt c.begin.ensures.world c.requires.able (admits_ready base c.args.w.now c.args.group.now ready ∙ (sym c.admits.ensures ∙ c.if-not-admits.false))

pub returns-in-Err : goal.returns-in-Err
returns-in-Err c base ready =
    begins_step _ (c.in-Err.ensures.begins base ready) c.in-Err.ensures.counted c.begin.ensures.world c.requires.able (admits_ready base c.args.w.now c.args.group.now ready ∙ (sym c.admits.ensures ∙ c.if-not-admits.false))
