use Rattle.std.proofs.Common.{ap, sym, subst, ◌∙◌}
use Rattle.rl_syms.specs.Contents.{value_of}
use Rattle.rl_meaning.specs.Constants.{changing}
use Rattle.rl_meaning.specs.Lists.{cdr_set}
use Rattle.rl_meaning.specs.Outcome.{Done}
use Rattle.rl_world.specs.declared.stop.NStep.TheVariants as step
use Rattle.rl_state.specs.Ending.{MeansAnswer}
use Rattle.rl_ids.proofs.properties.put_at.Goals as goal

pub returns-in-Some-clause-means : goal.returns-in-Some-clause-means
returns-in-Some-clause-means c s shown =
    let x = value_of c.args.w.now.cells.cells c.args.x in
    let p = value_of c.args.w.now.cells.cells c.car_or_nil-property.result in
    rw c.in-Some.is (subst (λ p. MeansAnswer s (Done x (changing p (cdr_set p x s))) (step.Done c.args.x) c.change_cdr.new.w) (c.car_or_nil-property.ensures.means s shown)
    (record { state = changing p (cdr_set p x s); is = ap (λ v. Done v (changing p (cdr_set p x s))) (sym (c.change_cdr.ensures.grows.values c.args.x c.requires.x_live)); good = c.change_cdr.ensures.means s shown }))

pub returns-in-Some-clause-live : goal.returns-in-Some-clause-live
returns-in-Some-clause-live c = c.change_cdr.ensures.grows.live c.args.x c.requires.x_live

pub returns-in-None-clause-means : goal.returns-in-None-clause-means
returns-in-None-clause-means c s shown = rw c.in-None.is (c.add_property.ensures.means s shown)
