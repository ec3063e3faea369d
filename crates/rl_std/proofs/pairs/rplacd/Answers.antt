use Rattle.std.proofs.Common.{ap, sym, None}
use Rattle.rl_tree.specs.Value.{Pair}
use Rattle.rl_world.specs.declared.stop.NStep.TheVariants as step
use Rattle.rl_meaning.specs.Outcome.{Done}
use Rattle.rl_meaning.specs.Constants.{changing}
use Rattle.rl_meaning.specs.Copying.{with_object}
use Rattle.rl_syms.specs.Contents.{value_of}
use Rattle.rl_std.proofs.Parting.{of_pair}
use Rattle.rl_std.proofs.pairs.rplacd.Goals as goal

pub returns-in-Some-clause-means : goal.returns-in-Some-clause-means
returns-in-Some-clause-means c s shown =
    let u = value_of c.args.w.now.cells.cells c.args.u in
    let v = value_of c.args.w.now.cells.cells c.args.v in
    let a = value_of c.args.w.now.cells.cells c.in-Some._p.0 in
    let t = with_object u (Pair a v) s in
    of_pair s u (λ parts s. Done u (changing u (with_object u (Pair parts.0 v) s))) _ (step.Done c.args.u) c.set_cdr.new.w (c.in-Some.ensures.means s shown)
    (record {
      state = changing u t;
      is = ap (λ x. Done x (changing u t)) (sym (c.set_cdr.ensures.grows.values c.args.u c.requires.u_live));
      good = c.steps_follow.ensures.changing c.set_cdr.new.w u (Pair a v) s (c.set_cdr.ensures.shows s a (value_of c.args.w.now.cells.cells c.in-Some._p.1) shown (c.in-Some.ensures.means s shown));
    })

pub returns-in-Some-clause-live : goal.returns-in-Some-clause-live
returns-in-Some-clause-live c = c.set_cdr.ensures.grows.live c.args.u c.requires.u_live

pub returns-in-None-clause-means : goal.returns-in-None-clause-means
returns-in-None-clause-means c s shown =
    let u = value_of c.args.w.now.cells.cells c.args.u in
    let v = value_of c.args.w.now.cells.cells c.args.v in
    of_pair s u (λ parts s. Done u (changing u (with_object u (Pair parts.0 v) s))) None c.fail.result c.fail.new.w (c.in-None.ensures.means s shown) (c.fail.ensures.means s shown)
