use Rattle.std.proofs.Common.{ℕ, ap, sym, subst, Ok, Err, ◌∙◌}
use Rattle.rl_world.specs.declared.stop.NStep.TheVariants as step
use Rattle.rl_tree.specs.Value.{Value}
use Rattle.rl_syms.specs.Contents.{value_of}
use Rattle.rl_meaning.specs.Outcome.{Done, Outcome, made_pair, then_do}
use Rattle.rl_meaning.specs.Properties.{add_first}
use Rattle.rl_meaning.specs.State.{State}
use Rattle.rl_state.specs.Beside.{StaysBeside}
use Rattle.rl_state.specs.Ending.{IsShownBeside, MeansDone, stop_in}
use Rattle.rl_state.specs.ShownState.{number_in}
use Rattle.rl_ids.proofs.Following.{answer_after, answer_on, reach_after, reach_stop}
use Rattle.rl_ids.proofs.Named.{id_kept, number_kept}
use Rattle.rl_ids.proofs.properties.add_property.Goals as goal

pub add_first-requires-clause-id : goal.add_first-requires-clause-id
add_first-requires-clause-id c = id_kept c.args.w.now c.pair.new.w c.args.u c.pair.ensures.grows c.requires.id

abbrev adding : ℕ → Value → Value → State → Outcome Value
adding i x property s = then_do (add_first i property s) (λ done s. Done x s)

pub returns-in-Ok-add_first-clause-means : goal.returns-in-Ok-add_first-clause-means
returns-in-Ok-add_first-clause-means c s shown =
    let w = c.args.w.now in
    let m = c.pair.new.w in
    let y = c.add_first.new.w in
    let i = number_in w.cells.cells c.args.u in
    let x = value_of w.cells.cells c.args.x in
    let l = value_of m.cells.cells c.in-Ok.property in
    let follow = c.steps_follow.ensures in
    answer_after m y s (made_pair (value_of w.cells.cells c.args.p) x s) l (adding i x) (step.Done c.args.x) (c.in-Ok.ensures.means s shown) (λ t h.
    answer_on follow m y s t (adding i x l t) (step.Done c.args.x) h
    (answer_after y y t (add_first i l t) tt (λ done s. Done x s) (step.Done c.args.x)
    (subst (λ n. MeansDone t (add_first n l t) (Ok tt) y) (number_kept w m c.args.u c.pair.ensures.grows c.requires.id) (c.in-Ok-add_first.ensures.means t h.shows))
    (λ u k. record { state = u; is = ap (λ v. Done v u) (sym (c.add_first.ensures.grows.values c.args.x (c.pair.ensures.grows.live c.args.x c.requires.x_live) ∙ c.pair.ensures.grows.values c.args.x c.requires.x_live)); good = k })))

pub returns-in-Ok-add_first-clause-live : goal.returns-in-Ok-add_first-clause-live
returns-in-Ok-add_first-clause-live c = c.add_first.ensures.grows.live c.args.x (c.pair.ensures.grows.live c.args.x c.requires.x_live)

pub returns-in-Ok-add_first-clause-grows : goal.returns-in-Ok-add_first-clause-grows
returns-in-Ok-add_first-clause-grows c = c.steps_follow.ensures.grows _ _ _ c.pair.ensures.grows c.add_first.ensures.grows

pub returns-in-Ok-add_first-clause-rest : goal.returns-in-Ok-add_first-clause-rest
returns-in-Ok-add_first-clause-rest c = c.steps_follow.ensures.alone _ _ _ c.pair.ensures.rest c.add_first.ensures.rest

pub returns-in-Err-add_first-clause-means : goal.returns-in-Err-add_first-clause-means
returns-in-Err-add_first-clause-means c s shown =
    let w = c.args.w.now in
    let m = c.pair.new.w in
    let y = c.add_first.new.w in
    let i = number_in w.cells.cells c.args.u in
    let x = value_of w.cells.cells c.args.x in
    let l = value_of m.cells.cells c.in-Ok.property in
    let follow = c.steps_follow.ensures in
    answer_after m y s (made_pair (value_of w.cells.cells c.args.p) x s) l (adding i x) (step.Stop c.in-Err-add_first.why) (c.in-Ok.ensures.means s shown) (λ t h.
    answer_on follow m y s t (adding i x l t) (step.Stop c.in-Err-add_first.why) h
    (reach_stop (StaysBeside t) (add_first i l t) (λ done s. Done x s) (stop_in y.cells.cells c.in-Err-add_first.why)
    (subst (λ n. MeansDone t (add_first n l t) (Err c.in-Err-add_first.why) y) (number_kept w m c.args.u c.pair.ensures.grows c.requires.id) (c.in-Err-add_first.ensures.means t h.shows))))

pub returns-in-Err-add_first-clause-grows : goal.returns-in-Err-add_first-clause-grows
returns-in-Err-add_first-clause-grows c = c.steps_follow.ensures.grows _ _ _ c.pair.ensures.grows c.add_first.ensures.grows

pub returns-in-Err-add_first-clause-rest : goal.returns-in-Err-add_first-clause-rest
returns-in-Err-add_first-clause-rest c = c.steps_follow.ensures.alone _ _ _ c.pair.ensures.rest c.add_first.ensures.rest

pub returns-in-Err-clause-means : goal.returns-in-Err-clause-means
returns-in-Err-clause-means c s shown =
    let w = c.args.w.now in
    let i = number_in w.cells.cells c.args.u in
    let x = value_of w.cells.cells c.args.x in
    reach_stop (StaysBeside s) (made_pair (value_of w.cells.cells c.args.p) x s) (adding i x) (stop_in c.pair.new.w.cells.cells c.in-Err.why) (c.in-Err.ensures.means s shown)
