use Rattle.std.proofs.Common.{ap, sym, subst, Ok, Err, ◌∙◌}
use Rattle.rl_world.specs.declared.stop.NStep.TheVariants as step
use Rattle.rl_syms.specs.Contents.{value_of}
use Rattle.rl_meaning.specs.Outcome.{Done, then_do}
use Rattle.rl_meaning.specs.Properties.{is_property, look_for, properties, value_at}
use Rattle.rl_meaning.specs.Symbols.{nil_value_of_state}
use Rattle.rl_state.specs.Beside.{StaysBeside}
use Rattle.rl_state.specs.Ending.{stop_in}
use Rattle.rl_state.specs.ShownState.{number_in}
use Rattle.rl_ids.specs.Elements.{MeansPlace, place_shown}
use Rattle.rl_ids.proofs.Answering.{of_none, of_number}
use Rattle.rl_ids.proofs.Following.{answer_after, reach_stop}
use Rattle.rl_ids.proofs.Named.{id_by_tag}
use Rattle.rl_ids.proofs.properties.get.Goals as goal

pub returns-in-Ok-clause-means : goal.returns-in-Ok-clause-means
returns-in-Ok-clause-means c s shown =
    let w = c.args.w.now in
    let x = c.look_for.new.w in
    let p = value_of w.cells.cells c.args.p in
    let r = step.Done c.property_value.result in
    let i = number_in w.cells.cells c.args.u in
    let found = subst (λ l. MeansPlace s (look_for (is_property p) l s) (Ok c.in-Ok.place) x) (sym (c.properties-list.ensures.means s shown)) (c.in-Ok.ensures.means s shown) in
    of_number w c.args.u s x r nil_value_of_state (λ i s. then_do (look_for (is_property p) (properties s i) s) (λ place s. Done (value_at s place.at) s)) (id_by_tag w.cells.cells c.args.u (sym c.tag.ensures ∙ c.in-Id.is) c.requires.u_live)
    (answer_after x x s (look_for (is_property p) (properties s i) s) (place_shown x.cells.cells c.in-Ok.place) (λ place s. Done (value_at s place.at) s) r found
    (λ t m. record { state = t; is = ap (λ v. Done v t) (sym (c.property_value.ensures.means t m.shows)); good = m }))

pub returns-in-Err-clause-means : goal.returns-in-Err-clause-means
returns-in-Err-clause-means c s shown =
    let w = c.args.w.now in
    let x = c.look_for.new.w in
    let p = value_of w.cells.cells c.args.p in
    let i = number_in w.cells.cells c.args.u in
    let stop = subst (λ l. MeansPlace s (look_for (is_property p) l s) (Err c.in-Err.why) x) (sym (c.properties-list.ensures.means s shown)) (c.in-Err.ensures.means s shown) in
    of_number w c.args.u s x (step.Stop c.in-Err.why) nil_value_of_state (λ i s. then_do (look_for (is_property p) (properties s i) s) (λ place s. Done (value_at s place.at) s)) (id_by_tag w.cells.cells c.args.u (sym c.tag.ensures ∙ c.in-Id.is) c.requires.u_live)
    (reach_stop (StaysBeside s) (look_for (is_property p) (properties s i) s) (λ place s. Done (value_at s place.at) s) (stop_in x.cells.cells c.in-Err.why) stop)

pub returns-in_default : goal.returns-in_default
returns-in_default c =
    let w = c.args.w.now in
    let p = value_of w.cells.cells c.args.p in
    record {
      means = λ s shown. of_none w c.args.u s c.steps_follow.ensures (λ i s. then_do (look_for (is_property p) (properties s i) s) (λ place s. Done (value_at s place.at) s)) c.requires.world shown (λ e. c.in_default.not-Id (c.tag.ensures ∙ e));
      live = c.requires.world.table.nil;
      grows = c.steps_follow.ensures.stands w c.requires.world;
      rest = c.steps_follow.ensures.none w;
    }
