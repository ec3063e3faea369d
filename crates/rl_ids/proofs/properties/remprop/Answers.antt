use Rattle.std.proofs.Common.{ap, sym, subst, Ok, Err, ◌∙◌}
use Rattle.rl_world.specs.declared.stop.NStep.TheVariants as step
use Rattle.rl_syms.specs.Contents.{value_of}
use Rattle.rl_meaning.specs.Outcome.{Done, then_do}
use Rattle.rl_meaning.specs.Properties.{is_property, look_for, properties, value_at, without}
use Rattle.rl_meaning.specs.Symbols.{nil_value_of_state}
use Rattle.rl_state.specs.Beside.{StaysBeside}
use Rattle.rl_state.specs.Ending.{IsShownBeside, stop_in}
use Rattle.rl_state.specs.ShownState.{number_in}
use Rattle.rl_ids.specs.Elements.{MeansPlace, place_shown}
use Rattle.rl_ids.proofs.Answering.{of_none, of_number}
use Rattle.rl_ids.proofs.Following.{answer_after, reach_stop, shown_on}
use Rattle.rl_ids.proofs.Named.{id_by_tag, id_kept, number_kept}
use Rattle.rl_ids.proofs.properties.remprop.Goals as goal

pub take_out-requires-clause-id : goal.take_out-requires-clause-id
take_out-requires-clause-id c = id_kept c.args.w.now c.look_for.new.w c.args.u c.look_for.ensures.grows (id_by_tag c.args.w.now.cells.cells c.args.u (sym c.tag.ensures ∙ c.in-Id.is) c.requires.u_live)

pub returns-in-Ok-clause-means : goal.returns-in-Ok-clause-means
returns-in-Ok-clause-means c s shown =
    let w = c.args.w.now in
    let x = c.look_for.new.w in
    let y = c.take_out.new.w in
    let p = value_of w.cells.cells c.args.p in
    let r = step.Done c.property_value-former.result in
    let i = number_in w.cells.cells c.args.u in
    let id = id_by_tag w.cells.cells c.args.u (sym c.tag.ensures ∙ c.in-Id.is) c.requires.u_live in
    let place = place_shown x.cells.cells c.in-Ok.place in
    let found = subst (λ l. MeansPlace s (look_for (is_property p) l s) (Ok c.in-Ok.place) x) (sym (c.properties-list.ensures.means s shown)) (c.in-Ok.ensures.means s shown) in
    of_number w c.args.u s y r nil_value_of_state (λ i s. then_do (look_for (is_property p) (properties s i) s) (λ place s. Done (value_at s place.at) (without i place s))) id
    (answer_after x y s (look_for (is_property p) (properties s i) s) place (λ place s. Done (value_at s place.at) (without i place s)) r found
    (λ t m. record {
      state = without i place t;
      is = ap (λ v. Done v (without i place t)) (sym (c.take_out.ensures.grows.values c.property_value-former.result c.property_value-former.ensures.live ∙ c.property_value-former.ensures.means t m.shows));
      good = shown_on c.steps_follow.ensures x y s t (without i place t) m (subst (λ n. IsShownBeside y t (without n place t)) (number_kept w x c.args.u c.look_for.ensures.grows id) (c.take_out.ensures.means t m.shows));
    }))

pub returns-in-Ok-clause-live : goal.returns-in-Ok-clause-live
returns-in-Ok-clause-live c = c.take_out.ensures.grows.live c.property_value-former.result c.property_value-former.ensures.live

pub returns-in-Ok-clause-grows : goal.returns-in-Ok-clause-grows
returns-in-Ok-clause-grows c = c.steps_follow.ensures.grows _ _ _ c.look_for.ensures.grows c.take_out.ensures.grows

pub returns-in-Ok-clause-rest : goal.returns-in-Ok-clause-rest
returns-in-Ok-clause-rest c = c.steps_follow.ensures.alone _ _ _ c.look_for.ensures.rest c.take_out.ensures.rest

pub returns-in-Err-clause-means : goal.returns-in-Err-clause-means
returns-in-Err-clause-means c s shown =
    let w = c.args.w.now in
    let x = c.look_for.new.w in
    let p = value_of w.cells.cells c.args.p in
    let i = number_in w.cells.cells c.args.u in
    let stop = subst (λ l. MeansPlace s (look_for (is_property p) l s) (Err c.in-Err.why) x) (sym (c.properties-list.ensures.means s shown)) (c.in-Err.ensures.means s shown) in
    of_number w c.args.u s x (step.Stop c.in-Err.why) nil_value_of_state (λ i s. then_do (look_for (is_property p) (properties s i) s) (λ place s. Done (value_at s place.at) (without i place s))) (id_by_tag w.cells.cells c.args.u (sym c.tag.ensures ∙ c.in-Id.is) c.requires.u_live)
    (reach_stop (StaysBeside s) (look_for (is_property p) (properties s i) s) (λ place s. Done (value_at s place.at) (without i place s)) (stop_in x.cells.cells c.in-Err.why) stop)

pub returns-in_default : goal.returns-in_default
returns-in_default c =
    let w = c.args.w.now in
    let p = value_of w.cells.cells c.args.p in
    record {
      means = λ s shown. of_none w c.args.u s c.steps_follow.ensures (λ i s. then_do (look_for (is_property p) (properties s i) s) (λ place s. Done (value_at s place.at) (without i place s))) c.requires.world shown (λ e. c.in_default.not-Id (c.tag.ensures ∙ e));
      live = c.requires.world.table.nil;
      grows = c.steps_follow.ensures.stands w c.requires.world;
      rest = c.steps_follow.ensures.none w;
    }
