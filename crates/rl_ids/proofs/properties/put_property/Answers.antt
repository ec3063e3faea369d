use Rattle.std.proofs.Common.{ap, sym, subst, Ok, Err}
use Rattle.rl_cells.specs.Cell.{CellStore}
use Rattle.rl_syms.specs.Contents.{value_of}
use Rattle.rl_world.specs.declared.world.World.{World}
use Rattle.rl_meaning.specs.Properties.{PropertyPlace, is_property, look_for, properties}
use Rattle.rl_meaning.specs.Properties.{put_at as putting_at}
use Rattle.rl_meaning.specs.State.{State}
use Rattle.rl_state.specs.Beside.{StaysBeside}
use Rattle.rl_state.specs.Ending.{MeansAnswer, stop_in}
use Rattle.rl_state.specs.ShownState.{number_in, option_value_in}
use Rattle.rl_ids.specs.Elements.{MeansPlace, place_shown}
use Rattle.rl_ids.proofs.Following.{answer_after, answer_on, reach_stop}
use Rattle.rl_ids.proofs.properties.put_property.Goals as goal

pub returns-in-Ok-clause-means : goal.returns-in-Ok-clause-means
returns-in-Ok-clause-means c s shown =
    let w = c.args.w.now in
    let x = c.look_for.new.w in
    let y = c.put_at.new.w in
    let r = c.put_at.result in
    let p = value_of w.cells.cells c.args.p in
    let v = value_of w.cells.cells c.args.x in
    let i = number_in w.cells.cells c.args.u in
    let found = subst (λ l. MeansPlace s (look_for (is_property p) l s) (Ok c.in-Ok.place) x) (sym (c.properties-list.ensures.means s shown)) (c.in-Ok.ensures.means s shown) in
    answer_after x y s (look_for (is_property p) (properties s i) s) (place_shown x.cells.cells c.in-Ok.place) (λ (place : PropertyPlace) (s : State). putting_at i p v place.at s) r found
    (λ t m. answer_on c.steps_follow.ensures x y s t (putting_at i p v (option_value_in x.cells.cells c.in-Ok.place.at) t) r m
    (subst (λ (cells : CellStore). MeansAnswer t (putting_at (number_in cells.cells c.args.u) (value_of cells.cells c.args.p) (value_of cells.cells c.args.x) (option_value_in x.cells.cells c.in-Ok.place.at) t) r y)
    (ap (λ (z : World). z.cells) c.look_for.ensures.alone) (c.put_at.ensures.means t m.shows)))

pub returns-in-Ok-clause-grows : goal.returns-in-Ok-clause-grows
returns-in-Ok-clause-grows c = c.steps_follow.ensures.grows _ _ _ c.look_for.ensures.grows c.put_at.ensures.grows

pub returns-in-Ok-clause-rest : goal.returns-in-Ok-clause-rest
returns-in-Ok-clause-rest c = c.steps_follow.ensures.alone _ _ _ c.look_for.ensures.rest c.put_at.ensures.rest

pub returns-in-Err-clause-means : goal.returns-in-Err-clause-means
returns-in-Err-clause-means c s shown =
    let w = c.args.w.now in
    let x = c.look_for.new.w in
    let p = value_of w.cells.cells c.args.p in
    let i = number_in w.cells.cells c.args.u in
    let stop = subst (λ l. MeansPlace s (look_for (is_property p) l s) (Err c.in-Err.why) x) (sym (c.properties-list.ensures.means s shown)) (c.in-Err.ensures.means s shown) in
    reach_stop (StaysBeside s) (look_for (is_property p) (properties s i) s) (λ (place : PropertyPlace) (s : State). putting_at i p (value_of w.cells.cells c.args.x) place.at s) (stop_in x.cells.cells c.in-Err.why) stop
