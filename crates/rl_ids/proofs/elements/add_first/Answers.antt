use Rattle.std.proofs.Common.{refl, ap, sym, subst, ◌∙◌}
use Rattle.rl_syms.specs.Contents.{value_of}
use Rattle.rl_tree.specs.Value.{Value}
use Rattle.rl_meaning.specs.Outcome.{Done, Outcome, made_pair, then_do}
use Rattle.rl_meaning.specs.Properties.{with_properties}
use Rattle.rl_meaning.specs.State.{State}
use Rattle.rl_state.specs.Beside.{StaysBeside}
use Rattle.rl_state.specs.Ending.{EndsShown, IsShownBeside, StopsWith, stop_in}
use Rattle.rl_state.specs.ShownState.{ShowsState, number_in}
use Rattle.rl_ids.proofs.Following.{reach_after, reach_stop}
use Rattle.rl_ids.proofs.Named.{id_kept, listed_stays, number_kept}
use Rattle.rl_ids.proofs.elements.add_first.Goals as goal

pub set_properties-requires-clause-id : goal.set_properties-requires-clause-id
set_properties-requires-clause-id c = id_kept c.args.w.now c.pair.new.w c.args.id c.pair.ensures.grows c.requires.id

pub returns-in-Ok-clause-means : goal.returns-in-Ok-clause-means
returns-in-Ok-clause-means c s shown =
    let w = c.args.w.now in
    let x = c.pair.new.w in
    let y = c.set_properties.new.w in
    let i = number_in w.cells.cells c.args.id in
    let l = value_of x.cells.cells c.in-Ok.list in
    let made = subst (λ v. EndsShown s (made_pair (value_of w.cells.cells c.args.x) v s) (λ t. Done l t) x) (sym (c.properties-rest.ensures.means s shown)) (c.in-Ok.ensures.means s shown) in
    reach_after (IsShownBeside x s) (IsShownBeside y s) _ l (λ list s. Done tt (with_properties i list s)) (λ t. Done tt t) made (λ t m.
    record {
      state = with_properties i l t;
      is = refl;
      good = record {
        shows = subst (λ n. ShowsState y (with_properties n l t)) (number_kept w x c.args.id c.pair.ensures.grows c.requires.id) (c.set_properties.ensures.shows t m.shows);
        stays = c.steps_follow.ensures.stays s t (with_properties i l t) m.stays (listed_stays t i l);
      };
    })

pub returns-in-Ok-clause-grows : goal.returns-in-Ok-clause-grows
returns-in-Ok-clause-grows c = c.steps_follow.ensures.grows _ _ _ c.pair.ensures.grows c.set_properties.ensures.grows

pub returns-in-Ok-clause-rest : goal.returns-in-Ok-clause-rest
returns-in-Ok-clause-rest c = c.steps_follow.ensures.alone _ _ _ c.pair.ensures.rest c.set_properties.ensures.rest

pub returns-in-Err-clause-means : goal.returns-in-Err-clause-means
returns-in-Err-clause-means c s shown =
    let w = c.args.w.now in
    let x = c.pair.new.w in
    let i = number_in w.cells.cells c.args.id in
    let stop = subst (λ v. StopsWith s (made_pair (value_of w.cells.cells c.args.x) v s) (stop_in x.cells.cells c.in-Err.why)) (sym (c.properties-rest.ensures.means s shown)) (c.in-Err.ensures.means s shown) in
    reach_stop (StaysBeside s) _ (λ list s. Done tt (with_properties i list s)) (stop_in x.cells.cells c.in-Err.why) stop
