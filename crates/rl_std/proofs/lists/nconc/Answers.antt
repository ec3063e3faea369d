use Rattle.std.proofs.Common.{◌≡◌, ◌+◌, ◌<◌, true, None, Some, arith, ap, refl, subst, sym, ◌∙◌}
use Rattle.rl_tree.specs.Value.{Pair}
use Rattle.rl_cells.specs.Cell.{is_pair}
use Rattle.rl_meaning.specs.Lists.{joined, nconc}
use Rattle.rl_meaning.specs.Outcome.{Done}
use Rattle.rl_meaning.specs.Walks.{Goes}
use Rattle.rl_syms.specs.Contents.{value_of}
use Rattle.rl_state.specs.Ending.{EndsShown}
use Rattle.rl_state.specs.ShownState.{option_value_in}
use Rattle.rl_std.proofs.Along.{passes_pair, walk_is_over, walking, wants_turn}
use Rattle.rl_std.proofs.Coming.{begins, goes_on}
use Rattle.rl_std.proofs.Listing.{joins}
use Rattle.rl_std.proofs.Parting.{pair_live, pair_stays}
use Rattle.rl_std.proofs.Visits.{joining, lasting, lasting_gives}
use Rattle.rl_std.proofs.Ways.{way_begins, way_goes}
use Rattle.rl_std.proofs.lists.nconc.Goals as goal

pub loop-p-init : goal.loop-p-init
loop-p-init c = record {
  way = way_begins c.steps_follow.ensures c.args.w.now c.args.u c.requires.world c.requires.u_live;
  last = λ x e. absurd (cc);
  comes = λ s shown. begins c.steps_follow.ensures s (nconc (value_of c.args.w.now.cells.cells c.args.u) (value_of c.args.w.now.cells.cells c.args.v)) c.args.w.now shown;
}

pub loop-p-preserved : goal.loop-p-preserved
loop-p-preserved c =
    let follow = c.steps_follow.ensures in
    let w = c.loop-p.w in
    let x = c.turn.new.w in
    let u = value_of c.args.w.now.cells.cells c.args.u in
    let v = value_of c.args.w.now.cells.cells c.args.v in
    let lives = c.in-Some.ensures.live c.in-Some.p refl in
    let pair = c.in-Some.ensures.pair in
    let here = pair_stays w.cells.cells x.cells.cells c.loop-p.at c.turn.ensures.grows.live pair in
    record {
      way = way_goes follow c.args.w.now w x c.loop-p.at c.in-Some.p.1 c.loop-p.invariant.way c.turn.ensures.grows c.turn.ensures.rest (c.turn.ensures.grows.live c.in-Some.p.1 lives.1);
      last = λ p e. let same : c.loop-p.at ≡ p = cc in subst (λ p. is_pair x.cells.cells p ≡ true) same here;
      comes = λ s shown.
          let gone = passes_pair lasting (joining u v) follow c.walks_are_unbounded.ensures lasting_gives s (nconc u v s) w x x (option_value_in w.cells.cells c.loop-p.last) (Some (value_of w.cells.cells c.loop-p.at)) c.loop-p.at c.in-Some.p
          (c.loop-p.invariant.comes s shown) c.in-Some.ensures.means c.in_default-turn.ensures.means
          (λ t shown_t. begins follow t (λ u. Done (Goes (Some (value_of w.cells.cells c.loop-p.at))) u) x shown_t) (c.turn.ensures.grows.values c.in-Some.p.1 lives.1) in
          subst (λ l. EndsShown s (nconc u v s) (walking lasting (joining u v) (Some l) (value_of x.cells.cells c.in-Some.p.1)) x) (sym (c.turn.ensures.grows.values c.loop-p.at (pair_live w.cells.cells c.loop-p.at pair))) gone;
    }

pub returns-in-Err-clause-means : goal.returns-in-Err-clause-means
returns-in-Err-clause-means c s shown =
    let u = value_of c.args.w.now.cells.cells c.args.u in
    let v = value_of c.args.w.now.cells.cells c.args.v in
    wants_turn lasting (joining u v) c.steps_follow.ensures c.walks_are_unbounded.ensures lasting_gives s (nconc u v s) c.loop-p.w c.turn.new.w (option_value_in c.loop-p.w.cells.cells c.loop-p.last) c.loop-p.at c.in-Some.p c.in-Err.why (c.loop-p.invariant.comes s shown) c.in-Some.ensures.means c.in-Err.ensures.means

pub returns-in-Err-clause-grows : goal.returns-in-Err-clause-grows
returns-in-Err-clause-grows c = c.steps_follow.ensures.grows _ _ _ c.loop-p.invariant.way.grows c.turn.ensures.grows

pub returns-in-Err-clause-rest : goal.returns-in-Err-clause-rest
returns-in-Err-clause-rest c = c.steps_follow.ensures.alone _ _ _ c.loop-p.invariant.way.rest c.turn.ensures.rest

pub set_cdr-requires-clause-pair : goal.set_cdr-requires-clause-pair
set_cdr-requires-clause-pair c = c.loop-p.invariant.last c.in-Some-last.p c.in-Some-last.is

pub set_cdr-requires-clause-v_live : goal.set_cdr-requires-clause-v_live
set_cdr-requires-clause-v_live c = c.loop-p.invariant.way.grows.live c.args.v c.requires.v_live

pub returns-in-Some-last-clause-means : goal.returns-in-Some-last-clause-means
returns-in-Some-last-clause-means c s shown =
    let u = value_of c.args.w.now.cells.cells c.args.u in
    let v = value_of c.args.w.now.cells.cells c.args.v in
    let way = c.loop-p.invariant.way in
    let over = walk_is_over lasting (joining u v) c.walks_are_unbounded.ensures s (nconc u v s) c.loop-p.w (option_value_in c.loop-p.w.cells.cells c.loop-p.last) c.loop-p.at (c.loop-p.invariant.comes s shown) c.in_default.ensures.means in
    goes_on c.steps_follow.ensures s (nconc u v s) (joined u (Some (value_of c.loop-p.w.cells.cells c.in-Some-last.p)) v) (λ t. Done (value_of c.set_cdr.new.w.cells.cells c.args.u) t) c.loop-p.w c.set_cdr.new.w
    (subst (λ l. EndsShown s (nconc u v s) (joined u (option_value_in c.loop-p.w.cells.cells l) v) c.loop-p.w) c.in-Some-last.is over)
    (joins c.steps_follow.ensures c.objects_are_shown.ensures c.loop-p.w c.set_cdr.new.w c.in-Some-last.p c.args.v u v c.args.u (c.loop-p.invariant.last c.in-Some-last.p c.in-Some-last.is)
    (sym (c.set_cdr.ensures.grows.values c.args.u (way.grows.live c.args.u c.requires.u_live) ∙ way.grows.values c.args.u c.requires.u_live)) (sym (way.grows.values c.args.v c.requires.v_live)) c.set_cdr.ensures.shows)

pub returns-in-Some-last-clause-live : goal.returns-in-Some-last-clause-live
returns-in-Some-last-clause-live c = c.set_cdr.ensures.grows.live c.args.u (c.loop-p.invariant.way.grows.live c.args.u c.requires.u_live)

pub returns-in-Some-last-clause-grows : goal.returns-in-Some-last-clause-grows
returns-in-Some-last-clause-grows c = c.steps_follow.ensures.grows _ _ _ c.loop-p.invariant.way.grows c.set_cdr.ensures.grows

pub returns-in-Some-last-clause-rest : goal.returns-in-Some-last-clause-rest
returns-in-Some-last-clause-rest c = c.steps_follow.ensures.alone _ _ _ c.loop-p.invariant.way.rest c.set_cdr.ensures.rest

pub returns-in-None-clause-means : goal.returns-in-None-clause-means
returns-in-None-clause-means c s shown =
    let u = value_of c.args.w.now.cells.cells c.args.u in
    let v = value_of c.args.w.now.cells.cells c.args.v in
    let over = walk_is_over lasting (joining u v) c.walks_are_unbounded.ensures s (nconc u v s) c.loop-p.w (option_value_in c.loop-p.w.cells.cells c.loop-p.last) c.loop-p.at (c.loop-p.invariant.comes s shown) c.in_default.ensures.means in
    subst (λ z. EndsShown s (nconc u v s) (λ t. Done z t) c.loop-p.w) (sym (c.loop-p.invariant.way.grows.values c.args.v c.requires.v_live))
    (subst (λ l. EndsShown s (nconc u v s) (joined u (option_value_in c.loop-p.w.cells.cells l) v) c.loop-p.w) c.in-None.is over)

pub returns-in-None-clause-live : goal.returns-in-None-clause-live
returns-in-None-clause-live c = c.loop-p.invariant.way.grows.live c.args.v c.requires.v_live
