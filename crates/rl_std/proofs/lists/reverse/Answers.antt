use Rattle.std.proofs.Common.{◌≡◌, ◌+◌, ◌<◌, arith, ap, refl, subst, sym}
use Rattle.rl_tags.specs.Ids.{nil_id}
use Rattle.rl_meaning.specs.Lists.{reversed}
use Rattle.rl_syms.specs.Contents.{value_of}
use Rattle.rl_state.specs.Ending.{EndsShown, stop_in}
use Rattle.rl_std.proofs.Along.{passes_pair, stops_at_pair, walk_is_over, walking, wants_turn}
use Rattle.rl_std.proofs.Coming.{begins}
use Rattle.rl_std.proofs.Listing.{nil_is, stops_turning, turned_round}
use Rattle.rl_std.proofs.Turning.{taken_leaves}
use Rattle.rl_std.proofs.Visits.{resulting, turning_round, turning_round_gives}
use Rattle.rl_std.proofs.Ways.{way_begins, way_goes}
use Rattle.rl_std.proofs.lists.reverse.Goals as goal

pub loop-p-init : goal.loop-p-init
loop-p-init c = record {
  way = way_begins c.steps_follow.ensures c.args.w.now c.args.u c.requires.world c.requires.u_live;
  list = c.requires.world.table.nil;
  comes = λ s shown.
      let u = value_of c.args.w.now.cells.cells c.args.u in
      subst (λ n. EndsShown s (reversed u s) (walking turning_round resulting n u) c.args.w.now) (sym (nil_is c.args.w.now c.requires.world)) (begins c.steps_follow.ensures s (reversed u) c.args.w.now shown);
}

pub loop-p-preserved : goal.loop-p-preserved
loop-p-preserved c =
    let follow = c.steps_follow.ensures in
    let lives = c.in-Some.ensures.live c.in-Some.p refl in
    let both = follow.grows c.loop-p.w c.turn.new.w c.pair.new.w c.turn.ensures.grows c.pair.ensures.grows in
    record {
      way = way_goes follow c.args.w.now c.loop-p.w c.pair.new.w c.loop-p.at c.in-Some.p.1 c.loop-p.invariant.way both (follow.alone c.loop-p.w c.turn.new.w c.pair.new.w c.turn.ensures.rest c.pair.ensures.rest) (both.live c.in-Some.p.1 lives.1);
      list = c.in-Ok.ensures.live;
      comes = λ s shown.
          passes_pair turning_round resulting follow c.walks_are_unbounded.ensures turning_round_gives s (reversed (value_of c.args.w.now.cells.cells c.args.u) s) c.loop-p.w c.turn.new.w c.pair.new.w (value_of c.loop-p.w.cells.cells c.loop-p.list) (value_of c.pair.new.w.cells.cells c.in-Ok.v) c.loop-p.at c.in-Some.p
          (c.loop-p.invariant.comes s shown) c.in-Some.ensures.means c.in_default-turn.ensures.means
          (turned_round c.loop-p.w c.turn.new.w c.pair.new.w c.in-Some.p.0 c.loop-p.list c.in-Ok.v (value_of c.loop-p.w.cells.cells c.loop-p.at) c.turn.ensures.grows lives.0 c.loop-p.invariant.list c.in-Ok.ensures.means)
          (both.values c.in-Some.p.1 lives.1);
    }

pub pair-requires-clause-a_live : goal.pair-requires-clause-a_live
pair-requires-clause-a_live c = c.turn.ensures.grows.live c.in-Some.p.0 (c.in-Some.ensures.live c.in-Some.p refl).0

pub pair-requires-clause-d_live : goal.pair-requires-clause-d_live
pair-requires-clause-d_live c = c.turn.ensures.grows.live c.loop-p.list c.loop-p.invariant.list

pub loop-p-smaller : goal.loop-p-smaller
loop-p-smaller c =
    let falls = c.in_default-turn.ensures.falls in
    let leaves = taken_leaves c.turn.new.w.counts c.pair.new.w.counts c.pair.ensures.rest.counts in
    omega (arith, falls, leaves)

pub returns-in-Err-clause-means : goal.returns-in-Err-clause-means
returns-in-Err-clause-means c s shown =
    wants_turn turning_round resulting c.steps_follow.ensures c.walks_are_unbounded.ensures turning_round_gives s _ c.loop-p.w c.turn.new.w (value_of c.loop-p.w.cells.cells c.loop-p.list) c.loop-p.at c.in-Some.p c.in-Err.why (c.loop-p.invariant.comes s shown) c.in-Some.ensures.means c.in-Err.ensures.means

pub returns-in-Err-pair-clause-means : goal.returns-in-Err-pair-clause-means
returns-in-Err-pair-clause-means c s shown =
    let lives = c.in-Some.ensures.live c.in-Some.p refl in
    stops_at_pair turning_round resulting c.steps_follow.ensures c.walks_are_unbounded.ensures turning_round_gives s _ c.loop-p.w c.turn.new.w (value_of c.loop-p.w.cells.cells c.loop-p.list) c.loop-p.at c.in-Some.p (stop_in c.pair.new.w.cells.cells c.in-Err-pair.why)
    (c.loop-p.invariant.comes s shown) c.in-Some.ensures.means c.in_default-turn.ensures.means
    (stops_turning c.loop-p.w c.turn.new.w c.pair.new.w c.in-Some.p.0 c.loop-p.list c.in-Err-pair.why (value_of c.loop-p.w.cells.cells c.loop-p.at) c.turn.ensures.grows lives.0 c.loop-p.invariant.list c.in-Err-pair.ensures.means)

pub returns-in-Err-pair-clause-grows : goal.returns-in-Err-pair-clause-grows
returns-in-Err-pair-clause-grows c = c.steps_follow.ensures.grows _ _ _ c.loop-p.invariant.way.grows (c.steps_follow.ensures.grows _ _ _ c.turn.ensures.grows c.pair.ensures.grows)

pub returns-in-Err-pair-clause-rest : goal.returns-in-Err-pair-clause-rest
returns-in-Err-pair-clause-rest c = c.steps_follow.ensures.alone _ _ _ c.loop-p.invariant.way.rest (c.steps_follow.ensures.alone _ _ _ c.turn.ensures.rest c.pair.ensures.rest)

pub returns-in-Err-clause-grows : goal.returns-in-Err-clause-grows
returns-in-Err-clause-grows c = c.steps_follow.ensures.grows _ _ _ c.loop-p.invariant.way.grows c.turn.ensures.grows

pub returns-in-Err-clause-rest : goal.returns-in-Err-clause-rest
returns-in-Err-clause-rest c = c.steps_follow.ensures.alone _ _ _ c.loop-p.invariant.way.rest c.turn.ensures.rest

pub returns-clause-means : goal.returns-clause-means
returns-clause-means c s shown =
    walk_is_over turning_round resulting c.walks_are_unbounded.ensures s _ c.loop-p.w (value_of c.loop-p.w.cells.cells c.loop-p.list) c.loop-p.at (c.loop-p.invariant.comes s shown) c.in_default.ensures.means
