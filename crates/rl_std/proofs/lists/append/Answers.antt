use Rattle.std.proofs.Common.{◌≡◌, ◌+◌, ◌<◌, arith, refl, subst}
use Rattle.rl_world.specs.declared.stop.NStep.TheVariants as step
use Rattle.rl_meaning.specs.Lists.{append, list_ended}
use Rattle.rl_syms.specs.Contents.{value_of}
use Rattle.rl_state.specs.Ending.{MeansAnswer, stop_in}
use Rattle.rl_std.specs.Chains.{list_chain_in}
use Rattle.rl_std.proofs.Along.{passes_pair, stops_at_pair, walk_is_over, wants_turn}
use Rattle.rl_std.proofs.Coming.{answers_on, begins}
use Rattle.rl_std.proofs.Listing.{chain_stays, copies, stops_copying}
use Rattle.rl_std.proofs.Turning.{taken_leaves}
use Rattle.rl_std.proofs.Visits.{behind, copying, copying_gives}
use Rattle.rl_std.proofs.Ways.{way_begins, way_goes}
use Rattle.rl_std.proofs.lists.append.Goals as goal

pub loop-p-init : goal.loop-p-init
loop-p-init c = record {
  way = way_begins c.steps_follow.ensures c.args.w.now c.args.u c.requires.world c.requires.u_live;
  chain = λ x e. absurd (cc);
  comes = λ s shown. begins c.steps_follow.ensures s (append (value_of c.args.w.now.cells.cells c.args.u) (value_of c.args.w.now.cells.cells c.args.v)) c.args.w.now shown;
}

pub loop-p-preserved : goal.loop-p-preserved
loop-p-preserved c =
    let follow = c.steps_follow.ensures in
    let lives = c.in-Some.ensures.live c.in-Some.p refl in
    let both = follow.grows c.loop-p.w c.turn.new.w c.extended.new.w c.turn.ensures.grows c.extended.ensures.grows in
    record {
      way = way_goes follow c.args.w.now c.loop-p.w c.extended.new.w c.loop-p.at c.in-Some.p.1 c.loop-p.invariant.way both (follow.alone c.loop-p.w c.turn.new.w c.extended.new.w c.turn.ensures.rest c.extended.ensures.rest) (both.live c.in-Some.p.1 lives.1);
      chain = c.in-Ok.ensures.chain;
      comes = λ s shown.
          passes_pair copying (behind (value_of c.args.w.now.cells.cells c.args.v)) follow c.walks_are_unbounded.ensures copying_gives s (append (value_of c.args.w.now.cells.cells c.args.u) (value_of c.args.w.now.cells.cells c.args.v) s) c.loop-p.w c.turn.new.w c.extended.new.w (list_chain_in c.loop-p.w.cells.cells c.loop-p.chain) (list_chain_in c.extended.new.w.cells.cells c.in-Ok.longer) c.loop-p.at c.in-Some.p
          (c.loop-p.invariant.comes s shown) c.in-Some.ensures.means c.in_default-turn.ensures.means
          (copies c.loop-p.w c.turn.new.w c.extended.new.w c.loop-p.chain c.in-Ok.longer c.in-Some.p.0 (value_of c.loop-p.w.cells.cells c.loop-p.at) c.turn.ensures.grows c.loop-p.invariant.chain lives.0 c.in-Ok.ensures.means)
          (both.values c.in-Some.p.1 lives.1);
    }

pub extended-requires-clause-x_live : goal.extended-requires-clause-x_live
extended-requires-clause-x_live c = c.turn.ensures.grows.live c.in-Some.p.0 (c.in-Some.ensures.live c.in-Some.p refl).0

pub extended-requires-clause-chain : goal.extended-requires-clause-chain
extended-requires-clause-chain c = chain_stays c.loop-p.w c.turn.new.w c.loop-p.chain c.turn.ensures.grows c.loop-p.invariant.chain

pub loop-p-smaller : goal.loop-p-smaller
loop-p-smaller c =
    let falls = c.in_default-turn.ensures.falls in
    let leaves = taken_leaves c.turn.new.w.counts c.extended.new.w.counts c.extended.ensures.rest.counts in
    omega (arith, falls, leaves)

pub returns-in-Err-clause-means : goal.returns-in-Err-clause-means
returns-in-Err-clause-means c s shown =
    wants_turn copying (behind (value_of c.args.w.now.cells.cells c.args.v)) c.steps_follow.ensures c.walks_are_unbounded.ensures copying_gives s _ c.loop-p.w c.turn.new.w (list_chain_in c.loop-p.w.cells.cells c.loop-p.chain) c.loop-p.at c.in-Some.p c.in-Err.why (c.loop-p.invariant.comes s shown) c.in-Some.ensures.means c.in-Err.ensures.means

pub returns-in-Err-extended-clause-means : goal.returns-in-Err-extended-clause-means
returns-in-Err-extended-clause-means c s shown =
    let lives = c.in-Some.ensures.live c.in-Some.p refl in
    stops_at_pair copying (behind (value_of c.args.w.now.cells.cells c.args.v)) c.steps_follow.ensures c.walks_are_unbounded.ensures copying_gives s _ c.loop-p.w c.turn.new.w (list_chain_in c.loop-p.w.cells.cells c.loop-p.chain) c.loop-p.at c.in-Some.p (stop_in c.extended.new.w.cells.cells c.in-Err-extended.why)
    (c.loop-p.invariant.comes s shown) c.in-Some.ensures.means c.in_default-turn.ensures.means
    (stops_copying c.loop-p.w c.turn.new.w c.extended.new.w c.loop-p.chain c.in-Some.p.0 c.in-Err-extended.why (value_of c.loop-p.w.cells.cells c.loop-p.at) c.turn.ensures.grows c.loop-p.invariant.chain lives.0 c.in-Err-extended.ensures.means)

pub returns-in-Err-extended-clause-grows : goal.returns-in-Err-extended-clause-grows
returns-in-Err-extended-clause-grows c = c.steps_follow.ensures.grows _ _ _ c.loop-p.invariant.way.grows (c.steps_follow.ensures.grows _ _ _ c.turn.ensures.grows c.extended.ensures.grows)

pub returns-in-Err-extended-clause-rest : goal.returns-in-Err-extended-clause-rest
returns-in-Err-extended-clause-rest c = c.steps_follow.ensures.alone _ _ _ c.loop-p.invariant.way.rest (c.steps_follow.ensures.alone _ _ _ c.turn.ensures.rest c.extended.ensures.rest)

pub returns-in-Err-clause-grows : goal.returns-in-Err-clause-grows
returns-in-Err-clause-grows c = c.steps_follow.ensures.grows _ _ _ c.loop-p.invariant.way.grows c.turn.ensures.grows

pub returns-in-Err-clause-rest : goal.returns-in-Err-clause-rest
returns-in-Err-clause-rest c = c.steps_follow.ensures.alone _ _ _ c.loop-p.invariant.way.rest c.turn.ensures.rest

pub ended-requires-clause-v_live : goal.ended-requires-clause-v_live
ended-requires-clause-v_live c = c.loop-p.invariant.way.grows.live c.args.v c.requires.v_live

pub returns-clause-means : goal.returns-clause-means
returns-clause-means c s shown =
    let v = value_of c.args.w.now.cells.cells c.args.v in
    let chain = list_chain_in c.loop-p.w.cells.cells c.loop-p.chain in
    let over = walk_is_over copying (behind v) c.walks_are_unbounded.ensures s (append (value_of c.args.w.now.cells.cells c.args.u) v s) c.loop-p.w chain c.loop-p.at (c.loop-p.invariant.comes s shown) c.in_default.ensures.means in
    answers_on c.steps_follow.ensures s (append (value_of c.args.w.now.cells.cells c.args.u) v s) (λ t. list_ended chain v t) (step.Done c.ended.result) c.loop-p.w c.ended.new.w over
    (λ t shown_t. subst (λ z. MeansAnswer t (list_ended chain z t) (step.Done c.ended.result) c.ended.new.w) (c.loop-p.invariant.way.grows.values c.args.v c.requires.v_live) (c.ended.ensures.means t shown_t))

pub returns-clause-grows : goal.returns-clause-grows
returns-clause-grows c = c.steps_follow.ensures.grows _ _ _ c.loop-p.invariant.way.grows c.ended.ensures.grows

pub returns-clause-rest : goal.returns-clause-rest
returns-clause-rest c = c.steps_follow.ensures.alone _ _ _ c.loop-p.invariant.way.rest c.ended.ensures.rest
