use Rattle.std.proofs.Common.{◌≡◌, ◌+◌, arith, refl, subst, sym, suc}
use Rattle.rl_meaning.specs.Lists.{list_length}
use Rattle.rl_meaning.specs.Outcome.{Done}
use Rattle.rl_meaning.specs.Walks.{Goes}
use Rattle.rl_world.specs.declared.stop.NStep.TheVariants as step
use Rattle.rl_state.specs.Ending.{EndsShown, MeansAnswer}
use Rattle.rl_syms.specs.Contents.{value_of}
use Rattle.rl_std.proofs.Along.{passes_pair, walk_is_over, walking, wants_turn}
use Rattle.rl_std.proofs.Coming.{begins}
use Rattle.rl_std.proofs.Turning.{few_left}
use Rattle.rl_std.proofs.Visits.{counted, counting, counting_gives}
use Rattle.rl_std.proofs.Ways.{way_begins, way_goes}
use Rattle.rl_std.proofs.lists.length.Goals as goal

pub loop-p-init : goal.loop-p-init
loop-p-init c = record {
  way = way_begins c.steps_follow.ensures c.args.w.now c.args.u c.requires.world c.requires.u_live;
  count = omega arith;
  comes = λ s shown. begins c.steps_follow.ensures s (walking counting counted 0 (value_of c.args.w.now.cells.cells c.args.u)) c.args.w.now shown;
}

pub loop-p-preserved : goal.loop-p-preserved
loop-p-preserved c =
    let follow = c.steps_follow.ensures in
    let live = (c.in-Some.ensures.live c.in-Some.p refl).1 in
    let falls = c.in_default-turn.ensures.falls in
    let next : suc c.loop-p.n ≡ c.loop-p.n + 1 = omega arith in
    record {
      way = way_goes follow c.args.w.now c.loop-p.w c.turn.new.w c.loop-p.at c.in-Some.p.1 c.loop-p.invariant.way c.turn.ensures.grows c.turn.ensures.rest (c.turn.ensures.grows.live _ live);
      count = omega (arith, falls, c.loop-p.invariant.count);
      comes = λ s shown.
          let o = list_length (value_of c.args.w.now.cells.cells c.args.u) s in
          let gone = passes_pair counting counted follow c.walks_are_unbounded.ensures counting_gives s o c.loop-p.w c.turn.new.w c.turn.new.w c.loop-p.n (suc c.loop-p.n) c.loop-p.at c.in-Some.p (c.loop-p.invariant.comes s shown) c.in-Some.ensures.means c.in_default-turn.ensures.means
          (λ t shown. begins follow t (λ u. Done (Goes (suc c.loop-p.n)) u) c.turn.new.w shown) (c.turn.ensures.grows.values c.in-Some.p.1 live) in
          subst (λ n. EndsShown s o (walking counting counted n (value_of c.turn.new.w.cells.cells c.in-Some.p.1)) c.turn.new.w) next gone;
    }

pub overflow_add-n : goal.overflow_add-n
overflow_add-n c =
    let falls = c.in_default-turn.ensures.falls in
    omega (arith, falls, few_left c.args.w.now.cells c.args.w.now.counts c.requires.world.running, c.loop-p.invariant.count)

pub count-requires : goal.count-requires
count-requires c = omega (arith, few_left c.args.w.now.cells c.args.w.now.counts c.requires.world.running, c.loop-p.invariant.count)

pub returns-in-Err-clause-means : goal.returns-in-Err-clause-means
returns-in-Err-clause-means c s shown =
    wants_turn counting counted c.steps_follow.ensures c.walks_are_unbounded.ensures counting_gives s _ c.loop-p.w c.turn.new.w c.loop-p.n c.loop-p.at c.in-Some.p c.in-Err.why (c.loop-p.invariant.comes s shown) c.in-Some.ensures.means c.in-Err.ensures.means

pub returns-in-Err-clause-grows : goal.returns-in-Err-clause-grows
returns-in-Err-clause-grows c = c.steps_follow.ensures.grows _ _ _ c.loop-p.invariant.way.grows c.turn.ensures.grows

pub returns-in-Err-clause-rest : goal.returns-in-Err-clause-rest
returns-in-Err-clause-rest c = c.steps_follow.ensures.alone _ _ _ c.loop-p.invariant.way.rest c.turn.ensures.rest

pub returns-clause-means : goal.returns-clause-means
returns-clause-means c s shown =
    subst (λ n. MeansAnswer s (list_length (value_of c.args.w.now.cells.cells c.args.u) s) (step.Done n) c.loop-p.w) (sym c.count.ensures)
    (walk_is_over counting counted c.walks_are_unbounded.ensures s _ c.loop-p.w c.loop-p.n c.loop-p.at (c.loop-p.invariant.comes s shown) c.in_default.ensures.means)
