use Rattle.std.proofs.Common.{◌≡◌, true, refl, sym, ap, subst, ◌∙◌}
use Rattle.rl_cells.specs.Cell.{is_live}
use Rattle.rl_world.specs.Counts.{ticked}
use Rattle.rl_world.specs.declared.world.World.{World}
use Rattle.rl_ids.proofs.PropertyLists.{begins_looking, looks_at, looks_on, looks_to_end, looks_to_find, looks_to_stop}
use Rattle.rl_ids.proofs.elements.look_for.Goals as goal

pub loop-here-init : goal.loop-here-init
loop-here-init c = record {
  world = c.requires.world;
  at = c.requires.list_live;
  before = λ x e. absurd (cc);
  alone = refl;
  grows = c.steps_follow.ensures.stands c.args.w.now c.requires.world;
  rest = c.steps_follow.ensures.none c.args.w.now;
  walking = λ s shown. begins_looking c.args.w.now c.args.wanted c.args.p s c.steps_follow.ensures c.args.list shown;
}

pub returns-in-Err-clause-means : goal.returns-in-Err-clause-means
returns-in-Err-clause-means c s shown =
    looks_to_stop c.args.w.now c.args.wanted c.args.p s c.steps_follow.ensures c.walks_are_unbounded.ensures c.loop-here.w c.turn.new.w c.loop-here.before c.loop-here.at c.args.list c.in-Some.here c.in-Err.why
    (ap (λ (w : World). w.cells) c.loop-here.invariant.alone) (c.loop-here.invariant.walking s shown) c.in-Some.ensures.means c.in-Err.ensures.means

pub is_wanted-requires-clause-x_live : goal.is_wanted-requires-clause-x_live
is_wanted-requires-clause-x_live c = c.turn.ensures.grows.live _ ((c.in-Some.ensures.live c.in-Some.here refl).0)

pub returns-then-is_wanted-clause-means : goal.returns-then-is_wanted-clause-means
returns-then-is_wanted-clause-means c s shown =
    let same = ap (λ (w : World). w.cells) c.loop-here.invariant.alone in
    let taken = ap (λ (w : World). w.cells) c.in_default-turn.ensures.taken in
    looks_to_find c.args.w.now c.args.wanted c.args.p s c.steps_follow.ensures c.turn.new.w c.loop-here.before c.loop-here.at c.args.list c.in-Some.here (taken ∙ same)
    (looks_at c.args.w.now c.args.wanted c.args.p s c.steps_follow.ensures c.walks_are_unbounded.ensures _ c.loop-here.w c.turn.new.w c.loop-here.before c.loop-here.at c.in-Some.here same (c.loop-here.invariant.walking s shown) c.in-Some.ensures.means c.in_default-turn.ensures.means)
    (λ t h. c.is_wanted.ensures t h ∙ c.if-is_wanted.true)

pub returns-then-is_wanted-clause-before : goal.returns-then-is_wanted-clause-before
returns-then-is_wanted-clause-before c x e = c.turn.ensures.grows.live x (c.loop-here.invariant.before x e)

pub returns-then-is_wanted-clause-rest : goal.returns-then-is_wanted-clause-rest
returns-then-is_wanted-clause-rest c = c.steps_follow.ensures.alone _ _ _ c.loop-here.invariant.rest c.turn.ensures.rest

pub loop-here-preserved : goal.loop-here-preserved
loop-here-preserved c =
    let same = ap (λ (w : World). w.cells) c.loop-here.invariant.alone in
    let taken = ap (λ (w : World). w.cells) c.in_default-turn.ensures.taken in
    record {
      world = c.turn.ensures.grows.world;
      at = c.turn.ensures.grows.live _ ((c.in-Some.ensures.live c.in-Some.here refl).1);
      before = λ x e. let is : c.loop-here.at ≡ x = cc in c.turn.ensures.grows.live x (subst (λ v. is_live c.loop-here.w.cells.cells v ≡ true) is c.loop-here.invariant.at);
      alone = c.in_default-turn.ensures.taken ∙ ap (λ (w : World). record w { counts = ticked c.loop-here.w.counts }) c.loop-here.invariant.alone
          ∙ ap (λ k. record c.args.w.now { counts = k }) (sym (ap (λ (w : World). w.counts) c.in_default-turn.ensures.taken));
      grows = c.steps_follow.ensures.grows _ _ _ c.loop-here.invariant.grows c.turn.ensures.grows;
      rest = c.steps_follow.ensures.alone _ _ _ c.loop-here.invariant.rest c.turn.ensures.rest;
      walking = λ s shown.
          looks_on c.args.w.now c.args.wanted c.args.p s c.steps_follow.ensures _ c.turn.new.w c.loop-here.before c.loop-here.at c.in-Some.here (taken ∙ same)
          (looks_at c.args.w.now c.args.wanted c.args.p s c.steps_follow.ensures c.walks_are_unbounded.ensures _ c.loop-here.w c.turn.new.w c.loop-here.before c.loop-here.at c.in-Some.here same (c.loop-here.invariant.walking s shown) c.in-Some.ensures.means c.in_default-turn.ensures.means)
          (λ t h. c.is_wanted.ensures t h ∙ c.if-is_wanted.false);
    }

pub returns-clause-means : goal.returns-clause-means
returns-clause-means c s shown =
    looks_to_end c.args.w.now c.args.wanted c.args.p s c.steps_follow.ensures c.walks_are_unbounded.ensures c.loop-here.w c.loop-here.before c.loop-here.at c.args.list (ap (λ (w : World). w.cells) c.loop-here.invariant.alone)
    (c.loop-here.invariant.walking s shown) c.in_default.ensures.means
