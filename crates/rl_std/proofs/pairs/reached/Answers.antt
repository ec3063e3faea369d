use Rattle.std.proofs.Common.{◌∷◌, ap, refl, subst, ◌∙◌}
use Rattle.rl_meaning.specs.Lists.{part}
use Rattle.rl_syms.specs.Contents.{value_of}
use Rattle.rl_state.specs.Ending.{EndsShown}
use Rattle.rl_std.specs.Paths.{is_car, letters_left, letters_of}
use Rattle.rl_std.proofs.Coming.{begins}
use Rattle.rl_std.proofs.Parting.{no_part, part_goes, side_live}
use Rattle.rl_std.proofs.pairs.reached.Goals as goal

pub loop-left-init : goal.loop-left-init
loop-left-init c = record {
  live = c.requires;
  comes = λ s shown. begins c.steps_follow.ensures s (part (letters_of c.args.path) (value_of c.args.w.now.cells.cells c.args.v)) c.args.w.now shown;
}

pub returns-in_default-parts-clause-means : goal.returns-in_default-parts-clause-means
returns-in_default-parts-clause-means c s shown =
    let w = c.args.w.now in
    let o = part (letters_of c.args.path) (value_of w.cells.cells c.args.v) s in
    no_part s o w (is_car c.first_letter-letter.result.0) (letters_left c.first_letter-letter.result.1) c.loop-left.at
    (subst (λ path. EndsShown s o (part path (value_of w.cells.cells c.loop-left.at)) w) (ap letters_left c.in-Some.is ∙ c.first_letter-letter.ensures) (c.loop-left.invariant.comes s shown))
    c.in_default-parts.ensures.means

pub loop-left-preserved : goal.loop-left-preserved
loop-left-preserved c =
    record {
      live = side_live c.args.w.now.cells.cells (is_car c.first_letter-letter.result.0) c.in-Some-parts.p c.side-at.result c.side-at.ensures (c.in-Some-parts.ensures.live c.in-Some-parts.p refl);
      comes = λ s shown.
          let w = c.args.w.now in
          let o = part (letters_of c.args.path) (value_of w.cells.cells c.args.v) s in
          part_goes c.steps_follow.ensures s o w (is_car c.first_letter-letter.result.0) (letters_left c.first_letter-letter.result.1) c.loop-left.at c.side-at.result c.in-Some-parts.p
          (subst (λ path. EndsShown s o (part path (value_of w.cells.cells c.loop-left.at)) w) (ap letters_left c.in-Some.is ∙ c.first_letter-letter.ensures) (c.loop-left.invariant.comes s shown))
          c.in-Some-parts.ensures.means c.side-at.ensures;
    }

pub returns-clause-means : goal.returns-clause-means
returns-clause-means c s shown =
    let w = c.args.w.now in
    subst (λ path. EndsShown s (part (letters_of c.args.path) (value_of w.cells.cells c.args.v) s) (part path (value_of w.cells.cells c.loop-left.at)) w) (ap letters_left c.in_default.is) (c.loop-left.invariant.comes s shown)
