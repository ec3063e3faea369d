use Rattle.std.proofs.Common.{ℕ, sym, ◌∙◌}
use Rattle.rl_syms.specs.Contents.{value_of}
use Rattle.rl_tree.specs.Value.{Value}
use Rattle.rl_meaning.specs.Outcome.{Outcome, then_do}
use Rattle.rl_meaning.specs.Properties.{PropertyPlace, for_identifier, is_property, look_for, properties}
use Rattle.rl_meaning.specs.Properties.{put_at as putting_at}
use Rattle.rl_meaning.specs.State.{State}
use Rattle.rl_state.specs.ShownState.{number_in}
use Rattle.rl_ids.proofs.Answering.{for_none, for_number}
use Rattle.rl_ids.proofs.Named.{id_by_tag}
use Rattle.rl_ids.proofs.properties.put.Goals as goal

abbrev putting : Value → Value → ℕ → ℕ → State → Outcome Value
putting p x i j s = then_do (look_for (is_property p) (properties s i) s) (λ (place : PropertyPlace) (s : State). putting_at i p x place.at s)

pub returns-in-Id-tag-clause-means : goal.returns-in-Id-tag-clause-means
returns-in-Id-tag-clause-means c s shown =
    let w = c.args.w.now in
    let p = value_of w.cells.cells c.args.p in
    let x = value_of w.cells.cells c.args.x in
    let r = c.put_property.result in
    for_number w c.args.u s c.put_property.new.w r (λ i s. for_identifier p s (putting p x i)) (id_by_tag w.cells.cells c.args.u (sym c.tag.ensures ∙ c.in-Id.is) c.requires.u_live)
    (for_number w c.args.p s c.put_property.new.w r (putting p x (number_in w.cells.cells c.args.u)) (id_by_tag w.cells.cells c.args.p (sym c.tag-in-Id.ensures ∙ c.in-Id-tag.is) c.requires.p_live) (c.put_property.ensures.means s shown))

pub returns-in_default-tag : goal.returns-in_default-tag
returns-in_default-tag c =
    let w = c.args.w.now in
    let p = value_of w.cells.cells c.args.p in
    let x = value_of w.cells.cells c.args.x in
    let r = c.fail.result in
    record {
      means = λ s shown. for_number w c.args.u s c.fail.new.w r (λ i s. for_identifier p s (putting p x i)) (id_by_tag w.cells.cells c.args.u (sym c.tag.ensures ∙ c.in-Id.is) c.requires.u_live)
          (for_none w c.args.p s c.fail.new.w r (putting p x (number_in w.cells.cells c.args.u)) (λ e. c.in_default-tag.not-Id (c.tag-in-Id.ensures ∙ e)) (c.fail.ensures.means s shown));
      live = c.fail.ensures.live;
      grows = c.fail.ensures.grows;
      rest = c.fail.ensures.rest;
    }

pub returns-in_default : goal.returns-in_default
returns-in_default c =
    let p = value_of c.args.w.now.cells.cells c.args.p in
    let x = value_of c.args.w.now.cells.cells c.args.x in
    record {
      means = λ s shown. for_none c.args.w.now c.args.u s c.fail-in_default.new.w c.fail-in_default.result (λ i s. for_identifier p s (putting p x i)) (λ e. c.in_default.not-Id (c.tag.ensures ∙ e)) (c.fail-in_default.ensures.means s shown);
      live = c.fail-in_default.ensures.live;
      grows = c.fail-in_default.ensures.grows;
      rest = c.fail-in_default.ensures.rest;
    }
