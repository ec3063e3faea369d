-- Answers of natives on identifiers.
use Rattle.std.proofs.Common.{◌≡◌, ◌≢◌, ℕ, true, false, sym, ap, subst, ◌∙◌}
use Rattle.rl_tags.specs.Tagged.{Tagged, tag_of}
use Rattle.rl_tags.specs.declared.Tag.TheVariants as tag
use Rattle.rl_tags.specs.Ids.{nil_id}
use Rattle.rl_tree.specs.Value.{Value, Id}
use Rattle.rl_cells.specs.Cell.{is_live}
use Rattle.rl_syms.specs.Contents.{value_of}
use Rattle.rl_syms.specs.Table.{is_id}
use Rattle.rl_world.specs.declared.stop.NStep as steps
use Rattle.rl_world.specs.declared.stop.NStep.TheVariants as step
use Rattle.rl_world.specs.declared.world.World.{World}
use Rattle.rl_meaning.specs.Errors.{fail, wrong_type}
use Rattle.rl_meaning.specs.Outcome.{Outcome, Done}
use Rattle.rl_meaning.specs.Properties.{for_identifier, of_identifier}
use Rattle.rl_meaning.specs.State.{State}
use Rattle.rl_meaning.specs.Symbols.{nil_value_of_state}
use Rattle.rl_state.specs.Ending.{MeansAnswer}
use Rattle.rl_state.specs.ShownState.{ShowsState, number_in}
use Rattle.rl_state.specs.StepLaws.{StepsFollow}
use Rattle.rl_state.specs.Worlds.{IsWorld}
use Rattle.rl_ids.proofs.Named.{id_by_tag, id_means, nil_means, no_identifier, wants_identifier}

module _ (w : World) (u : Tagged) (s : State) where
  -- of an identifier, by its number
  pub of_number : (x : World) (r : steps.NStep) (a : Value) (next : ℕ → State → Outcome Value) → is_id w.cells.cells u ≡ true → MeansAnswer s (next (number_in w.cells.cells u) s) r x → MeansAnswer s (of_identifier (value_of w.cells.cells u) a s next) r x
  of_number x r a next i h = subst (λ v. MeansAnswer s (of_identifier v a s next) r x) (sym (id_means w.cells.cells u i)) h

  pub for_number : (x : World) (r : steps.NStep) (next : ℕ → State → Outcome Value) → is_id w.cells.cells u ≡ true → MeansAnswer s (next (number_in w.cells.cells u) s) r x → MeansAnswer s (for_identifier (value_of w.cells.cells u) s next) r x
  for_number x r next i h = subst (λ v. MeansAnswer s (for_identifier v s next) r x) (sym (id_means w.cells.cells u i)) h

  -- of what is no identifier NIL, or an error
  pub of_none : StepsFollow → (next : ℕ → State → Outcome Value) → IsWorld w → ShowsState w s → tag_of u ≢ tag.Id → MeansAnswer s (of_identifier (value_of w.cells.cells u) nil_value_of_state s next) (step.Done nil_id) w
  of_none follow next i h ne = record {
    state = s;
    is = no_identifier w.cells.cells u nil_value_of_state s next ne ∙ ap (λ v. Done v s) (sym (nil_means w i));
    good = follow.still w s h;
  }

  pub for_none : (x : World) (r : steps.NStep) (next : ℕ → State → Outcome Value) → tag_of u ≢ tag.Id → MeansAnswer s (fail wrong_type (value_of w.cells.cells u) s) r x → MeansAnswer s (for_identifier (value_of w.cells.cells u) s next) r x
  for_none x r next ne h = subst (λ o. MeansAnswer s o r x) (sym (wants_identifier w.cells.cells u s next ne)) h
