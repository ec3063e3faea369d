use Rattle.std.proofs.Common.{◌∙◌, refl, ap, sym, subst}
use Rattle.rl_tree.specs.Value.{Str}
use Rattle.rl_world.specs.declared.stop.NStep.TheVariants as step
use Rattle.rl_meaning.specs.Errors.{fail as failing}
use Rattle.rl_state.specs.Ending.{MeansAnswer, IsAnswerLive}
use Rattle.rl_syms.specs.Contents.{value_of}
use Rattle.rl_state.proofs.Steps.{fails, fails_first, fails_second, grows_trans, str_means}
use Rattle.rl_state.proofs.Made.{rest_trans}
use Rattle.rl_state.proofs.errors.fail.Goals as goal

pub returns-in-Err-clause-means : goal.returns-in-Err-clause-means
returns-in-Err-clause-means c =
    fails_first c.args.w.now c.pair.new.w c.args.n c.args.culprit c.error_text-text.result c.in-Err.why
    (str_means c.args.w.now.cells.cells c.error_text-text.result c.error_text-text.ensures.string ∙ ap Str c.error_text-text.ensures.text) c.requires.world c.in-Err.ensures.means

pub pair-requires-2-clause-a_live : goal.pair-requires-2-clause-a_live
pair-requires-2-clause-a_live c = c.pair.ensures.grows.live c.args.culprit c.requires.culprit_live

pub returns-in-Err-pair-clause-means : goal.returns-in-Err-pair-clause-means
returns-in-Err-pair-clause-means c =
    fails_second c.args.w.now c.pair.new.w c.pair-2.new.w c.args.n c.args.culprit c.error_text-text.result c.in-Ok.v c.in-Err-pair.why
    (str_means c.args.w.now.cells.cells c.error_text-text.result c.error_text-text.ensures.string ∙ ap Str c.error_text-text.ensures.text) c.requires.world c.requires.culprit_live
    c.in-Ok.ensures.means c.pair.ensures.grows c.in-Err-pair.ensures.means

pub returns-in-Err-pair-clause-grows : goal.returns-in-Err-pair-clause-grows
returns-in-Err-pair-clause-grows c = grows_trans c.args.w.now c.pair.new.w c.pair-2.new.w c.pair.ensures.grows c.pair-2.ensures.grows

pub returns-clause-means : goal.returns-clause-means
returns-clause-means c s shown =
    subst (λ n. MeansAnswer s (failing c.args.n (value_of c.args.w.now.cells.cells c.args.culprit) s) (step.Error n c.in-Ok-pair.v) c.set_message.new.w) (sym c.number.ensures)
    (fails c.args.w.now c.pair.new.w c.pair-2.new.w c.set_message.new.w c.args.n c.args.culprit c.error_text-text.result c.in-Ok.v c.in-Ok-pair.v
    (str_means c.args.w.now.cells.cells c.error_text-text.result c.error_text-text.ensures.string ∙ ap Str c.error_text-text.ensures.text) c.requires.world c.requires.culprit_live c.in-Ok-pair.ensures.live
    c.in-Ok.ensures.means c.pair.ensures.grows c.in-Ok-pair.ensures.means c.set_message.ensures.shows c.set_message.ensures.grows s shown)

pub returns-clause-grows : goal.returns-clause-grows
returns-clause-grows c = grows_trans c.args.w.now c.pair-2.new.w c.set_message.new.w (grows_trans c.args.w.now c.pair.new.w c.pair-2.new.w c.pair.ensures.grows c.pair-2.ensures.grows) c.set_message.ensures.grows

pub returns-clause-live : goal.returns-clause-live
returns-clause-live c = subst (λ n. IsAnswerLive c.set_message.new.w.cells.cells (step.Error n c.in-Ok-pair.v)) (sym c.number.ensures) (refl, c.set_message.ensures.grows.live c.in-Ok-pair.v c.in-Ok-pair.ensures.live)

pub returns-in-Err-pair-clause-rest : goal.returns-in-Err-pair-clause-rest
returns-in-Err-pair-clause-rest c = rest_trans c.counts_are_taken.ensures c.args.w.now c.pair.new.w c.pair-2.new.w c.pair.ensures.rest c.pair-2.ensures.rest

pub returns-clause-rest : goal.returns-clause-rest
returns-clause-rest c = rest_trans c.counts_are_taken.ensures c.args.w.now c.pair-2.new.w c.set_message.new.w (rest_trans c.counts_are_taken.ensures c.args.w.now c.pair.new.w c.pair-2.new.w c.pair.ensures.rest c.pair-2.ensures.rest) c.set_message.ensures.rest
