use Rattle.std.proofs.Common.{refl, sym, ◌∙◌}
use Rattle.rl_ids.proofs.Named.{nil_means}
use Rattle.rl_ids.proofs.PairParts.{cdr_known, no_cdr}
use Rattle.rl_ids.proofs.parts.cdr_or_nil.Goals as goal

pub returns-in-Some-clause-means : goal.returns-in-Some-clause-means
returns-in-Some-clause-means c s shown = sym (cdr_known s _ _ _ (c.in-Some.ensures.means s shown))

pub returns-in-Some-clause-live : goal.returns-in-Some-clause-live
returns-in-Some-clause-live c = (c.in-Some.ensures.live c.in-Some.p refl).1

pub returns-in-None-clause-means : goal.returns-in-None-clause-means
returns-in-None-clause-means c s shown = nil_means c.args.w.now c.requires.world ∙ sym (no_cdr s _ (c.in-None.ensures.means s shown))
