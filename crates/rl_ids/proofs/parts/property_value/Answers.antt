use Rattle.std.proofs.Common.{ap, ◌∙◌}
use Rattle.rl_meaning.specs.Symbols.{cdr_at}
use Rattle.rl_ids.proofs.parts.property_value.Goals as goal

pub returns-in-Some-clause-means : goal.returns-in-Some-clause-means
returns-in-Some-clause-means c s shown = rw c.in-Some.is (c.cdr_or_nil.ensures.means s shown ∙ ap (cdr_at s) (c.car_or_nil.ensures.means s shown))
