use Rattle.std.proofs.Common.{ap}
use Rattle.rl_world.specs.Levels.{WorldLevels}
use Rattle.rl_tests.proofs.world.opening.Goals as goal

pub returns-clause-unsettled : goal.returns-clause-unsettled
returns-clause-unsettled c = c.in_ok-open.ensures.opening.count

pub returns-clause-texts : goal.returns-clause-texts
returns-clause-texts c = c.in_ok-open.ensures.texts

pub returns-clause-counts : goal.returns-clause-counts
returns-clause-counts c = c.in_ok-open.ensures.counts

pub returns-clause-walk : goal.returns-clause-walk
returns-clause-walk c = ap (λ (l : WorldLevels). l.walk) c.in_ok-open.ensures.levels
