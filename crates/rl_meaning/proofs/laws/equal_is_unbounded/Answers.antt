use Rattle.rl_meaning.proofs.UnboundedWalks.{equal_unbounded}
use Rattle.rl_meaning.proofs.laws.equal_is_unbounded.Goals as goal

pub returns : goal.returns
returns c = equal_unbounded
