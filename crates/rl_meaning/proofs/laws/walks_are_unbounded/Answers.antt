use Rattle.rl_meaning.proofs.UnboundedWalks.{walks_unbounded}
use Rattle.rl_meaning.proofs.laws.walks_are_unbounded.Goals as goal

pub returns : goal.returns
returns g c = walks_unbounded g.R.WalkResult.what
