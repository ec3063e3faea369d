use Rattle.rl_world.proofs.BoundsKept.{bounds_kept}
use Rattle.rl_world.proofs.laws.bounds_are_kept.Goals as goal

pub returns : goal.returns
returns c = bounds_kept c.objects_are_added.ensures
