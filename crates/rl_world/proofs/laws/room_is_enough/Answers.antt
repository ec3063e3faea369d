use Rattle.rl_world.proofs.BoundsKept.{room_enough}
use Rattle.rl_world.proofs.laws.room_is_enough.Goals as goal

pub returns : goal.returns
returns c = room_enough
