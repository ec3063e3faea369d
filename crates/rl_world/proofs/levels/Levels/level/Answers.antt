use Rattle.std.proofs.Common.{arith}
use Rattle.rl_world.proofs.Threes.{length-threes}
use Rattle.rl_world.proofs.levels.Levels.level.Goals as goal

pub returns-clause-levels : goal.returns-clause-levels
returns-clause-levels c = rw (← c.self.view_is) (record {
  bounded = c.self.invariant.bounded;
  within = c.self.invariant.level_within;
  walks = omega (arith, c.self.invariant.kept_within, length-threes c.self.inside.kept c.self.inside.words);
})
