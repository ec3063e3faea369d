use Rattle.std.proofs.Common.{arith}
use Rattle.rl_world.proofs.Threes.{length-threes}
use Rattle.rl_world.proofs.levels.Levels.leave.Goals as goal

pub invariant_of-self : goal.invariant_of-self
invariant_of-self c =
    let kept = length-threes c.self.inside.kept c.self.inside.words in
    let within = rw (← c.self.view_is) at c.requires in
    record {
      long = c.self.invariant.long;
      bounded = c.self.invariant.bounded;
      level_within = omega (arith, c.self.invariant.level_within);
      kept_within = omega (arith, kept, within);
      aside_within = c.self.invariant.aside_within;
    }
