use Rattle.std.proofs.Common.{length, sym, ap, ◌∙◌}
use Rattle.rl_world.specs.Levels.{WorldLevels}
use Rattle.rl_world.proofs.Threes.{length-threes}
use Rattle.rl_world.proofs.levels.Levels.kept.Goals as goal

pub returns : goal.returns
returns c = sym (length-threes c.self.inside.kept c.self.inside.words) ∙ ap (λ (l : WorldLevels). length l.walk) c.self.view_is
