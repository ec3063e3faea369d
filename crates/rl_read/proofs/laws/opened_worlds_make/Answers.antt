use Rattle.std.proofs.Common.{subst, sym}
use Rattle.rl_world.specs.Bounds.{BoundsAgree, IsMakingCounted}
use Rattle.rl_world.specs.Counts.{WorldCounts}
use Rattle.rl_read.proofs.laws.opened_worlds_make.Goals as goal

pub returns : goal.returns
returns c w turns bound table opening counts =
    let law = c.bounds_are_kept.ensures in
    record {
      table = table;
      bounds = law.opened w.counts w.cells (subst (λ (k : WorldCounts). BoundsAgree k w.cells) (sym counts) (law.opening w.cells turns bound opening)) opening.count;
      counted = subst (λ (k : WorldCounts). IsMakingCounted k.aside k.outermost w.cells.mark) (sym counts) tt;
    }
