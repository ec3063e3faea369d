use Rattle.std.proofs.Common.{arith}
use Rattle.rl_read.specs.Frames.{frames_kept}
use Rattle.rl_read.proofs.MakingStays.{levels_same}
use Rattle.rl_read.proofs.WalkKept.{around_kept, weight_inside}
use Rattle.rl_read.proofs.frames.around.Goals as goal
use Rattle.rl_world.specs.Walks.{kept_above}

pub returns-in_default : goal.returns-in_default
returns-in_default c =
    let same = around_kept c.args.group.now (frames_kept (kept_above c.args.base c.args.w.now.levels)) c.in_default.not-QuoteBehind c.in_default.not-VectorBehind in
    record {
      frames = rw same c.outer.ensures.frames;
      left = rw same c.outer.ensures.left;
      less = omega (arith, c.outer.ensures.less, weight_inside c.args.group.now c.requires.inside);
      ready = c.outer.ensures.ready;
      levels = c.outer.ensures.levels;
    }

pub returns-in-QuoteBehind-clause-levels : goal.returns-in-QuoteBehind-clause-levels
returns-in-QuoteBehind-clause-levels c = levels_same c.args.base c.args.w.now

pub returns-in-VectorBehind-clause-levels : goal.returns-in-VectorBehind-clause-levels
returns-in-VectorBehind-clause-levels c = levels_same c.args.base c.args.w.now
