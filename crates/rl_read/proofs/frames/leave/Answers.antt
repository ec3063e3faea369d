use Rattle.std.proofs.Common.{◌≡◌, ◌+◌, ◌≤◌, ap, arith, length}
use Rattle.rl_read.proofs.WalkKept.{levels_again}
use Rattle.rl_read.proofs.MakingStays.{steady_trans}
use Rattle.rl_read.proofs.frames.leave.Goals as goal

pub loop-w-preserved : goal.loop-w-preserved
loop-w-preserved c =
    let long : length c.loop-w.w.levels.walk ≡ length c.walk_pop.new.self.levels.walk + 1 = omega (arith, ap length c.walk_pop.ensures.popped) in
    let above : c.args.base ≤ length c.walk_pop.new.self.levels.walk = omega (arith, long, c.walk_len.ensures, c.loop-w-test.true) in
    record {
      above = above;
      steady = steady_trans c.args.base c.args.w.now.levels c.loop-w.w.levels c.walk_pop.new.self.levels c.loop-w.invariant.steady (c.walk_pop.ensures.steady c.args.base above);
      world = levels_again c.args.w.now c.loop-w.w c.walk_pop.new.self _ c.loop-w.invariant.world c.walk_pop.ensures.left;
    }

pub returns-clause-levels : goal.returns-clause-levels
returns-clause-levels c = record { world = c.loop-w.invariant.world; steady = c.loop-w.invariant.steady }
