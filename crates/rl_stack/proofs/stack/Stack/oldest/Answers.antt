use Rattle.std.proofs.Common.{◌<◌, length, arith}
use Rattle.rl_stack.proofs.TopValues.{found_more}
use Rattle.rl_stack.proofs.stack.Stack.oldest.Goals as goal

pub loop-k-preserved : goal.loop-k-preserved
loop-k-preserved c =
    let d = c.depth.ensures in
    let t = c.loop-k-test.true in
    let k : c.loop-k.k < length c.args.self.now.saved = omega (arith, d, t) in
    record {
      within = omega (arith, k);
      found = found_more c.args.id c.loop-k.found c.found_or-found.result c.loop-k.k c.binds-here.result c.saved_at.result c.args.self.now.saved k c.saved_at.ensures c.binds-here.ensures c.found_or-found.ensures c.loop-k.invariant.found;
    }
