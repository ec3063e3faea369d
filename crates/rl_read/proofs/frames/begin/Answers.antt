use Rattle.rl_read.proofs.GroupBegins.{opened_root}
use Rattle.rl_read.proofs.MakingStays.{steady_refl}
use Rattle.rl_read.proofs.frames.begin.Goals as goal

pub returns-in-Root-clause-begins : goal.returns-in-Root-clause-begins
returns-in-Root-clause-begins c base ready = record {
  means = opened_root base c.args.w.now c.args.opening c.args.outer.now c.begun.result ready c.in-Root.is c.begun.ensures.frames;
  ready = record {
    able = ready.able;
    above = ready.above;
    kept = ready.kept;
    group_is = c.begun.ensures.group c.args.w.now.cells.cells;
    root = λ e. absurd (c.begun.ensures.inside e);
  };
  steady = steady_refl base c.args.w.now.levels;
}
