use Rattle.std.proofs.Common.{◌≡◌, length}
use Rattle.rl_world.specs.Writing.{ChangesOutObject}
use Rattle.rl_print.specs.AtomText.{style_of}
use Rattle.rl_print.specs.Walk.{GoesOnPrinting, IsPrinting, walk_weight, whole_printed}
use Rattle.rl_print.proofs.print.print.Given as goal

abbrev pub invariant-loop-at : goal.invariant-loop-at
invariant-loop-at g l = record {
  goes : GoesOnPrinting (g.O.Sink.contents l.fn.io.out.now) (g.O.Sink.contents l.io.out.now) l.base (style_of l.style) l.fn.w l.w (whole_printed (style_of l.style) l.fn.w l.fn.v) l.at;
  printing : IsPrinting l.base l.fn.w l.w;
  base : l.base ≡ length l.fn.w.levels.walk;
  steady : g.O.Sink.faults l.io.out.now ≡ g.O.Sink.faults l.fn.io.out.now;
  outside : ChangesOutObject l.fn.io l.io;
}

abbrev pub decreases-loop-at : goal.decreases-loop-at
decreases-loop-at g l = walk_weight l.w l.at
