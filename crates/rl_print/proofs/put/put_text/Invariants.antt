use Rattle.std.proofs.Common.{◌≡◌, length}
use Rattle.rl_world.specs.Writing.{ChangesOutAlone}
use Rattle.rl_print.specs.AtomText.{text_left}
use Rattle.rl_print.proofs.Shown.{TextGoes}
use Rattle.rl_print.proofs.put.put_text.Given as goal

abbrev pub invariant-loop-b : goal.invariant-loop-b
invariant-loop-b g l = record {
  goes : TextGoes (g.O.Sink.contents l.fn.io.out.now) (g.O.Sink.contents l.io.out.now) l.fn.w.output.waiting l.w.output.waiting l.fn.w.output.column l.w.output.column (text_left l.fn.w.cells.cells l.fn.text) (text_left l.fn.w.cells.cells l.left);
  atom : l.left.atom ≡ l.fn.text.atom;
  steady : g.O.Sink.faults l.io.out.now ≡ g.O.Sink.faults l.fn.io.out.now;
  outside : ChangesOutAlone l.fn.w l.w l.fn.io l.io;
}

abbrev pub decreases-loop-b : goal.decreases-loop-b
decreases-loop-b g l = length (text_left l.fn.w.cells.cells l.left)
