use Rattle.std.proofs.Common.{◌≡◌, take, fold}
use Rattle.rl_tree.specs.Printing.{column_with}
use Rattle.rl_world.specs.Waiting.{GoesOut}
use Rattle.rl_world.specs.Writing.{ChangesOutAlone}
use Rattle.rl_print.proofs.put.put_bytes.Given as goal

abbrev pub invariant-loop-i : goal.invariant-loop-i
invariant-loop-i g l = record {
  follows : GoesOut (g.O.Sink.contents l.fn.io.out.now) l.fn.w.output.waiting (g.O.Sink.contents l.io.out.now) l.w.output.waiting (take l.i l.bytes);
  column : l.w.output.column ≡ fold column_with l.fn.w.output.column (take l.i l.bytes);
  steady : g.O.Sink.faults l.io.out.now ≡ g.O.Sink.faults l.fn.io.out.now;
  outside : ChangesOutAlone l.fn.w l.w l.fn.io l.io;
}
