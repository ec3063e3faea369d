use Rattle.std.proofs.Common.{◌≡◌, Bool, true}
use Rattle.rl_cells.specs.Cell.{is_live}
use Rattle.rl_text.specs.Reader as reader
use Rattle.rl_read.specs.Stock.{in_stock, stock_of}
use Rattle.rl_read.specs.Frames.{IsReading, IsReadyToRead, frames_in, weight_of_group}
use Rattle.rl_read.proofs.step.value_ended.Given as goal

abbrev pub invariant-loop-w : goal.invariant-loop-w
invariant-loop-w l = record {
  ready : IsReadyToRead l.base l.w l.group;
  live : is_live l.w.cells.cells l.v ≡ true;
  means : (t : Bool) → reader.value_ended (in_stock t) l.fn.v (frames_in l.base l.fn.w l.fn.group) (stock_of l.fn.w) ≡ reader.value_ended (in_stock t) l.v (frames_in l.base l.w l.group) (stock_of l.w);
  reading : IsReading l.base l.fn.w l.w;
}

abbrev pub decreases-loop-w : goal.decreases-loop-w
decreases-loop-w l = weight_of_group l.w l.group
