use Rattle.std.proofs.Common.{◌++◌}
use Rattle.rl_cells.proofs.Kept.{cell_at-append, cell_at_new, cell_at_past_new, length-placed, is_live-append, word_implied}
use Rattle.rl_cells.proofs.laws.objects_are_added.Goals as goal

pub returns : goal.returns
returns c = record {
  stands = cell_at-append;
  here = cell_at_new;
  past = cell_at_past_new;
  long = length-placed;
  live = is_live-append;
  words = λ cells more w h. word_implied cells (cells ++ more) (is_live-append cells more) w h;
}
