use Rattle.std.proofs.lemmas.List.{get_or-set_same, get_or-set_other}
use Rattle.rl_cells.specs.Cell.{More}
use Rattle.rl_cells.proofs.Kept.{is_live-set}
use Rattle.rl_cells.proofs.laws.objects_are_changed.Goals as goal

pub returns : goal.returns
returns c = record {
  here = λ cells k o l. get_or-set_same cells k o More l;
  others = λ cells k j o n. get_or-set_other cells k j o More n;
  live = is_live-set;
}
