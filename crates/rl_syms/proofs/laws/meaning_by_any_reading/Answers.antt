use Rattle.rl_syms.proofs.Meant.{objects_grow, object_made, objects_alike, object_stands}
use Rattle.rl_syms.proofs.Changed.{one_changed, objects_same}
use Rattle.rl_syms.proofs.laws.meaning_by_any_reading.Goals as goal

pub returns : goal.returns
returns c = record {
  grows = objects_grow;
  made = object_made;
  same = objects_alike;
  changed = one_changed;
  kept = objects_same;
  read = object_stands;
}
