use Rattle.rl_syms.proofs.Left.{made_leaves, pair_leaves, vector_leaves, word_leaves}
use Rattle.rl_syms.proofs.laws.others_leave_identifiers.Goals as goal

pub returns : goal.returns
returns c = record {
  made = made_leaves c.objects_are_added.ensures;
  pair = pair_leaves c.objects_are_changed.ensures;
  vector = vector_leaves c.objects_are_changed.ensures;
  word = word_leaves c.objects_are_changed.ensures;
}
