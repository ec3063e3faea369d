use Rattle.std.proofs.Common.{ap}
use Rattle.rl_cells.specs.Cell.{PairCell, StrCell, VectorCell, BigCell, BlockCell, bytes_in, big_in, placed}
use Rattle.rl_tags.specs.declared.Tag.TheVariants as tag
use Rattle.rl_tree.specs.Value.{Int, Str, Ref}
use Rattle.rl_syms.proofs.Meant.{value_stays, object_meant, pair_meant, none_meant, next_number, new_cell, function_named}
use Rattle.rl_syms.proofs.laws.meaning_of_making.Goals as goal

pub returns : goal.returns
returns c = record {
  values = λ cells o v live. value_stays cells (placed o) v live;
  grows = value_stays;
  pair = pair_meant;
  pair_named = λ cells a d. ap Ref (next_number cells (PairCell a d));
  vector = λ cells xs closed live. object_meant cells (VectorCell xs) closed live;
  vector_named = λ cells xs. ap Ref (next_number cells (VectorCell xs));
  string_named = λ cells bytes. ap (λ o. Str (bytes_in o)) (new_cell cells (StrCell bytes));
  big_named = λ cells z. ap (λ o. Int (big_in o)) (new_cell cells (BigCell z));
  function_named = λ cells words l. function_named cells (placed (BlockCell tag.Fun words)) l;
  others = none_meant;
}
