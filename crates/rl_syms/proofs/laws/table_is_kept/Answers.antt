use Rattle.rl_syms.proofs.IdentifiersKept.{table_same, names_same, named_before, is_id_same, symbol_same, chain_same}
use Rattle.rl_syms.proofs.laws.table_is_kept.Goals as goal

pub returns : goal.returns
returns c = record {
  table = table_same;
  names = names_same;
  named_before = named_before;
  ids = is_id_same;
  symbols = symbol_same;
  chains = chain_same;
}
