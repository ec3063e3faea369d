use Rattle.rl_syms.proofs.Meant.{pair_read, vector_read}
use Rattle.rl_syms.proofs.laws.meaning_of_reading.Goals as goal

pub returns : goal.returns
returns c = record {
  pair = pair_read;
  vector = vector_read;
}
