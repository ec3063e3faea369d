use Rattle.rl_syms.proofs.Released.{table_left}
use Rattle.rl_syms.proofs.laws.release_keeps_table.Goals as goal

pub returns : goal.returns
returns c cells place head table closed nil before = table_left cells place head table closed nil before
