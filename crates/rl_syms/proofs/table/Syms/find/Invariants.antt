use Rattle.rl_syms.specs.Table.{rank_of}
use Rattle.rl_syms.proofs.Chained.{Looking, Unnamed}
use Rattle.rl_syms.proofs.table.Syms.find.Given as goal

abbrev pub invariant-loop-at : goal.invariant-loop-at
invariant-loop-at l = Looking l.c.cells (Unnamed l.c.cells l.name) l.fn.self.head l.at

abbrev pub decreases-loop-at : goal.decreases-loop-at
decreases-loop-at l = rank_of l.at
