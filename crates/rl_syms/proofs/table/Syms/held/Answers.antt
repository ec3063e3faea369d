use Rattle.std.proofs.Common.{ap, ◌∙◌}
use Rattle.rl_syms.specs.Table.{held_in}
use Rattle.rl_syms.proofs.Chained.{read_is, read_live}
use Rattle.rl_syms.proofs.table.Syms.held.Goals as goal

pub returns-clause-value : goal.returns-clause-value
returns-clause-value c = read_is c.word.result c.read.result c.read.ensures.back ∙ ap held_in c.word.ensures.word

pub returns-clause-live : goal.returns-clause-live
returns-clause-live c = λ x e. read_live c.args.c.now.cells c.word.result c.read.result x c.read.ensures.back c.word.ensures.live e
