use Rattle.std.proofs.Common.{sym, ◌∙◌}
use Rattle.rl_tags.specs.Tagged.{index_of}
use Rattle.rl_syms.specs.Table.{word_in}
use Rattle.rl_syms.proofs.Chained.{held_some}
use Rattle.rl_syms.proofs.table.Syms.name.Goals as goal

pub returns-clause-name : goal.returns-clause-name
returns-clause-name c = sym (held_some (word_in c.args.c.now.cells (index_of c.args.id) 0) c.unwrap.result (sym c.held.ensures.value ∙ c.unwrap.ensures))
