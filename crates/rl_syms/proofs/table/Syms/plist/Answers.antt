use Rattle.std.proofs.Common.{sym, ◌∙◌}
use Rattle.rl_tags.specs.Tagged.{index_of}
use Rattle.rl_syms.specs.Table.{word_in}
use Rattle.rl_syms.proofs.Chained.{held_some}
use Rattle.rl_syms.proofs.table.Syms.plist.Goals as goal

pub returns-clause-plist : goal.returns-clause-plist
returns-clause-plist c = sym (held_some (word_in c.args.c.now.cells (index_of c.args.id) 2) c.unwrap.result (sym c.held.ensures.value ∙ c.unwrap.ensures))
