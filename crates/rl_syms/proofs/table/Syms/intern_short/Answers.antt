use Rattle.std.proofs.Common.{arith}
use Rattle.std.proofs.lemmas.Result.{IfOk-at_ok}
use Rattle.rl_syms.proofs.Blank.{opened_step}
use Rattle.rl_syms.proofs.First.{length_interned}
use Rattle.rl_syms.proofs.table.Syms.intern_short.Goals as goal

pub returns-clause-long : goal.returns-clause-long
returns-clause-long c = length_interned c.args.c.now c.intern.new.c c.args.self.now.head c.intern.new.self.head c.args.name.now c.unwrap.result c.requires.short (IfOk-at_ok _ c.unwrap.ensures c.intern.ensures.ok)

pub returns-clause-opened : goal.returns-clause-opened
returns-clause-opened c =
    opened_step c.objects_are_added.ensures c.args.c.now c.intern.new.c c.args.self.now.head c.intern.new.self.head c.args.name.now c.unwrap.result c.requires.some (omega arith) c.requires.table c.requires.known (IfOk-at_ok _ c.unwrap.ensures c.intern.ensures.ok) c.requires.opened
