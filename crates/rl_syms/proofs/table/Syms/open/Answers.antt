use Rattle.std.proofs.Common.{◌∙◌, arith}
use Rattle.rl_syms.proofs.Names.{constant_name, names_long}
use Rattle.rl_syms.proofs.First.{is_empty, letter_named, nil_first, nil_table, nil_opened}
use Rattle.rl_syms.proofs.table.Syms.open.Goals as goal

pub constants-requires-clause-table : goal.constants-requires-clause-table
constants-requires-clause-table c = nil_table c.objects_are_added.ensures c.args.c.now c.first-id.new.c c.first-id.result (is_empty c.args.c.now c.args.c.now.bound c.requires.empty c.requires.opening) c.first-id.ensures.ok c.first-id.ensures.place

pub constants-requires-clause-opened : goal.constants-requires-clause-opened
constants-requires-clause-opened c = nil_opened c.objects_are_added.ensures c.args.c.now c.first-id.new.c c.first-id.result c.requires.empty c.first-id.ensures.ok c.first-id.ensures.place

pub constants-requires-clause-first : goal.constants-requires-clause-first
constants-requires-clause-first c = nil_first c.objects_are_added.ensures c.args.c.now c.first-id.new.c c.first-id.result (is_empty c.args.c.now c.args.c.now.bound c.requires.empty c.requires.opening) c.first-id.ensures.ok c.first-id.ensures.place

pub returns-clause-names : goal.returns-clause-names
returns-clause-names c = λ i l. rw (constant_name i l) (c.letters.ensures.first.named i (omega (arith, names_long, l)))

pub returns-clause-bytes : goal.returns-clause-bytes
returns-clause-bytes c = letter_named c.letters.new.c c.letters.new.self.head c.letters.ensures.first

pub returns-clause-long : goal.returns-clause-long
returns-clause-long c = c.letters.ensures.first.long ∙ omega (arith, names_long)
