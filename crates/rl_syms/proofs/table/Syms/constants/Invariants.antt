use Rattle.std.proofs.Common.{◌≡◌}
use Rattle.rl_syms.specs.Table.{IsTable}
use Rattle.rl_syms.specs.Made.{IsOpening}
use Rattle.rl_syms.specs.Opened.{IsOpened, HasFirst}
use Rattle.rl_syms.proofs.table.Syms.constants.Given as goal

abbrev pub invariant-loop-number : goal.invariant-loop-number
invariant-loop-number l = record {
  table : IsTable l.c.cells l.self.head;
  opening : IsOpening l.c l.fn.c.bound;
  opened : IsOpened l.c.cells l.self.head;
  first : HasFirst l.number l.c l.self.head;
  made : l.self.made ≡ l.fn.self.made;
}
