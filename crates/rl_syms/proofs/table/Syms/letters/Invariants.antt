use Rattle.std.proofs.Common.{◌≡◌}
use Rattle.rl_syms.specs.Table.{IsTable}
use Rattle.rl_syms.specs.Made.{IsOpening}
use Rattle.rl_syms.specs.Opened.{IsOpened, HasFirst}
use Rattle.rl_syms.proofs.Names.{letters_made}
use Rattle.rl_syms.proofs.table.Syms.letters.Given as goal

abbrev pub invariant-loop-byte : goal.invariant-loop-byte
invariant-loop-byte l = record {
  table : IsTable l.c.cells l.self.head;
  opening : IsOpening l.c l.fn.c.bound;
  first : HasFirst (letters_made l.byte) l.c l.self.head;
  opened : IsOpened l.c.cells l.self.head;
  made : l.self.made ≡ l.fn.self.made;
}
