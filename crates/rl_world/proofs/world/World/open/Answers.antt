use Rattle.std.proofs.Common.{ap, ◌∷◌, []}
use Rattle.rl_tags.specs.Tagged.{IdAt}
use Rattle.rl_tags.specs.Opening.{name_at, place_of}
use Rattle.rl_cells.specs.Cell.{CellStore}
use Rattle.rl_world.proofs.Texts.{opened_kept}
use Rattle.rl_world.proofs.world.World.open.Goals as goal

pub returns-clause-table : goal.returns-clause-table
returns-clause-table c =
    rw (ap (λ (s : CellStore). s.cells) c.cells-2.view_is) (c.table_is_kept.ensures.table c.open.new.c.cells c.make_texts-texts.new.c.cells c.in_ok-syms.syms.head c.make_texts-texts.ensures.keeps c.in_ok-syms.ensures.table)

pub returns-clause-names : goal.returns-clause-names
returns-clause-names c = λ i l.
    rw (ap (λ (s : CellStore). s.cells) c.cells-2.view_is) (c.table_is_kept.ensures.names c.open.new.c.cells c.make_texts-texts.new.c.cells c.in_ok-syms.syms.head (name_at i) (IdAt (place_of i)) c.make_texts-texts.ensures.keeps c.in_ok-syms.ensures.table (c.in_ok-syms.ensures.names i l))

pub returns-clause-bytes : goal.returns-clause-bytes
returns-clause-bytes c = λ b l.
    let was = c.in_ok-syms.ensures.bytes b l in
    (was.0, rw (ap (λ (s : CellStore). s.cells) c.cells-2.view_is) (c.table_is_kept.ensures.names c.open.new.c.cells c.make_texts-texts.new.c.cells c.in_ok-syms.syms.head (b ∷ []) was.0 c.make_texts-texts.ensures.keeps c.in_ok-syms.ensures.table was.1))

pub returns-clause-opened : goal.returns-clause-opened
returns-clause-opened c =
    rw (ap (λ (s : CellStore). s.cells) c.cells-2.view_is) (opened_kept c.table_is_kept.ensures c.open.new.c.cells c.make_texts-texts.new.c.cells c.in_ok-syms.syms.head c.make_texts-texts.ensures.keeps c.make_texts-texts.ensures.strings c.in_ok-syms.ensures.table c.in_ok-syms.ensures.opened)

pub returns-clause-exact : goal.returns-clause-exact
returns-clause-exact c =
    rw (ap (λ (s : CellStore). s.cells) c.cells-2.view_is) (record {
      names = c.open.new.c;
      first = c.in_ok-syms.ensures.first;
      table = c.in_ok-syms.ensures.table;
      opened = c.in_ok-syms.ensures.opened;
      cells_are = c.make_texts-texts.ensures.made;
      texts_are = c.make_texts-texts.ensures.named;
      long = c.make_texts-texts.ensures.long;
    })
