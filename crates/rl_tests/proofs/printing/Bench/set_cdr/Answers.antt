use Rattle.std.proofs.Common.{◌≡◌, true, ap, rules}
use Rattle.rl_cells.specs.Cell.{CellStore, car_of, is_pair}
use Rattle.rl_syms.specs.Frame.{KeepsIdentifiers}
use Rattle.rl_tests.proofs.printing.Bench.set_cdr.Goals as goal

pub invariant_of-self : goal.invariant_of-self
invariant_of-self c =
    let cells = c.self.inside.world.cells.cells in
    let held = c.self.inside.held in
    let is : is_pair cells held ≡ true = search rules in
    let keeps : KeepsIdentifiers cells c.set_cdr.new.self.cells = rw (ap (λ (s : CellStore). s.cells) c.set_cdr.ensures.changed) (c.others_leave_identifiers.ensures.pair cells held (car_of cells held) c.self.inside.value is) in
    (c.table_is_kept.ensures.table _ _ _ keeps c.self.invariant.0, keeps.live _ c.self.invariant.1, keeps.live _ c.self.invariant.2)
