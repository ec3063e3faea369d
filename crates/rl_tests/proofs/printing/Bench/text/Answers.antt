use Rattle.std.proofs.Common.{refl, ap}
use Rattle.rl_cells.specs.Cell.{CellStore, StrCell}
use Rattle.rl_syms.specs.Frame.{KeepsIdentifiers}
use Rattle.rl_tests.proofs.printing.Bench.text.Goals as goal

pub invariant_of-self : goal.invariant_of-self
invariant_of-self c =
    let cells = c.self.inside.world.cells.cells in
    let keeps : KeepsIdentifiers cells c.string.new.self.cells = rw (ap (λ (s : CellStore). s.cells) c.in-Ok.ensures.ok) (c.others_leave_identifiers.ensures.made cells (StrCell c.args.bytes.now) refl) in
    (c.table_is_kept.ensures.table _ _ _ keeps c.self.invariant.0, c.in-Ok.ensures.live, keeps.live _ c.self.invariant.2)
