use Rattle.std.proofs.Common.{refl, ap, replicate}
use Rattle.rl_tags.specs.Ids.{nil_id}
use Rattle.rl_cells.specs.Cell.{CellStore, VectorCell}
use Rattle.rl_syms.specs.Frame.{KeepsIdentifiers}
use Rattle.rl_tests.proofs.printing.Bench.vector.Goals as goal

pub invariant_of-self : goal.invariant_of-self
invariant_of-self c =
    let cells = c.self.inside.world.cells.cells in
    let keeps : KeepsIdentifiers cells c.vector.new.self.cells = rw (ap (λ (s : CellStore). s.cells) c.in-Ok.ensures.ok) (c.others_leave_identifiers.ensures.made cells (VectorCell (replicate c.args.places nil_id)) refl) in
    (c.table_is_kept.ensures.table _ _ _ keeps c.self.invariant.0, keeps.live _ c.self.invariant.1, c.in-Ok.ensures.live)
