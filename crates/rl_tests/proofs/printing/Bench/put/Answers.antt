use Rattle.std.specs.Prelude.{slice_set}
use Rattle.std.proofs.Common.{◌≡◌, true, ap, rules}
use Rattle.std.proofs.lemmas.List.{length-set}
use Rattle.rl_cells.specs.Cell.{CellStore, is_vector, vector_of}
use Rattle.rl_syms.specs.Frame.{KeepsIdentifiers}
use Rattle.rl_tests.proofs.printing.Bench.put.Goals as goal

pub invariant_of-self : goal.invariant_of-self
invariant_of-self c =
    let cells = c.self.inside.world.cells.cells in
    let held = c.self.inside.held in
    let xs = vector_of cells held in
    let is : is_vector cells held ≡ true = search rules in
    let keeps : KeepsIdentifiers cells c.put.new.self.cells = rw (ap (λ (s : CellStore). s.cells) c.put.ensures.changed) (c.others_leave_identifiers.ensures.vector cells held (slice_set xs c.args.i c.self.inside.value) is (length-set xs c.args.i c.self.inside.value)) in
    (c.table_is_kept.ensures.table _ _ _ keeps c.self.invariant.0, keeps.live _ c.self.invariant.1, keeps.live _ c.self.invariant.2)
