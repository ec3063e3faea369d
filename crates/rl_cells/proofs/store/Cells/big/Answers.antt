use Rattle.std.proofs.Common.{◌≡◌, true, rules, to_z, of_z}
use Rattle.std.specs.Int.{w128}
use Rattle.std.proofs.Math.Facts.{to_z-of_z}
use Rattle.rl_cells.specs.Cell.{has_room}
use Rattle.rl_cells.proofs.Places.{IsSound-new_big}
use Rattle.rl_cells.proofs.store.Cells.big.Goals as goal

pub invariant_of-self : goal.invariant_of-self
invariant_of-self c =
    let s = c.self.inside in
    let room : has_room c.args.self.now 1 ≡ true = search rules in
    let same : to_z w128 (of_z w128 c.args.n) ≡ c.args.n = to_z-of_z c.ranges.n in
    rw (c.counted_more-self-inside.ensures, c.then-self-inside.ensures, c.set-2.ensures, c.set.ensures)
    (IsSound-new_big s.words s.objects.cells s.taken s.most s.counted s.mark c.args.self.now (to_z w128 (of_z w128 c.args.n)) c.halves-low.result.0 c.halves-low.result.1 c.self.invariant c.self.view_is
    room (rw same c.requires.wide) c.halves-low.ensures)
