use Rattle.std.proofs.Common.{◌≡◌, true, rules}
use Rattle.rl_cells.specs.Cell.{has_room, cost_of, StrCell}
use Rattle.rl_cells.proofs.Places.{IsSound-new_str}
use Rattle.rl_cells.proofs.store.Cells.string.Goals as goal

pub invariant_of-self : goal.invariant_of-self
invariant_of-self c =
    let s = c.self.inside in
    let room : has_room c.args.self.now (cost_of (StrCell c.args.bytes.now)) ≡ true = search rules in
    let set_is = c.set.ensures in
    rw (c.counted_more-self-inside.ensures, c.then-self-inside.ensures)
    (IsSound-new_str s.words c.write_bytes.new.words s.objects.cells s.taken s.most s.counted s.mark c.args.self.now c.args.bytes.now c.self.invariant c.self.view_is room
    (rw (← set_is) c.write_bytes.ensures.len) c.write_bytes.ensures.written (rw (← set_is) c.write_bytes.ensures.rest))
