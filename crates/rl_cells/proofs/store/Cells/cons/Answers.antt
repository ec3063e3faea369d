use Rattle.std.proofs.Common.{◌≡◌, true, rules}
use Rattle.rl_cells.specs.Cell.{has_room}
use Rattle.rl_cells.proofs.Places.{IsSound-new_pair}
use Rattle.rl_cells.proofs.store.Cells.cons.Goals as goal

pub invariant_of-self : goal.invariant_of-self
invariant_of-self c =
    let s = c.self.inside in
    let room : has_room c.args.self.now 1 ≡ true = search rules in
    rw (c.counted_more-self-inside.ensures, c.then-self-inside.ensures, c.set-2.ensures, c.set.ensures)
    (IsSound-new_pair s.words s.objects.cells s.taken s.most s.counted s.mark c.args.self.now c.args.car c.args.cdr c.word.result c.word-2.result c.self.invariant c.self.view_is
    room c.requires.car_live c.requires.cdr_live c.word.ensures.back c.word-2.ensures.back)
