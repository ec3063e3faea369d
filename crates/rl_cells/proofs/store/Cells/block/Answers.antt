use Rattle.std.proofs.Common.{◌≡◌, ◌+◌, ◌/◌, true, rules}
use Rattle.rl_cells.specs.Cell.{has_room}
use Rattle.rl_cells.proofs.Places.{IsSound-new_block}
use Rattle.rl_cells.proofs.store.Cells.block.Goals as goal

pub invariant_of-self : goal.invariant_of-self
invariant_of-self c =
    let s = c.self.inside in
    let room : has_room c.args.self.now ((c.args.words + 1) / 2) ≡ true = search rules in
    rw (c.counted_more-self-inside.ensures, c.then-self-inside.ensures)
    (IsSound-new_block s.words c.fill_words.new.words s.objects.cells s.taken s.most s.counted s.mark c.args.self.now c.args.tag c.args.words c.self.invariant c.self.view_is room c.requires.some
    c.fill_words.ensures.len c.fill_words.ensures.written c.fill_words.ensures.rest)
