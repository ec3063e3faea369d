use Rattle.std.proofs.Common.{◌≡◌, ◌+◌, ◌/◌, true, rules}
use Rattle.rl_tags.specs.Ids.{nil_id}
use Rattle.rl_cells.specs.Cell.{has_room}
use Rattle.rl_cells.proofs.Places.{IsSound-new_vector}
use Rattle.rl_cells.proofs.store.Cells.vector.Goals as goal

pub invariant_of-self : goal.invariant_of-self
invariant_of-self c =
    let s = c.self.inside in
    let room : has_room c.args.self.now (1 + (c.args.places + 1) / 2) ≡ true = search rules in
    let set_is = c.set.ensures in
    rw (c.counted_more-self-inside.ensures, c.then-self-inside.ensures)
    (IsSound-new_vector s.words c.fill_words.new.words s.objects.cells s.taken s.most s.counted s.mark c.args.self.now c.args.places nil_id c.word.result c.self.invariant c.self.view_is room
    c.requires.nil_live c.word.ensures.back
    (rw (← set_is) c.fill_words.ensures.len) c.fill_words.ensures.written (rw (← set_is) c.fill_words.ensures.rest))
