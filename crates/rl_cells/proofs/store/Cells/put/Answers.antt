use Rattle.rl_cells.proofs.Places.{IsSound-put}
use Rattle.rl_cells.proofs.store.Cells.put.Goals as goal

pub invariant_of-self : goal.invariant_of-self
invariant_of-self c =
    let s = c.self.inside in
    rw (c.then-self-inside.ensures, c.set.ensures)
    (IsSound-put s.words s.objects.cells s.taken s.most s.counted s.mark c.args.self.now c.args.v c.args.x c.index-at.result c.args.i c.word.result c.self.invariant c.self.view_is
    c.requires.vector c.index-at.ensures.at c.requires.within c.requires.value_live c.word.ensures.back)
