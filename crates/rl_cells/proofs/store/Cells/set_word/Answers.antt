use Rattle.rl_cells.proofs.Places.{IsSound-set_word}
use Rattle.rl_cells.proofs.store.Cells.set_word.Goals as goal

pub invariant_of-self : goal.invariant_of-self
invariant_of-self c =
    let s = c.self.inside in
    rw (c.then-self-inside.ensures, c.set.ensures)
    (IsSound-set_word s.words s.objects.cells s.taken s.most s.counted s.mark c.args.self.now c.args.b c.index-at.result c.args.i c.args.word c.self.invariant c.self.view_is
    c.requires.block c.index-at.ensures.at c.requires.within c.requires.word_live)
