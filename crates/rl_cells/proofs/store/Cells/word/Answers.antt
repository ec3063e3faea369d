use Rattle.rl_cells.proofs.Places.{block_word}
use Rattle.rl_cells.proofs.store.Cells.word.Goals as goal

pub returns-clause-live : goal.returns-clause-live
returns-clause-live c =
    let s = c.self.inside in
    block_word s.words s.objects.cells s.taken s.most s.counted s.mark c.args.self.now c.args.b c.index-at.result c.args.i c.get.result c.self.invariant c.self.view_is c.requires.block c.index-at.ensures.at c.requires.within c.get.ensures
