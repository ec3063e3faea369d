use Rattle.rl_cells.proofs.Sound.{IsSound-set_car}
use Rattle.rl_cells.proofs.store.Cells.set_car.Goals as goal

pub invariant_of-self : goal.invariant_of-self
invariant_of-self c =
    let s = c.self.inside in
    rw (c.then-self-inside.ensures, c.set.ensures)
    (IsSound-set_car s.words s.objects.cells s.taken s.most s.counted s.mark c.args.self.now c.args.p c.args.v c.index-at.result c.word.result c.self.invariant c.self.view_is
    c.requires.pair c.index-at.ensures.at c.requires.value_live c.word.ensures.back)
