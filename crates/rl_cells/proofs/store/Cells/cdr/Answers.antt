use Rattle.std.proofs.Common.{◌≡◌}
use Rattle.rl_cells.specs.Cell.{cdr_of}
use Rattle.rl_cells.proofs.Sound.{live_in_pair, cdr_word, read_is}
use Rattle.rl_cells.proofs.store.Cells.cdr.Goals as goal

pub returns-clause-live : goal.returns-clause-live
returns-clause-live c =
    let s = c.self.inside in
    let word = cdr_word s.words s.objects.cells s.taken s.most s.counted s.mark c.args.self.now c.args.p c.index-at.result c.get.result c.self.invariant c.self.view_is c.requires c.index-at.ensures.at c.get.ensures in
    let is : c.unwrap.result ≡ cdr_of c.args.self.now.cells c.args.p = read_is c.read.result c.get.result c.unwrap.result _ c.read.ensures.back c.unwrap.ensures word in
    rw is (live_in_pair s.words s.objects.cells s.taken s.most s.counted s.mark c.args.self.now c.args.p c.self.invariant c.self.view_is c.requires).1
