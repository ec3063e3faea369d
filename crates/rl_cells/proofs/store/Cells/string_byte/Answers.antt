use Rattle.std.proofs.Common.{◌%◌, get_or, ap, ◌∙◌}
use Rattle.rl_cells.proofs.Places.{byte_at}
use Rattle.rl_cells.proofs.store.Cells.string_byte.Goals as goal

pub returns : goal.returns
returns c =
    let s = c.self.inside in
    ap (λ bytes. get_or bytes (c.args.i % 8) 0) c.to_le_bytes.ensures
    ∙ byte_at s.words s.objects.cells s.taken s.most s.counted s.mark c.args.self.now c.args.s c.index-at.result c.args.i c.get.result c.self.invariant c.self.view_is c.requires.string c.index-at.ensures.at c.requires.within c.get.ensures
