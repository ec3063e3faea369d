use Rattle.std.proofs.Common.{◌≡◌, pos, get_or, sym, ap, ◌∙◌, Some}
use Rattle.std.proofs.lemmas.Option.{slice_get-get_or}
use Rattle.rl_tags.specs.Tagged.{Number}
use Rattle.rl_cells.specs.Cell.{vector_of}
use Rattle.rl_cells.proofs.Sound.{read_is}
use Rattle.rl_cells.proofs.Places.{held_at}
use Rattle.rl_cells.proofs.store.Cells.get.Goals as goal

pub returns-clause-value : goal.returns-clause-value
returns-clause-value c =
    let s = c.self.inside in
    let held = held_at s.words s.objects.cells s.taken s.most s.counted s.mark c.args.self.now c.args.v c.index-at.result c.args.i c.get.result c.self.invariant c.self.view_is c.requires.vector c.index-at.ensures.at c.requires.within c.get.ensures in
    let is : c.unwrap.result ≡ get_or (vector_of c.args.self.now.cells c.args.v) c.args.i (Number (pos 0)) = read_is c.read.result c.get.result c.unwrap.result _ c.read.ensures.back c.unwrap.ensures held.word in
    slice_get-get_or (vector_of c.args.self.now.cells c.args.v) c.args.i (Number (pos 0)) c.requires.within ∙ ap Some (sym is)

pub returns-clause-live : goal.returns-clause-live
returns-clause-live c =
    let s = c.self.inside in
    let held = held_at s.words s.objects.cells s.taken s.most s.counted s.mark c.args.self.now c.args.v c.index-at.result c.args.i c.get.result c.self.invariant c.self.view_is c.requires.vector c.index-at.ensures.at c.requires.within c.get.ensures in
    let is : c.unwrap.result ≡ get_or (vector_of c.args.self.now.cells c.args.v) c.args.i (Number (pos 0)) = read_is c.read.result c.get.result c.unwrap.result _ c.read.ensures.back c.unwrap.ensures held.word in
    rw is held.live
