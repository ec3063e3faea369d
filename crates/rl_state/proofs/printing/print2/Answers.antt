use Rattle.std.proofs.Common.{ap}
use Rattle.rl_tree.specs.Atoms.{Prin2}
use Rattle.rl_state.proofs.PrintingGrows.{printing_grows, prints_alone}
use Rattle.rl_state.proofs.PrintingEnds.{printed_less, printed_whole}
use Rattle.rl_state.proofs.printing.print2.Goals as goal

pub returns-in-Ok-clause-means : goal.returns-in-Ok-clause-means
returns-in-Ok-clause-means g c at coming s h =
    let e = c.print2-printed.ensures.outside.objects in
    printed_whole c.cells_are_known.ensures c.names_are_numbered.ensures at c.args.w.now c.print2-printed.new.w _ _ _ _ _ _ coming s Prin2 c.args.v _ c.requires.world c.print2-printed.ensures.world
    (ap (λ io. g.N.Sink.contents io.notes.now) e) (ap (λ io. g.I.Source.left io.input.now) e) h c.in-Ok.ensures.ok

pub returns-in-Err-clause-means : goal.returns-in-Err-clause-means
returns-in-Err-clause-means g c at coming s h =
    let e = c.print2-printed.ensures.outside.objects in
    printed_less c.cells_are_known.ensures c.names_are_numbered.ensures at c.args.w.now c.print2-printed.new.w _ _ _ _ _ _ coming s Prin2 c.args.v _ c.requires.world c.print2-printed.ensures.world
    (ap (λ io. g.N.Sink.contents io.notes.now) e) (ap (λ io. g.I.Source.left io.input.now) e) h c.in-Err.why c.in-Err.ensures.halts c.in-Err.ensures.cut

pub returns-in-Ok-clause-grows : goal.returns-in-Ok-clause-grows
returns-in-Ok-clause-grows g c = printing_grows c.cells_are_known.ensures.bounds _ c.args.w.now c.print2-printed.new.w c.print2-printed.ensures.world c.level.ensures.levels.within c.requires.world

pub returns-in-Err-clause-grows : goal.returns-in-Err-clause-grows
returns-in-Err-clause-grows g c = printing_grows c.cells_are_known.ensures.bounds _ c.args.w.now c.print2-printed.new.w c.print2-printed.ensures.world c.level.ensures.levels.within c.requires.world

pub returns-in-Ok-clause-alone : goal.returns-in-Ok-clause-alone
returns-in-Ok-clause-alone g c = prints_alone c.counts_are_taken.ensures c.args.w.now c.print2-printed.new.w c.print2-printed.ensures.world

pub returns-in-Err-clause-alone : goal.returns-in-Err-clause-alone
returns-in-Err-clause-alone g c = prints_alone c.counts_are_taken.ensures c.args.w.now c.print2-printed.new.w c.print2-printed.ensures.world
