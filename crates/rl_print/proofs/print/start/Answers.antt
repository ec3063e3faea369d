use Rattle.std.proofs.Common.{ap, length}
use Rattle.rl_world.specs.declared.world.World.{World}
use Rattle.rl_print.specs.AtomText.{style_of}
use Rattle.rl_print.proofs.Going.{cut_first, goes_first, halts_first}
use Rattle.rl_print.proofs.Writings.{counted_stop, only_as_any}
use Rattle.rl_print.proofs.print.start.Goals as goal

pub returns-in-Err-clause-halts : goal.returns-in-Err-clause-halts
returns-in-Err-clause-halts g c = λ other. halts_first _ (style_of c.args.style) c.args.w.now c.begin.new.w c.args.v c.in-Err.s (ap (λ (w : World). w.output) c.begin.ensures.world.world) c.in-Err.ensures.err

pub returns-in-Ok-show-clause-ok : goal.returns-in-Ok-show-clause-ok
returns-in-Ok-show-clause-ok g c = goes_first _ _ (length c.args.w.now.levels.walk) (style_of c.args.style) c.args.w.now c.begin.new.w c.show.new.w c.args.v c.in-Ok.step.1 c.in-Ok.step.0 (ap (λ (w : World). w.output) c.begin.ensures.world.world) c.in-Ok.ensures.ok c.show.ensures.outside.world c.in-Ok-show.ensures.ok

pub returns-in-Err-show-clause-cut : goal.returns-in-Err-show-clause-cut
returns-in-Err-show-clause-cut g c = λ write. cut_first _ _ (length c.args.w.now.levels.walk) (style_of c.args.style) c.args.w.now c.begin.new.w c.args.v c.in-Ok.step.1 c.in-Ok.step.0 (ap (λ (w : World). w.output) c.begin.ensures.world.world) c.in-Ok.ensures.ok c.in-Err-show.ensures.front

pub returns-in-Err-clause-faults : goal.returns-in-Err-clause-faults
returns-in-Err-clause-faults g c = counted_stop c.args.w.now.counts c.in-Err.ensures.err.ending c.in-Err.s _ _ c.in-Err.ensures.err.is_stop

pub returns-in-Err-show-clause-faults : goal.returns-in-Err-show-clause-faults
returns-in-Err-show-clause-faults g c = only_as_any c.in-Err-show.s _ _ _ c.in-Err-show.ensures.faults
