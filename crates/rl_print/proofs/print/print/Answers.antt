use Rattle.std.proofs.Common.{Err, sym, ◌∙◌}
use Rattle.rl_print.specs.AtomText.{style_of}
use Rattle.rl_print.specs.Walk.{whole_printed}
use Rattle.rl_print.proofs.Going.{cuts_later, goes_more, halts_more, printed_of, printing_more}
use Rattle.rl_print.proofs.Writings.{faults_then, object_then}
use Rattle.rl_print.proofs.print.print.Goals as goal

pub returns-in-Err-step-clause-halts : goal.returns-in-Err-step-clause-halts
returns-in-Err-step-clause-halts g c = λ other. halts_more _ _ _ c.walk_len-base.result (style_of c.args.style) c.args.w.now c.loop-at.w c.step.new.w (whole_printed (style_of c.args.style) c.args.w.now c.args.v) c.loop-at.at c.in-Some.state c.in-Err-step.s c.in-Some.is c.loop-at.invariant.printing c.loop-at.invariant.goes (c.in-Err-step.ensures.halts other)

pub returns-in-Err-step-clause-cut : goal.returns-in-Err-step-clause-cut
returns-in-Err-step-clause-cut g c = λ write. cuts_later _ _ _ c.walk_len-base.result (style_of c.args.style) c.args.w.now c.loop-at.w (whole_printed (style_of c.args.style) c.args.w.now c.args.v) c.loop-at.at c.in-Some.state c.in-Some.is c.loop-at.invariant.goes (c.in-Err-step.ensures.cut write)

pub returns-in-Err-step-clause-world : goal.returns-in-Err-step-clause-world
returns-in-Err-step-clause-world g c = rw (sym c.loop-at.invariant.base) (printing_more c.walk_len-base.result c.args.w.now c.loop-at.w c.step.new.w c.loop-at.invariant.printing c.step.ensures.world)

pub returns-clause-ok : goal.returns-clause-ok
returns-clause-ok g c = printed_of _ _ (style_of c.args.style) c.walk_len-base.result c.args.w.now c.loop-at.w c.args.v c.loop-at.at c.in_default.is c.loop-at.invariant.base c.loop-at.invariant.printing c.loop-at.invariant.goes

pub returns-in-Err-step-clause-faults : goal.returns-in-Err-step-clause-faults
returns-in-Err-step-clause-faults g c = faults_then {A = Unit {0}} (Err c.in-Err-step.s) _ _ _ _ c.loop-at.invariant.steady c.in-Err-step.ensures.faults

pub returns-in-Err-step-clause-outside : goal.returns-in-Err-step-clause-outside
returns-in-Err-step-clause-outside g c = object_then _ _ _ c.loop-at.invariant.outside c.in-Err-step.ensures.outside

pub loop-at-preserved : goal.loop-at-preserved
loop-at-preserved g c = record {
  goes = goes_more _ _ _ c.walk_len-base.result (style_of c.args.style) c.args.w.now c.loop-at.w c.step.new.w (whole_printed (style_of c.args.style) c.args.w.now c.args.v) c.loop-at.at c.in-Some.state c.in-Ok-step.next c.in-Some.is c.loop-at.invariant.goes c.in-Ok-step.ensures.ok;
  printing = printing_more c.walk_len-base.result c.args.w.now c.loop-at.w c.step.new.w c.loop-at.invariant.printing c.step.ensures.world;
  base = c.loop-at.invariant.base;
  steady = c.in-Ok-step.ensures.faults ∙ c.loop-at.invariant.steady;
  outside = object_then _ _ _ c.loop-at.invariant.outside c.in-Ok-step.ensures.outside;
}
