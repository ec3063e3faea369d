use Rattle.std.proofs.Common.{ap, refl}
use Rattle.rl_world.specs.Output.{Output}
use Rattle.rl_forms.specs.Tasks.{with_task}
use Rattle.rl_forms.proofs.Evaluating.{without_task, quiet_halts, objects_running}
use Rattle.rl_forms.proofs.Turns.{after_line, line_cut, same_fault}
use Rattle.rl_forms.proofs.evaluator.Work.turn.Goals as goal

pub cons-requires-clause-known : goal.cons-requires-clause-known
cons-requires-clause-known g c = without_task c.args.world.now c.args.task c.args.self.now c.requires.known

pub print-requires-clause-known : goal.print-requires-clause-known
print-requires-clause-known g c = without_task c.args.world.now c.args.task c.args.self.now c.requires.known

pub returns-in-Ok-clause-turn : goal.returns-in-Ok-clause-turn
returns-in-Ok-clause-turn g c = rw c.in-Evaluate.is (c.in-Ok.ensures (g.O.Sink.contents c.args.io.now.out.now))

pub returns-in-Err-clause-halts : goal.returns-in-Err-clause-halts
returns-in-Err-clause-halts g c = λ e. quiet_halts _ c.args.world.now (with_task c.args.task c.args.self.now) _ refl

pub returns-in-Ok-cons-clause-turn : goal.returns-in-Ok-cons-clause-turn
returns-in-Ok-cons-clause-turn g c = rw c.in-Cons.is (c.in-Ok-cons.ensures.turn (g.O.Sink.contents c.args.io.now.out.now))

pub returns-in-Err-cons-clause-halts : goal.returns-in-Err-cons-clause-halts
returns-in-Err-cons-clause-halts g c = λ e. quiet_halts _ c.args.world.now (with_task c.args.task c.args.self.now) _ (ap (λ (o : Output). o.waiting) c.in-Err-cons.ensures.output)

pub returns-in-Print-clause-halts : goal.returns-in-Print-clause-halts
returns-in-Print-clause-halts g c = rw c.in-Print.is c.print.ensures.halts

pub returns-in-Ok-end_line-clause-turn : goal.returns-in-Ok-end_line-clause-turn
returns-in-Ok-end_line-clause-turn g c = rw c.in-EndLine.is (after_line _ _ c.args.world.now c.end_line.new.world c.args.self.now (without_task c.args.world.now c.args.task c.args.self.now c.requires.known) c.in-Ok-end_line.ensures.keeps c.in-Ok-end_line.ensures.ok)

pub returns-in-Ok-end_line-clause-running : goal.returns-in-Ok-end_line-clause-running
returns-in-Ok-end_line-clause-running g c = objects_running c.args.world.now c.end_line.new.world c.in-Ok-end_line.ensures.keeps c.requires.running

pub returns-in-Err-end_line-clause-cut : goal.returns-in-Err-end_line-clause-cut
returns-in-Err-end_line-clause-cut g c = rw c.in-EndLine.is (λ e. line_cut _ _ c.args.world.now c.args.self.now (c.in-Err-end_line.ensures.cut (same_fault _ _ e)))

pub returns-in-Err-end_line-clause-failed : goal.returns-in-Err-end_line-clause-failed
returns-in-Err-end_line-clause-failed g c = λ e. c.in-Err-end_line.ensures.failed (same_fault _ _ e)

pub returns-in-Err-end_line-clause-steady : goal.returns-in-Err-end_line-clause-steady
returns-in-Err-end_line-clause-steady g c = λ n. c.in-Err-end_line.ensures.steady (λ e. n (same_fault _ _ e))

pub returns-in-Err-end_line-clause-running : goal.returns-in-Err-end_line-clause-running
returns-in-Err-end_line-clause-running g c = objects_running c.args.world.now c.end_line.new.world c.in-Err-end_line.ensures.keeps c.requires.running
