use Rattle.rl_forms.proofs.Evaluating.{newest_known}
use Rattle.rl_forms.proofs.Turns.{after_print, print_halts, print_cut, same_fault}
use Rattle.rl_forms.proofs.evaluator.Work.print.Goals as goal

pub print-requires-clause-known : goal.print-requires-clause-known
print-requires-clause-known g c = newest_known c.args.world.now c.in-Some.v c.args.self.now c.requires.known c.in-Some.ensures

pub returns-in-Ok-clause-turn : goal.returns-in-Ok-clause-turn
returns-in-Ok-clause-turn g c = after_print _ _ c.args.world.now c.print.new.world c.args.self.now c.args.style c.in-Some.v c.requires.known c.in-Some.ensures c.in-Ok.ensures.keeps c.in-Ok.ensures.ok

pub returns-in-Err-clause-halts : goal.returns-in-Err-clause-halts
returns-in-Err-clause-halts g c = λ e. print_halts _ _ c.args.world.now c.print.new.world c.args.self.now c.args.style c.in-Some.v c.in-Some.ensures (c.in-Err.ensures.halts (same_fault _ _ e))

pub returns-in-Err-clause-cut : goal.returns-in-Err-clause-cut
returns-in-Err-clause-cut g c = λ e. print_cut _ _ c.args.world.now c.args.self.now c.args.style c.in-Some.v c.in-Some.ensures (c.in-Err.ensures.cut (same_fault _ _ e))
