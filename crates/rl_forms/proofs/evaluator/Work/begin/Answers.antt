use Rattle.rl_forms.specs.declared.evaluator.Task.TheVariants as task
use Rattle.rl_forms.proofs.Evaluating.{newest_task}
use Rattle.rl_forms.proofs.Turns.{after_constant, after_quoted, after_line_call, after_print_call, after_cons_call}
use Rattle.rl_forms.proofs.evaluator.Work.begin.Goals as goal

pub form_of-requires-clause-known : goal.form_of-requires-clause-known
form_of-requires-clause-known c = newest_task c.args.world.now (task.Evaluate c.args.form) c.args.self.now c.requires.known

pub returns-in_ok-give-in-Constant : goal.returns-in_ok-give-in-Constant
returns-in_ok-give-in-Constant c = λ told. after_constant told c.args.world.now c.args.self.now c.give.new.self c.args.form c.requires.known c.in-Constant.ensures c.in_ok-give-in-Constant.ensures

pub returns-in_ok-add-in-EndLine : goal.returns-in_ok-add-in-EndLine
returns-in_ok-add-in-EndLine c = λ told. after_line_call told c.args.world.now c.args.self.now c.give-in-EndLine.new.self c.add.new.self c.args.form c.requires.running c.requires.known c.in-EndLine.ensures c.in_ok-give-in-EndLine.ensures c.in_ok-add-in-EndLine.ensures

pub returns-in_ok-give-in-Quoted : goal.returns-in_ok-give-in-Quoted
returns-in_ok-give-in-Quoted c = λ told. after_quoted told c.args.world.now c.args.self.now c.give-in-Quoted.new.self c.args.form c.in-Quoted.x c.requires.known c.in-Quoted.ensures c.in_ok-give-in-Quoted.ensures

pub returns-in_ok-begin_print-in-Print : goal.returns-in_ok-begin_print-in-Print
returns-in_ok-begin_print-in-Print c = λ told. after_print_call told c.args.world.now c.args.self.now c.begin_print.new.self c.args.form c.in-Print.a c.in-Print.printer c.requires.known c.in-Print.ensures c.in_ok-begin_print-in-Print.ensures

pub returns-in_ok-add-in-Cons-3 : goal.returns-in_ok-add-in-Cons-3
returns-in_ok-add-in-Cons-3 c = λ told. after_cons_call told c.args.world.now c.args.self.now c.add-in-Cons.new.self c.add-in-Cons-2.new.self c.add-in-Cons-3.new.self c.args.form c.in-Cons.a c.in-Cons.b c.requires.known c.in-Cons.ensures c.in_ok-add-in-Cons.ensures c.in_ok-add-in-Cons-2.ensures c.in_ok-add-in-Cons-3.ensures
