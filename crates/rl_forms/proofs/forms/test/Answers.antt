use Rattle.rl_forms.proofs.Testing.{print_tested, cons_tested}
use Rattle.rl_forms.proofs.forms.test.Goals as goal

pub returns-in_ok-push-in-Print : goal.returns-in_ok-push-in-Print
returns-in_ok-push-in-Print c = print_tested c.args.world.now _ _ c.in-Print.a _ _ c.requires.left c.in-Print.ensures c.in_ok-push-in-Print.ensures.items

pub returns-in_ok-push-in-Cons-2 : goal.returns-in_ok-push-in-Cons-2
returns-in_ok-push-in-Cons-2 c = cons_tested c.args.world.now _ c.in-Cons.a c.in-Cons.b _ _ _ c.requires.left c.in-Cons.ensures c.in_ok-push-in-Cons.ensures.items c.in_ok-push-in-Cons-2.ensures.items
