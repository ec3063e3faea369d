use Rattle.rl_stack.proofs.Bound.{all_marked}
use Rattle.rl_stack.proofs.stack.Stack.mark.Goals as goal

pub returns-clause-shows : goal.returns-clause-shows
returns-clause-shows c = all_marked c.args.w.now c.args.self.now c.save_mark.new.self c.args.f c.save_mark.ensures
