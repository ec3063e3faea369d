use Rattle.rl_stack.proofs.Bound.{all_set}
use Rattle.rl_stack.proofs.EntriesKept.{stack_kept}
use Rattle.rl_stack.proofs.stack.Stack.assign.Goals as goal

pub returns-clause-shows : goal.returns-clause-shows
returns-clause-shows c = all_set c.identifiers_are_numbered.ensures c.args.w.now c.set_cell.new.w c.args.self.now c.args.id c.args.v c.requires.live c.requires.id c.set_cell.ensures.shows c.set_cell.ensures.grows

pub returns-clause-live : goal.returns-clause-live
returns-clause-live c = stack_kept c.args.w.now c.set_cell.new.w c.args.self.now c.set_cell.ensures.grows c.requires.live
