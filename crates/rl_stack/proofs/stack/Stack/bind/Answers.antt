use Rattle.rl_stack.specs.ShowsStack.{scope_kept}
use Rattle.rl_stack.proofs.Bound.{all_bound, bound_live}
use Rattle.rl_stack.proofs.stack.Stack.bind.Goals as goal

pub returns-clause-shows : goal.returns-clause-shows
returns-clause-shows c = all_bound c.identifiers_are_numbered.ensures c.args.w.now c.set_cell.new.w c.args.self.now c.save_binding.new.self c.args.id c.is_local-local.result c.cell-hid.result c.args.levels (scope_kept c.args.k) c.args.v c.save_binding.ensures c.is_local-local.ensures
    c.requires.world c.requires.live c.requires.id c.cell-hid.ensures.live c.cell-hid.ensures.seen c.set_cell.ensures.shows c.set_cell.ensures.grows

pub returns-clause-live : goal.returns-clause-live
returns-clause-live c = bound_live c.args.w.now c.set_cell.new.w c.args.self.now c.save_binding.new.self c.args.id c.is_local-local.result c.cell-hid.result c.args.levels c.save_binding.ensures c.requires.live c.requires.id c.cell-hid.ensures.live c.set_cell.ensures.grows
