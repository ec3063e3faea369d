use Rattle.rl_state.specs.ShownState.{number_in}
use Rattle.rl_stack.proofs.Bound.{looked_up}
use Rattle.rl_stack.proofs.stack.Stack.lookup.Goals as goal

pub returns-clause-means : goal.returns-clause-means
returns-clause-means c = looked_up c.args.w.now (number_in c.args.w.now.cells.cells c.args.id) c.cell.result c.cell.ensures.seen c.args.self.now
