use Rattle.rl_cells.specs.Cell.{StrCell}
use Rattle.rl_syms.proofs.Filled.{live_grown}
use Rattle.rl_syms.proofs.made.identifier.Goals as goal

pub block-requires-clause-next_live : goal.block-requires-clause-next_live
block-requires-clause-next_live c = λ v e. live_grown c.objects_are_added.ensures c.args.c.now c.string.new.self (StrCell c.args.name.now) v c.in_ok-text.ensures.ok (c.requires.next_live v e)
