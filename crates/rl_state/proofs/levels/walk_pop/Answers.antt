use Rattle.std.proofs.Common.{arith}
use Rattle.rl_state.proofs.Entered.{levels_grow, levels_show}
use Rattle.rl_state.proofs.levels.walk_pop.Goals as goal

pub returns-clause-shows : goal.returns-clause-shows
returns-clause-shows c = levels_show c.args.w.now c.walk_pop.new.self _ c.walk_pop.ensures.left

pub returns-clause-grows : goal.returns-clause-grows
returns-clause-grows c = levels_grow c.args.w.now c.walk_pop.new.self _ c.walk_pop.ensures.left c.requires.world (let l = c.requires.world.levels in omega (arith, l))
