use Rattle.rl_world.proofs.Walks.{above_more, pop_steady}
use Rattle.rl_world.proofs.world.World.walk_pop.Goals as goal

pub returns-clause-steady : goal.returns-clause-steady
returns-clause-steady c = λ base l. pop_steady base _ _ _ c.pop.ensures.popped c.pop.ensures.left c.pop.ensures.entered l

pub returns-clause-above : goal.returns-clause-above
returns-clause-above c = λ base l. above_more base _ _ _ c.pop.ensures.popped l
