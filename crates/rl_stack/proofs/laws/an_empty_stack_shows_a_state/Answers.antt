use Rattle.rl_stack.proofs.Determined.{shown_by}
use Rattle.rl_stack.proofs.laws.an_empty_stack_shows_a_state.Goals as goal

pub returns : goal.returns
returns c = shown_by c.a_world_shows_a_state.ensures
