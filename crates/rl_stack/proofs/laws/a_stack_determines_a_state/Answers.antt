use Rattle.rl_stack.proofs.Determined.{determined_by}
use Rattle.rl_stack.proofs.laws.a_stack_determines_a_state.Goals as goal

pub returns : goal.returns
returns c = determined_by c.a_world_determines_a_state.ensures
