use Rattle.rl_stack.proofs.Determined.{watched_hidden}
use Rattle.rl_stack.proofs.laws.what_is_watched_is_hidden.Goals as goal

pub returns : goal.returns
returns c = watched_hidden
