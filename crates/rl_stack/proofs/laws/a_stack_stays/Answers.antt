use Rattle.rl_stack.proofs.EntriesKept.{all_stays, stack_kept}
use Rattle.rl_stack.proofs.laws.a_stack_stays.Goals as goal

pub returns : goal.returns
returns c = record { shows = all_stays; live = stack_kept }
