use Rattle.rl_state.specs.Ties.{EndsTied}
use Rattle.rl_state.proofs.Takings.{takes_kept, takes_none, takes_then}
use Rattle.rl_state.proofs.laws.takings_compose.Goals as goal

pub returns : goal.returns
returns g c = record {
  after = λ a b d p q. takes_then a b d g.T.Taking.relates g.T.Taking.behind p q;
  kept = λ a b d p u f. takes_kept a b d (EndsTied g.T.Taking.relates b) g.T.Taking.behind p u (λ at rest s e. f at rest s e.0 e.1 e.2);
  none = λ a f. takes_none a g.T.Taking.behind f;
}
