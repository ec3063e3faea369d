use Rattle.rl_agrees.proofs.IdentityLaw.{a_code_is_right}
use Rattle.rl_agrees.proofs.laws.a_code_is_right.Goals as goal

pub returns : goal.returns
returns c = a_code_is_right c.code_agrees.ensures
