use Rattle.rl_agrees.proofs.PlainAlone.{plain_alone}
use Rattle.rl_agrees.proofs.laws.plain_expansions_stand_alone.Goals as goal

pub returns : goal.returns
returns c = plain_alone
