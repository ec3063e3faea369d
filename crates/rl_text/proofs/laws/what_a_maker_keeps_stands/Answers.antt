use Rattle.rl_text.proofs.KeptByOne.{kept_along_text}
use Rattle.rl_text.proofs.laws.what_a_maker_keeps_stands.Goals as goal

pub returns : goal.returns
returns g c given = kept_along_text (g.K.KeptMaking.keeps given)
