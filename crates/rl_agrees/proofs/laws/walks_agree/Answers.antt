use Rattle.rl_agrees.proofs.TwoRunsLaws.{walks_agree}
use Rattle.rl_agrees.proofs.laws.walks_agree.Goals as goal

pub returns : goal.returns
returns c = walks_agree c.what_a_maker_keeps_stands.ensures c.related_makers_end_related.ensures c.fuel_is_enough.ensures
