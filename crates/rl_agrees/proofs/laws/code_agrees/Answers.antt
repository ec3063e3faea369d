use Rattle.rl_agrees.proofs.TwoRunsLaws.{code_agrees}
use Rattle.rl_agrees.proofs.laws.code_agrees.Goals as goal

pub returns : goal.returns
returns c = code_agrees c.what_a_maker_keeps_stands.ensures c.related_makers_end_related.ensures c.fuel_is_enough.ensures
