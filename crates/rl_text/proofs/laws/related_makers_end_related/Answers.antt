use Rattle.rl_text.proofs.RelatedMakers.{ends_related}
use Rattle.rl_text.proofs.laws.related_makers_end_related.Goals as goal

pub returns : goal.returns
returns g c given = ends_related (g.M.RelatedMakers.relations given)
