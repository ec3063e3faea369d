use Rattle.std.proofs.Common.{sym, ◌∙◌}
use Rattle.rl_forms.proofs.Memories.{id_seen, pair_seen, plain_seen}
use Rattle.rl_forms.proofs.memory.look_at.Goals as goal

pub returns-in-Id : goal.returns-in-Id
returns-in-Id c = id_seen c.args.world.now c.args.v (sym c.in-Id.is ∙ c.tag.ensures)

pub returns-in-Pair : goal.returns-in-Pair
returns-in-Pair c = pair_seen c.pairs_are_data.ensures c.args.world.now c.args.v c.car.result c.cdr.result c.requires (sym c.in-Pair.is ∙ c.tag.ensures) c.car.ensures.value c.cdr.ensures.value

pub returns-in_default : goal.returns-in_default
returns-in_default c = plain_seen c.args.world.now c.args.v c.requires (λ e. c.in_default.not-Id (c.tag.ensures ∙ e)) (λ e. c.in_default.not-Pair (c.tag.ensures ∙ e))
