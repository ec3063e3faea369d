use Rattle.std.proofs.Common.{refl, sym, ◌∙◌}
use Rattle.rl_forms.proofs.Built.{has_name, has_other, name_second, plain_second, third}
use Rattle.rl_forms.proofs.forms.arguments_from.Goals as goal

pub returns-then-eq : goal.returns-then-eq
returns-then-eq c = (c.requires.first_known, rw (has_name 2 c.args.world.now _ c.args.rest c.requires.running.nil (sym c.eq.ensures ∙ c.if-eq.true)) refl)

pub returns-in-Other : goal.returns-in-Other
returns-in-Other c = λ head. plain_second head _ _ c.in-Other.ensures

pub returns-in-Identifier : goal.returns-in-Identifier
returns-in-Identifier c = λ head. name_second head _ _ c.in-Identifier.ensures (has_other 2 c.args.world.now _ c.args.rest c.requires.running.table c.requires.running.nil c.requires.rest_known (sym c.eq.ensures ∙ c.if-eq.false))

pub returns-then-eq-2 : goal.returns-then-eq-2
returns-then-eq-2 c = (c.requires.first_known, c.in-Pair.ensures.1, rw (c.in-Pair.ensures.0, has_name 2 c.args.world.now _ c.in-Pair.end c.requires.running.nil (sym c.eq-in-Pair.ensures ∙ c.if-eq-2.true)) refl)

pub returns-else-eq-2 : goal.returns-else-eq-2
returns-else-eq-2 c = λ head. rw c.in-Pair.ensures.0 (third head _ _ _ (has_other 2 c.args.world.now _ c.in-Pair.end c.requires.running.table c.requires.running.nil c.in-Pair.ensures.2 (sym c.eq-in-Pair.ensures ∙ c.if-eq-2.false)))
