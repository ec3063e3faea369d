use Rattle.std.proofs.Common.{sym, ◌∙◌}
use Rattle.rl_forms.proofs.Built.{has_name, has_other, name_behind, plain_behind}
use Rattle.rl_forms.proofs.forms.arguments_of.Goals as goal

pub returns-then-eq : goal.returns-then-eq
returns-then-eq c = has_name 2 c.args.world.now _ c.args.list c.requires.running.nil (sym c.eq.ensures ∙ c.if-eq.true)

pub returns-in-Other : goal.returns-in-Other
returns-in-Other c = λ head. plain_behind head _ c.in-Other.ensures

pub returns-in-Identifier : goal.returns-in-Identifier
returns-in-Identifier c = λ head. name_behind head _ c.in-Identifier.ensures (has_other 2 c.args.world.now _ c.args.list c.requires.running.table c.requires.running.nil c.requires.known (sym c.eq.ensures ∙ c.if-eq.false))
