use Rattle.std.proofs.Common.{sym, ◌∙◌}
use Rattle.rl_forms.proofs.Built.{has_name, has_other, nil_constant, t_constant, name_unbuilt}
use Rattle.rl_forms.proofs.forms.name_form.Goals as goal

pub returns-then-eq : goal.returns-then-eq
returns-then-eq c = nil_constant _ (has_name 2 c.args.world.now _ c.args.name c.requires.running.nil (sym c.eq.ensures ∙ c.if-eq.true))

pub returns-then-eq-2 : goal.returns-then-eq-2
returns-then-eq-2 c = t_constant _ (has_name 7 c.args.world.now _ c.args.name c.requires.running.t (sym c.eq-2.ensures ∙ c.if-eq-2.true))

pub returns : goal.returns
returns c =
    let is = c.requires.running in
    name_unbuilt _ c.requires.name (has_other 2 c.args.world.now _ c.args.name is.table is.nil c.requires.known (sym c.eq.ensures ∙ c.if-eq.false)) (has_other 7 c.args.world.now _ c.args.name is.table is.t c.requires.known (sym c.eq-2.ensures ∙ c.if-eq-2.false))
