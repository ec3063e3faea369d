use Rattle.std.proofs.Common.{sym, ◌∙◌, refl}
use Rattle.rl_forms.proofs.Built.{has_name, has_other, none_unbuilt, two_unbuilt}
use Rattle.rl_forms.proofs.forms.call_form.Goals as goal

pub returns-then-eq : goal.returns-then-eq
returns-then-eq c = rw (c.in-None.ensures, has_name 642 c.args.world.now _ c.args.head c.requires.running.terpri (sym c.eq.ensures ∙ c.if-eq.true)) refl

pub returns-else-eq : goal.returns-else-eq
returns-else-eq c = rw c.in-None.ensures (none_unbuilt _ (has_other 642 c.args.world.now _ c.args.head c.requires.running.table c.requires.running.terpri c.requires.head_known (sym c.eq.ensures ∙ c.if-eq.false)))

pub returns-then-eq-2 : goal.returns-then-eq-2
returns-then-eq-2 c = (c.in-Two.ensures.0, c.in-Two.ensures.1, rw (c.in-Two.ensures.2, has_name 372 c.args.world.now _ c.args.head c.requires.running.cons (sym c.eq-in-Two.ensures ∙ c.if-eq-2.true)) refl)

pub returns-else-eq-2 : goal.returns-else-eq-2
returns-else-eq-2 c = rw c.in-Two.ensures.2 (two_unbuilt _ _ _ (has_other 372 c.args.world.now _ c.args.head c.requires.running.table c.requires.running.cons c.requires.head_known (sym c.eq-in-Two.ensures ∙ c.if-eq-2.false)))
