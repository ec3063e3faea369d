use Rattle.std.proofs.Common.{sym, ap, ◌∙◌}
use Rattle.rl_text.specs.Datum.{Pair, nil}
use Rattle.rl_forms.specs.KnownData.{datum_in}
use Rattle.rl_forms.proofs.Built.{has_name, has_other, one_unbuilt}
use Rattle.rl_forms.proofs.forms.one_form.Goals as goal

pub returns-then-eq : goal.returns-then-eq
returns-then-eq c = (c.requires.known, ap (λ f. Pair f (Pair (datum_in c.args.world.now c.args.a) nil)) (has_name 12 c.args.world.now _ c.args.head c.requires.running.quote (sym c.eq.ensures ∙ c.if-eq.true)))

pub returns-then-eq-2 : goal.returns-then-eq-2
returns-then-eq-2 c = (c.requires.known, ap (λ f. Pair f (Pair (datum_in c.args.world.now c.args.a) nil)) (has_name 637 c.args.world.now _ c.args.head c.requires.running.print (sym c.eq-2.ensures ∙ c.if-eq-2.true)))

pub returns-then-eq-3 : goal.returns-then-eq-3
returns-then-eq-3 c = (c.requires.known, ap (λ f. Pair f (Pair (datum_in c.args.world.now c.args.a) nil)) (has_name 627 c.args.world.now _ c.args.head c.requires.running.prin1 (sym c.eq-3.ensures ∙ c.if-eq-3.true)))

pub returns-then-eq-4 : goal.returns-then-eq-4
returns-then-eq-4 c = (c.requires.known, ap (λ f. Pair f (Pair (datum_in c.args.world.now c.args.a) nil)) (has_name 632 c.args.world.now _ c.args.head c.requires.running.prin2 (sym c.eq-4.ensures ∙ c.if-eq-4.true)))

pub returns : goal.returns
returns c =
    let w = c.args.world.now in
    let is = c.requires.running in
    one_unbuilt _ _
    (has_other 12 w _ c.args.head is.table is.quote c.requires.head_known (sym c.eq.ensures ∙ c.if-eq.false))
    (has_other 637 w _ c.args.head is.table is.print c.requires.head_known (sym c.eq-2.ensures ∙ c.if-eq-2.false))
    (has_other 627 w _ c.args.head is.table is.prin1 c.requires.head_known (sym c.eq-3.ensures ∙ c.if-eq-3.false))
    (has_other 632 w _ c.args.head is.table is.prin2 c.requires.head_known (sym c.eq-4.ensures ∙ c.if-eq-4.false))
