use Rattle.std.proofs.Common.{sym, ap, ◌∙◌}
use Rattle.rl_forms.specs.SeenForms.{are_built}
use Rattle.rl_forms.proofs.Closing.{not_built, are_forms}
use Rattle.rl_forms.proofs.run.built_forms.Goals as goal

pub all_built-requires-clause-known : goal.all_built-requires-clause-known
all_built-requires-clause-known c =
    let read = rw c.in-Some.is at c.in_ok-forms.ensures.forms in
    rw c.deref.ensures.value read.known

pub returns-then-not-branch : goal.returns-then-not-branch
returns-then-not-branch c =
    let read = rw c.in-Some.is at c.in_ok-forms.ensures.read in
    not_built c.args.file.now c.forms_in.new.world c.in-Some.forms.items c.requires.short read (ap (are_built c.forms_in.new.world) (sym c.deref.ensures.value) ∙ (sym c.in_ok-all_built.ensures ∙ c.if-not-branch.true))

pub returns : goal.returns
returns c =
    let read = rw c.in-Some.is at c.in_ok-forms.ensures.read in
    let known = rw c.in-Some.is at c.in_ok-forms.ensures.forms in
    are_forms c.args.file.now c.args.world.now c.forms_in.new.world c.in-Some.forms.items c.requires.short c.requires.beginning known read (ap (are_built c.forms_in.new.world) (sym c.deref.ensures.value) ∙ (sym c.in_ok-all_built.ensures ∙ c.if-not-branch.false))
