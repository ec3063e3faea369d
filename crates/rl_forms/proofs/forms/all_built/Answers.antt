use Rattle.std.proofs.Common.{sym, ◌∙◌}
use Rattle.rl_forms.proofs.Testing.{taken_known, taken_built, taken_fewer, taken_unbuilt}
use Rattle.rl_forms.proofs.forms.all_built.Goals as goal

pub test-requires-clause-known : goal.test-requires-clause-known
test-requires-clause-known c = (taken_known c.args.world.now _ _ c.in-Some.form c.in-Some.ensures.items c.loop-form.invariant.known).1

pub test-requires-clause-left : goal.test-requires-clause-left
test-requires-clause-left c = (taken_known c.args.world.now _ _ c.in-Some.form c.in-Some.ensures.items c.loop-form.invariant.known).0

pub returns-then-not-branch : goal.returns-then-not-branch
returns-then-not-branch c =
    let h = rw c.if-not-branch.true at c.in_ok-test.ensures in
    sym (sym c.loop-form.invariant.same ∙ taken_unbuilt c.args.world.now _ _ c.in-Some.form c.in-Some.ensures.items h)

pub loop-form-smaller : goal.loop-form-smaller
loop-form-smaller c =
    let h = rw c.if-not-branch.false at c.in_ok-test.ensures in
    taken_fewer c.args.world.now _ _ _ c.in-Some.form c.in-Some.ensures.items h

pub loop-form-preserved : goal.loop-form-preserved
loop-form-preserved c =
    let h = rw c.if-not-branch.false at c.in_ok-test.ensures in
    record { known = h.known; same = taken_built c.args.world.now _ _ _ c.in-Some.form c.in-Some.ensures.items h ∙ c.loop-form.invariant.same }
