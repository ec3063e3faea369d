use Rattle.std.proofs.Common.{◌≡◌, refl, rules, subst}
use Rattle.rl_stack.specs.ShowsStack.{IsVariable}
use Rattle.rl_tests.proofs.stack.variable.Goals as goal

pub returns-else-eq : goal.returns-else-eq
returns-else-eq c x e =
    let same : c.in-Some.id ≡ x = cc in
    subst (λ v. IsVariable c.args.w.now.cells.cells v) same (record { is_id = c.in-Some.ensures.id c.in-Some.id refl; bindable = search rules })
