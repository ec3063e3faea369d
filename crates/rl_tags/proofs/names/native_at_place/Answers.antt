use Rattle.std.proofs.Common.{◌/◌, ◌∙◌, sym, arith}
use Rattle.rl_tags.proofs.Places.{native_at-here, native_at-none}
use Rattle.rl_tags.proofs.names.native_at_place.Goals as goal

pub returns-then-number : goal.returns-then-number
returns-then-number c = c.native_arguments_at.ensures
    ∙ sym (native_at-here (c.args.place / 5) c.args.place (omega (arith, c.if-number.true)) (omega (arith, c.if-place-eq2.true)))

pub returns-else-place-eq2 : goal.returns-else-place-eq2
returns-else-place-eq2 c = sym (native_at-none c.args.place (λ i h e. omega (arith, c.else-place-eq2.either)))
