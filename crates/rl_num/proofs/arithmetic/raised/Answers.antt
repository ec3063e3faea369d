use Rattle.std.proofs.Common.{◌≡◌, ap, subst, ◌∙◌, arith, ◌+◌, ◌%◌, ℤ, FitsSigned}
use Rattle.std.proofs.lemmas.Int.{to_z-of_z}
use Rattle.std.specs.Prelude.{unsigned_abs}
use Rattle.std.specs.Int.{w128}
use Rattle.std.specs.Option.{SomeIff}
use Rattle.rl_num.proofs.Powers.{lower_exponent_serves, power_of_natural}
use Rattle.rl_num.proofs.arithmetic.raised.Goals as goal

pub returns-else-exponent-lt128 : goal.returns-else-exponent-lt128
returns-else-exponent-lt128 c =
    let u = c.args.base in
    let n = c.unsigned_abs-exponent.result in
    let same : n ≡ unsigned_abs c.args.exponent = c.unsigned_abs-exponent.ensures.value ∙ ap unsigned_abs (to_z-of_z w128 c.args.exponent c.ranges.exponent) in
    let lower = simp (to_z-of_z w128 u c.ranges.base) at c.checked_pow-else-exponent-lt128.ensures in
    let natural = lower_exponent_serves u n (128 + n % 2) c.checked_pow-else-exponent-lt128.result c.if-exponent-lt128.false (omega arith) (omega arith) lower in
    subst (λ (z : ℤ). SomeIff c.checked_pow-else-exponent-lt128.result (FitsSigned w128 z) z) (power_of_natural u c.args.exponent n c.requires same) natural
