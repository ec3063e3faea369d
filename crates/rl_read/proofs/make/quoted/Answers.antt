use Rattle.std.proofs.Common.{ap, refl}
use Rattle.rl_syms.specs.Table.{nil_value}
use Rattle.rl_read.specs.Stock.{and_then_made, pair_made}
use Rattle.rl_read.proofs.CallsFollow.{makes_after, makes_as, makes_no_part}
use Rattle.rl_read.proofs.VectorOfList.{pair_live}
use Rattle.rl_read.proofs.make.quoted.Goals as goal

pub returns-in-Err : goal.returns-in-Err
returns-in-Err c = makes_no_part c.in-Err.ensures (λ q k. and_then_made (pair_made c.args.e nil_value k) (λ p k. pair_made q p k)) refl

pub returns-in-Err-pair : goal.returns-in-Err-pair
returns-in-Err-pair c =
    makes_after c.in-Ok.ensures.making
    (makes_no_part {whole = λ k. and_then_made (pair_made c.args.e nil_value k) (λ p k. pair_made c.in-Ok.id p k)} c.in-Err-pair.ensures.made (λ p k. pair_made c.in-Ok.id p k) refl)
    (ap (λ x. and_then_made x (λ q k. and_then_made (pair_made c.args.e nil_value k) (λ p k. pair_made q p k))) c.in-Ok.ensures.means)

pub returns : goal.returns
returns c =
    makes_after c.in-Ok.ensures.making
    (makes_after {other = λ k. and_then_made (pair_made c.args.e nil_value k) (λ p k. pair_made c.in-Ok.id p k)} c.in-Ok-pair.ensures.made.making (makes_as (λ v. pair_live c.pair-2.new.w.cells.cells v) c.pair-2.ensures.made)
    (ap (λ x. and_then_made x (λ p k. pair_made c.in-Ok.id p k)) c.in-Ok-pair.ensures.made.means))
    (ap (λ x. and_then_made x (λ q k. and_then_made (pair_made c.args.e nil_value k) (λ p k. pair_made q p k))) c.in-Ok.ensures.means)
