use Rattle.std.proofs.Common.{◌≡◌, ◌-◌, arith, length, rules, sym, ◌∙◌}
use denote.Enum.Bare.{same_false, same_true}
use Rattle.rl_tags.specs.Tagged.{tag_of}
use Rattle.rl_tags.specs.contracts.Tag.{the_type}
use Rattle.rl_tags.specs.declared.Tag.TheVariants as tag
use Rattle.rl_read.specs.Stock.{elements_from}
use Rattle.rl_read.proofs.ListElements.{count_end, count_more, count_most}
use Rattle.rl_read.proofs.make.count.Goals as goal

pub loop-n-preserved : goal.loop-n-preserved
loop-n-preserved c =
    let is : tag_of c.loop-n.at ≡ tag.Pair = sym c.tag.ensures ∙ same_true the_type (search rules) c.tag.result tag.Pair (sym c.if-eq.ensures) in
    record {
      live = c.cdr-at.ensures.live;
      within = omega arith;
      counted =
          rw c.cdr-at.ensures.value
          (count_more c.args.w.now.cells.cells c.loop-n.at 2147483649 c.loop-n.n (length (elements_from 2147483649 c.args.w.now.cells.cells c.args.list)) (omega arith) is c.loop-n.invariant.counted);
    }

pub returns-else-eq : goal.returns-else-eq
returns-else-eq c =
    count_end c.args.w.now.cells.cells c.loop-n.at (2147483649 - c.loop-n.n) c.loop-n.n (length (elements_from 2147483649 c.args.w.now.cells.cells c.args.list))
    (λ (e : tag_of c.loop-n.at ≡ tag.Pair). same_false the_type c.tag.result tag.Pair (sym c.if-eq.ensures) (c.tag.ensures ∙ e)) c.loop-n.invariant.counted

pub returns-after-loop-n : goal.returns-after-loop-n
returns-after-loop-n c = count_most c.args.w.now.cells.cells c.loop-n.at 2147483649 c.loop-n.n (length (elements_from 2147483649 c.args.w.now.cells.cells c.args.list)) (omega arith) (omega arith) c.loop-n.invariant.counted
