use Rattle.rl_read.proofs.DataStay.{datum_live, pair_kept, pair_new, pair_parts}
use Rattle.std.proofs.Common.{length}
use Rattle.rl_read.proofs.laws.pairs_are_data.Goals as goal

pub returns : goal.returns
returns c =
    let added = c.objects_are_added.ensures in
    let names = c.table_is_kept.ensures in
    let leave = c.others_leave_identifiers.ensures in
    record {
      kept = λ cells head a d v t h. (pair_kept added names leave cells head a d v t h).0;
      same = λ cells head a d v t h. (pair_kept added names leave cells head a d v t h).1;
      made = λ cells head a d t x y. (pair_new added names leave cells head a d t x y).0;
      means = λ cells head a d t x y. (pair_new added names leave cells head a d t x y).1;
      car = λ cells head p h d. (pair_parts cells head p h d).0;
      cdr = λ cells head p h d. (pair_parts cells head p h d).1;
      parts = λ cells head p h d. (pair_parts cells head p h d).2;
      live = λ cells head v h. datum_live (length cells) cells head v h;
    }
