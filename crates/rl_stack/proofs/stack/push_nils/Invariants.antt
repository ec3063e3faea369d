use Rattle.std.proofs.Common.{◌≡◌, ◌-◌, ◌+◌, ◌≤◌, ◌++◌, replicate, vec_len, vec_capacity}
use Rattle.rl_tags.specs.Ids.{nil_id}
use Rattle.rl_stack.proofs.stack.push_nils.Given as goal

abbrev pub invariant-loop-i : goal.invariant-loop-i
invariant-loop-i l = record {
  items : l.words.items ≡ l.fn.words.items ++ replicate l.i nil_id;
  len : vec_len l.words ≡ vec_len l.fn.words + l.i;
  capacity : vec_capacity l.words ≡ vec_capacity l.fn.words;
  within : l.i ≤ l.n;
}

abbrev pub decreases-loop-i : goal.decreases-loop-i
decreases-loop-i l = l.n - l.i
