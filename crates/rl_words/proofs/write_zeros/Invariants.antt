use Rattle.std.proofs.Common.{◌≡◌, ◌≤◌, ◌-◌, ◌++◌, length, replicate, vec_len, vec_capacity}
use Rattle.rl_words.proofs.write_zeros.Given as goal

abbrev pub invariant-loop-words : goal.invariant-loop-words
invariant-loop-words l = record {
  items : l.words.items ≡ l.fn.words.items ++ replicate (length l.words.items - length l.fn.words.items) 0;
  more : length l.fn.words.items ≤ length l.words.items;
  within : vec_len l.words ≤ l.n;
  capacity : vec_capacity l.words ≡ vec_capacity l.fn.words;
}

abbrev pub decreases-loop-words : goal.decreases-loop-words
decreases-loop-words l = l.n - vec_len l.words
