use Rattle.rl_syms.proofs.Changed.{car_changes, cdr_changes, place_changes, word_keeps}
use Rattle.rl_syms.proofs.laws.meaning_of_change.Goals as goal

pub returns : goal.returns
returns c = record {
  car = car_changes;
  cdr = cdr_changes;
  place = place_changes;
  word = word_keeps;
}
