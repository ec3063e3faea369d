use Rattle.rl_tree.specs.Value.{Value}
use Rattle.rl_meaning.specs.Outcome.{Stop}
use Rattle.rl_meaning.specs.Lists.{Chain}
use Rattle.rl_meaning.specs.Input.{ReadingPlace}
use Rattle.rl_meaning.proofs.ReadingUnderWiderBounds.{wider_beside}
use Rattle.rl_meaning.proofs.laws.bounds_meet_nothing.Given as goal

abbrev pub ghosts-related_makers_end_related : goal.ghosts-related_makers_end_related
ghosts-related_makers_end_related a = record {
  Given = Unit {0};
  Names = Unit {0};
  FirstState = ReadingPlace;
  FirstValue = Value;
  FirstList = Chain;
  FirstWant = Stop;
  SecondState = ReadingPlace;
  SecondValue = Value;
  SecondList = Chain;
  SecondWant = Stop;
  relations = λ given. wider_beside;
}
