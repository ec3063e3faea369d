use Rattle.rl_tags.specs.Tagged.{Tagged}
use Rattle.rl_text.specs.Datum.{Datum}
use Rattle.rl_text.specs.Reading.{Items}
use Rattle.rl_world.specs.declared.stop.Stop.{Stop}
use Rattle.rl_read.specs.Stock.{Stock, PairChain}
use Rattle.rl_read.proofs.ReadIsSpelled.{heedless}
use Rattle.rl_read.proofs.laws.reading_is_of_text.Given as goal

abbrev pub ghosts-related_makers_end_related : goal.ghosts-related_makers_end_related
ghosts-related_makers_end_related a = record {
  Given = Unit {0};
  Names = Unit {0};
  FirstState = Stock;
  FirstValue = Tagged;
  FirstList = PairChain;
  FirstWant = Stop;
  SecondState = Unit {0};
  SecondValue = Datum;
  SecondList = Items;
  SecondWant = ⊥;
  relations = λ given. heedless;
}
