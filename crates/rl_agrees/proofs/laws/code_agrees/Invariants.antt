use Rattle.std.specs.Prelude.{List}
use Rattle.rl_tree.specs.Value.{Value}
use Rattle.rl_meaning.specs.State.{State}
use Rattle.rl_meaning.specs.Outcome.{Stop}
use Rattle.rl_meaning.specs.Lists.{Chain}
use Rattle.rl_meaning.specs.Input.{ReadingPlace}
use Rattle.rl_meaning.specs.TwoRunsValues.{Names}
use Rattle.rl_meaning.specs.TwoRunsStates.{Bounds, EntryPlace}
use Rattle.rl_agrees.proofs.OneRunReading.{making_follows}
use Rattle.rl_agrees.proofs.OneRunTogether.{Together}
use Rattle.rl_agrees.proofs.TwoRunsReading.{reading_beside}
use Rattle.rl_agrees.proofs.laws.code_agrees.Given as goal

abbrev pub ghosts-what_a_maker_keeps_stands : goal.ghosts-what_a_maker_keeps_stands
ghosts-what_a_maker_keeps_stands a = record { Given = State; State = ReadingPlace; Value = Value; List = Chain; Want = Stop; keeps = making_follows Together }

abbrev pub ghosts-related_makers_end_related : goal.ghosts-related_makers_end_related
ghosts-related_makers_end_related a = record {
  Given = Bounds × List EntryPlace;
  Names = Names;
  FirstState = ReadingPlace;
  FirstValue = Value;
  FirstList = Chain;
  FirstWant = Stop;
  SecondState = ReadingPlace;
  SecondValue = Value;
  SecondList = Chain;
  SecondWant = Stop;
  relations = reading_beside;
}
