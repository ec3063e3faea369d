use Rattle.rl_tree.specs.Value.{Value}
use Rattle.rl_meaning.specs.State.{Counts}
use Rattle.rl_meaning.specs.Outcome.{Stop}
use Rattle.rl_meaning.specs.Lists.{Chain}
use Rattle.rl_meaning.specs.Input.{ReadingPlace}
use Rattle.rl_meaning.proofs.CountsFallInReading.{making_spends}
use Rattle.rl_meaning.proofs.laws.fuel_is_enough.Given as goal

abbrev pub ghosts-what_a_maker_keeps_stands : goal.ghosts-what_a_maker_keeps_stands
ghosts-what_a_maker_keeps_stands a = record { Given = Counts; State = ReadingPlace; Value = Value; List = Chain; Want = Stop; keeps = making_spends }
