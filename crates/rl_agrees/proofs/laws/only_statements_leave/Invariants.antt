use Rattle.rl_tree.specs.Value.{Value}
use Rattle.rl_meaning.specs.State.{State}
use Rattle.rl_meaning.specs.Outcome.{Stop}
use Rattle.rl_meaning.specs.Lists.{Chain}
use Rattle.rl_meaning.specs.Input.{ReadingPlace}
use Rattle.rl_agrees.proofs.OneRunReading.{making_follows}
use Rattle.rl_agrees.proofs.OneRunTogether.{Together}
use Rattle.rl_agrees.proofs.laws.only_statements_leave.Given as goal

abbrev pub ghosts-what_a_maker_keeps_stands : goal.ghosts-what_a_maker_keeps_stands
ghosts-what_a_maker_keeps_stands a = record { Given = State; State = ReadingPlace; Value = Value; List = Chain; Want = Stop; keeps = making_follows Together }
