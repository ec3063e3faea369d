use Rattle.rl_tags.specs.Tagged.{Tagged}
use Rattle.rl_world.specs.declared.stop.Stop.{Stop}
use Rattle.rl_read.specs.ReadingKeepsCells.{keeping_what_stood}
use Rattle.rl_read.specs.Stock.{Stock, PairChain}
use Rattle.rl_read.proofs.laws.reading_keeps_cells.Given as goal

abbrev pub ghosts-what_a_maker_keeps_stands : goal.ghosts-what_a_maker_keeps_stands
ghosts-what_a_maker_keeps_stands a = record { Given = Stock; State = Stock; Value = Tagged; List = PairChain; Want = Stop; keeps = keeping_what_stood }
