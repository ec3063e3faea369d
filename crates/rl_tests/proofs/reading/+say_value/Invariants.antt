use Rattle.rl_tests.proofs.reading.+say_value.Given as goal

abbrev pub decreases-say_value : goal.decreases-say_value
decreases-say_value l = l.depth
