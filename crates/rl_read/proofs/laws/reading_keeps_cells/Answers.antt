use Rattle.rl_read.proofs.WhatStands.{cells_kept}
use Rattle.rl_read.proofs.laws.reading_keeps_cells.Goals as goal

pub returns : goal.returns
returns c = cells_kept c.counts_are_taken.ensures c.what_a_maker_keeps_stands.ensures
