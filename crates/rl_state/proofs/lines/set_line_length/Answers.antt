use Rattle.rl_state.proofs.Outer.{grows_outer, lines_tie}
use Rattle.rl_state.proofs.lines.set_line_length.Goals as goal

pub returns-clause-means : goal.returns-clause-means
returns-clause-means c at o m i coming s = lines_tie at c.args.w.now c.set_line_length.new.self o m i c.args.n coming s c.set_line_length.ensures

pub returns-clause-grows : goal.returns-clause-grows
returns-clause-grows c = grows_outer c.args.w.now c.set_line_length.new.self _ _ _ c.set_line_length.ensures
