use Rattle.rl_state.proofs.Outer.{grows_outer}
use Rattle.rl_state.proofs.TiedBacks.{back_ties}
use Rattle.rl_state.proofs.outside.put_back.Goals as goal

pub returns-clause-means : goal.returns-clause-means
returns-clause-means c at o n i coming s = back_ties at c.args.w.now c.input_back.new.self o n i c.args.b coming s c.requires.none_back c.requires.given c.input_back.ensures

pub returns-clause-grows : goal.returns-clause-grows
returns-clause-grows c = grows_outer c.args.w.now c.input_back.new.self _ _ _ c.input_back.ensures
