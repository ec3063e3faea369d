use Rattle.rl_state.proofs.Beginning.{ended_grows, ended_shows}
use Rattle.rl_state.proofs.opening.opened.Goals as goal

pub returns-clause-shows : goal.returns-clause-shows
returns-clause-shows c = ended_shows c.args.w.now c.opened.new.self c.opened.ensures c.requires.world c.requires.opening

pub returns-clause-grows : goal.returns-clause-grows
returns-clause-grows c = ended_grows c.bounds_are_kept.ensures c.args.w.now c.opened.new.self c.opened.ensures c.requires.world c.requires.opening
