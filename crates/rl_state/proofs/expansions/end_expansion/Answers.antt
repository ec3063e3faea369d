use Rattle.rl_state.proofs.Expanding.{ended_grows, ended_shows}
use Rattle.rl_state.proofs.expansions.end_expansion.Goals as goal

pub returns-clause-shows : goal.returns-clause-shows
returns-clause-shows c = ended_shows c.args.w.now c.end_expansion.new.self c.end_expansion.ensures.ended c.end_expansion.ensures.open c.requires.open

pub returns-clause-grows : goal.returns-clause-grows
returns-clause-grows c = ended_grows c.bounds_are_kept.ensures c.args.w.now c.end_expansion.new.self c.end_expansion.ensures.ended c.requires.world
