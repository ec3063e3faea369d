use Rattle.rl_state.proofs.Expanding.{begun_grows, begun_shows}
use Rattle.rl_state.proofs.expansions.begin_expansion.Goals as goal

pub returns-clause-shows : goal.returns-clause-shows
returns-clause-shows c = begun_shows c.args.w.now c.begin_expansion.new.self c.args.name c.begin_expansion.ensures.begun c.begin_expansion.ensures.open

pub returns-clause-grows : goal.returns-clause-grows
returns-clause-grows c = begun_grows c.bounds_are_kept.ensures c.args.w.now c.begin_expansion.new.self c.args.name c.begin_expansion.ensures.begun c.requires.world c.requires.run c.requires.id
