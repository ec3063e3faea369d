use Rattle.std.proofs.Common.{refl}
use Rattle.rl_state.proofs.Made.{grows_refl, rest_refl}
use Rattle.rl_state.proofs.Finding.{found_means}
use Rattle.rl_state.proofs.names.identifier.Goals as goal

pub returns-in-Some-clause-means : goal.returns-in-Some-clause-means
returns-in-Some-clause-means c = found_means c.identifiers_are_numbered.ensures c.names_are_identifiers.ensures c.args.w.now c.args.name.now c.in-Some.id c.requires.world.table c.in-Some.ensures.found

pub returns-in-Some-clause-grows : goal.returns-in-Some-clause-grows
returns-in-Some-clause-grows c = grows_refl c.args.w.now c.args.w.now refl c.requires.world

pub returns-in-Some-clause-rest : goal.returns-in-Some-clause-rest
returns-in-Some-clause-rest c = rest_refl c.counts_are_taken.ensures c.args.w.now c.args.w.now refl
