use Rattle.rl_state.proofs.Set.{field_grows, field_rest, field_set, kind_shown}
use Rattle.rl_state.proofs.identifiers.set_kind.Goals as goal

pub returns-clause-shows : goal.returns-clause-shows
returns-clause-shows c = kind_shown c.identifiers_are_numbered.ensures c.args.w.now _ c.args.id c.args.k (field_set c.args.w.now c.set_kind.new.c c.set_kind.new.self c.args.id _ c.set_kind.ensures.store c.set_kind.ensures.same c.set_kind.ensures.table c.set_kind.ensures.sets) c.requires.world c.requires.id

pub returns-clause-grows : goal.returns-clause-grows
returns-clause-grows c = field_grows c.identifiers_are_numbered.ensures c.args.w.now _ c.args.id _ (field_set c.args.w.now c.set_kind.new.c c.set_kind.new.self c.args.id _ c.set_kind.ensures.store c.set_kind.ensures.same c.set_kind.ensures.table c.set_kind.ensures.sets) c.requires.world

pub returns-clause-rest : goal.returns-clause-rest
returns-clause-rest c = field_rest c.counts_are_taken.ensures c.functions_stand.ensures c.args.w.now _ c.args.id _ c.requires.id (field_set c.args.w.now c.set_kind.new.c c.set_kind.new.self c.args.id _ c.set_kind.ensures.store c.set_kind.ensures.same c.set_kind.ensures.table c.set_kind.ensures.sets)
