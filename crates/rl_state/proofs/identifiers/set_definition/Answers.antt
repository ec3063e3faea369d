use Rattle.rl_state.proofs.Set.{field_grows, field_rest, field_set, definition_shown}
use Rattle.rl_state.proofs.identifiers.set_definition.Goals as goal

pub returns-clause-shows : goal.returns-clause-shows
returns-clause-shows c = definition_shown c.identifiers_are_numbered.ensures c.args.w.now _ c.args.id c.args.d (field_set c.args.w.now c.set_function.new.c c.set_function.new.self c.args.id _ c.set_function.ensures.store c.set_function.ensures.same c.set_function.ensures.table c.set_function.ensures.sets) c.requires.world c.requires.id

pub returns-clause-grows : goal.returns-clause-grows
returns-clause-grows c = field_grows c.identifiers_are_numbered.ensures c.args.w.now _ c.args.id _ (field_set c.args.w.now c.set_function.new.c c.set_function.new.self c.args.id _ c.set_function.ensures.store c.set_function.ensures.same c.set_function.ensures.table c.set_function.ensures.sets) c.requires.world

pub returns-clause-rest : goal.returns-clause-rest
returns-clause-rest c = field_rest c.counts_are_taken.ensures c.functions_stand.ensures c.args.w.now _ c.args.id _ c.requires.id (field_set c.args.w.now c.set_function.new.c c.set_function.new.self c.args.id _ c.set_function.ensures.store c.set_function.ensures.same c.set_function.ensures.table c.set_function.ensures.sets)
