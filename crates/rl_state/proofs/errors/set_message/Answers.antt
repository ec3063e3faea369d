use Rattle.std.proofs.Common.{subst}
use Rattle.rl_tags.specs.Ids.{emsg_star_id}
use Rattle.rl_meaning.specs.Symbols.{message_id, with_top}
use Rattle.rl_syms.specs.Contents.{value_of}
use Rattle.rl_state.specs.ShownState.{ShowsState}
use Rattle.rl_state.specs.Worlds.{WorldGrows}
use Rattle.rl_syms.specs.Table.{IsTable}
use Rattle.rl_syms.specs.declared.table.Syms.{Syms}
use Rattle.rl_state.proofs.Set.{field_rest, field_set, set_final, set_grows, message_shown}
use Rattle.rl_state.proofs.errors.set_message.Goals as goal

pub returns-clause-shows : goal.returns-clause-shows
returns-clause-shows c s shown =
    subst (λ w. ShowsState w (with_top message_id (value_of c.args.w.now.cells.cells c.args.v) s)) (set_final c.args.w.now c.set_value.new.c c.set_value.new.self c.set_value.ensures.store c.set_value.ensures.same)
    (message_shown c.identifiers_are_numbered.ensures c.args.w.now c.set_value.new.c.cells c.args.v c.requires.world c.set_value.ensures.sets s shown)

pub returns-clause-grows : goal.returns-clause-grows
returns-clause-grows c =
    subst (λ w. WorldGrows c.args.w.now w) (set_final c.args.w.now c.set_value.new.c c.set_value.new.self c.set_value.ensures.store c.set_value.ensures.same)
    (set_grows c.identifiers_are_numbered.ensures c.args.w.now c.set_value.new.c.cells emsg_star_id _ c.requires.world (subst (λ (y : Syms). IsTable c.set_value.new.c.cells y.head) c.set_value.ensures.same c.set_value.ensures.table) c.set_value.ensures.sets)

pub returns-clause-rest : goal.returns-clause-rest
returns-clause-rest c = field_rest c.counts_are_taken.ensures c.functions_stand.ensures c.args.w.now _ emsg_star_id _ c.requires.world.message.is_id (field_set c.args.w.now c.set_value.new.c c.set_value.new.self emsg_star_id _ c.set_value.ensures.store c.set_value.ensures.same c.set_value.ensures.table c.set_value.ensures.sets)
