use Rattle.std.proofs.Common.{subst}
use Rattle.rl_state.specs.ShownState.{ShowsState}
use Rattle.rl_state.specs.Worlds.{WorldGrows}
use Rattle.rl_syms.specs.Table.{IsTable}
use Rattle.rl_syms.specs.declared.table.Syms.{Syms}
use Rattle.rl_state.proofs.Set.{cell_shown, field_rest, field_set, set_final, set_grows}
use Rattle.rl_state.proofs.variables.set_cell.Goals as goal

pub returns-clause-shows : goal.returns-clause-shows
returns-clause-shows c s t shown r =
    subst (λ w. ShowsState w t) (set_final c.args.w.now c.set_value.new.c c.set_value.new.self c.set_value.ensures.store c.set_value.ensures.same)
    (cell_shown c.identifiers_are_numbered.ensures c.args.w.now c.set_value.new.c.cells c.args.id c.args.v c.requires.world c.requires.id c.set_value.ensures.sets s t shown r)

pub returns-clause-grows : goal.returns-clause-grows
returns-clause-grows c =
    subst (λ w. WorldGrows c.args.w.now w) (set_final c.args.w.now c.set_value.new.c c.set_value.new.self c.set_value.ensures.store c.set_value.ensures.same)
    (set_grows c.identifiers_are_numbered.ensures c.args.w.now c.set_value.new.c.cells c.args.id _ c.requires.world (subst (λ (y : Syms). IsTable c.set_value.new.c.cells y.head) c.set_value.ensures.same c.set_value.ensures.table) c.set_value.ensures.sets)

pub returns-clause-rest : goal.returns-clause-rest
returns-clause-rest c = field_rest c.counts_are_taken.ensures c.functions_stand.ensures c.args.w.now _ c.args.id _ c.requires.id (field_set c.args.w.now c.set_value.new.c c.set_value.new.self c.args.id _ c.set_value.ensures.store c.set_value.ensures.same c.set_value.ensures.table c.set_value.ensures.sets)
