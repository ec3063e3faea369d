use Rattle.std.proofs.Common.{ap, sym, ◌∙◌}
use Rattle.rl_tree.specs.Value.{Id}
use Rattle.rl_meaning.specs.Symbols.{or_nil}
use Rattle.rl_state.proofs.Finding.{found_name, free_name, named_means}
use Rattle.rl_state.proofs.names.identifier_or_nil.Goals as goal

pub returns-in-Some-clause-means : goal.returns-in-Some-clause-means
returns-in-Some-clause-means c s shown =
    let w = c.args.w.now in
    let named = c.in-Some.ensures.found in
    ap or_nil (found_name c.identifiers_are_numbered.ensures c.names_are_identifiers.ensures w c.args.name.now c.in-Some.id c.requires.table named s shown)
    ∙ sym (named_means w.cells.cells w.syms.head c.args.name.now c.in-Some.id named)

pub returns-in-None-clause-means : goal.returns-in-None-clause-means
returns-in-None-clause-means c s shown =
    ap or_nil (free_name c.identifiers_are_numbered.ensures c.args.w.now c.args.name.now c.in-None.ensures.found s shown)
    ∙ ap Id (sym c.requires.table.first)
