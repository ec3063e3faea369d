use Rattle.rl_state.proofs.Beginning.{opened_named, opened_numbers, world_opens}
use Rattle.rl_state.proofs.BareShown.{unset_alone}
use Rattle.rl_state.proofs.opening.open.Goals as goal

pub returns-in-Ok-clause-world : goal.returns-in-Ok-clause-world
returns-in-Ok-clause-world c =
    let e = c.in-Ok.ensures in
    world_opens c.cells_are_known.ensures c.names_are_identifiers.ensures c.in-Ok.w c.args.limits.turns c.args.limits.cells c.args.limits.nest c.requires.turns
    (record { table = e.table; texts = e.texts; exact = e.exact; opening = e.opening; counts = e.counts; levels = e.levels; made = e.made; output = e.output; input = e.input })

pub returns-in-Ok-clause-shown : goal.returns-in-Ok-clause-shown
returns-in-Ok-clause-shown c =
    let e = c.in-Ok.ensures in
    unset_alone c.cells_are_known.ensures c.names_are_identifiers.ensures c.in-Ok.w c.args.limits.turns c.args.limits.cells c.args.limits.nest
    (record { table = e.table; texts = e.texts; exact = e.exact; opening = e.opening; counts = e.counts; levels = e.levels; made = e.made; output = e.output; input = e.input }) e.opened

pub returns-in-Ok-clause-names : goal.returns-in-Ok-clause-names
returns-in-Ok-clause-names c = let e = c.in-Ok.ensures in opened_named c.cells_are_known.ensures c.in-Ok.w.cells.cells c.in-Ok.w.texts c.in-Ok.w.syms.head e.exact

pub returns-in-Ok-clause-numbers : goal.returns-in-Ok-clause-numbers
returns-in-Ok-clause-numbers c =
    let e = c.in-Ok.ensures in
    opened_numbers c.cells_are_known.ensures c.names_are_identifiers.ensures c.in-Ok.w.cells.cells c.in-Ok.w.texts c.in-Ok.w.syms.head e.table e.exact
