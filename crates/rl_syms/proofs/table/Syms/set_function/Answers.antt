use Rattle.std.proofs.Common.{refl}
use Rattle.rl_tags.specs.Tagged.{index_of}
use Rattle.rl_syms.proofs.Field.{undefined, is_at_id}
use Rattle.rl_syms.proofs.table.Syms.set_function.Goals as goal

pub returns-in-None-clause-sets : goal.returns-in-None-clause-sets
returns-in-None-clause-sets c =
    let old = c.args.c.now.cells in
    let k = index_of c.args.id in
    rw c.in-None.is record {
      live = c.set_field.ensures.live;
      ids = c.set_field.ensures.ids;
      symbol = undefined old c.set_field.new.c.cells k 15 (c.requires.table.chained.six k (is_at_id old c.args.id c.requires.id).cell) c.set_field.ensures.words refl;
      others = c.set_field.ensures.others;
      rest = c.set_field.ensures.rest;
    }
