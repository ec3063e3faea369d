use Rattle.std.proofs.Common.{◌≡◌, sym, ap, ◌∙◌, Some}
use Rattle.rl_tags.specs.Tagged.{Tagged, index_of}
use Rattle.rl_cells.specs.Cell.{is_live}
use Rattle.rl_syms.specs.Table.{var_kind_in}
use Rattle.rl_syms.proofs.Field.{defined, is_at_id}
use Rattle.rl_syms.proofs.Filled.{option_live}
use Rattle.rl_syms.proofs.Kept.{keeps_then}
use Rattle.rl_syms.proofs.table.Syms.define.Goals as goal

pub set_field-requires-2-clause-word_live : goal.set_field-requires-2-clause-word_live
set_field-requires-2-clause-word_live c =
    option_live c.set_field.new.c.cells (Some c.args.pointer) c.word_for.result c.word_for.ensures.back
    (λ (x : Tagged) e. let same : c.args.pointer ≡ x = cc in c.set_field.ensures.live x (ap (is_live c.args.c.now.cells) (sym same) ∙ c.requires.live))

pub returns-clause-sets : goal.returns-clause-sets
returns-clause-sets c =
    let old = c.args.c.now.cells in
    let k = index_of c.args.id in
    record {
      live = λ v h. c.set_field-2.ensures.live v (c.set_field.ensures.live v h);
      ids = λ v h. c.set_field-2.ensures.ids v (c.set_field.ensures.ids v h);
      symbol = defined old c.set_field.new.c.cells c.set_field-2.new.c.cells k c.kinds_word-kinds.result c.word_for.result c.args.kind c.args.pointer (c.requires.table.chained.six k (is_at_id old c.args.id c.requires.id).cell)
          c.set_field.ensures.words c.set_field-2.ensures.words c.kinds_word-kinds.ensures.kind (c.kinds_word-kinds.ensures.declared ∙ c.var_kind_of.ensures ∙ ap var_kind_in c.word.ensures.word) c.word_for.ensures.back;
      others = λ j n. c.set_field-2.ensures.others j n ∙ c.set_field.ensures.others j n;
      rest = keeps_then old c.set_field.new.c.cells c.set_field-2.new.c.cells c.set_field.ensures.rest c.set_field-2.ensures.rest;
    }

pub returns-clause-keeps : goal.returns-clause-keeps
returns-clause-keeps c = λ bytes id n. c.set_field-2.ensures.keeps bytes id (c.set_field.ensures.keeps bytes id n)

pub set_field-requires-2-clause-id : goal.set_field-requires-2-clause-id
set_field-requires-2-clause-id c = c.set_field.ensures.ids c.args.id c.requires.id
