use Rattle.std.proofs.Common.{length, ap, ◌∙◌, arith}
use Rattle.std.proofs.lemmas.Result.{IfOk-at_ok}
use Rattle.rl_syms.specs.Made.{id_cost}
use Rattle.rl_syms.proofs.Names.{constant_name, name_some, name_short}
use Rattle.rl_syms.proofs.First.{room_left, nil_filled}
use Rattle.rl_syms.proofs.opening.first.Goals as goal

pub identifier-requires-clause-short : goal.identifier-requires-clause-short
identifier-requires-clause-short c = let short = name_short 0 c.opening_name.result.now (omega arith) (c.opening_name.ensures ∙ constant_name 0 (omega arith)) in omega arith

pub unwrap-id-requires : goal.unwrap-id-requires
unwrap-id-requires c =
    let some = name_some 0 c.opening_name.result.now (omega arith) (c.opening_name.ensures ∙ constant_name 0 (omega arith)) in
    let short = name_short 0 c.opening_name.result.now (omega arith) (c.opening_name.ensures ∙ constant_name 0 (omega arith)) in
    let none = ap length c.requires.empty in
    c.identifier.ensures.full ∙ room_left c.args.c.now c.args.c.now.bound (id_cost c.opening_name.result.now) c.requires.opening (omega arith)

pub returns-clause-ok : goal.returns-clause-ok
returns-clause-ok c =
    nil_filled c.objects_are_added.ensures c.args.c.now c.identifier.new.c c.set_word.new.self c.opening_name.result.now c.small.result c.unwrap-id.result c.word.result c.requires.empty c.opening_name.ensures
    (IfOk-at_ok _ c.unwrap-id.ensures c.identifier.ensures.ok) (IfOk-at_ok _ c.unwrap-id.ensures c.identifier.ensures.names) c.word.ensures.word c.set_word.ensures.changed
