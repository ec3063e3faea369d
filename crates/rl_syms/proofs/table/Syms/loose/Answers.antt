use Rattle.std.proofs.Common.{◌≡◌, ap, ◌∙◌, None}
use Rattle.rl_syms.specs.Table.{nil_value}
use Rattle.rl_syms.specs.Made.{with_id}
use Rattle.rl_syms.proofs.Entered.{loose_table, loose_keeps, made_adds}
use Rattle.rl_syms.proofs.table.Syms.loose.Goals as goal

pub returns-clause-table : goal.returns-clause-table
returns-clause-table c =
    let made : c.identifier.new.c ≡ with_id c.args.c.now c.args.name.now nil_value None = c.in_ok-id.ensures.ok ∙ ap (λ p. with_id c.args.c.now c.args.name.now p None) c.nil.ensures in
    loose_table c.objects_are_added.ensures c.args.c.now c.identifier.new.c c.args.self.now.head c.args.name.now c.requires.some c.requires.short c.requires.table made

pub returns-clause-keeps : goal.returns-clause-keeps
returns-clause-keeps c =
    let made : c.identifier.new.c ≡ with_id c.args.c.now c.args.name.now nil_value None = c.in_ok-id.ensures.ok ∙ ap (λ p. with_id c.args.c.now c.args.name.now p None) c.nil.ensures in
    loose_keeps c.objects_are_added.ensures c.args.c.now c.identifier.new.c c.args.self.now.head c.args.name.now nil_value None c.requires.table.chained made

pub returns-clause-adds : goal.returns-clause-adds
returns-clause-adds c =
    let made : c.identifier.new.c ≡ with_id c.args.c.now c.args.name.now nil_value None = c.in_ok-id.ensures.ok ∙ ap (λ p. with_id c.args.c.now c.args.name.now p None) c.nil.ensures in
    made_adds c.objects_are_added.ensures c.args.c.now c.identifier.new.c c.args.name.now nil_value None made
