use Rattle.std.proofs.Common.{◌≡◌, refl, ap, ◌∙◌}
use Rattle.rl_syms.specs.Table.{nil_value}
use Rattle.rl_syms.specs.Made.{with_id}
use Rattle.rl_syms.proofs.Entered.{entered_table, entered_named, entered_keeps, entered_opening, made_adds}
use Rattle.rl_syms.proofs.table.Syms.enter.Goals as goal

pub returns-clause-table : goal.returns-clause-table
returns-clause-table c =
    let made : c.identifier.new.c ≡ with_id c.args.c.now c.args.name.now nil_value c.args.self.now.head = c.in_ok-id.ensures.ok ∙ ap (λ p. with_id c.args.c.now c.args.name.now p c.args.self.now.head) c.nil.ensures in
    entered_table c.objects_are_added.ensures c.args.c.now c.identifier.new.c c.args.self.now.head c.args.name.now c.in_ok-id.id c.requires.some c.requires.short c.requires.table c.requires.free made c.in_ok-id.ensures.names

pub returns-clause-named : goal.returns-clause-named
returns-clause-named c =
    let made : c.identifier.new.c ≡ with_id c.args.c.now c.args.name.now nil_value c.args.self.now.head = c.in_ok-id.ensures.ok ∙ ap (λ p. with_id c.args.c.now c.args.name.now p c.args.self.now.head) c.nil.ensures in
    entered_named c.objects_are_added.ensures c.args.c.now c.identifier.new.c c.args.self.now.head c.args.name.now nil_value c.in_ok-id.id c.requires.some c.requires.short refl c.requires.table.chained made c.in_ok-id.ensures.names

pub returns-clause-adds : goal.returns-clause-adds
returns-clause-adds c =
    let made : c.identifier.new.c ≡ with_id c.args.c.now c.args.name.now nil_value c.args.self.now.head = c.in_ok-id.ensures.ok ∙ ap (λ p. with_id c.args.c.now c.args.name.now p c.args.self.now.head) c.nil.ensures in
    made_adds c.objects_are_added.ensures c.args.c.now c.identifier.new.c c.args.name.now nil_value c.args.self.now.head made

pub returns-clause-keeps : goal.returns-clause-keeps
returns-clause-keeps c =
    let made : c.identifier.new.c ≡ with_id c.args.c.now c.args.name.now nil_value c.args.self.now.head = c.in_ok-id.ensures.ok ∙ ap (λ p. with_id c.args.c.now c.args.name.now p c.args.self.now.head) c.nil.ensures in
    entered_keeps c.objects_are_added.ensures c.args.c.now c.identifier.new.c c.args.self.now.head c.args.name.now nil_value c.in_ok-id.id c.requires.some c.requires.short refl c.requires.table.chained made c.in_ok-id.ensures.names

pub returns-clause-opening : goal.returns-clause-opening
returns-clause-opening c = entered_opening c.args.c.now c.identifier.new.c c.args.name.now c.nil.result c.args.self.now.head c.in_ok-id.ensures.ok
