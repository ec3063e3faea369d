use Rattle.std.proofs.Common.{ap, ◌∙◌}
use Rattle.rl_tags.specs.Tagged.{index_of}
use Rattle.rl_cells.specs.Cell.{CellStore}
use Rattle.rl_syms.proofs.Field.{set_at, set_table, set_keeps, set_carries, is_at_id}
use Rattle.rl_syms.proofs.Chained.{ids_of}
use Rattle.rl_syms.proofs.Kept.{field_keeps}
use Rattle.rl_syms.proofs.table.Syms.set_field.Goals as goal

pub returns-clause-words : goal.returns-clause-words
returns-clause-words c =
    let s = set_at c.objects_are_changed.ensures c.args.c.now.cells c.set_word.new.self.cells c.args.self.now.head c.args.id c.args.i c.args.word c.requires.table c.requires.id (ap (λ (t : CellStore). t.cells) c.set_word.ensures.changed) in
    s.words

pub returns-clause-others : goal.returns-clause-others
returns-clause-others c =
    let s = set_at c.objects_are_changed.ensures c.args.c.now.cells c.set_word.new.self.cells c.args.self.now.head c.args.id c.args.i c.args.word c.requires.table c.requires.id (ap (λ (t : CellStore). t.cells) c.set_word.ensures.changed) in
    s.others

pub returns-clause-live : goal.returns-clause-live
returns-clause-live c =
    let s = set_at c.objects_are_changed.ensures c.args.c.now.cells c.set_word.new.self.cells c.args.self.now.head c.args.id c.args.i c.args.word c.requires.table c.requires.id (ap (λ (t : CellStore). t.cells) c.set_word.ensures.changed) in
    λ v h. s.live v ∙ h

pub returns-clause-table : goal.returns-clause-table
returns-clause-table c =
    let s = set_at c.objects_are_changed.ensures c.args.c.now.cells c.set_word.new.self.cells c.args.self.now.head c.args.id c.args.i c.args.word c.requires.table c.requires.id (ap (λ (t : CellStore). t.cells) c.set_word.ensures.changed) in
    set_table c.args.c.now.cells c.set_word.new.self.cells c.args.self.now.head (index_of c.args.id) c.args.i c.args.word c.requires.table (is_at_id c.args.c.now.cells c.args.id c.requires.id).cell s c.requires.some c.requires.within c.requires.plist c.requires.pointer

pub returns-clause-ids : goal.returns-clause-ids
returns-clause-ids c =
    let s = set_at c.objects_are_changed.ensures c.args.c.now.cells c.set_word.new.self.cells c.args.self.now.head c.args.id c.args.i c.args.word c.requires.table c.requires.id (ap (λ (t : CellStore). t.cells) c.set_word.ensures.changed) in
    ids_of c.args.c.now.cells c.set_word.new.self.cells (set_carries c.args.c.now.cells c.set_word.new.self.cells c.args.self.now.head (index_of c.args.id) c.args.i c.args.word (is_at_id c.args.c.now.cells c.args.id c.requires.id).cell s c.requires.some c.requires.within).id

pub returns-clause-keeps : goal.returns-clause-keeps
returns-clause-keeps c =
    let s = set_at c.objects_are_changed.ensures c.args.c.now.cells c.set_word.new.self.cells c.args.self.now.head c.args.id c.args.i c.args.word c.requires.table c.requires.id (ap (λ (t : CellStore). t.cells) c.set_word.ensures.changed) in
    set_keeps c.args.c.now.cells c.set_word.new.self.cells c.args.self.now.head (index_of c.args.id) c.args.i c.args.word c.requires.table (is_at_id c.args.c.now.cells c.args.id c.requires.id).cell s c.requires.some c.requires.within

pub returns-clause-rest : goal.returns-clause-rest
returns-clause-rest c = field_keeps c.objects_are_changed.ensures c.args.c.now.cells c.set_word.new.self.cells c.args.self.now.head c.args.id c.args.i c.args.word c.requires.table c.requires.id c.requires.some c.requires.within (ap (λ (t : CellStore). t.cells) c.set_word.ensures.changed)
