use Rattle.std.proofs.Common.{ℕ, List, replicate, set, arith}
use Rattle.rl_tags.specs.declared.Tag.TheVariants as tag
use Rattle.rl_cells.specs.Cell.{BlockCell}
use Rattle.rl_syms.proofs.Filled.{word_live, option_live, live_filled, words_filled, block_filled, filled_set}
use Rattle.rl_syms.proofs.made.block.Goals as goal

abbrev zeros : List ℕ
zeros = replicate 6 0

pub set_word-requires-clause-word_live : goal.set_word-requires-clause-word_live
set_word-requires-clause-word_live c = live_filled c.objects_are_added.ensures c.args.c.now c.block.new.self (BlockCell tag.Id zeros) c.word.result c.in_ok-id.ensures.ok
    (word_live c.args.c.now.cells c.args.text c.word.result c.requires.text_live c.word.ensures.back)

pub set_word-requires-3-clause-word_live : goal.set_word-requires-3-clause-word_live
set_word-requires-3-clause-word_live c =
    let one = filled_set c.objects_are_added.ensures c.args.c.now c.block.new.self c.set_word.new.self c.in_ok-id.id zeros 0 c.word.result c.in_ok-id.ensures.ok c.in_ok-id.ensures.names c.set_word.ensures.changed in
    let two = filled_set c.objects_are_added.ensures c.args.c.now c.set_word.new.self c.set_word-2.new.self c.in_ok-id.id (set zeros 0 c.word.result) 1 15 one c.in_ok-id.ensures.names c.set_word-2.ensures.changed in
    live_filled c.objects_are_added.ensures c.args.c.now c.set_word-2.new.self (BlockCell tag.Id (set (set zeros 0 c.word.result) 1 15)) c.word-2.result two (word_live c.args.c.now.cells c.args.plist c.word-2.result c.requires.plist_live c.word-2.ensures.back)

pub set_word-requires-4-clause-block : goal.set_word-requires-4-clause-block
set_word-requires-4-clause-block c =
    let one = filled_set c.objects_are_added.ensures c.args.c.now c.block.new.self c.set_word.new.self c.in_ok-id.id zeros 0 c.word.result c.in_ok-id.ensures.ok c.in_ok-id.ensures.names c.set_word.ensures.changed in
    let two = filled_set c.objects_are_added.ensures c.args.c.now c.set_word.new.self c.set_word-2.new.self c.in_ok-id.id (set zeros 0 c.word.result) 1 15 one c.in_ok-id.ensures.names c.set_word-2.ensures.changed in
    let three = filled_set c.objects_are_added.ensures c.args.c.now c.set_word-2.new.self c.set_word-3.new.self c.in_ok-id.id (set (set zeros 0 c.word.result) 1 15) 2 c.word-2.result two c.in_ok-id.ensures.names c.set_word-3.ensures.changed in
    block_filled c.objects_are_added.ensures c.args.c.now c.set_word-3.new.self c.in_ok-id.id (set (set (set zeros 0 c.word.result) 1 15) 2 c.word-2.result) three c.in_ok-id.ensures.names

pub set_word-requires-4-clause-within : goal.set_word-requires-4-clause-within
set_word-requires-4-clause-within c =
    let one = filled_set c.objects_are_added.ensures c.args.c.now c.block.new.self c.set_word.new.self c.in_ok-id.id zeros 0 c.word.result c.in_ok-id.ensures.ok c.in_ok-id.ensures.names c.set_word.ensures.changed in
    let two = filled_set c.objects_are_added.ensures c.args.c.now c.set_word.new.self c.set_word-2.new.self c.in_ok-id.id (set zeros 0 c.word.result) 1 15 one c.in_ok-id.ensures.names c.set_word-2.ensures.changed in
    let three = filled_set c.objects_are_added.ensures c.args.c.now c.set_word-2.new.self c.set_word-3.new.self c.in_ok-id.id (set (set zeros 0 c.word.result) 1 15) 2 c.word-2.result two c.in_ok-id.ensures.names c.set_word-3.ensures.changed in
    let words = words_filled c.objects_are_added.ensures c.args.c.now c.set_word-3.new.self c.in_ok-id.id (set (set (set zeros 0 c.word.result) 1 15) 2 c.word-2.result) three c.in_ok-id.ensures.names in
    rw words (omega arith)

pub set_word-requires-5-clause-block : goal.set_word-requires-5-clause-block
set_word-requires-5-clause-block c =
    let one = filled_set c.objects_are_added.ensures c.args.c.now c.block.new.self c.set_word.new.self c.in_ok-id.id zeros 0 c.word.result c.in_ok-id.ensures.ok c.in_ok-id.ensures.names c.set_word.ensures.changed in
    let two = filled_set c.objects_are_added.ensures c.args.c.now c.set_word.new.self c.set_word-2.new.self c.in_ok-id.id (set zeros 0 c.word.result) 1 15 one c.in_ok-id.ensures.names c.set_word-2.ensures.changed in
    let three = filled_set c.objects_are_added.ensures c.args.c.now c.set_word-2.new.self c.set_word-3.new.self c.in_ok-id.id (set (set zeros 0 c.word.result) 1 15) 2 c.word-2.result two c.in_ok-id.ensures.names c.set_word-3.ensures.changed in
    let four = filled_set c.objects_are_added.ensures c.args.c.now c.set_word-3.new.self c.set_word-4.new.self c.in_ok-id.id (set (set (set zeros 0 c.word.result) 1 15) 2 c.word-2.result) 3 15 three c.in_ok-id.ensures.names c.set_word-4.ensures.changed in
    block_filled c.objects_are_added.ensures c.args.c.now c.set_word-4.new.self c.in_ok-id.id (set (set (set (set zeros 0 c.word.result) 1 15) 2 c.word-2.result) 3 15) four c.in_ok-id.ensures.names

pub set_word-requires-5-clause-within : goal.set_word-requires-5-clause-within
set_word-requires-5-clause-within c =
    let one = filled_set c.objects_are_added.ensures c.args.c.now c.block.new.self c.set_word.new.self c.in_ok-id.id zeros 0 c.word.result c.in_ok-id.ensures.ok c.in_ok-id.ensures.names c.set_word.ensures.changed in
    let two = filled_set c.objects_are_added.ensures c.args.c.now c.set_word.new.self c.set_word-2.new.self c.in_ok-id.id (set zeros 0 c.word.result) 1 15 one c.in_ok-id.ensures.names c.set_word-2.ensures.changed in
    let three = filled_set c.objects_are_added.ensures c.args.c.now c.set_word-2.new.self c.set_word-3.new.self c.in_ok-id.id (set (set zeros 0 c.word.result) 1 15) 2 c.word-2.result two c.in_ok-id.ensures.names c.set_word-3.ensures.changed in
    let four = filled_set c.objects_are_added.ensures c.args.c.now c.set_word-3.new.self c.set_word-4.new.self c.in_ok-id.id (set (set (set zeros 0 c.word.result) 1 15) 2 c.word-2.result) 3 15 three c.in_ok-id.ensures.names c.set_word-4.ensures.changed in
    let words = words_filled c.objects_are_added.ensures c.args.c.now c.set_word-4.new.self c.in_ok-id.id (set (set (set (set zeros 0 c.word.result) 1 15) 2 c.word-2.result) 3 15) four c.in_ok-id.ensures.names in
    rw words (omega arith)

pub set_word-requires-5-clause-word_live : goal.set_word-requires-5-clause-word_live
set_word-requires-5-clause-word_live c =
    let one = filled_set c.objects_are_added.ensures c.args.c.now c.block.new.self c.set_word.new.self c.in_ok-id.id zeros 0 c.word.result c.in_ok-id.ensures.ok c.in_ok-id.ensures.names c.set_word.ensures.changed in
    let two = filled_set c.objects_are_added.ensures c.args.c.now c.set_word.new.self c.set_word-2.new.self c.in_ok-id.id (set zeros 0 c.word.result) 1 15 one c.in_ok-id.ensures.names c.set_word-2.ensures.changed in
    let three = filled_set c.objects_are_added.ensures c.args.c.now c.set_word-2.new.self c.set_word-3.new.self c.in_ok-id.id (set (set zeros 0 c.word.result) 1 15) 2 c.word-2.result two c.in_ok-id.ensures.names c.set_word-3.ensures.changed in
    let four = filled_set c.objects_are_added.ensures c.args.c.now c.set_word-3.new.self c.set_word-4.new.self c.in_ok-id.id (set (set (set zeros 0 c.word.result) 1 15) 2 c.word-2.result) 3 15 three c.in_ok-id.ensures.names c.set_word-4.ensures.changed in
    live_filled c.objects_are_added.ensures c.args.c.now c.set_word-4.new.self (BlockCell tag.Id (set (set (set (set zeros 0 c.word.result) 1 15) 2 c.word-2.result) 3 15)) c.word_for.result four (option_live c.args.c.now.cells c.args.next c.word_for.result c.word_for.ensures.back c.requires.next_live)

pub returns-clause-ok : goal.returns-clause-ok
returns-clause-ok c =
    let one = filled_set c.objects_are_added.ensures c.args.c.now c.block.new.self c.set_word.new.self c.in_ok-id.id zeros 0 c.word.result c.in_ok-id.ensures.ok c.in_ok-id.ensures.names c.set_word.ensures.changed in
    let two = filled_set c.objects_are_added.ensures c.args.c.now c.set_word.new.self c.set_word-2.new.self c.in_ok-id.id (set zeros 0 c.word.result) 1 15 one c.in_ok-id.ensures.names c.set_word-2.ensures.changed in
    let three = filled_set c.objects_are_added.ensures c.args.c.now c.set_word-2.new.self c.set_word-3.new.self c.in_ok-id.id (set (set zeros 0 c.word.result) 1 15) 2 c.word-2.result two c.in_ok-id.ensures.names c.set_word-3.ensures.changed in
    let four = filled_set c.objects_are_added.ensures c.args.c.now c.set_word-3.new.self c.set_word-4.new.self c.in_ok-id.id (set (set (set zeros 0 c.word.result) 1 15) 2 c.word-2.result) 3 15 three c.in_ok-id.ensures.names c.set_word-4.ensures.changed in
    let five = filled_set c.objects_are_added.ensures c.args.c.now c.set_word-4.new.self c.set_word-5.new.self c.in_ok-id.id (set (set (set (set zeros 0 c.word.result) 1 15) 2 c.word-2.result) 3 15) 5 c.word_for.result four c.in_ok-id.ensures.names c.set_word-5.ensures.changed in
    rw (← c.word.ensures.word, ← c.word-2.ensures.word, ← c.word_for.ensures.word) five
