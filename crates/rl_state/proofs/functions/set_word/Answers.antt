use Rattle.rl_state.proofs.HeldWords.{function_block, word_changes, word_grows, word_rest, word_shown}
use Rattle.rl_state.proofs.functions.set_word.Goals as goal

pub set_word-requires-clause-block : goal.set_word-requires-clause-block
set_word-requires-clause-block c = function_block c.args.w.now.cells.cells c.args.f c.requires.function

pub returns-clause-shows : goal.returns-clause-shows
returns-clause-shows c = word_shown c.cells_are_known.ensures c.args.w.now c.set_word.new.self c.args.f c.args.i c.args.word c.requires.function c.set_word.ensures.changed c.requires.world c.set_word.ensures.closed

pub returns-clause-changes : goal.returns-clause-changes
returns-clause-changes c = word_changes c.cells_are_known.ensures.functions c.args.w.now c.set_word.new.self c.args.f c.args.i c.args.word c.requires.function c.set_word.ensures.changed

pub returns-clause-grows : goal.returns-clause-grows
returns-clause-grows c = word_grows c.cells_are_known.ensures c.args.w.now c.set_word.new.self c.args.f c.args.i c.args.word c.requires.function c.set_word.ensures.changed c.requires.world

pub returns-clause-rest : goal.returns-clause-rest
returns-clause-rest c = word_rest c.args.w.now c.set_word.new.self _ c.set_word.ensures.changed
