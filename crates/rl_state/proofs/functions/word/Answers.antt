use Rattle.rl_state.proofs.HeldWords.{function_block}
use Rattle.rl_state.proofs.functions.word.Goals as goal

pub word-requires-clause-block : goal.word-requires-clause-block
word-requires-clause-block c = function_block c.args.w.now.cells.cells c.args.f c.requires.function
