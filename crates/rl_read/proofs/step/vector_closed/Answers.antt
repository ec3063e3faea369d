use Rattle.rl_read.specs.Stock.{stock_of}
use Rattle.rl_read.proofs.BracketsClose.{vector_closes, vector_lacks}
use Rattle.rl_read.proofs.MakingStays.{ready_stays, reading_of_making}
use Rattle.rl_read.proofs.CallsFollow.{reads_after}
use Rattle.rl_read.proofs.step.vector_closed.Goals as goal

pub bracket_ended-requires-clause-ready : goal.bracket_ended-requires-clause-ready
bracket_ended-requires-clause-ready c = ready_stays c.args.base c.args.w.now c.vector.new.w c.args.group.now c.requires.ready c.in-Ok.ensures.making c.in-Ok.ensures.able

pub returns-in-Err : goal.returns-in-Err
returns-in-Err c = record {
  means = λ t. vector_lacks t c.args.base c.args.w.now c.args.group.now c.args.c.now c.in-Err.s (stock_of c.vector.new.w) c.requires.vector c.in-Err.ensures.means;
  sound = c.in-Err.ensures.sound;
  able = c.in-Err.ensures.able;
  reading = reading_of_making c.args.base c.args.w.now c.vector.new.w c.in-Err.ensures.making;
}

pub returns : goal.returns
returns c =
    reads_after (reading_of_making c.args.base c.args.w.now c.vector.new.w c.in-Ok.ensures.making) c.bracket_ended.ensures
    (λ t. vector_closes t c.args.base c.args.w.now c.vector.new.w c.args.group.now c.args.c.now c.in-Ok.v c.requires.vector c.in-Ok.ensures.means c.in-Ok.ensures.making)
