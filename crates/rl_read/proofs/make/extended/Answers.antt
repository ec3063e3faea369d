use Rattle.std.proofs.Common.{◌∙◌, ap}
use Rattle.rl_read.specs.Stock.{and_then_made, chain_hung}
use Rattle.rl_read.specs.Frames.{chain_of}
use Rattle.rl_read.proofs.CallsFollow.{makes_no_part}
use Rattle.rl_read.proofs.MakingStays.{chain_stays, making_trans}
use Rattle.rl_read.proofs.make.extended.Goals as goal
use Rattle.std.proofs.Common.{refl}

pub hang-requires-clause-chain : goal.hang-requires-clause-chain
hang-requires-clause-chain c = chain_stays c.args.w.now.cells.cells c.pair.new.w.cells.cells c.args.chain.now c.in-Ok.ensures.made.making.live c.requires.chain

pub returns-in-Err-clause-made : goal.returns-in-Err-clause-made
returns-in-Err-clause-made c = makes_no_part c.in-Err.ensures.made (λ p k. chain_hung (chain_of c.args.chain.now) p k) refl

pub returns-clause-made : goal.returns-clause-made
returns-clause-made c = record {
  means = ap (λ x. and_then_made x (λ p k. chain_hung (chain_of c.args.chain.now) p k)) c.in-Ok.ensures.made.means ∙ c.hang.ensures.hung;
  sound = c.hang.ensures.chain;
  able = c.hang.ensures.none.able;
  making = making_trans c.args.w.now c.pair.new.w c.hang.new.w c.in-Ok.ensures.made.making c.hang.ensures.none.making;
}
