use Rattle.rl_read.specs.Frames.{IsChain}
use Rattle.rl_read.specs.declared.frames.Chain.TheVariants as chain
use Rattle.rl_read.proofs.CallsFollow.{nothing_made}
use Rattle.rl_read.proofs.MakingStays.{pair_stays}
use Rattle.rl_read.proofs.make.hang.Goals as goal

pub returns-in-Empty-clause-none : goal.returns-in-Empty-clause-none
returns-in-Empty-clause-none c = nothing_made c.args.w.now c.requires.able

pub returns-in-Pairs-clause-chain : goal.returns-in-Pairs-clause-chain
returns-in-Pairs-clause-chain c =
    let was : IsChain c.args.w.now.cells.cells (chain.Pairs c.in-Pairs.first c.in-Pairs.last) = rw c.in-Pairs.is at c.requires.chain in (
      pair_stays c.args.w.now.cells.cells c.set_cdr.new.w.cells.cells c.in-Pairs.first c.set_cdr.ensures.none.making.live was.0,
      pair_stays c.args.w.now.cells.cells c.set_cdr.new.w.cells.cells c.args.p c.set_cdr.ensures.none.making.live c.requires.pair,
    )
