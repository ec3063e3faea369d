use Rattle.std.proofs.Common.{refl}
use Rattle.rl_std.proofs.Listing.{chain_begins, chain_hangs, chain_stops, one_chain}
use Rattle.rl_std.proofs.Parting.{pair_stays}
use Rattle.rl_std.specs.Chains.{list_chain_in}
use Rattle.rl_std.proofs.lists.extended.Goals as goal

pub set_cdr-requires-clause-pair : goal.set_cdr-requires-clause-pair
set_cdr-requires-clause-pair c = pair_stays c.args.w.now.cells.cells c.pair.new.w.cells.cells c.in-Some.c.1 c.pair.ensures.grows.live (c.requires.chain c.in-Some.c c.in-Some.is).1

pub returns-in-Some-clause-means : goal.returns-in-Some-clause-means
returns-in-Some-clause-means c =
    rw c.in-Some.is (chain_hangs c.steps_follow.ensures c.objects_are_shown.ensures c.args.w.now c.pair.new.w c.set_cdr.new.w c.in-Some.c c.args.x c.in-Ok.p c.requires.world c.pair.ensures.grows c.set_cdr.ensures.grows (rw c.in-Some.is at c.requires.chain) c.in-Ok.ensures.live c.in-Ok.ensures.means c.set_cdr.ensures.shows)

pub returns-in-Some-clause-chain : goal.returns-in-Some-clause-chain
returns-in-Some-clause-chain c =
    let w = c.args.w.now.cells.cells in
    let x = c.pair.new.w.cells.cells in
    let y = c.set_cdr.new.w.cells.cells in
    one_chain c.set_cdr.new.w c.in-Some.c.0 c.in-Ok.p
    (pair_stays x y c.in-Some.c.0 c.set_cdr.ensures.grows.live (pair_stays w x c.in-Some.c.0 c.pair.ensures.grows.live (c.requires.chain c.in-Some.c c.in-Some.is).0))
    (pair_stays x y c.in-Ok.p c.set_cdr.ensures.grows.live c.in-Ok.ensures.pair)

pub returns-in-Some-clause-grows : goal.returns-in-Some-clause-grows
returns-in-Some-clause-grows c = c.steps_follow.ensures.grows _ _ _ c.pair.ensures.grows c.set_cdr.ensures.grows

pub returns-in-Some-clause-rest : goal.returns-in-Some-clause-rest
returns-in-Some-clause-rest c = c.steps_follow.ensures.alone _ _ _ c.pair.ensures.rest c.set_cdr.ensures.rest

pub returns-in-None-clause-means : goal.returns-in-None-clause-means
returns-in-None-clause-means c = rw c.in-None.is (chain_begins c.args.w.now c.pair.new.w c.args.x c.in-Ok.p c.requires.world c.in-Ok.ensures.means)

pub returns-in-None-clause-chain : goal.returns-in-None-clause-chain
returns-in-None-clause-chain c = one_chain c.pair.new.w c.in-Ok.p c.in-Ok.p c.in-Ok.ensures.pair c.in-Ok.ensures.pair

pub returns-in-Err-clause-means : goal.returns-in-Err-clause-means
returns-in-Err-clause-means c = chain_stops c.args.w.now c.pair.new.w (list_chain_in c.args.w.now.cells.cells c.args.chain) c.args.x c.in-Err.why c.requires.world c.in-Err.ensures.means
