use Rattle.rl_meaning.specs.Outcome.{Done}
use Rattle.rl_syms.specs.Contents.{value_of}
use Rattle.rl_std.proofs.Coming.{begins}
use Rattle.rl_std.proofs.Listing.{chain_ends}
use Rattle.rl_std.proofs.Parting.{pair_live}
use Rattle.rl_std.proofs.lists.ended.Goals as goal

pub returns-in-Some-clause-means : goal.returns-in-Some-clause-means
returns-in-Some-clause-means c = rw c.in-Some.is (chain_ends c.steps_follow.ensures c.objects_are_shown.ensures c.args.w.now c.set_cdr.new.w c.in-Some.c c.args.v c.set_cdr.ensures.grows (rw c.in-Some.is at c.requires.chain) c.set_cdr.ensures.shows)

pub returns-in-Some-clause-live : goal.returns-in-Some-clause-live
returns-in-Some-clause-live c = c.set_cdr.ensures.grows.live c.in-Some.c.0 (pair_live c.args.w.now.cells.cells c.in-Some.c.0 (c.requires.chain c.in-Some.c c.in-Some.is).0)

pub returns-in-None-clause-means : goal.returns-in-None-clause-means
returns-in-None-clause-means c = rw c.in-None.is (λ s shown. begins c.steps_follow.ensures s (λ t. Done (value_of c.args.w.now.cells.cells c.args.v) t) c.args.w.now shown)
