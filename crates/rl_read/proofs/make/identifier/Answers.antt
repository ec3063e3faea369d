use Rattle.std.proofs.Common.{refl}
use Rattle.rl_read.proofs.CallsFollow.{makes_same}
use Rattle.rl_read.proofs.MakingStays.{making_refl}
use Rattle.rl_read.proofs.NameFound.{identifier_found, identifier_free}
use Rattle.rl_read.proofs.make.identifier.Goals as goal

pub returns-in-Some : goal.returns-in-Some
returns-in-Some c = record {
  means = identifier_found c.args.w.now c.args.name.now c.in-Some.id c.requires.able.table c.in-Some.ensures.found;
  sound = c.in-Some.ensures.live c.in-Some.id refl;
  able = c.requires.able;
  making = making_refl c.args.w.now;
}

pub returns : goal.returns
returns c = makes_same c.new_identifier.ensures (identifier_free c.args.w.now c.args.name.now c.in_default.ensures.found)
