use Rattle.rl_forms.proofs.Keeping.{keeps_refl}
use Rattle.rl_forms.proofs.Memories.{known_live, grown_running, grown_keeps, grown_stands}
use Rattle.rl_forms.proofs.memory.cons.Goals as goal

pub cons-requires-clause-car_live : goal.cons-requires-clause-car_live
cons-requires-clause-car_live c = known_live c.pairs_are_data.ensures c.args.world.now c.args.car c.requires.car_known

pub cons-requires-clause-cdr_live : goal.cons-requires-clause-cdr_live
cons-requires-clause-cdr_live c = known_live c.pairs_are_data.ensures c.args.world.now c.args.cdr c.requires.cdr_known

pub returns-in-Ok-clause-stands : goal.returns-in-Ok-clause-stands
returns-in-Ok-clause-stands c = rw (c.in-Ok.ensures.ok, c.in-Ok.ensures.names) (grown_stands c.pairs_are_data.ensures c.args.world.now c.args.car c.args.cdr c.requires.running c.requires.car_known c.requires.cdr_known)

pub returns-in-Ok-clause-keeps : goal.returns-in-Ok-clause-keeps
returns-in-Ok-clause-keeps c = rw c.in-Ok.ensures.ok (grown_keeps c.pairs_are_data.ensures c.args.world.now c.args.car c.args.cdr c.requires.running)

pub returns-in-Ok-clause-running : goal.returns-in-Ok-clause-running
returns-in-Ok-clause-running c = rw c.in-Ok.ensures.ok (grown_running c.table_is_kept.ensures c.others_leave_identifiers.ensures c.args.world.now c.args.car c.args.cdr c.requires.running)

pub returns-in-Err-clause-keeps : goal.returns-in-Err-clause-keeps
returns-in-Err-clause-keeps c = rw c.in-Err.ensures.err (keeps_refl c.args.world.now)
