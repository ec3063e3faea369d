use Rattle.rl_read.proofs.laws.making_is_kept.Goals as goal

pub returns : goal.returns
returns c = record { kept = c.table_is_kept.ensures; leave = c.others_leave_identifiers.ensures; bounds = c.bounds_are_kept.ensures; enough = c.room_is_enough.ensures }
