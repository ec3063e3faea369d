use Rattle.std.proofs.Common.{Some}
use Rattle.rl_stack.proofs.EntriesKept.{stack_kept}
use Rattle.rl_stack.proofs.TopValues.{oldest_inside, sets_hidden, top_bound, top_live, top_stands, top_unbound}
use Rattle.rl_stack.proofs.stack.Stack.set_top.Goals as goal

pub set_hid-requires : goal.set_hid-requires
set_hid-requires c = oldest_inside c.args.id c.in-Some.k c.args.self.now.saved c.in-Some.ensures

pub returns-in-Some-clause-shows : goal.returns-in-Some-clause-shows
returns-in-Some-clause-shows c = top_bound c.identifiers_are_numbered.ensures c.args.w.now c.args.self.now c.set_hid.new.self c.args.id c.args.v c.in-Some.k c.set_hid.ensures c.requires.live c.requires.id c.in-Some.ensures

pub returns-in-Some-clause-hides : goal.returns-in-Some-clause-hides
returns-in-Some-clause-hides c = sets_hidden c.args.self.now c.set_hid.new.self c.in-Some.k (Some c.args.v) c.set_hid.ensures

pub returns-in-Some-clause-stands : goal.returns-in-Some-clause-stands
returns-in-Some-clause-stands c = top_stands c.args.w.now c.args.self.now c.set_hid.new.self c.in-Some.k (Some c.args.v) c.set_hid.ensures

pub returns-in-Some-clause-live : goal.returns-in-Some-clause-live
returns-in-Some-clause-live c = top_live c.args.w.now.cells.cells c.args.self.now c.set_hid.new.self c.in-Some.k c.args.v c.set_hid.ensures c.requires.v_live c.requires.live

pub returns-in-None-clause-shows : goal.returns-in-None-clause-shows
returns-in-None-clause-shows c = top_unbound c.identifiers_are_numbered.ensures c.args.w.now c.set_cell.new.w c.args.self.now c.args.id c.args.v c.requires.live c.requires.id c.in-None.ensures c.set_cell.ensures.shows c.set_cell.ensures.grows

pub returns-in-None-clause-live : goal.returns-in-None-clause-live
returns-in-None-clause-live c = stack_kept c.args.w.now c.set_cell.new.w c.args.self.now c.set_cell.ensures.grows c.requires.live
