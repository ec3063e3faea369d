use Rattle.rl_stack.proofs.StackKept.{frame_live, frames_alone, levels_show, levels_shown_on}
use Rattle.std.proofs.Common.{[], ◌∷◌, replicate}
use Rattle.rl_tags.specs.Ids.{nil_id}
use Rattle.rl_stack.proofs.stack.Stack.push_frame.Goals as goal

pub returns-in-Ok-clause-shows : goal.returns-in-Ok-clause-shows
returns-in-Ok-clause-shows c = levels_shown_on c.args.w.now c.deeper.new.w _ c.args.self.now c.add_frame.new.self c.in-Ok.ensures.entered (frames_alone c.args.self.now c.add_frame.new.self (record { levels = c.args.levels; owner = c.args.owner; place = 0; slots = replicate c.args.slots nil_id; waiting = [] } ∷ c.args.self.now.frames) c.add_frame.ensures) (levels_show c.args.w.now c.deeper.new.w _ c.in-Ok.ensures.entered)

pub returns-in-Ok-clause-live : goal.returns-in-Ok-clause-live
returns-in-Ok-clause-live c = frame_live c.args.w.now c.deeper.new.w c.args.self.now c.add_frame.new.self c.args.levels c.args.slots c.args.owner c.deeper.ensures.grows c.deeper.ensures.grows.world.table.nil c.add_frame.ensures
