use Rattle.rl_stack.proofs.StackKept.{frame_gone_live, frame_gone_stands, frames_alone, levels_shown_on, on_newest}
use Rattle.rl_world.specs.declared.world.World.{World}
use Rattle.std.proofs.Common.{◌≡◌, ◌-◌, drop}
use Rattle.rl_stack.proofs.stack.Stack.pop_frame.Goals as goal

pub returns-clause-shows : goal.returns-clause-shows
returns-clause-shows c = levels_shown_on c.args.w.now c.shallower.new.w _ c.args.self.now c.take_frame-levels.new.self c.shallower.ensures.left (frames_alone c.args.self.now c.take_frame-levels.new.self (drop 1 c.args.self.now.frames) c.take_frame-levels.ensures.frames) c.shallower.ensures.shows

pub returns-clause-left : goal.returns-clause-left
returns-clause-left c =
    let w : World = c.args.w.now in
    on_newest c.args.self.now.frames c.take_frame-levels.result (λ n. c.shallower.new.w ≡ record w { levels = record w.levels { level = w.levels.level - n } }) c.take_frame-levels.ensures.levels c.shallower.ensures.left

pub returns-clause-stands : goal.returns-clause-stands
returns-clause-stands c = frame_gone_stands c.args.w.now c.shallower.new.w c.args.self.now c.take_frame-levels.new.self c.take_frame-levels.result c.shallower.ensures.left c.take_frame-levels.ensures.frames c.requires.frame c.take_frame-levels.ensures.levels c.requires.stands

pub returns-clause-live : goal.returns-clause-live
returns-clause-live c = frame_gone_live c.args.w.now c.shallower.new.w c.args.self.now c.take_frame-levels.new.self c.shallower.ensures.grows c.take_frame-levels.ensures.frames
