use Rattle.std.proofs.Common.{[], ap}
use Rattle.rl_text.specs.Reader as reader
use Rattle.rl_read.proofs.BracketsClose.{bracket_around}
use Rattle.rl_read.proofs.CallsFollow.{reads_after, step_lacks}
use Rattle.rl_read.proofs.MakingStays.{reading_of_levels}
use Rattle.rl_read.proofs.step.bracket_ended.Goals as goal

pub returns-in-Ok : goal.returns-in-Ok
returns-in-Ok c =
    reads_after (reading_of_levels c.args.base c.args.w.now c.around-outer.new.w c.around-outer.ensures.levels)
    (c.goes_after.ensures c.args.base c.around-outer.new.w c.value_ended.new.w c.around-outer.result [] (λ m fs k. reader.value_ended m c.args.v fs k) c.in-Ok.ensures)
    (λ t. ap reader.goes_after (bracket_around t c.args.base c.args.w.now c.around-outer.new.w c.args.v c.args.group.now c.around-outer.result c.around-outer.ensures.frames (c.around-outer.ensures.left t)))

pub returns-in-Err : goal.returns-in-Err
returns-in-Err c =
    reads_after (reading_of_levels c.args.base c.args.w.now c.around-outer.new.w c.around-outer.ensures.levels)
    (step_lacks c.args.base c.around-outer.result [] (λ m fs k. reader.value_ended m c.args.v fs k) c.in-Err.ensures)
    (λ t. ap reader.goes_after (bracket_around t c.args.base c.args.w.now c.around-outer.new.w c.args.v c.args.group.now c.around-outer.result c.around-outer.ensures.frames (c.around-outer.ensures.left t)))
