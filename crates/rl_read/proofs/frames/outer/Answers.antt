use Rattle.std.proofs.Common.{arith}
use Rattle.rl_read.proofs.MakingStays.{levels_same}
use Rattle.rl_read.proofs.WalkKept.{frames_popped, kept_first, left_more, levels_alone, none_left, popped_left, ready_popped, stock_popped}
use Rattle.rl_read.proofs.frames.outer.Goals as goal

pub returns-then-walk_len-base-clause-left : goal.returns-then-walk_len-base-clause-left
returns-then-walk_len-base-clause-left c = none_left c.args.base c.args.w.now (omega (arith, c.walk_len.ensures, c.if-walk_len-base.true))

pub group_of-requires : goal.group_of-requires
group_of-requires c =
    let l = left_more c.args.base c.args.w.now.levels c.walk_pop-a.new.self.levels _ c.requires.above (λ e. c.if-walk_len-base.false (omega (arith, c.walk_len.ensures, e))) c.walk_pop-a.ensures.popped in
    (kept_first c.args.base c.args.w.now.cells.cells c.args.w.now.levels c.walk_pop-a.new.self.levels _ (c.walk_pop-a.ensures.above c.args.base l) c.requires.kept).0.owed

pub returns-clause-frames : goal.returns-clause-frames
returns-clause-frames c =
    let l = left_more c.args.base c.args.w.now.levels c.walk_pop-a.new.self.levels _ c.requires.above (λ e. c.if-walk_len-base.false (omega (arith, c.walk_len.ensures, e))) c.walk_pop-a.ensures.popped in
    frames_popped c.args.base c.args.w.now c.walk_pop-a.new.self _ c.group_of.result (c.walk_pop-a.ensures.above c.args.base l) c.group_of.ensures

pub returns-clause-left : goal.returns-clause-left
returns-clause-left c =
    let l = left_more c.args.base c.args.w.now.levels c.walk_pop-a.new.self.levels _ c.requires.above (λ e. c.if-walk_len-base.false (omega (arith, c.walk_len.ensures, e))) c.walk_pop-a.ensures.popped in
    let first = kept_first c.args.base c.args.w.now.cells.cells c.args.w.now.levels c.walk_pop-a.new.self.levels _ (c.walk_pop-a.ensures.above c.args.base l) c.requires.kept in
    popped_left c.args.base c.args.w.now c.walk_pop-a.new.self _ (c.walk_pop-a.ensures.above c.args.base l) first.0.inner (stock_popped c.args.w.now c.walk_pop-a.new.self c.walk_pop-a.ensures.left c.walk_pop-a.ensures.within c.walk_pop-a.ensures.entered)

pub returns-clause-ready : goal.returns-clause-ready
returns-clause-ready c =
    let l = left_more c.args.base c.args.w.now.levels c.walk_pop-a.new.self.levels _ c.requires.above (λ e. c.if-walk_len-base.false (omega (arith, c.walk_len.ensures, e))) c.walk_pop-a.ensures.popped in
    ready_popped c.args.base c.args.w.now c.walk_pop-a.new.self _ c.group_of.result c.requires.able c.requires.kept (levels_alone c.args.w.now c.walk_pop-a.new.self _ c.walk_pop-a.ensures.left) (c.walk_pop-a.ensures.above c.args.base l) l c.group_of.ensures

pub returns-clause-levels : goal.returns-clause-levels
returns-clause-levels c =
    let l = left_more c.args.base c.args.w.now.levels c.walk_pop-a.new.self.levels _ c.requires.above (λ e. c.if-walk_len-base.false (omega (arith, c.walk_len.ensures, e))) c.walk_pop-a.ensures.popped in
    record { world = levels_alone c.args.w.now c.walk_pop-a.new.self _ c.walk_pop-a.ensures.left; steady = c.walk_pop-a.ensures.steady c.args.base l }

pub returns-then-walk_len-base-clause-levels : goal.returns-then-walk_len-base-clause-levels
returns-then-walk_len-base-clause-levels c = levels_same c.args.base c.args.w.now
