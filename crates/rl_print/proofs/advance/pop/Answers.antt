use Rattle.std.proofs.Common.{ap, arith}
use Rattle.rl_world.specs.declared.world.World.{World}
use Rattle.rl_print.proofs.Kept.{kept_first, left_more, none_means, popped_means, ready_popped}
use Rattle.rl_print.proofs.advance.pop.Goals as goal

pub returns-then-walk_len-base-clause-means : goal.returns-then-walk_len-base-clause-means
returns-then-walk_len-base-clause-means c = λ style p. none_means style c.args.base c.args.w.now (omega (arith, c.walk_len.ensures, c.if-walk_len-base.true)) p

pub cursor_of-requires-clause-tagged : goal.cursor_of-requires-clause-tagged
cursor_of-requires-clause-tagged c =
    let l = left_more c.args.base c.args.w.now c.walk_pop-kind.new.self _ c.requires.ready.above (λ e. c.if-walk_len-base.false (omega (arith, c.walk_len.ensures, e))) c.walk_pop-kind.ensures.popped in
    (kept_first c.args.base c.args.w.now c.walk_pop-kind.new.self _ (c.walk_pop-kind.ensures.above c.args.base l) c.requires.ready).0.tagged

pub cursor_of-requires-clause-kind : goal.cursor_of-requires-clause-kind
cursor_of-requires-clause-kind c =
    let l = left_more c.args.base c.args.w.now c.walk_pop-kind.new.self _ c.requires.ready.above (λ e. c.if-walk_len-base.false (omega (arith, c.walk_len.ensures, e))) c.walk_pop-kind.ensures.popped in
    (kept_first c.args.base c.args.w.now c.walk_pop-kind.new.self _ (c.walk_pop-kind.ensures.above c.args.base l) c.requires.ready).0.kind

pub returns-clause-next : goal.returns-clause-next
returns-clause-next c =
    let l = left_more c.args.base c.args.w.now c.walk_pop-kind.new.self _ c.requires.ready.above (λ e. c.if-walk_len-base.false (omega (arith, c.walk_len.ensures, e))) c.walk_pop-kind.ensures.popped in
    rw (ap (λ (w : World). w.cells) c.walk_pop-kind.ensures.left) (c.cursor_of.ensures.cursor c.args.w.now.cells.cells (kept_first c.args.base c.args.w.now c.walk_pop-kind.new.self _ (c.walk_pop-kind.ensures.above c.args.base l) c.requires.ready).0)

pub returns-clause-means : goal.returns-clause-means
returns-clause-means c = λ style p.
    let l = left_more c.args.base c.args.w.now c.walk_pop-kind.new.self _ c.requires.ready.above (λ e. c.if-walk_len-base.false (omega (arith, c.walk_len.ensures, e))) c.walk_pop-kind.ensures.popped in
    popped_means style c.args.base c.args.w.now c.walk_pop-kind.new.self _ c.cursor_of.result c.walk_pop-kind.ensures.left (c.walk_pop-kind.ensures.above c.args.base l) (c.cursor_of.ensures.place c.args.w.now.cells.cells) c.walk_pop-kind.ensures.within c.walk_pop-kind.ensures.entered p

pub returns-clause-ready : goal.returns-clause-ready
returns-clause-ready c =
    let l = left_more c.args.base c.args.w.now c.walk_pop-kind.new.self _ c.requires.ready.above (λ e. c.if-walk_len-base.false (omega (arith, c.walk_len.ensures, e))) c.walk_pop-kind.ensures.popped in
    ready_popped c.args.base c.args.w.now c.walk_pop-kind.new.self _ (ap (λ (w : World). w.cells) c.walk_pop-kind.ensures.left) (ap (λ (w : World). w.syms) c.walk_pop-kind.ensures.left) (c.walk_pop-kind.ensures.above c.args.base l) l c.requires.ready

pub returns-clause-steady : goal.returns-clause-steady
returns-clause-steady c =
    let l = left_more c.args.base c.args.w.now c.walk_pop-kind.new.self _ c.requires.ready.above (λ e. c.if-walk_len-base.false (omega (arith, c.walk_len.ensures, e))) c.walk_pop-kind.ensures.popped in
    c.walk_pop-kind.ensures.steady c.args.base l
