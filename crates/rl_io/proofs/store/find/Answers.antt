use Rattle.std.proofs.Common.{◌∙◌, sym, arith}
use Rattle.rl_io.proofs.Lies.{read_within, found_here, found_later}
use Rattle.rl_io.proofs.store.find.Goals as goal

pub overflow_add-file : goal.overflow_add-file
overflow_add-file c =
    grind (arith, read_within c.args.sizes.now c.loop-index.index (record { name = 0; file = 0 }) (omega arith), c.loop-index.invariant.starts)

pub slice_bounds-is_same-end : goal.slice_bounds-is_same-end
slice_bounds-is_same-end c =
    grind (arith, read_within c.args.sizes.now c.loop-index.index (record { name = 0; file = 0 }) (omega arith), c.loop-index.invariant.starts)

pub overflow_add-start : goal.overflow_add-start
overflow_add-start c =
    grind (arith, read_within c.args.sizes.now c.loop-index.index (record { name = 0; file = 0 }) (omega arith), c.loop-index.invariant.starts)

pub returns-then-is_same : goal.returns-then-is_same
returns-then-is_same c =
    found_here c.args.sizes.now c.args.bytes.now c.args.name.now c.loop-index.index c.loop-index.start (record { name = 0; file = 0 })
    (omega arith) c.loop-index.invariant (sym c.is_same.ensures ∙ c.if-is_same.true)

pub loop-index-preserved : goal.loop-index-preserved
loop-index-preserved c =
    found_later c.args.sizes.now c.args.bytes.now c.args.name.now c.loop-index.index c.loop-index.start (record { name = 0; file = 0 })
    (omega arith) c.requires c.loop-index.invariant (sym c.is_same.ensures ∙ c.if-is_same.false)
