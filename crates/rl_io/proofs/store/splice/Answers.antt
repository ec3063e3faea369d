use Rattle.std.proofs.Common.{◌≡◌, ◌+◌, ◌-◌, length, take, drop, ◌++◌, ◌∙◌, ap, arith, length-drop}
use Rattle.std.proofs.lemmas.List.{take-take}
use Rattle.rl_io.proofs.Splices.{spliced}
use Rattle.rl_io.proofs.store.splice.Goals as goal

pub returns-clause-items : goal.returns-clause-items
returns-clause-items c =
    let end = c.args.start + c.args.n in
    let old = c.args.bytes.now.items in
    let behind : length (drop end old) ≡ c.len.result - end = omega (arith, length-drop end old, c.args.bytes.now.ok.0, c.len.ensures) in
    rw (c.rotate_left-2.ensures.items, c.append.ensures.items, c.truncate.ensures.items, c.rotate_left.ensures.items, ← behind)
    (spliced (drop end old) (take end old) c.args.piece.now c.args.start
    ∙ ap (λ t. t ++ (c.args.piece.now ++ drop end old)) (take-take c.args.start end old (omega arith)))
