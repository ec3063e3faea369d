use Rattle.std.proofs.Common.{◌≡◌, length, arith, sym, ◌∙◌}
use Rattle.std.proofs.lemmas.List.{ext_get_or}
use Rattle.std.proofs.lemmas.Slice.Eq.{bytes_eq-Decides}
use Rattle.rl_cells.specs.Cell.{bytes_of}
use Rattle.rl_ids.proofs.same.same_bytes.Goals as goal

pub returns : goal.returns
returns c =
    let xs = bytes_of c.args.w.now.cells.cells c.args.u in
    let ys = bytes_of c.args.w.now.cells.cells c.args.v in
    let long : length xs ≡ length ys = omega (arith, c.string_len-long.ensures, c.string_len.ensures, c.if-long-string_len.false) in
    sym ((bytes_eq-Decides xs ys).1 (ext_get_or 0 xs ys long (λ k l. c.loop-i.invariant k (omega (arith, l, c.string_len-long.ensures, c.loop-i-test.false)))))
