use Rattle.std.proofs.Common.{◌≡◌, ◌<◌, ◌≤◌, ◌^◌, ◌-◌, ℕ, subst, arith}
use Rattle.rl_syms.proofs.gensym.width.Goals as goal

pub returns : goal.returns
returns c =
    let end : c.loop-places.places ≡ 20 = omega arith in
    let P : ℕ → Type 0 = λ w. 4 < w → 10 ^ (w - 1) ≤ c.args.n in
    record {
      four = omega arith;
      most = omega arith;
      fits = omega arith;
      needed = subst P end c.loop-places.invariant.needed;
    }
