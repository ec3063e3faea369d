use Rattle.std.proofs.Common.{◌≡◌, ◌≤◌, ◌<◌, ◌-◌, ◌^◌}
use Rattle.rl_syms.proofs.gensym.width.Given as goal

abbrev pub invariant-loop-places : goal.invariant-loop-places
invariant-loop-places l = record {
  limit : l.limit ≡ 10 ^ l.places;
  needed : 4 < l.places → 10 ^ (l.places - 1) ≤ l.n;
}
