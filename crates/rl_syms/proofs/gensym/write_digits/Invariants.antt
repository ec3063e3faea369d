use Rattle.std.proofs.Common.{◌≡◌, ◌+◌, ◌-◌, ◌++◌, take, drop, get_or}
use Rattle.rl_syms.specs.Gensym.{digits}
use Rattle.rl_syms.proofs.gensym.write_digits.Given as goal

abbrev pub invariant-loop-i : goal.invariant-loop-i
invariant-loop-i l = record {
  done : digits (l.places - l.i) l.rest ++ take l.i (drop (l.places - l.i + 1) l.name) ≡ digits l.places l.n;
  first : get_or l.name 0 0 ≡ get_or l.initial.name 0 0;
}
