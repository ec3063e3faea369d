use Rattle.rl_io.proofs.Lies.{IsLookedThrough}
use Rattle.rl_io.proofs.store.find.Given as goal

abbrev pub invariant-loop-index : goal.invariant-loop-index
invariant-loop-index l = IsLookedThrough l.sizes l.bytes l.name l.index l.start
