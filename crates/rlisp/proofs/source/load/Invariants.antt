use Rattle.std.proofs.Common.{◌≡◌, ◌-◌, vec_len, IfSome}
use Rattle.rlisp.proofs.Loading.{HoldsFront}
use Rattle.rlisp.proofs.source.load.Given as goal

abbrev pub invariant-loop-piece : goal.invariant-loop-piece
invariant-loop-piece g l =
    record {
      unchanged : g.F.Files.contents l.files ≡ g.F.Files.contents l.fn.files;
      steady : g.F.Files.faults l.files ≡ g.F.Files.faults l.fn.files;
      front : IfSome (g.F.Files.contents l.fn.files) (λ folder. HoldsFront (folder l.path) l.bytes.items);
    }

abbrev pub decreases-loop-piece : goal.decreases-loop-piece
decreases-loop-piece g l = 4097 - vec_len l.bytes
