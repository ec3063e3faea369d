-- A piece put in place of others, by turning the list about.
use Rattle.std.proofs.Common.{◌≡◌, ℕ, ◌+◌, List, ◌++◌, length, take, drop, append_assoc}
use Rattle.std.proofs.Math.Seq.{take-append_seam, drop-append_seam, take-append-add}

-- `d` stood behind `t`, of which `start` are kept, and `p` takes the place of the others
pub spliced : (d t p : List ℕ) (start : ℕ)
    → drop (length d) (take (length d + start) (d ++ t) ++ p) ++ take (length d) (take (length d + start) (d ++ t) ++ p)
    ≡ take start t ++ (p ++ d)
spliced d t p start =
    rw (take-append-add d t start, append_assoc d (take start t) p, drop-append_seam d (take start t ++ p), take-append_seam d (take start t ++ p))
    (append_assoc (take start t) p d)
