-- What holds of the answer of a call that never fails.
use Rattle.std.proofs.Common.{Result, Ok, Err, IsOk, OnOk, OnErr}

pub on_ok : {T E : Type 0} (P : Type 0) (r : Result T E) → P → OnOk r P
on_ok P (Ok x) p = p
on_ok P (Err e) p = tt

pub on_err : {T E : Type 0} (P : Type 0) (r : Result T E) → IsOk r → OnErr r P
on_err P (Ok x) h = tt
on_err P (Err e) h = cc
