-- Contents that an object may tell of, or not.
use Rattle.std.specs.Prelude.{Option, None, Some}

-- where the contents were told before, they are told afterwards, and this holds of both
abbrev pub WhereTold : {X : Type 0} → Option X → Option X → (X → X → Type 0) → Type 0
WhereTold None now P = Unit {0}
WhereTold (Some x) None P = ⊥
WhereTold (Some x) (Some y) P = P x y
