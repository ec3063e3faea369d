-- Of places of which none comes before another there is one.
use Rattle.std.proofs.Common.{◌≡◌, ◌<◌, ℕ, inl, inr}
use Rattle.std.proofs.lemmas.Bool.{cases_order}

pub one_place : (P : ℕ → Type 0) → ((j k : ℕ) → P j → P k → j < k → ⊥) → (j k : ℕ) → P j → P k → j ≡ k
one_place P before j k first second =
    elim (cases_order j k) [
      | inl e ↦ e
      | inr other ↦ elim other [
        | inl below ↦ absurd (before j k first second below)
        | inr above ↦ absurd (before k j second first above)
      ]
    ]
