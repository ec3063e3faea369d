-- The place in the input: a byte that was put back, how many bytes were given and not put back, and whether the source has ended.
use Rattle.std.specs.Prelude.{◌≡◌, ℕ, ◌+◌, ◌-◌, ◌^◌, min, Bool, true, false, List, [], ◌∷◌, Option, Some, None}

pub record Input : Type 0 where
  pub back : Option ℕ
  pub given : ℕ
  pub ended : Bool

-- what is left, with the byte that was put back before it
abbrev pub with_back : Option ℕ → List ℕ → List ℕ
with_back None left = left
with_back (Some b) left = b ∷ left

-- where the source has ended, nothing comes from it, whatever it has
abbrev pub still_given : Bool → List ℕ → List ℕ
still_given false left = left
still_given true left = []

-- the bytes that are still to come, where these are left of the source
abbrev pub to_come : Input → List ℕ → List ℕ
to_come input left = with_back input.back (still_given input.ended left)

-- the first byte was taken, or there was none
abbrev pub Gives : List ℕ → List ℕ → Option ℕ → Type 0
Gives before now None = (before ≡ []) × (now ≡ [])
Gives before now (Some b) = before ≡ b ∷ now

-- the count of the bytes that were given, which stands still at 2^64 - 1
abbrev pub given_after : Option ℕ → ℕ → ℕ
given_after None given = given
given_after (Some b) given = min (given + 1) (2 ^ 64 - 1)

-- once there was no byte, there is none
abbrev pub ended_after : Option ℕ → Bool → Bool
ended_after None ended = true
ended_after (Some b) ended = ended
