-- Which bytes a call takes of a text, also where the text does not tell what it has left.
use Rattle.std.specs.Prelude.{◌≡◌, ℕ, ◌+◌, ◌^◌, ◌<◌, Bool, true, List, [], ◌++◌, length, Option}
use Rattle.rl_io.specs.Told.{WhereTold}
use Rattle.rl_world.specs.Input.{with_back}

-- a text between two calls: the byte that was put back, how many bytes were given and not put back, whether its source has ended, and what the source has left where it tells
pub record Unread : Type 0 where
  pub returned : Option ℕ
  pub given : ℕ
  pub ended : Bool
  pub left : Option (List ℕ)

-- how many bytes the source gave
abbrev pub came_of : Unread → ℕ
came_of text = text.given + length (with_back text.returned [])

-- these bytes may come of the source yet
abbrev pub MayCome : Unread → List ℕ → Type 0
MayCome text rest = text.ended ≡ true → rest ≡ []

-- these bytes came of the source, and whatever may come behind them, this holds of all that was to be read before and of what is to be read now
pub record TakesBytes (old new : Unread) (P : List ℕ → List ℕ → Type 0) : Type 0 where
  pub bytes : List ℕ
  pub told : WhereTold old.left new.left (λ before now. before ≡ bytes ++ now)
  pub dry : WhereTold old.left new.left (λ before now. MayCome old before → MayCome new now)
  pub ended : old.ended ≡ true → (bytes ≡ []) × (new.ended ≡ true)
  pub counted : came_of old + length bytes < 2 ^ 64 → came_of new ≡ came_of old + length bytes
  pub means : (rest : List ℕ) → MayCome new rest → P (with_back old.returned (bytes ++ rest)) (with_back new.returned rest)
