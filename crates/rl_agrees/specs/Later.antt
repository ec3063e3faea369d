-- What a run leaves as it was, whatever it does: what was printed and noted, the first event, functions, objects but for changes that are noted, and that the codes of the map stand (this project's).
use Rattle.std.specs.Prelude.{◌≡◌, ◌⊎◌, ◌≤◌, ◌<◌, ℕ, true, List, ◌∷◌, ◌++◌, length, slice_get, Some}
use Rattle.rl_meaning.specs.State.{State, Coded, Recorded}
use Rattle.rl_meaning.specs.Constants.{last_change_of}
use Rattle.rl_meaning.specs.CodeInForce.{all_stand}

-- one list begins with another
pub record IsMore {A : Type 0} (old new : List A) : Type 0 where
  pub rest : List A
  pub is : new ≡ old ++ rest

-- a change of the object was noted when so many functions were there, or more
pub record IsNoted (s : State) (r n : ℕ) : Type 0 where
  pub functions : ℕ
  pub last : last_change_of r s.watched.changes ≡ Some functions
  pub late : n ≤ functions

-- an object is as it was, or its change is noted
abbrev pub StaysOrNoted : State → State → ℕ → Type 0
StaysOrNoted s t r = (slice_get t.store r ≡ slice_get s.store r) ⊎ IsNoted t r (length s.functions)

-- so is a change that was noted before
abbrev pub NotedBefore : State → State → ℕ → Type 0
NotedBefore s t r = (last_change_of r t.watched.changes ≡ last_change_of r s.watched.changes) ⊎ IsNoted t r (length s.functions)

pub data IsMemberOf {A : Type 0} (a : A) : List A → Type 0 where
  first : (rest : List A) → IsMemberOf a (a ∷ rest)
  further : (b : A) (rest : List A) → IsMemberOf a rest → IsMemberOf a (b ∷ rest)

-- all that the codes of the map rest on stands
abbrev pub CodesStand : State → Type 0
CodesStand s = (c : Coded) → IsMemberOf c s.compilation.coded → all_stand s c.dependencies ≡ true

pub record Later (s t : State) : Type 0 where
  pub output : IsMore s.outside.output t.outside.output
  pub notes : IsMore s.outside.notes t.outside.notes
  pub event : (r : Recorded) → s.watched.event ≡ Some r → t.watched.event ≡ Some r
  pub functions : IsMore s.functions t.functions
  pub objects : length s.store ≤ length t.store
  pub stay : (r : ℕ) → r < length s.store → StaysOrNoted s t r
  pub noted : (r : ℕ) → NotedBefore s t r
  -- no code comes, and those that are left stand if they did
  pub fewer : (c : Coded) → IsMemberOf c t.compilation.coded → IsMemberOf c s.compilation.coded
  pub stand : CodesStand s → CodesStand t
