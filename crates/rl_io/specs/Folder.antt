-- A folder: the file of each name, where there is one.
use Rattle.std.specs.Prelude.{◌≡◌, ◌≢◌, ℕ, List, Option, Some}

-- the file of one name is replaced, and the others stay
pub record Replaces (name bytes : List ℕ) (before now : List ℕ → Option (List ℕ)) : Type 0 where
  pub file : now name ≡ Some bytes
  pub others : (q : List ℕ) → q ≢ name → now q ≡ before q

-- the files of other names stay
abbrev pub LeavesOthers : List ℕ → (List ℕ → Option (List ℕ)) → (List ℕ → Option (List ℕ)) → Type 0
LeavesOthers name before now = (q : List ℕ) → q ≢ name → now q ≡ before q
