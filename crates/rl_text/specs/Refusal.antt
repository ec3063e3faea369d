-- Where bytes cease to be Lisp text: at the first byte with which no spelling goes on, or at their end inside a spelling.
use Rattle.std.specs.Prelude.{ℕ, suc, ◌<◌, ◌≤◌, List, [], ◌++◌, length, take}
use Rattle.rl_text.specs.Datum.{Datum}
use Rattle.rl_text.specs.Gap.{IsBlankText}
use Rattle.rl_text.specs.Spelling.{IsSpelled}

-- some spelling, with blanks and comments before it, begins with these bytes
pub record BeginsSpelling (bytes : List ℕ) : Type 0 where
  pub more : List ℕ
  pub datum : Datum
  pub spelled : IsSpelled (bytes ++ more) datum []

-- the bytes do not begin with a spelling and are not blank; some spelling begins with the first k of them, and none with one more
pub record IsRefusedAt (bytes : List ℕ) (k : ℕ) : Type 0 where
  pub unspelled : (datum : Datum) (rest : List ℕ) → IsSpelled bytes datum rest → ⊥
  pub some : IsBlankText bytes → ⊥
  pub within : k ≤ length bytes
  pub begins : BeginsSpelling (take k bytes)
  pub stops : k < length bytes → BeginsSpelling (take (suc k) bytes) → ⊥
