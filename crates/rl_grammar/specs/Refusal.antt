-- Where bytes cease to begin with a token: at the first byte with which no token goes on, or at their end inside a token.
use Rattle.std.specs.Prelude.{ℕ, suc, ◌<◌, ◌≤◌, List, [], ◌++◌, length, take}
use Rattle.rl_text.specs.Gap.{IsBlankText}
use Rattle.rl_grammar.specs.Token.{Token}
use Rattle.rl_grammar.specs.Written.{IsFirst}

-- some token, with blanks and comments before it, begins with these bytes
pub record BeginsToken (bytes : List ℕ) : Type 0 where
  pub more : List ℕ
  pub token : Token
  pub at : List ℕ
  pub is : IsFirst token (bytes ++ more) at []

-- the bytes do not begin with a token and are not blank; some token begins with the first k of them, and none with one more
pub record IsBadAt (bytes : List ℕ) (k : ℕ) : Type 0 where
  pub none : (token : Token) (at rest : List ℕ) → IsFirst token bytes at rest → ⊥
  pub some : IsBlankText bytes → ⊥
  pub within : k ≤ length bytes
  pub begins : BeginsToken (take k bytes)
  pub stops : k < length bytes → BeginsToken (take (suc k) bytes) → ⊥
