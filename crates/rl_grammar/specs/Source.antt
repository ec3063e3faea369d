-- The first statement of a text: its tokens one after another behind blanks and comments, at most 1,048,576 bytes from the first byte of its first token on; and where a text ceases to go on to one.
use Rattle.std.specs.Prelude.{◌≡◌, ℕ, ◌<◌, ◌≤◌, false, List, [], ◌∷◌, ◌++◌, length, drop}
use Rattle.rl_text.specs.Gap.{IsBlankText}
use Rattle.rl_grammar.specs.Token.{Separator, Token}
use Rattle.rl_grammar.specs.Written.{IsFirst}
use Rattle.rl_grammar.specs.Lexer.{behind_gap}
use Rattle.rl_grammar.specs.Refusal.{IsBadAt}
use Rattle.rl_grammar.specs.Tree.{StatementBody}
use Rattle.rl_grammar.specs.Grammar.{IsStatement}
use Rattle.rl_grammar.specs.Nesting.{statement_nests}
use Rattle.rl_grammar.specs.Bound.{AllWithin, BeginsWithin}

-- a statement takes at most so many bytes
abbrev pub longest : ℕ
longest = 1048576

-- the bytes past the longest statement that begins where the first token stands
abbrev pub past_longest : List ℕ → List ℕ
past_longest bytes = drop longest (behind_gap false bytes)

-- these tokens, one after another, and then the rest
abbrev pub AreTokensOfSource : List Token → List ℕ → List ℕ → Type 0
AreTokensOfSource [] bytes rest = bytes ≡ rest
AreTokensOfSource (t ∷ ts) bytes rest = (at : List ℕ) × (after : List ℕ) × IsFirst t bytes at after × AreTokensOfSource ts after rest

-- the text begins with the statement, and then comes the rest
pub record IsSource (bytes : List ℕ) (b : StatementBody) (s : Separator) (rest : List ℕ) : Type 0 where
  pub tokens : List Token
  pub stand : AreTokensOfSource tokens bytes rest
  pub is : IsStatement tokens b s []
  pub within : AllWithin (statement_nests b)
  pub short : length (past_longest bytes) ≤ length rest

-- the next token, or the bad byte, or the end of the text is past the end of the longest statement
pub data IsPast (end after : List ℕ) : Type 0 where
  PastToken : (t : Token) (at rest : List ℕ) → IsFirst t after at rest → length rest < length end → IsPast end after
  PastByte : (k : ℕ) → IsBadAt after k → length (drop k after) < length end → IsPast end after
  PastText : IsBlankText after → 0 < length end → IsPast end after

-- why no statement goes on behind these tokens, and the bytes from the one on that is refused
pub data Ceases (end : List ℕ) (ts : List Token) (after from : List ℕ) : Type 0 where
  -- the next token has no place
  NoPlace : (t : Token) (rest : List ℕ) → IsFirst t after from rest → length end ≤ length rest → (BeginsWithin (ts ++ t ∷ []) → ⊥) → Ceases end ts after from
  -- a byte has no place in a token
  NoToken : (k : ℕ) → IsBadAt after k → from ≡ drop k after → length end ≤ length from → Ceases end ts after from
  -- the text ends
  NoMore : IsBlankText after → end ≡ [] → from ≡ [] → Ceases end ts after from
  -- the statement would be too long
  TooLong : IsPast end after → from ≡ end → Ceases end ts after from

-- the text begins with no statement, and is not blank: it begins with tokens with which some statement goes on, and then none does
pub record IsUnreadable (bytes from : List ℕ) : Type 0 where
  pub none : (b : StatementBody) (s : Separator) (rest : List ℕ) → IsSource bytes b s rest → ⊥
  pub some : IsBlankText bytes → ⊥
  pub tokens : List Token
  pub after : List ℕ
  pub stand : AreTokensOfSource tokens bytes after
  pub begins : BeginsWithin tokens
  pub short : length (past_longest bytes) ≤ length after
  pub ceases : Ceases (past_longest bytes) tokens after from
