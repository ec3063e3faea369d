-- The first statement of a text, computed: token after token, up to the end of the longest statement.
use Rattle.std.specs.Prelude.{ℕ, zero, suc, Bool, false, nat_le, if◌then◌else◌, List, [], ◌∷◌, ◌++◌, length}
use Rattle.rl_grammar.specs.Token.{Separator}
use Rattle.rl_grammar.specs.Lexer.{behind_gap, Front, Begins, NoneLeft, Stops, first_token}
use Rattle.rl_grammar.specs.Tree.{StatementBody}
use Rattle.rl_grammar.specs.Statement.{StatementPlace, Start, PlaceStep, GoesTo, Ends, Fails}
use Rattle.rl_grammar.specs.Within.{place_within}
use Rattle.rl_grammar.specs.Source.{past_longest}

-- the statement and the bytes behind it; that nothing but blanks and comments is left; or the bytes from the one on at which the text is unreadable
pub data SourceResult : Type 0 where
  HasStatement : StatementBody → Separator → List ℕ → SourceResult
  NothingLeft : SourceResult
  Unreadable : List ℕ → SourceResult

-- the bytes that are left where these begin: not before the end of the longest statement
abbrev pub not_past : List ℕ → List ℕ → List ℕ
not_past end from = if nat_le (length end) (length from) then from else end

abbrev pub after_token : List ℕ → List ℕ → List ℕ → PlaceStep → (StatementPlace → SourceResult) → SourceResult
after_token end at rest (GoesTo s) further = further s
after_token end at rest (Ends b p) further = HasStatement b p rest
after_token end at rest Fails further = Unreadable at

-- the token is whole before the end of the longest statement
abbrev pub fits_source : List ℕ → List ℕ → Bool
fits_source end rest = nat_le (length end) (length rest)

abbrev pub with_first : List ℕ → StatementPlace → Front → (StatementPlace → List ℕ → SourceResult) → SourceResult
with_first end s (Begins t at rest) further = if fits_source end rest then after_token end at rest (place_within s t) (λ s. further s rest) else Unreadable end
with_first end s NoneLeft further = Unreadable (not_past end [])
with_first end s (Stops from) further = Unreadable (not_past end from)

-- for at most so many tokens
abbrev pub read_source : ℕ → List ℕ → StatementPlace → List ℕ → SourceResult
read_source zero end s bytes = Unreadable bytes
read_source (suc n) end s bytes = with_first end s (first_token bytes) (λ s rest. read_source n end s rest)

-- a statement has begun; each token takes a byte at least
abbrev pub source_started : List ℕ → SourceResult
source_started bytes = read_source (suc (length bytes)) (past_longest bytes) Start bytes

abbrev pub source_behind : List ℕ → List ℕ → SourceResult
source_behind [] bytes = NothingLeft
source_behind (b ∷ bs) bytes = source_started bytes

abbrev pub source_statement : List ℕ → SourceResult
source_statement bytes = source_behind (behind_gap false bytes) bytes

-- with more bytes behind the text
abbrev pub extended_source : List ℕ → SourceResult → SourceResult
extended_source more (HasStatement b s rest) = HasStatement b s (rest ++ more)
extended_source more NothingLeft = NothingLeft
extended_source more (Unreadable from) = Unreadable (from ++ more)
