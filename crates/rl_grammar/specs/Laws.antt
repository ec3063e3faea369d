-- What parsing has to do with the grammar.
use Rattle.std.specs.Prelude.{◌≡◌, ◌↔◌, ℕ, suc, ◌<◌, ◌≤◌, ◌-◌, List, [], ◌++◌, length, take}
use Rattle.rl_text.specs.Gap.{IsBlankText}
use Rattle.rl_grammar.specs.Token.{Separator, Token}
use Rattle.rl_grammar.specs.Written.{IsTokenAt, IsFirst}
use Rattle.rl_grammar.specs.Lexer.{Begins, NoneLeft, Stops, first_token}
use Rattle.rl_grammar.specs.Refusal.{IsBadAt}
use Rattle.rl_grammar.specs.Tree.{StatementBody}
use Rattle.rl_grammar.specs.Grammar.{IsStatement}
use Rattle.rl_grammar.specs.Form.{Meant, Means}
use Rattle.rl_grammar.specs.Statement.{Parsed, Syntax, parse_statement}
use Rattle.rl_grammar.specs.Nesting.{statement_nests}
use Rattle.rl_grammar.specs.Within.{parse_within}
use Rattle.rl_grammar.specs.Bound.{AllWithin, IsRefusedWithin}
use Rattle.rl_grammar.specs.Source.{past_longest, IsSource, IsUnreadable}
use Rattle.rl_grammar.specs.SourceReader.{HasStatement, NothingLeft, Unreadable, source_statement, extended_source}

abbrev pub ParsesGrammar : Type 0
ParsesGrammar = (ts : List Token) (a : StatementBody) (s : Separator) (rest : List Token) → (parse_statement ts ≡ Parsed a s rest) ↔ IsStatement ts a s rest

-- tokens begin with one statement, which means one thing, or with none
abbrev pub MeansOne : Type 0
MeansOne = (ts : List Token) (m n : Meant) (rest more : List Token) → Means ts m rest → Means ts n more → (m ≡ n) × (rest ≡ more)

-- some statement begins with these tokens
pub record BeginsStatement (ts : List Token) : Type 0 where
  pub more : List Token
  pub tree : StatementBody
  pub separator : Separator
  pub is : IsStatement (ts ++ more) tree separator []

-- the tokens begin with no statement; some statement begins with the first k, and none with one more
pub record AreTokensRefusedAt (ts : List Token) (k : ℕ) : Type 0 where
  pub none : (a : StatementBody) (s : Separator) (rest : List Token) → IsStatement ts a s rest → ⊥
  pub within : k ≤ length ts
  pub begins : BeginsStatement (take k ts)
  pub stops : k < length ts → BeginsStatement (take (suc k) ts) → ⊥

abbrev pub TokensAreRefusedFirst : Type 0
TokensAreRefusedFirst = (ts : List Token) (k : ℕ) → ((from : List Token) × (parse_statement ts ≡ Syntax from) × (k ≡ length ts - length from)) ↔ AreTokensRefusedAt ts k

-- ---- with bounded nesting

-- what is unfinished is counted at each token, and the separator's is the last
abbrev pub CountsTokens : Type 0
CountsTokens = (ts : List Token) (a : StatementBody) (s : Separator) → IsStatement ts a s [] → length (statement_nests a) ≡ length ts

abbrev pub ParsesWithin : Type 0
ParsesWithin = (ts : List Token) (a : StatementBody) (s : Separator) (rest : List Token) → (parse_within ts ≡ Parsed a s rest) ↔ (IsStatement ts a s rest × AllWithin (statement_nests a))

abbrev pub RefusesWithin : Type 0
RefusesWithin = (ts : List Token) (k : ℕ) → ((from : List Token) × (parse_within ts ≡ Syntax from) × (k ≡ length ts - length from)) ↔ IsRefusedWithin ts k

-- ---- tokens

-- a token is found exactly where the bytes begin with it, behind blanks and comments
abbrev pub FindsToken : Type 0
FindsToken = (bytes at rest : List ℕ) (token : Token) → (first_token bytes ≡ Begins token at rest) ↔ IsFirst token bytes at rest

-- none is found exactly where nothing but blanks and comments is there
abbrev pub FindsNoToken : Type 0
FindsNoToken = (bytes : List ℕ) → (first_token bytes ≡ NoneLeft) ↔ IsBlankText bytes

-- bytes begin with one token, which stands at one place and takes so many bytes, or with none
abbrev pub FindsOneToken : Type 0
FindsOneToken = (bytes at rest after more : List ℕ) (token other : Token) → IsFirst token bytes at rest → IsFirst other bytes after more → (token ≡ other) × (at ≡ after) × (rest ≡ more)

-- a token is the bytes from the place where it stands up to the rest, and one at least
abbrev pub TokensAreSlices : Type 0
TokensAreSlices = (token : Token) (at rest : List ℕ) → IsTokenAt token at rest → (text : List ℕ) × (at ≡ text ++ rest) × (0 < length text)

-- bytes are bad exactly at the first with which no token goes on, or at their end inside a token
abbrev pub RefusesByte : Type 0
RefusesByte = (bytes : List ℕ) (k : ℕ) → ((from : List ℕ) × (first_token bytes ≡ Stops from) × (k ≡ length bytes - length from)) ↔ IsBadAt bytes k

-- ---- texts

-- a statement is read exactly where the text begins with it
abbrev pub ReadsSource : Type 0
ReadsSource = (bytes : List ℕ) (b : StatementBody) (s : Separator) (rest : List ℕ) → (source_statement bytes ≡ HasStatement b s rest) ↔ IsSource bytes b s rest

-- nothing is left exactly where nothing but blanks and comments is there
abbrev pub FindsNoSource : Type 0
FindsNoSource = (bytes : List ℕ) → (source_statement bytes ≡ NothingLeft) ↔ IsBlankText bytes

-- a text begins with one statement, and it takes so many bytes, or with none
abbrev pub ReadsOneSource : Type 0
ReadsOneSource = (bytes : List ℕ) (b c : StatementBody) (s t : Separator) (rest more : List ℕ) → IsSource bytes b s rest → IsSource bytes c t more → (b ≡ c) × (s ≡ t) × (rest ≡ more)

-- and a text is unreadable exactly where no statement goes on
abbrev pub RefusesSource : Type 0
RefusesSource = (bytes from : List ℕ) → (source_statement bytes ≡ Unreadable from) ↔ IsUnreadable bytes from

-- what stands behind the byte behind the longest statement does not matter
abbrev pub LooksNoFurther : Type 0
LooksNoFurther = (bytes more : List ℕ) → 0 < length (past_longest bytes) → source_statement (bytes ++ more) ≡ extended_source more (source_statement bytes)
