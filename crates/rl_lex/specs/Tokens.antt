-- The next token of bytes: its kind and its place, by the relation of the grammar.
use Rattle.std.specs.Prelude.{◌≡◌, ℕ, ◌+◌, ◌-◌, ◌<◌, ◌≤◌, if◌then◌else◌, List, length, drop, map, slice_index, option_map, Option, Some, None}
use Rattle.rl_tree.specs.Bytes.{raised}
use Rattle.rl_text.specs.Gap.{IsBlankText}
use Rattle.rl_grammar.specs.Token as token
use Rattle.rl_grammar.specs.Written.{IsFirst, word_token, short_mark}
use Rattle.rl_grammar.specs.Lexer.{Lexed, Lexes, has_no_escape, lexed}
use Rattle.rl_grammar.specs.Lexer as lexer
use Rattle.rl_grammar.specs.Refusal.{IsBadAt}
use Rattle.rl_lex.specs.Kinds.{kind_of_token}
use Rattle.rl_lex.specs.declared.kind.TokenKind.{TokenKind}
use Rattle.rl_lex.specs.declared.kind.TokenKind.TheVariants as the_kind
use Rattle.rl_lex.specs.declared.atom.Scan.{Scan}
use Rattle.rl_lex.specs.declared.atom.Scan.TheVariants as scan
use Rattle.rl_lex.specs.declared.next.Token as place
use Rattle.rl_lex.specs.declared.next.Next.{Next}
use Rattle.rl_lex.specs.declared.next.Next.TheVariants as next

-- the token of this kind stands at this place, first behind the place where one looks for it
pub record IsNextToken (bytes : List ℕ) (at : ℕ) (found : place.Token) : Type 0 where
  pub after : at ≤ found.from
  pub takes : found.from < found.to
  pub within : found.to ≤ length bytes
  pub token : token.Token
  pub is : IsFirst token (drop at bytes) (drop found.from bytes) (drop found.to bytes)
  pub kind : found.kind ≡ kind_of_token token

-- the byte at this place, or the end of the bytes, is the first with which no token goes on
pub record IsNextBad (bytes : List ℕ) (at k : ℕ) : Type 0 where
  pub after : at ≤ k
  pub within : k ≤ length bytes
  pub is : IsBadAt (drop at bytes) (k - at)

abbrev pub IsTokenNext : List ℕ → ℕ → Next → Type 0
IsTokenNext bytes at (next.Token found) = IsNextToken bytes at found
IsTokenNext bytes at other = Unit {0}

abbrev pub IsEndNext : List ℕ → ℕ → Next → Type 0
IsEndNext bytes at next.End = IsBlankText (drop at bytes)
IsEndNext bytes at other = Unit {0}

abbrev pub IsBadNext : List ℕ → ℕ → Next → Type 0
IsBadNext bytes at (next.Bad k) = IsNextBad bytes at k
IsBadNext bytes at other = Unit {0}

-- ---- a token whose first byte stands at the place

-- what is found from there on
abbrev pub lexed_at : List ℕ → ℕ → Lexed
lexed_at bytes at = lexed (slice_index bytes at) (drop (at + 1) bytes)

pub record IsTokenLexeme (bytes : List ℕ) (at : ℕ) (found : place.Token) : Type 0 where
  pub here : found.from ≡ at
  pub takes : at < found.to
  pub within : found.to ≤ length bytes
  pub token : token.Token
  pub is : lexed_at bytes at ≡ Lexes token (drop found.to bytes)
  pub kind : found.kind ≡ kind_of_token token

pub record IsBadLexeme (bytes : List ℕ) (at k : ℕ) : Type 0 where
  pub after : at ≤ k
  pub within : k ≤ length bytes
  pub is : lexed_at bytes at ≡ lexer.Bad (drop k bytes)

abbrev pub IsLexeme : List ℕ → ℕ → Next → Type 0
IsLexeme bytes at (next.Token found) = IsTokenLexeme bytes at found
IsLexeme bytes at next.End = ⊥
IsLexeme bytes at (next.Bad k) = IsBadLexeme bytes at k

-- what a name is by its text
abbrev pub name_kind : List ℕ → TokenKind
name_kind text = if has_no_escape text then kind_of_token (word_token (map raised text)) else the_kind.Identifier

-- a spelling of this kind ends so
abbrev pub scan_as : ℕ → TokenKind → Scan → Next
scan_as from kind (scan.Ends to) = next.Token (record { kind = kind; from = from; to = to })
scan_as from kind (scan.Bad k) = next.Bad k

abbrev pub mark_as : ℕ → Option TokenKind → Next
mark_as at (Some kind) = next.Token (record { kind = kind; from = at; to = at + 1 })
mark_as at None = next.Bad at

abbrev pub short_as : ℕ → ℕ → Next
short_as at b = mark_as at (option_map kind_of_token (short_mark b))
