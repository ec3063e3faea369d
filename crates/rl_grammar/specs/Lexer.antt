-- The first token of bytes, computed: the token, where it stands and what follows it; that nothing but blanks and comments is there; or the first byte with which no token goes on.
use Rattle.std.specs.Prelude.{ℕ, pos, ◌-◌, Bool, true, false, not, ◌||◌, ◌==◌, if◌then◌else◌, List, [], ◌∷◌, length, take, drop, Option, Some, None}
use Rattle.std.specs.List.{list_all}
use Rattle.rl_tree.specs.Bytes.{is_blank, is_digit, is_letter}
use Rattle.rl_text.specs.Datum.{Datum, Int, Id, Str, Pair}
use Rattle.rl_text.specs.Reading.{Reading, Found, NoText, Unreadable, reading}
use Rattle.rl_grammar.specs.Token.{Token, Identifier, Integer, String, Quoted}
use Rattle.rl_grammar.specs.Written.{short_mark, long_mark, word_token}

-- the bytes from the first one on that stands in no gap; the first of them are in a comment or not
abbrev pub behind_gap : Bool → List ℕ → List ℕ
behind_gap inside [] = []
behind_gap true (b ∷ bs) = if b == 10 then behind_gap false bs else behind_gap true bs
behind_gap false (b ∷ bs) = if is_blank b then behind_gap false bs else (if b == 37 then behind_gap true bs else b ∷ bs)

-- a token and what follows it; or the bytes from the one on with which no token goes on
pub data Lexed : Type 0 where
  Lexes : Token → List ℕ → Lexed
  Bad : List ℕ → Lexed

-- a name, a string, an integer or `'` begins with the byte
abbrev pub begins_spelling : ℕ → Bool
begins_spelling b = is_letter b || is_digit b || b == 33 || b == 34 || b == 39

-- the bytes before the rest
abbrev pub before_rest : List ℕ → List ℕ → List ℕ
before_rest bytes rest = take (length bytes - length rest) bytes

abbrev pub has_no_escape : List ℕ → Bool
has_no_escape text = list_all (λ b. not (b == 33)) text

-- by what Lisp text has there
abbrev pub token_read : List ℕ → Datum → Option Token
token_read text (Int (pos n)) = Some (Integer n)
token_read text (Id name) = Some (if has_no_escape text then word_token name else Identifier name)
token_read text (Str bytes) = Some (String bytes)
token_read text (Pair quote (Pair e end)) = Some (Quoted e)
token_read text other = None

abbrev pub lexed_or_bad : List ℕ → Option Token → List ℕ → Lexed
lexed_or_bad bytes (Some token) rest = Lexes token rest
lexed_or_bad bytes None rest = Bad bytes

abbrev pub lexed_spelling : List ℕ → Reading → Lexed
lexed_spelling bytes (Found datum rest) = lexed_or_bad bytes (token_read (before_rest bytes rest) datum) rest
lexed_spelling bytes NoText = Bad []
lexed_spelling bytes (Unreadable k) = Bad (drop k bytes)

abbrev pub lexed_short : ℕ → List ℕ → Lexed
lexed_short b bs = lexed_or_bad (b ∷ bs) (short_mark b) bs

abbrev pub lexed_long : ℕ → ℕ → List ℕ → Option Token → Lexed
lexed_long b c rest (Some token) = Lexes token rest
lexed_long b c rest None = lexed_short b (c ∷ rest)

abbrev pub lexed_mark : ℕ → List ℕ → Lexed
lexed_mark b [] = lexed_short b []
lexed_mark b (c ∷ rest) = lexed_long b c rest (long_mark b c)

abbrev pub lexed : ℕ → List ℕ → Lexed
lexed b bs = if begins_spelling b then lexed_spelling (b ∷ bs) (reading (b ∷ bs)) else lexed_mark b bs

-- a token, the bytes from its first one on, and those behind it; no token; or the bytes from the one on with which no token goes on
pub data Front : Type 0 where
  Begins : Token → List ℕ → List ℕ → Front
  NoneLeft : Front
  Stops : List ℕ → Front

abbrev pub first_token_of : List ℕ → Lexed → Front
first_token_of bytes (Lexes token rest) = Begins token bytes rest
first_token_of bytes (Bad from) = Stops from

abbrev pub first_behind : List ℕ → Front
first_behind [] = NoneLeft
first_behind (b ∷ bs) = first_token_of (b ∷ bs) (lexed b bs)

abbrev pub first_token : List ℕ → Front
first_token bytes = first_behind (behind_gap false bytes)
