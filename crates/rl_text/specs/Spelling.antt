-- Lisp text: which bytes spell which data, by cases of the spelling (Standard Lisp Report 1979, syntax of S-expressions).
use Rattle.std.specs.Prelude.{◌≡◌, ℕ, Bool, false, List, [], ◌∷◌, ◌++◌}
use Rattle.rl_text.specs.Byte.{Mark, Open, Close, Dot, Quote, OpenVector, CloseVector, mark_byte}
use Rattle.rl_text.specs.Word.{Word, word_text, IsWord, spelling_goes_on, atom_of, datum_of_atom}
use Rattle.rl_text.specs.Datum.{Datum, Elements, Pair, Vector, NoElements, Element, nil, quoted}
use Rattle.rl_text.specs.Gap.{IsGap}

mutual
  -- how a datum may be spelled
  pub data Spelling : Type 0 where
    Atom : Word → Spelling
    -- `'` e
    Quoted : Spelling → Spelling
    -- `()`
    Empty : Spelling
    -- `(` e and the rest of the list
    Listed : Spelling → Rest → Spelling
    -- `[` and the places of the vector
    Vectored : Places → Spelling

  -- how a list may go on after an element
  pub data Rest : Type 0 where
    -- `)`
    End : Rest
    -- `.` e `)`
    Dotted : Spelling → Rest
    -- one more element
    Next : Spelling → Rest → Rest

  -- the elements of a vector, and `]`
  pub data Places : Type 0 where
    Last : Places
    Place : Spelling → Places → Places

-- ---- what it spells

abbrev mutual
  pub datum_of : Spelling → Datum
  datum_of (Atom word) = datum_of_atom (atom_of word)
  datum_of (Quoted e) = quoted (datum_of e)
  datum_of Empty = nil
  datum_of (Listed e rest) = Pair (datum_of e) (rest_datum rest)
  datum_of (Vectored places) = Vector (places_datum places)

  pub rest_datum : Rest → Datum
  rest_datum End = nil
  rest_datum (Dotted e) = datum_of e
  rest_datum (Next e rest) = Pair (datum_of e) (rest_datum rest)

  pub places_datum : Places → Elements
  places_datum Last = NoElements
  places_datum (Place e places) = Element (datum_of e) (places_datum places)

-- ---- its tokens

pub data LispToken : Type 0 where
  Sign : Mark → LispToken
  Spelled : Word → LispToken

abbrev mutual
  pub tokens_of : Spelling → List LispToken
  tokens_of (Atom word) = Spelled word ∷ []
  tokens_of (Quoted e) = Sign Quote ∷ tokens_of e
  tokens_of Empty = Sign Open ∷ Sign Close ∷ []
  tokens_of (Listed e rest) = Sign Open ∷ (tokens_of e ++ rest_tokens rest)
  tokens_of (Vectored places) = Sign OpenVector ∷ places_tokens places

  pub rest_tokens : Rest → List LispToken
  rest_tokens End = Sign Close ∷ []
  rest_tokens (Dotted e) = Sign Dot ∷ (tokens_of e ++ Sign Close ∷ [])
  rest_tokens (Next e rest) = tokens_of e ++ rest_tokens rest

  pub places_tokens : Places → List LispToken
  places_tokens Last = Sign CloseVector ∷ []
  places_tokens (Place e places) = tokens_of e ++ places_tokens places

-- ---- its bytes

abbrev pub token_text : LispToken → List ℕ
token_text (Sign mark) = mark_byte mark ∷ []
token_text (Spelled word) = word_text word

abbrev pub IsToken : LispToken → Type 0
IsToken (Sign mark) = Unit {0}
IsToken (Spelled word) = IsWord word

abbrev pub longer_with : LispToken → ℕ → Bool
longer_with (Sign mark) b = false
longer_with (Spelled word) b = spelling_goes_on word b

-- the token is as long as it can be where this follows it
abbrev pub EndsBefore : LispToken → List ℕ → Type 0
EndsBefore token [] = Unit {0}
EndsBefore token (b ∷ bs) = longer_with token b ≡ false

-- blanks and comments, the token, and then the rest
pub record IsFront (token : LispToken) (bytes rest : List ℕ) : Type 0 where
  pub gap : List ℕ
  pub is_gap : IsGap gap
  pub is : bytes ≡ gap ++ (token_text token ++ rest)
  pub token_is : IsToken token
  pub ends : EndsBefore token rest

-- these tokens, one after another, and then the rest
abbrev pub AreTokens : List LispToken → List ℕ → List ℕ → Type 0
AreTokens [] bytes rest = bytes ≡ rest
AreTokens (token ∷ tokens) bytes rest = (after : List ℕ) × IsFront token bytes after × AreTokens tokens after rest

-- the bytes begin with a spelling of the datum, and then comes the rest
pub record IsSpelled (bytes : List ℕ) (datum : Datum) (rest : List ℕ) : Type 0 where
  pub spelling : Spelling
  pub spelled : AreTokens (tokens_of spelling) bytes rest
  pub is : datum ≡ datum_of spelling
