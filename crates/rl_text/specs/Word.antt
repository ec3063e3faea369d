-- The words of Lisp text: integers, names, single specials and strings, how each is spelled, and which atom it is.
use Rattle.std.specs.Prelude.{◌≡◌, ℕ, ℤ, pos, ◌^◌, ◌<◌, ◌≤◌, Bool, true, false, ◌&&◌, ◌||◌, ◌==◌, List, [], ◌∷◌, ◌++◌, length, map}
use Rattle.std.specs.List.{list_all, flat_map}
use Rattle.rl_tree.specs.Bytes.{is_letter, is_digit, is_name_byte, raised}
use Rattle.rl_tree.specs.Name.{Name}
use Rattle.rl_tree.specs.Digits.{digits_number, negated}
use Rattle.rl_tree.specs.Atoms.{doubled}
use Rattle.rl_text.specs.Byte.{is_sign, is_special}
use Rattle.rl_text.specs.Datum.{Datum}
use Rattle.rl_text.specs.Datum as datum

pub data Atom : Type 0 where
  Integer : ℤ → Atom
  Identifier : Name → Atom
  String : List ℕ → Atom

-- a byte of a name, as it stands or after `!`
pub data Character : Type 0 where
  Plain : ℕ → Character
  Escaped : ℕ → Character

pub data Sign : Type 0 where
  Unsigned : Sign
  Plus : Sign
  Minus : Sign

pub data Word : Type 0 where
  -- digits with a sign or without
  Number : Sign → List ℕ → Word
  -- a name
  Named : List Character → Word
  -- one special
  Single : ℕ → Word
  -- a string by its bytes
  Text : List ℕ → Word

-- ---- how a word is spelled

abbrev pub character_text : Character → List ℕ
character_text (Plain b) = b ∷ []
character_text (Escaped b) = 33 ∷ b ∷ []

abbrev pub sign_text : Sign → List ℕ
sign_text Unsigned = []
sign_text Plus = 43 ∷ []
sign_text Minus = 45 ∷ []

abbrev pub word_text : Word → List ℕ
word_text (Number sign digits) = sign_text sign ++ digits
word_text (Named characters) = flat_map character_text characters
word_text (Single b) = b ∷ []
word_text (Text bytes) = 34 ∷ (doubled bytes ++ 34 ∷ [])

-- ---- which atom it is

abbrev pub is_minus : Sign → Bool
is_minus Unsigned = false
is_minus Plus = false
is_minus Minus = true

abbrev pub signed : Bool → ℕ → ℤ
signed false n = pos n
signed true n = negated n

-- a letter that is not escaped is raised
abbrev pub character_of : Character → ℕ
character_of (Plain b) = raised b
character_of (Escaped b) = b

abbrev pub atom_of : Word → Atom
atom_of (Number sign digits) = Integer (signed (is_minus sign) (digits_number digits))
atom_of (Named characters) = Identifier (map character_of characters)
atom_of (Single b) = Identifier (b ∷ [])
atom_of (Text bytes) = String bytes

abbrev pub datum_of_atom : Atom → Datum
datum_of_atom (Integer z) = datum.Int z
datum_of_atom (Identifier name) = datum.Id name
datum_of_atom (String bytes) = datum.Str bytes

-- ---- which words there are

-- integers are from -2^59 to 2^59 - 1
abbrev pub is_in_range : Bool → ℕ → Type 0
is_in_range false n = n < 2 ^ 59
is_in_range true n = n ≤ 2 ^ 59

pub record AreIntegerDigits (sign : Sign) (digits : List ℕ) : Type 0 where
  pub some : 0 < length digits
  pub are_digits : list_all is_digit digits ≡ true
  pub in_range : is_in_range (is_minus sign) (digits_number digits)

-- a name begins with a letter or with `!` and any byte
abbrev pub begins_name : Character → Bool
begins_name (Plain b) = is_letter b
begins_name (Escaped b) = true

-- and goes on with letters, digits, `_`, and `!` with any byte
abbrev pub continues_name : Character → Bool
continues_name (Plain b) = is_name_byte b
continues_name (Escaped b) = true

-- characters of a name from its second one on
abbrev pub are_name_characters : List Character → Bool
are_name_characters [] = false
are_name_characters (c ∷ cs) = begins_name c && list_all continues_name cs

pub record AreNameCharacters (characters : List Character) : Type 0 where
  pub name : are_name_characters characters ≡ true
  pub short : length characters ≤ 255

abbrev pub IsWord : Word → Type 0
IsWord (Number sign digits) = AreIntegerDigits sign digits
IsWord (Named characters) = AreNameCharacters characters
IsWord (Single b) = is_special b ≡ true
IsWord (Text bytes) = length bytes ≤ 65535

-- a byte with which the spelling would go on
abbrev pub spelling_goes_on : Word → ℕ → Bool
spelling_goes_on (Number sign digits) b = is_digit b
spelling_goes_on (Named characters) b = is_name_byte b || b == 33
spelling_goes_on (Single c) b = is_sign c && is_digit b
spelling_goes_on (Text bytes) b = b == 34
