-- The relation between a token and the bytes that it stands on: names, strings, integers without a sign, `'` and one spelling of Lisp text, and marks, each as long as it can be.
use Rattle.std.specs.Prelude.{◌≡◌, ℕ, Bool, true, false, ◌&&◌, ◌==◌, if◌then◌else◌, List, [], ◌∷◌, ◌++◌, map, codes, Option, Some, None}
use Rattle.std.specs.List.{list_all}
use Rattle.rl_tree.specs.Name.{Name}
use Rattle.rl_tree.specs.Digits.{digits_number}
use Rattle.rl_text.specs.Datum.{Datum}
use Rattle.rl_text.specs.Gap.{IsGap}
use Rattle.rl_text.specs.Spelling.{EndsBefore, IsSpelled}
use Rattle.rl_text.specs.Spelling as spelling
use Rattle.rl_text.specs.Word.{Character, Escaped, Unsigned, Number, Named, Text, character_of, word_text, IsWord}
use Rattle.rl_text.specs.Word as word
use Rattle.rl_grammar.specs.Token.{Or, And, Equal, Unequal, AtLeast, Greater, AtMost, Less, Plus, Minus, Times, Divide, Eq, Member, Memq, Semicolon, Dollar, Do, Collect, Join, Symbolic, Lisp, Expr, Fexpr, Macro, Smacro, Token, Mode, Kind, Procedure, Identifier, Integer, String, Quoted, Infix, Word, Power, Dot, Not, Assign, Open, Close, Comma, Colon, If, Then, Else, While, Repeat, Until, For, Each, Foreach, In, Does, OpenBlock, CloseBlock, Separating, Begin, End, Scalar, Return, Go, To, Goto, Lambda}

-- ---- words and marks that mean a token of their own

-- the words, by their names
abbrev pub reserved_words : List (Name × Token)
reserved_words =
    (codes "AND", Infix And)
    ∷ (codes "BEGIN", Begin)
    ∷ (codes "COLLECT", Does Collect)
    ∷ (codes "DO", Does Do)
    ∷ (codes "EACH", Each)
    ∷ (codes "ELSE", Else)
    ∷ (codes "END", End)
    ∷ (codes "EQ", Word Eq)
    ∷ (codes "EXPR", Kind Expr)
    ∷ (codes "FEXPR", Kind Fexpr)
    ∷ (codes "FOR", For)
    ∷ (codes "FOREACH", Foreach)
    ∷ (codes "GO", Go)
    ∷ (codes "GOTO", Goto)
    ∷ (codes "IF", If)
    ∷ (codes "IN", In)
    ∷ (codes "JOIN", Does Join)
    ∷ (codes "LAMBDA", Lambda)
    ∷ (codes "LISP", Mode Lisp)
    ∷ (codes "MACRO", Kind Macro)
    ∷ (codes "MEMBER", Word Member)
    ∷ (codes "MEMQ", Word Memq)
    ∷ (codes "NEQ", Infix Unequal)
    ∷ (codes "NOT", Not)
    ∷ (codes "OR", Infix Or)
    ∷ (codes "PROCEDURE", Procedure)
    ∷ (codes "REPEAT", Repeat)
    ∷ (codes "RETURN", Return)
    ∷ (codes "SCALAR", Scalar)
    ∷ (codes "SMACRO", Kind Smacro)
    ∷ (codes "SYMBOLIC", Mode Symbolic)
    ∷ (codes "THEN", Then)
    ∷ (codes "TO", To)
    ∷ (codes "UNTIL", Until)
    ∷ (codes "WHILE", While)
    ∷ []

-- the marks of one byte
abbrev pub short_marks : List (ℕ × Token)
short_marks =
    (59, Separating Semicolon)
    ∷ (36, Separating Dollar)
    ∷ (40, Open)
    ∷ (41, Close)
    ∷ (44, Comma)
    ∷ (58, Colon)
    ∷ (46, Dot)
    ∷ (43, Infix Plus)
    ∷ (45, Infix Minus)
    ∷ (42, Infix Times)
    ∷ (47, Infix Divide)
    ∷ (61, Infix Equal)
    ∷ (60, Infix Less)
    ∷ (62, Infix Greater)
    ∷ []

-- the marks of two bytes, by the second, behind each first byte: `:=` `>=` `<=` `**` `<<` `>>`
abbrev pub long_marks : List (ℕ × List (ℕ × Token))
long_marks =
    (58, (61, Assign) ∷ [])
    ∷ (62, (61, Infix AtLeast) ∷ (62, CloseBlock) ∷ [])
    ∷ (60, (61, Infix AtMost) ∷ (60, OpenBlock) ∷ [])
    ∷ (42, (42, Power) ∷ [])
    ∷ []

-- what stands at the byte in a table
abbrev pub at_byte : {A : Type 0} → List (ℕ × A) → ℕ → Option A
at_byte [] b = None
at_byte (row ∷ rows) b = if b == row.0 then Some row.1 else at_byte rows b

abbrev pub second_of : Option (List (ℕ × Token)) → ℕ → Option Token
second_of (Some rows) c = at_byte rows c
second_of None c = None

abbrev pub short_mark : ℕ → Option Token
short_mark b = at_byte short_marks b

abbrev pub long_mark : ℕ → ℕ → Option Token
long_mark b c = second_of (at_byte long_marks b) c

abbrev pub same_name : Name → Name → Bool
same_name [] [] = true
same_name (b ∷ bs) (c ∷ cs) = b == c && same_name bs cs
same_name _ _ = false

abbrev pub word_token_in : List (Name × Token) → Name → Token
word_token_in [] name = Identifier name
word_token_in (row ∷ rows) name = if same_name name row.0 then row.1 else word_token_in rows name

-- what a name means that is written without `!`
abbrev pub word_token : Name → Token
word_token name = word_token_in reserved_words name

-- ---- how a token is written

pub data Written : Type 0 where
  -- as a word of Lisp text
  Spelled : word.Word → Written
  -- `'` and a spelling of this
  Quoting : Datum → Written
  -- by a mark
  Short : ℕ → Written
  Long : ℕ → ℕ → Written

abbrev pub is_bare_character : Character → Bool
is_bare_character (word.Plain b) = true
is_bare_character (Escaped b) = false

-- an identifier with `!` in it is never a word that is reserved
abbrev pub named_token : List Character → Token
named_token characters = if list_all is_bare_character characters then word_token (map character_of characters) else Identifier (map character_of characters)

-- signs are marks, and no other special is a token
abbrev pub token_of : Written → Option Token
token_of (Spelled (Number Unsigned digits)) = Some (Integer (digits_number digits))
token_of (Spelled (Named characters)) = Some (named_token characters)
token_of (Spelled (Text bytes)) = Some (String bytes)
token_of (Spelled other) = None
token_of (Quoting e) = Some (Quoted e)
token_of (Short b) = short_mark b
token_of (Long b c) = long_mark b c

-- ---- its bytes

-- no mark of two bytes begins with this byte where these follow it
abbrev pub IsAlone : ℕ → List ℕ → Type 0
IsAlone b [] = Unit {0}
IsAlone b (c ∷ rest) = long_mark b c ≡ None

-- the bytes are those of the token, as long as it can be, and the rest
abbrev pub StandsWritten : Written → List ℕ → List ℕ → Type 0
StandsWritten (Spelled w) bytes rest = (bytes ≡ word_text w ++ rest) × IsWord w × EndsBefore (spelling.Spelled w) rest
StandsWritten (Quoting e) bytes rest = (after : List ℕ) × (bytes ≡ 39 ∷ after) × IsSpelled after e rest
StandsWritten (Short b) bytes rest = (bytes ≡ b ∷ rest) × IsAlone b rest
StandsWritten (Long b c) bytes rest = bytes ≡ b ∷ c ∷ rest

-- the token stands here, and the rest follows it
pub record IsTokenAt (token : Token) (bytes rest : List ℕ) : Type 0 where
  pub written : Written
  pub stands : StandsWritten written bytes rest
  pub is : token_of written ≡ Some token

-- blanks and comments, the token, and then the rest
pub record IsFirst (token : Token) (bytes at rest : List ℕ) : Type 0 where
  pub gap : List ℕ
  pub is_gap : IsGap gap
  pub is : bytes ≡ gap ++ at
  pub token_is : IsTokenAt token at rest
