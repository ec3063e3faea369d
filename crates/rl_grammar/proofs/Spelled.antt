-- A token that is spelled as Lisp text is what reading has there.
use Rattle.std.proofs.Common.{◌≡◌, ℕ, ◌-◌, Bool, true, false, not, ◌&&◌, ◌==◌, if◌then◌else◌, List, [], ◌∷◌, ◌++◌, length, map, Some, refl, ap, sym, subst, ◌∙◌, arith}
use Rattle.std.specs.List.{list_all, flat_map}
use Rattle.std.proofs.lemmas.Bool.{and_parts}
use Rattle.std.proofs.lemmas.Bool.Decides.{nat_tests}
use Rattle.std.proofs.lemmas.List.{length-append, take_at}
use Rattle.rl_tree.specs.Bytes.{is_digit, is_letter, is_name_byte}
use Rattle.rl_tree.specs.Atoms.{doubled}
use Rattle.rl_tree.specs.Digits.{digits_number}
use Rattle.rl_text.specs.Byte.{Open, Quote, OpenVector, is_special}
use Rattle.rl_text.specs.Datum.{Datum, quoted}
use Rattle.rl_text.specs.Word.{Character, Plain, Escaped, Unsigned, Plus, Minus, Number, Named, Single, character_text, word_text, IsWord, AreNameCharacters, begins_name, continues_name, atom_of, datum_of_atom, character_of}
use Rattle.rl_text.specs.Word as word
use Rattle.rl_text.specs.Spelling.{Spelling, Atom, Empty, Listed, Vectored, datum_of, Sign, tokens_of, token_text, IsFront, AreTokens, IsSpelled}
use Rattle.rl_text.specs.Spelling as spelling
use Rattle.rl_grammar.specs.Token.{Token, Integer, String, Quoted, Identifier}
use Rattle.rl_grammar.specs.Written.{Spelled, Quoting, is_bare_character, word_token, named_token, token_of, IsTokenAt}
use Rattle.rl_grammar.specs.Lexer.{begins_spelling, before_rest, has_no_escape, token_read}
use Rattle.rl_grammar.proofs.Gaps.{IsSolid, solid_no_gap}

-- ---- bytes

pub spelling_solid : (b : ℕ) → begins_spelling b ≡ true → IsSolid b
spelling_solid b e = record { no_blank = grind (arith, nat_tests); no_percent = grind (arith, nat_tests) }

special_begins_none : (b : ℕ) → is_special b ≡ true → begins_spelling b ≡ true → ⊥
special_begins_none b special e = grind (arith, nat_tests)

letter_begins : (b : ℕ) → is_letter b ≡ true → begins_spelling b ≡ true
letter_begins b e = rw e refl

digit_begins : (b : ℕ) → is_digit b ≡ true → begins_spelling b ≡ true
digit_begins b e = grind (arith, nat_tests)

letter_no_escape : (b : ℕ) → is_letter b ≡ true → not (b == 33) ≡ true
letter_no_escape b e = grind (arith, nat_tests)

name_no_escape : (b : ℕ) → is_name_byte b ≡ true → not (b == 33) ≡ true
name_no_escape b e = grind (arith, nat_tests)

-- the bytes before the rest are those of the token
pub before_is : (text rest : List ℕ) → before_rest (text ++ rest) rest ≡ text
before_is text rest = take_at text rest (length (text ++ rest) - length rest) (let both = length-append text rest in omega arith)

-- ---- `!` in a name

first_bare : (c : Character) (text : List ℕ) → begins_name c ≡ true → has_no_escape (character_text c ++ text) ≡ (is_bare_character c && has_no_escape text)
first_bare (Plain b) text e = rw (letter_no_escape b e) refl
first_bare (Escaped b) text e = refl

next_bare : (c : Character) (text : List ℕ) → continues_name c ≡ true → has_no_escape (character_text c ++ text) ≡ (is_bare_character c && has_no_escape text)
next_bare (Plain b) text e = rw (name_no_escape b e) refl
next_bare (Escaped b) text e = refl

others_bare : (cs : List Character) → list_all continues_name cs ≡ true → has_no_escape (flat_map character_text cs) ≡ list_all is_bare_character cs
others_bare [] e = refl
others_bare (c ∷ cs) e = let parts = and_parts _ _ e in next_bare c (flat_map character_text cs) parts.0 ∙ ap (λ (x : Bool). is_bare_character c && x) (others_bare cs parts.1)

all_bare : (cs : List Character) → AreNameCharacters cs → has_no_escape (flat_map character_text cs) ≡ list_all is_bare_character cs
all_bare [] is = refl
all_bare (c ∷ cs) is = let parts = and_parts _ _ is.name in first_bare c (flat_map character_text cs) parts.0 ∙ ap (λ (x : Bool). is_bare_character c && x) (others_bare cs parts.1)

-- ---- which token a word is

-- what is read where a word stands is its token, if it is one
pub word_is_read : (w : word.Word) (rest : List ℕ) (token : Token) → IsWord w → token_of (Spelled w) ≡ Some token → token_read (before_rest (word_text w ++ rest) rest) (datum_of_atom (atom_of w)) ≡ Some token
word_is_read (Number Unsigned digits) rest token is e = e
word_is_read (Number Plus digits) rest token is e = absurd cc
word_is_read (Number Minus digits) rest token is e = absurd cc
word_is_read (Named cs) rest token is e =
    ap (λ (text : List ℕ). Some (if has_no_escape text then word_token (map character_of cs) else Identifier (map character_of cs))) (before_is (word_text (Named cs)) rest)
    ∙ ap (λ (bare : Bool). Some (if bare then word_token (map character_of cs) else Identifier (map character_of cs))) (all_bare cs is) ∙ e
word_is_read (Single b) rest token is e = absurd cc
word_is_read (word.Text bytes) rest token is e = e

-- the first byte of a word that is a token
pub record FirstByte (text : List ℕ) : Type 0 where
  pub byte : ℕ
  pub others : List ℕ
  pub is : text ≡ byte ∷ others
  pub begins : begins_spelling byte ≡ true

number_first : (digits : List ℕ) → word.AreIntegerDigits Unsigned digits → FirstByte digits
number_first [] is = absurd (let some = is.some in omega arith)
number_first (d ∷ ds) is = record { byte = d; others = ds; is = refl; begins = digit_begins d (and_parts _ _ is.are_digits).0 }

named_first : (cs : List Character) → AreNameCharacters cs → FirstByte (flat_map character_text cs)
named_first [] is = absurd (let name = is.name in cc)
named_first (Plain b ∷ cs) is = record { byte = b; others = flat_map character_text cs; is = refl; begins = letter_begins b (and_parts _ _ is.name).0 }
named_first (Escaped b ∷ cs) is = record { byte = 33; others = b ∷ flat_map character_text cs; is = refl; begins = refl }

pub word_first : (w : word.Word) (token : Token) → IsWord w → token_of (Spelled w) ≡ Some token → FirstByte (word_text w)
word_first (Number Unsigned digits) token is e = number_first digits is
word_first (Number Plus digits) token is e = absurd cc
word_first (Number Minus digits) token is e = absurd cc
word_first (Named cs) token is e = named_first cs is
word_first (Single b) token is e = absurd cc
word_first (word.Text bytes) token is e = record { byte = 34; others = doubled bytes ++ 34 ∷ []; is = refl; begins = refl }

-- ---- what is spelled is a token

-- the token that stands here, and what reading has of it
pub record ReadHere (bytes : List ℕ) (datum : Datum) (rest : List ℕ) : Type 0 where
  pub token : Token
  pub is : IsTokenAt token bytes rest
  pub read : token_read (before_rest bytes rest) datum ≡ Some token

-- no gap stands before the first token of a spelling
front_here : (token : spelling.LispToken) (b : ℕ) (bs rest : List ℕ) → IsSolid b → IsFront token (b ∷ bs) rest → b ∷ bs ≡ token_text token ++ rest
front_here token b bs rest solid front =
    let none = solid_no_gap b bs front.gap (token_text token ++ rest) solid front.is_gap front.is in
    front.is ∙ ap (λ (gap : List ℕ). gap ++ (token_text token ++ rest)) none

word_here : (w : word.Word) (token : Token) (bytes rest : List ℕ) → bytes ≡ word_text w ++ rest → IsWord w → spelling.EndsBefore (spelling.Spelled w) rest → token_of (Spelled w) ≡ Some token → ReadHere bytes (datum_of_atom (atom_of w)) rest
word_here w token bytes rest is word_is ends e = record {
  token = token;
  is = record { written = Spelled w; stands = (is, word_is, ends); is = e };
  read = rw is (word_is_read w rest token word_is e);
}

atom_here : (w : word.Word) (b : ℕ) (bs rest : List ℕ) → begins_spelling b ≡ true → b ∷ bs ≡ word_text w ++ rest → IsWord w → spelling.EndsBefore (spelling.Spelled w) rest → ReadHere (b ∷ bs) (datum_of_atom (atom_of w)) rest
atom_here (Number Unsigned digits) b bs rest begins is word_is ends = word_here (Number Unsigned digits) (Integer (digits_number digits)) (b ∷ bs) rest is word_is ends refl
atom_here (Number Plus digits) b bs rest begins is word_is ends = absurd (let same : b ≡ 43 = cc in let bad : false ≡ true = rw same at begins in cc)
atom_here (Number Minus digits) b bs rest begins is word_is ends = absurd (let same : b ≡ 45 = cc in let bad : false ≡ true = rw same at begins in cc)
atom_here (Named cs) b bs rest begins is word_is ends = word_here (Named cs) (named_token cs) (b ∷ bs) rest is word_is ends refl
atom_here (Single c) b bs rest begins is word_is ends = absurd (let same : b ≡ c = cc in special_begins_none b (rw same word_is) begins)
atom_here (word.Text bytes) b bs rest begins is word_is ends = word_here (word.Text bytes) (String bytes) (b ∷ bs) rest is word_is ends refl

spelling_here : (s : Spelling) (b : ℕ) (bs rest : List ℕ) → begins_spelling b ≡ true → AreTokens (tokens_of s) (b ∷ bs) rest → ReadHere (b ∷ bs) (datum_of s) rest
spelling_here (Atom w) b bs rest begins are =
    let front = are.1 in
    let is = front_here (spelling.Spelled w) b bs are.0 (spelling_solid b begins) front in
    subst (λ (rest : List ℕ). ReadHere (b ∷ bs) (datum_of_atom (atom_of w)) rest) are.2 (atom_here w b bs are.0 begins is front.token_is front.ends)
spelling_here (spelling.Quoted s) b bs rest begins are =
    let is = front_here (Sign Quote) b bs are.0 (spelling_solid b begins) are.1 in
    record {
      token = Quoted (datum_of s);
      is = record { written = Quoting (datum_of s); stands = (are.0, is, record { spelling = s; spelled = are.2; is = refl }); is = refl };
      read = refl;
    }
spelling_here Empty b bs rest begins are = absurd (let is = front_here (Sign Open) b bs are.0 (spelling_solid b begins) are.1 in let same : b ≡ 40 = cc in let bad : false ≡ true = rw same at begins in cc)
spelling_here (Listed s more) b bs rest begins are = absurd (let is = front_here (Sign Open) b bs are.0 (spelling_solid b begins) are.1 in let same : b ≡ 40 = cc in let bad : false ≡ true = rw same at begins in cc)
spelling_here (Vectored places) b bs rest begins are = absurd (let is = front_here (Sign OpenVector) b bs are.0 (spelling_solid b begins) are.1 in let same : b ≡ 91 = cc in let bad : false ≡ true = rw same at begins in cc)

-- where a spelling begins with such a byte, it is a token
pub spelled_here : (b : ℕ) (bs : List ℕ) (datum : Datum) (rest : List ℕ) → begins_spelling b ≡ true → IsSpelled (b ∷ bs) datum rest → ReadHere (b ∷ bs) datum rest
spelled_here b bs datum rest begins s = subst (λ (d : Datum). ReadHere (b ∷ bs) d rest) (sym s.is) (spelling_here s.spelling b bs rest begins s.spelled)

-- ---- a token is spelled

quote_ends : (rest : List ℕ) → spelling.EndsBefore (Sign Quote) rest
quote_ends [] = tt
quote_ends (b ∷ bs) = refl

pub word_spelled : (w : word.Word) (bytes rest : List ℕ) → bytes ≡ word_text w ++ rest → IsWord w → spelling.EndsBefore (spelling.Spelled w) rest → IsSpelled bytes (datum_of_atom (atom_of w)) rest
word_spelled w bytes rest is word_is ends = record {
  spelling = Atom w;
  spelled = (rest, record { gap = []; is_gap = refl; is = is; token_is = word_is; ends = ends }, refl);
  is = refl;
}

pub quote_spelled : (e : Datum) (bytes after rest : List ℕ) → bytes ≡ 39 ∷ after → IsSpelled after e rest → IsSpelled bytes (quoted e) rest
quote_spelled e bytes after rest is s = record {
  spelling = spelling.Quoted s.spelling;
  spelled = (after, record { gap = []; is_gap = refl; is = is; token_is = tt; ends = quote_ends after }, s.spelled);
  is = ap quoted s.is;
}
