-- A word that is spelled is read as its atom.
use Rattle.std.proofs.Common.{◌≡◌, ℕ, suc, ◌+◌, ◌-◌, ◌*◌, ◌^◌, ◌<◌, ◌≤◌, Bool, true, false, ◌&&◌, ◌||◌, ◌==◌, nat_le, nat_lt, if◌then◌else◌, List, [], ◌∷◌, ◌++◌, length, map, refl, ap, ◌∙◌, sym, inl, inr, arith, eqb-true, le-leb, lt-ltb, append_assoc, length-append}
use Rattle.std.specs.List.{list_all, flat_map}
use Rattle.std.proofs.lemmas.Bool.{cases_Bool, cond-true, cond-false, and_parts, or_parts}
use Rattle.std.proofs.lemmas.List.{append-nil}
use Rattle.rl_tree.specs.Bytes.{is_letter, is_digit, is_name_byte, raised}
use Rattle.rl_tree.specs.Digits.{number_after, digits_number}
use Rattle.rl_tree.specs.Atoms.{doubled}
use Rattle.rl_text.specs.Byte.{is_sign, is_special, Class, Letter, Digit, Special, class_of}
use Rattle.rl_text.specs.Byte as byte
use Rattle.rl_text.specs.Datum.{Datum, Int, Id, Str}
use Rattle.rl_text.specs.Word.{Character, Plain, Escaped, Sign, Unsigned, Plus, Minus, Word, Number, Named, Single, Text, character_text, word_text, is_minus, signed, character_of, atom_of, datum_of_atom, is_in_range, AreIntegerDigits, continues_name, AreNameCharacters, IsWord}
use Rattle.rl_text.specs.Spelling.{Spelled, EndsBefore, longer_with}
use Rattle.rl_text.specs.Reader.{Mode, Gap, InName, InEscape, AfterSign, InNumber, InText, AfterQuote, admits, ReaderStep, Goes, Refuses, goes_before, in_word, at_class, reader_step, ends_after, at_end, after_step, read_from}
use Rattle.rl_text.specs.Reading.{Items, plain}
use Rattle.rl_text.proofs.Classes.{letter_class, digit_class, sign_class, special_class}
use Rattle.rl_text.proofs.CompleteGaps.{Frames, PlainOutcome, from, ending, after_value, ended_before, ended_after, ended_at_end, by_class}

-- no byte that passes the test comes next
abbrev Ends : (ℕ → Bool) → List ℕ → Type 0
Ends test [] = Unit {0}
Ends test (b ∷ bs) = test b ≡ false

-- what a byte does where data are made
abbrev PlainStep : Type 0
PlainStep = ReaderStep (Unit {0}) Datum Items ⊥

-- reading goes on behind a byte
abbrev after_byte : ℕ → List ℕ → PlainStep → PlainOutcome
after_byte b bs taken = after_step b bs taken (λ mode fs s. read_from plain mode fs s bs)

-- a byte is taken, and reading goes on in a new mode
taken : (mode new : Mode) (fs : Frames) (b : ℕ) (bs : List ℕ) → reader_step plain mode b fs tt ≡ Goes new fs tt → from mode fs (b ∷ bs) ≡ from new fs bs
taken mode new fs b bs e = ap (after_byte b bs) e

-- a word ends before a byte with which it does not go on, or with the text
word_ends : (mode : Mode) (v : Datum) (fs : Frames) (test : ℕ → Bool) (rest : List ℕ) → at_end plain mode fs tt ≡ ends_after (ending v fs) → ((b : ℕ) → test b ≡ false → reader_step plain mode b fs tt ≡ goes_before plain b (ending v fs)) → Ends test rest → from mode fs rest ≡ after_value v fs rest
word_ends mode v fs test [] at before ends = at ∙ ended_at_end v fs
word_ends mode v fs test (b ∷ bs) at before ends = ap (after_byte b bs) (before b ends) ∙ ended_before (ending v fs) b bs

-- a word begins where a spelling may stand
word_begins : (mode : Mode) (fs : Frames) (b : ℕ) (bs : List ℕ) (c : Class) → class_of b ≡ c → at_class plain c b fs tt ≡ in_word mode fs tt → admits fs ≡ true → from Gap fs (b ∷ bs) ≡ from mode fs bs
word_begins mode fs b bs c is begins free = taken Gap mode fs b bs (ap (λ c. at_class plain c b fs tt) is ∙ begins ∙ cond-true (admits fs) (Goes mode fs tt) (Refuses tt) free)

-- a word that ends before this ends as its test says
Ends-from : (word : Word) (rest : List ℕ) → EndsBefore (Spelled word) rest → Ends (longer_with (Spelled word)) rest
Ends-from word [] ends = tt
Ends-from word (b ∷ bs) ends = ends

-- ---- numbers

-- a number in its range passes the test
range_tested : (minus : Bool) (n : ℕ) → is_in_range minus n → (if minus then nat_le n (2 ^ 59) else nat_lt n (2 ^ 59)) ≡ true
range_tested true n fits = le-leb n (2 ^ 59) fits
range_tested false n fits = lt-ltb n (2 ^ 59) fits

-- a number below one in its range is in its range
smaller_in_range : (minus : Bool) (m n : ℕ) → m ≤ n → is_in_range minus n → is_in_range minus m
smaller_in_range true m n less fits = omega arith
smaller_in_range false m n less fits = omega arith

-- a number grows by its digits
number_grows : (n : ℕ) (digits : List ℕ) → n ≤ number_after n digits
number_grows n [] = omega arith
number_grows n (d ∷ ds) = let more = number_grows (10 * n + (d - 48)) ds in omega arith

-- digits are read as the number that they end with
number_read : (minus : Bool) (n : ℕ) (digits rest : List ℕ) (fs : Frames) → list_all is_digit digits ≡ true → is_in_range minus (number_after n digits) → Ends is_digit rest → from (InNumber minus n) fs (digits ++ rest) ≡ after_value (Int (signed minus (number_after n digits))) fs rest
number_read minus n [] rest fs are fits ends = word_ends (InNumber minus n) (Int (signed minus n)) fs is_digit rest refl (λ b e. cond-false (is_digit b) _ _ e) ends
number_read minus n (d ∷ ds) rest fs are fits ends =
    let p = and_parts (is_digit d) (list_all is_digit ds) are in
    let m = 10 * n + (d - 48) in
    let small = smaller_in_range minus m (number_after m ds) (number_grows m ds) fits in
    taken (InNumber minus n) (InNumber minus m) fs d (ds ++ rest) (cond-true (is_digit d) _ _ p.0 ∙ cond-true (if minus then nat_le m (2 ^ 59) else nat_lt m (2 ^ 59)) _ _ (range_tested minus m small))
    ∙ number_read minus m ds rest fs p.1 fits ends

-- the first digit is the number so far
number_begun : (minus : Bool) (d : ℕ) (ds rest : List ℕ) (fs : Frames) → list_all is_digit (d ∷ ds) ≡ true → is_in_range minus (digits_number (d ∷ ds)) → Ends is_digit rest → from (InNumber minus (d - 48)) fs (ds ++ rest) ≡ after_value (Int (signed minus (digits_number (d ∷ ds)))) fs rest
number_begun minus d ds rest fs are fits ends =
    let first : d - 48 ≡ 10 * 0 + (d - 48) = omega arith in
    ap (λ n. from (InNumber minus n) fs (ds ++ rest)) first ∙ number_read minus (10 * 0 + (d - 48)) ds rest fs (and_parts (is_digit d) (list_all is_digit ds) are).1 fits ends

-- digits behind a sign are read as the number with this sign
sign_then : (c : ℕ) (d : ℕ) (ds rest : List ℕ) (fs : Frames) → list_all is_digit (d ∷ ds) ≡ true → is_in_range (c == 45) (digits_number (d ∷ ds)) → Ends is_digit rest → from (AfterSign c) fs (d ∷ (ds ++ rest)) ≡ after_value (Int (signed (c == 45) (digits_number (d ∷ ds)))) fs rest
sign_then c d ds rest fs are fits ends =
    taken (AfterSign c) (InNumber (c == 45) (d - 48)) fs d (ds ++ rest) (cond-true (is_digit d) _ _ (and_parts (is_digit d) (list_all is_digit ds) are).0)
    ∙ number_begun (c == 45) d ds rest fs are fits ends

-- a number is read as its integer
number_word : (sign : Sign) (digits rest : List ℕ) (fs : Frames) → admits fs ≡ true → AreIntegerDigits sign digits → Ends is_digit rest → from Gap fs (word_text (Number sign digits) ++ rest) ≡ after_value (Int (signed (is_minus sign) (digits_number digits))) fs rest
number_word sign [] rest fs free is ends = absurd (let some = is.some in omega arith)
number_word Unsigned (d ∷ ds) rest fs free is ends =
    word_begins (InNumber false (d - 48)) fs d (ds ++ rest) Digit (digit_class d (and_parts (is_digit d) (list_all is_digit ds) is.are_digits).0) refl free
    ∙ number_begun false d ds rest fs is.are_digits is.in_range ends
number_word Plus (d ∷ ds) rest fs free is ends =
    word_begins (AfterSign 43) fs 43 (d ∷ (ds ++ rest)) byte.Sign refl refl free ∙ sign_then 43 d ds rest fs is.are_digits is.in_range ends
number_word Minus (d ∷ ds) rest fs free is ends =
    word_begins (AfterSign 45) fs 45 (d ∷ (ds ++ rest)) byte.Sign refl refl free ∙ sign_then 45 d ds rest fs is.are_digits is.in_range ends

-- ---- names

-- one byte is taken from those to come to those that are there
longer : (most : ℕ) (cs : List ℕ) (c : ℕ) (n : ℕ) → length cs + suc n ≤ most → length (cs ++ c ∷ []) + n ≤ most
longer most cs c n fits = omega (arith, length-append cs (c ∷ []))

-- there is room for one byte more
shorter : (most : ℕ) (cs : List ℕ) (n : ℕ) → length cs + suc n ≤ most → nat_lt (length cs) most ≡ true
shorter most cs n fits = let less : length cs < most = omega arith in lt-ltb (length cs) most less

-- a name ends before a byte with which it does not go on
name_before : (cs : List ℕ) (fs : Frames) (b : ℕ) → (is_name_byte b || b == 33) ≡ false → reader_step plain (InName cs) b fs tt ≡ goes_before plain b (ending (Id cs) fs)
name_before cs fs b e = let p = or_parts (is_name_byte b) (b == 33) e in cond-false (is_name_byte b) _ _ p.0 ∙ cond-false (b == 33) _ _ p.1

-- characters are read into the name that has begun
name_read : (cs : List ℕ) (characters : List Character) (rest : List ℕ) (fs : Frames) → list_all continues_name characters ≡ true → length cs + length characters ≤ 255 → Ends (λ b. is_name_byte b || b == 33) rest → from (InName cs) fs (flat_map character_text characters ++ rest) ≡ after_value (Id (cs ++ map character_of characters)) fs rest
name_read cs [] rest fs are fits ends =
    word_ends (InName cs) (Id cs) fs (λ b. is_name_byte b || b == 33) rest refl (name_before cs fs) ends
    ∙ ap (λ name. after_value (Id name) fs rest) (sym (append-nil cs))
name_read cs (Plain b ∷ more) rest fs are fits ends =
    let p = and_parts (is_name_byte b) (list_all continues_name more) are in
    taken (InName cs) (InName (cs ++ raised b ∷ [])) fs b (flat_map character_text more ++ rest) (cond-true (is_name_byte b) _ _ p.0 ∙ cond-true (nat_lt (length cs) 255) _ _ (shorter 255 cs (length more) fits))
    ∙ name_read (cs ++ raised b ∷ []) more rest fs p.1 (longer 255 cs (raised b) (length more) fits) ends
    ∙ ap (λ name. after_value (Id name) fs rest) (append_assoc cs (raised b ∷ []) (map character_of more))
name_read cs (Escaped b ∷ more) rest fs are fits ends =
    taken (InName cs) (InEscape cs) fs 33 (b ∷ (flat_map character_text more ++ rest)) (cond-true (nat_lt (length cs) 255) _ _ (shorter 255 cs (length more) fits))
    ∙ name_read (cs ++ b ∷ []) more rest fs are (longer 255 cs b (length more) fits) ends
    ∙ ap (λ name. after_value (Id name) fs rest) (append_assoc cs (b ∷ []) (map character_of more))

-- a name is read as its identifier
name_word : (characters : List Character) (rest : List ℕ) (fs : Frames) → admits fs ≡ true → AreNameCharacters characters → Ends (λ b. is_name_byte b || b == 33) rest → from Gap fs (word_text (Named characters) ++ rest) ≡ after_value (Id (map character_of characters)) fs rest
name_word [] rest fs free is ends = absurd (let some = is.name in cc)
name_word (Plain b ∷ more) rest fs free is ends =
    let p = and_parts (is_letter b) (list_all continues_name more) is.name in
    let fits : 1 + length more ≤ 255 = let short = is.short in omega arith in
    word_begins (InName (raised b ∷ [])) fs b (flat_map character_text more ++ rest) Letter (letter_class b p.0) refl free
    ∙ name_read (raised b ∷ []) more rest fs p.1 fits ends
name_word (Escaped b ∷ more) rest fs free is ends =
    let fits : 1 + length more ≤ 255 = let short = is.short in omega arith in
    word_begins (InEscape []) fs 33 (b ∷ (flat_map character_text more ++ rest)) byte.Escape refl refl free
    ∙ name_read (b ∷ []) more rest fs is.name fits ends

-- ---- strings

-- a string ends before a byte other than `"`
quote_before : (cs : List ℕ) (fs : Frames) (b : ℕ) → (b == 34) ≡ false → reader_step plain (AfterQuote cs) b fs tt ≡ goes_before plain b (ending (Str cs) fs)
quote_before cs fs b e = cond-false (b == 34) _ _ e

-- bytes are read into the string that has begun, a `"` as two
string_read : (cs bytes rest : List ℕ) (fs : Frames) → length cs + length bytes ≤ 65535 → Ends (λ b. b == 34) rest → from (InText cs) fs ((doubled bytes ++ 34 ∷ []) ++ rest) ≡ after_value (Str (cs ++ bytes)) fs rest
string_read cs [] rest fs fits ends =
    word_ends (AfterQuote cs) (Str cs) fs (λ b. b == 34) rest refl (quote_before cs fs) ends
    ∙ ap (λ bytes. after_value (Str bytes) fs rest) (sym (append-nil cs))
string_read cs (b ∷ bs) rest fs fits ends = elim (cases_Bool (b == 34)) [
  | inl quote ↦
      let more = (doubled bs ++ 34 ∷ []) ++ rest in
      ap (λ text. from (InText cs) fs ((text ++ 34 ∷ []) ++ rest)) (cond-true (b == 34) (34 ∷ 34 ∷ doubled bs) (b ∷ doubled bs) quote)
      ∙ taken (AfterQuote cs) (InText (cs ++ 34 ∷ [])) fs 34 more (cond-true (nat_lt (length cs) 65535) _ _ (shorter 65535 cs (length bs) fits))
      ∙ string_read (cs ++ 34 ∷ []) bs rest fs (longer 65535 cs 34 (length bs) fits) ends
      ∙ ap (λ bytes. after_value (Str bytes) fs rest) (append_assoc cs (34 ∷ []) bs ∙ ap (λ c. cs ++ c ∷ bs) (sym (eqb-true b 34 quote)))
  | inr other ↦
      let more = (doubled bs ++ 34 ∷ []) ++ rest in
      ap (λ text. from (InText cs) fs ((text ++ 34 ∷ []) ++ rest)) (cond-false (b == 34) (34 ∷ 34 ∷ doubled bs) (b ∷ doubled bs) other)
      ∙ taken (InText cs) (InText (cs ++ b ∷ [])) fs b more (cond-false (b == 34) _ _ other ∙ cond-true (nat_lt (length cs) 65535) _ _ (shorter 65535 cs (length bs) fits))
      ∙ string_read (cs ++ b ∷ []) bs rest fs (longer 65535 cs b (length bs) fits) ends
      ∙ ap (λ bytes. after_value (Str bytes) fs rest) (append_assoc cs (b ∷ []) bs)
]

-- a string is read as its bytes
string_word : (bytes rest : List ℕ) (fs : Frames) → admits fs ≡ true → length bytes ≤ 65535 → Ends (λ b. b == 34) rest → from Gap fs (word_text (Text bytes) ++ rest) ≡ after_value (Str bytes) fs rest
string_word bytes rest fs free fits ends =
    let short : 0 + length bytes ≤ 65535 = omega arith in
    word_begins (InText []) fs 34 ((doubled bytes ++ 34 ∷ []) ++ rest) byte.Text refl refl free
    ∙ string_read [] bytes rest fs short ends

-- ---- single specials

-- a single special is read as its identifier
single_word : (b : ℕ) (rest : List ℕ) (fs : Frames) → admits fs ≡ true → is_special b ≡ true → Ends (λ c. is_sign b && is_digit c) rest → from Gap fs (b ∷ rest) ≡ after_value (Id (b ∷ [])) fs rest
single_word b rest fs free special ends = elim (cases_Bool (is_sign b)) [
  | inl sign ↦
      word_begins (AfterSign b) fs b rest byte.Sign (sign_class b sign) refl free
      ∙ word_ends (AfterSign b) (Id (b ∷ [])) fs (λ c. is_sign b && is_digit c) rest refl (λ c e. cond-false (is_digit c) _ _ (rw sign at e)) ends
  | inr other ↦
      by_class b rest fs Special (special_class b special other)
      ∙ ap (after_byte b rest) (cond-true (admits fs) _ _ free)
      ∙ ended_after (ending (Id (b ∷ [])) fs) b rest
]

-- ---- words

-- a word that is as long as it can be is read as its atom
pub word_read : (word : Word) (rest : List ℕ) (fs : Frames) → admits fs ≡ true → IsWord word → EndsBefore (Spelled word) rest → from Gap fs (word_text word ++ rest) ≡ after_value (datum_of_atom (atom_of word)) fs rest
word_read (Number sign digits) rest fs free is ends = number_word sign digits rest fs free is (Ends-from (Number sign digits) rest ends)
word_read (Named characters) rest fs free is ends = name_word characters rest fs free is (Ends-from (Named characters) rest ends)
word_read (Single b) rest fs free is ends = single_word b rest fs free is (Ends-from (Single b) rest ends)
word_read (Text bytes) rest fs free is ends = string_word bytes rest fs free is (Ends-from (Text bytes) rest ends)
