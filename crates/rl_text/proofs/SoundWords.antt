-- Where reading goes on after a byte, its byte goes before what may come: words, byte by byte.
use Rattle.std.proofs.Common.{◌≡◌, ℕ, ◌+◌, ◌-◌, ◌*◌, ◌^◌, ◌<◌, ◌≤◌, Bool, true, false, ◌==◌, nat_le, nat_lt, List, [], ◌∷◌, ◌++◌, length, map, Some, refl, sym, ap, ◌∙◌, subst, inl, inr, append_assoc, arith, leb-true, ltb-true, eqb-true, length-append}
use Rattle.std.specs.List.{list_all, flat_map}
use Rattle.std.proofs.lemmas.List.{append-nil, map-append, length-map}
use Rattle.std.proofs.lemmas.List.Concat.{flat_map-append}
use Rattle.std.proofs.lemmas.List.Folds.{list_all-append}
use Rattle.std.proofs.lemmas.Bool.{cond_both, cond-false, cases_Bool, and_parts, and_from, and_right, and_left, or_from}
use Rattle.rl_tree.specs.Bytes.{is_letter, is_digit, is_name_byte, raised}
use Rattle.rl_tree.specs.Digits.{digits_number, number_after}
use Rattle.rl_tree.specs.Atoms.{doubled}
use Rattle.rl_text.specs.Byte.{Class, Blank, Percent, Marks, Text, Escape, Letter, Digit, Special, Nothing, is_sign, is_special, class_of}
use Rattle.rl_text.specs.Byte as byte
use Rattle.rl_text.specs.Word.{Character, Plain, Escaped, Sign, Unsigned, Plus, Minus, Word, Number, Named, Single, character_text, sign_text, word_text, is_minus, character_of, Integer, Identifier, String, signed, atom_of, datum_of_atom, is_in_range, AreIntegerDigits, begins_name, continues_name, are_name_characters, IsWord, spelling_goes_on}
use Rattle.rl_text.specs.Word as word
use Rattle.rl_text.specs.Datum.{Datum}
use Rattle.rl_text.specs.Gap.{comment_after}
use Rattle.rl_text.specs.Spelling.{Atom, Spelled, EndsBefore}
use Rattle.rl_text.specs.Reader.{ReaderFrame, Mode, InName, InEscape, AfterSign, InNumber, InText, AfterQuote, admits, Ended, Whole, Inside, Lacks, Goes, Refuses, goes_after, at_class, atom_ended, goes_before, atom_before, grown_to, in_number, reader_step}
use Rattle.rl_text.specs.Reading.{Items, plain}
use Rattle.rl_text.proofs.Classed.{IsOf, class_says, sign_is_special, plus_left}
use Rattle.rl_text.proofs.SoundComing.{After, element_awaited}
use Rattle.rl_text.proofs.SoundBytes.{TokensWith, Comes, WordGoes, Lexes, GoesOut, Leaves, after_value, comes_tokens, ended_after, tokens_mapped, mark_step, admitted_follows}

-- ---- a word ends, and a byte of it

-- a word is whole, and what may come after its value comes
pub word_ends : (d : Datum) (rest first : List ℕ) (fs : List (ReaderFrame Items)) (bytes : List ℕ) (w : Word) → word_text w ≡ first → IsWord w → EndsBefore (Spelled w) bytes → TokensWith (After d fs (datum_of_atom (atom_of w))) rest bytes → WordGoes d rest first fs bytes
word_ends d rest first fs bytes w is word_is ends t = record {
  word = w;
  text = [];
  after = bytes;
  tokens = t.0;
  is = refl;
  spelled = is ∙ sym (append-nil first);
  word_is = word_is;
  ends = ends;
  more = t.1;
  goes = t.2;
}

-- a byte of a word goes before the others
pub word_byte : (d : Datum) (rest first : List ℕ) (fs : List (ReaderFrame Items)) (b : ℕ) (bs : List ℕ) → WordGoes d rest (first ++ b ∷ []) fs bs → WordGoes d rest first fs (b ∷ bs)
word_byte d rest first fs b bs w = record {
  word = w.word;
  text = b ∷ w.text;
  after = w.after;
  tokens = w.tokens;
  is = ap (λ l. b ∷ l) w.is;
  spelled = w.spelled ∙ append_assoc first (b ∷ []) w.text;
  word_is = w.word_is;
  ends = w.ends;
  more = w.more;
  goes = w.goes;
}

-- a word that begins with this byte goes before what may come after it
word_comes : (d : Datum) (rest : List ℕ) (fs : List (ReaderFrame Items)) (b : ℕ) (bs : List ℕ) → admits fs ≡ true → WordGoes d rest (b ∷ []) fs bs → Comes d rest false fs (b ∷ bs)
word_comes d rest fs b bs admitted w = record {
  gap = [];
  token = Spelled w.word;
  after = w.after;
  tokens = w.tokens;
  is_gap = refl;
  is = ap (λ l. b ∷ l) w.is ∙ ap (λ l. l ++ w.after) (sym w.spelled);
  token_is = w.word_is;
  ends = w.ends;
  more = w.more;
  awaited = element_awaited d fs (Atom w.word) w.tokens admitted w.goes;
}

-- ---- how a word begins

-- a name begins with a letter
letter_word : (d : Datum) (rest : List ℕ) (fs : List (ReaderFrame Items)) (b : ℕ) (bs : List ℕ) → is_letter b ≡ true → Lexes d rest (InName (raised b ∷ [])) fs bs → WordGoes d rest (b ∷ []) fs bs
letter_word d rest fs b bs letter goes = goes (Plain b ∷ []) refl (and_from (is_letter b) true letter refl) (omega arith)

-- a name begins with `!`
escape_word : (d : Datum) (rest : List ℕ) (fs : List (ReaderFrame Items)) (b : ℕ) (bs : List ℕ) → b ≡ 33 → Lexes d rest (InEscape []) fs bs → WordGoes d rest (b ∷ []) fs bs
escape_word d rest fs b bs is goes = rw is (goes [] refl (λ c. refl) (omega arith))

-- a string begins
text_word : (d : Datum) (rest : List ℕ) (fs : List (ReaderFrame Items)) (b : ℕ) (bs : List ℕ) → b ≡ 34 → Lexes d rest (InText []) fs bs → WordGoes d rest (b ∷ []) fs bs
text_word d rest fs b bs is goes = rw is (goes (omega arith))

-- a digit alone is in range
digit_in_range : (minus : Bool) (b : ℕ) → is_digit b ≡ true → is_in_range minus (digits_number (b ∷ []))
digit_in_range true b digit = let most = leb-true b 57 (and_parts (nat_le 48 b) (nat_le b 57) digit).1 in omega arith
digit_in_range false b digit = let most = leb-true b 57 (and_parts (nat_le 48 b) (nat_le b 57) digit).1 in omega arith

-- one digit is a number in range
one_digit : (sign : Sign) (b : ℕ) → is_digit b ≡ true → AreIntegerDigits sign (b ∷ [])
one_digit sign b digit = record {
  some = omega arith;
  are_digits = and_from (is_digit b) true digit refl;
  in_range = digit_in_range (is_minus sign) b digit;
}

-- a number begins with a digit
digit_word : (d : Datum) (rest : List ℕ) (fs : List (ReaderFrame Items)) (b : ℕ) (bs : List ℕ) → is_digit b ≡ true → Lexes d rest (InNumber false (b - 48)) fs bs → WordGoes d rest (b ∷ []) fs bs
digit_word d rest fs b bs digit goes = goes Unsigned (b ∷ []) refl (omega arith) (one_digit Unsigned b digit)

-- ---- a byte in a gap

-- a special that is no sign ends before anything
special_ends : (c : ℕ) (bytes : List ℕ) → is_sign c ≡ false → EndsBefore (Spelled (Single c)) bytes
special_ends c [] unsigned = tt
special_ends c (b ∷ bs) unsigned = and_left (is_sign c) (is_digit b) unsigned

-- a special that is no sign is a word
special_word : (d : Datum) (rest : List ℕ) (fs : List (ReaderFrame Items)) (s : Unit {0}) (b : ℕ) (bs : List ℕ) → IsOf Special b → GoesOut d rest b bs (goes_after (atom_ended plain (Identifier (b ∷ [])) fs s)) → WordGoes d rest (b ∷ []) fs bs
special_word d rest fs s b bs is f =
    word_ends d rest (b ∷ []) fs bs (Single b) refl is.0 (special_ends b bs is.1)
    (tokens_mapped _ _ rest bs (after_value d fs _ s) (ended_after d rest b bs (atom_ended plain (Identifier (b ∷ [])) fs s) f))

-- a byte of a gap goes before the rest of the gap
pub gap_byte : (d : Datum) (rest : List ℕ) (before inside : Bool) (fs : List (ReaderFrame Items)) (b : ℕ) (bs : List ℕ) → ((gap : List ℕ) → comment_after inside gap ≡ Some false → comment_after before (b ∷ gap) ≡ Some false) → Comes d rest inside fs bs → Comes d rest before fs (b ∷ bs)
gap_byte d rest before inside fs b bs opens c = record {
  gap = b ∷ c.gap;
  token = c.token;
  after = c.after;
  tokens = c.tokens;
  is_gap = opens c.gap c.is_gap;
  is = ap (λ l. b ∷ l) c.is;
  token_is = c.token_is;
  ends = c.ends;
  more = c.more;
  awaited = c.awaited;
}

-- a byte in a gap, by its class
pub gap_step : (d : Datum) (rest : List ℕ) (b : ℕ) (bs : List ℕ) (c : Class) (fs : List (ReaderFrame Items)) (s : Unit {0}) → IsOf c b → GoesOut d rest b bs (at_class plain c b fs s) → Comes d rest false fs (b ∷ bs)
gap_step d rest b bs Blank fs s is f = gap_byte d rest false false fs b bs (λ gap e. rw is e) f
gap_step d rest b bs Percent fs s is f = gap_byte d rest false true fs b bs (λ gap e. rw is e) f
gap_step d rest b bs (Marks mark) fs s is f = mark_step d rest b bs mark fs s is f
gap_step d rest b bs Text fs s is f =
    let a = admitted_follows d rest b bs fs (Goes (InText []) fs s) s f in
    word_comes d rest fs b bs a.0 (text_word d rest fs b bs is a.1)
gap_step d rest b bs Escape fs s is f =
    let a = admitted_follows d rest b bs fs (Goes (InEscape []) fs s) s f in
    word_comes d rest fs b bs a.0 (escape_word d rest fs b bs is a.1)
gap_step d rest b bs Letter fs s is f =
    let a = admitted_follows d rest b bs fs (Goes (InName (raised b ∷ [])) fs s) s f in
    word_comes d rest fs b bs a.0 (letter_word d rest fs b bs is a.1)
gap_step d rest b bs Digit fs s is f =
    let a = admitted_follows d rest b bs fs (Goes (InNumber false (b - 48)) fs s) s f in
    word_comes d rest fs b bs a.0 (digit_word d rest fs b bs is a.1)
gap_step d rest b bs byte.Sign fs s is f =
    let a = admitted_follows d rest b bs fs (Goes (AfterSign b) fs s) s f in
    word_comes d rest fs b bs a.0 (a.1 is)
gap_step d rest b bs Special fs s is f =
    let a = admitted_follows d rest b bs fs (goes_after (atom_ended plain (Identifier (b ∷ [])) fs s)) s f in
    word_comes d rest fs b bs a.0 (special_word d rest fs s b bs is a.1)
gap_step d rest b bs Nothing fs s is f = absurd f

-- ---- an atom ends before a byte

-- an element ends before this byte
ended_before : (d : Datum) (rest : List ℕ) (b : ℕ) (bs : List ℕ) (e : Ended (Unit {0}) Datum Items ⊥) → GoesOut d rest b bs (goes_before plain b e) → TokensWith (Leaves d e) rest (b ∷ bs)
ended_before d rest b bs (Whole v s) f = ([], f.1, (refl, f.0))
ended_before d rest b bs (Inside fs s) f = comes_tokens d rest fs (b ∷ bs) (gap_step d rest b bs (class_of b) fs s (class_says b) f)
ended_before d rest b bs (Lacks w s) f = absurd f

-- a word ends before this byte, with which it does not go on
word_before : (d : Datum) (rest first : List ℕ) (fs : List (ReaderFrame Items)) (s : Unit {0}) (b : ℕ) (bs : List ℕ) (w : Word) → word_text w ≡ first → IsWord w → spelling_goes_on w b ≡ false → GoesOut d rest b bs (atom_before plain (atom_of w) b fs s) → WordGoes d rest first fs (b ∷ bs)
word_before d rest first fs s b bs w is word_is ends f =
    word_ends d rest first fs (b ∷ bs) w is word_is ends
    (tokens_mapped _ _ rest (b ∷ bs) (after_value d fs _ s) (ended_before d rest b bs (atom_ended plain (atom_of w) fs s) f))

-- ---- names

-- a name goes on with what continues it
name_grows : (chars : List Character) (c : Character) → are_name_characters chars ≡ true → continues_name c ≡ true → are_name_characters (chars ++ c ∷ []) ≡ true
name_grows [] c name continues = absurd cc
name_grows (x ∷ xs) c name continues =
    let parts = and_parts (begins_name x) (list_all continues_name xs) name in
    and_from _ _ parts.0 (list_all-append continues_name xs (c ∷ []) ∙ and_from _ _ parts.1 (and_from (continues_name c) true continues refl))

-- what is short goes on, and what is long does not
grown_follows : (d : Datum) (rest : List ℕ) (b : ℕ) (bs : List ℕ) (most : ℕ) (cs : List ℕ) (mode : Mode) (fs : List (ReaderFrame Items)) (s : Unit {0}) → GoesOut d rest b bs (grown_to most cs mode fs s) → (length cs < most) × Lexes d rest mode fs bs
grown_follows d rest b bs most cs mode fs s =
    cond_both (nat_lt (length cs) most) (Goes mode fs s) (Refuses s) (λ x. GoesOut d rest b bs x → (length cs < most) × Lexes d rest mode fs bs) (λ e f. (ltb-true _ _ e, f)) (λ e f. absurd f)

-- one more character of a name
name_longer : (d : Datum) (rest : List ℕ) (fs : List (ReaderFrame Items)) (bs cs : List ℕ) (chars : List Character) (c : Character) → cs ≡ map character_of chars → are_name_characters (chars ++ c ∷ []) ≡ true → length chars < 255 → Lexes d rest (InName (cs ++ character_of c ∷ [])) fs bs → WordGoes d rest (word_text (Named chars) ++ character_text c) fs bs
name_longer d rest fs bs cs chars c is name short goes =
    let w = goes (chars ++ c ∷ []) (ap (λ l. l ++ character_of c ∷ []) is ∙ sym (map-append character_of chars (c ∷ []))) name (omega (arith, length-append chars (c ∷ []))) in
    let text : flat_map character_text (chars ++ c ∷ []) ≡ flat_map character_text chars ++ character_text c = flat_map-append character_text chars (c ∷ []) ∙ ap (λ l. flat_map character_text chars ++ l) (append-nil (character_text c)) in
    subst (λ l. WordGoes d rest l fs bs) text w

-- a name has as many characters as bytes
length_of_name : (cs : List ℕ) (chars : List Character) → cs ≡ map character_of chars → length cs < 255 → length chars < 255
length_of_name cs chars is short = omega (arith, ap length is, length-map chars character_of)

-- a byte in a name
pub name_step : (d : Datum) (rest : List ℕ) (b : ℕ) (bs cs : List ℕ) (fs : List (ReaderFrame Items)) (s : Unit {0}) → GoesOut d rest b bs (reader_step plain (InName cs) b fs s) → Lexes d rest (InName cs) fs (b ∷ bs)
name_step d rest b bs cs fs s f chars is name short =
    cond_both (is_name_byte b) (grown_to 255 cs (InName (cs ++ raised b ∷ [])) fs s) _ (λ x. GoesOut d rest b bs x → WordGoes d rest (word_text (Named chars)) fs (b ∷ bs))
    (λ passes f.
    let g = grown_follows d rest b bs 255 cs (InName (cs ++ raised b ∷ [])) fs s f in
    word_byte d rest (word_text (Named chars)) fs b bs
    (name_longer d rest fs bs cs chars (Plain b) is (name_grows chars (Plain b) name passes) (length_of_name cs chars is g.0) g.1))
    (λ fails.
    cond_both (b == 33) (grown_to 255 cs (InEscape cs) fs s) (atom_before plain (Identifier cs) b fs s) (λ x. GoesOut d rest b bs x → WordGoes d rest (word_text (Named chars)) fs (b ∷ bs))
    (λ bang f.
    let g = grown_follows d rest b bs 255 cs (InEscape cs) fs s f in
    let w = g.1 chars is (λ c. name_grows chars (Escaped c) name refl) (length_of_name cs chars is g.0) in
    word_byte d rest (word_text (Named chars)) fs b bs (rw (eqb-true b 33 bang) w))
    (λ other f.
    word_before d rest (word_text (Named chars)) fs s b bs (Named chars) refl (record { name = name; short = short }) (or_from (is_name_byte b) (b == 33) fails other) (rw is at f)))
    f

-- a byte after `!`
pub escape_step : (d : Datum) (rest : List ℕ) (b : ℕ) (bs cs : List ℕ) (fs : List (ReaderFrame Items)) (s : Unit {0}) → GoesOut d rest b bs (reader_step plain (InEscape cs) b fs s) → Lexes d rest (InEscape cs) fs (b ∷ bs)
escape_step d rest b bs cs fs s f chars is name short =
    word_byte d rest (word_text (Named chars) ++ 33 ∷ []) fs b bs
    (rw (append_assoc (word_text (Named chars)) (33 ∷ []) (b ∷ [])) (name_longer d rest fs bs cs chars (Escaped b) is (name b) short f))

-- ---- numbers

-- a number with one more digit
number_after-append : (n : ℕ) (ds : List ℕ) (b : ℕ) → number_after n (ds ++ b ∷ []) ≡ 10 * number_after n ds + (b - 48)
number_after-append n [] b = refl
number_after-append n (d ∷ ds) b = number_after-append (10 * n + (d - 48)) ds b

-- what is in range goes on
in_number_follows : (d : Datum) (rest : List ℕ) (b : ℕ) (bs : List ℕ) (minus : Bool) (n : ℕ) (fs : List (ReaderFrame Items)) (s : Unit {0}) → GoesOut d rest b bs (in_number minus n fs s) → is_in_range minus n × Lexes d rest (InNumber minus n) fs bs
in_number_follows d rest b bs true n fs s =
    cond_both (nat_le n (2 ^ 59)) (Goes (InNumber true n) fs s) (Refuses s) (λ x. GoesOut d rest b bs x → (n ≤ 2 ^ 59) × Lexes d rest (InNumber true n) fs bs) (λ e f. (leb-true _ _ e, f)) (λ e f. absurd f)
in_number_follows d rest b bs false n fs s =
    cond_both (nat_lt n (2 ^ 59)) (Goes (InNumber false n) fs s) (Refuses s) (λ x. GoesOut d rest b bs x → (n < 2 ^ 59) × Lexes d rest (InNumber false n) fs bs) (λ e f. (ltb-true _ _ e, f)) (λ e f. absurd f)

-- and where the number so far is known by another name
number_after-grown : (n : ℕ) (digits : List ℕ) (b : ℕ) → n ≡ digits_number digits → 10 * n + (b - 48) ≡ digits_number (digits ++ b ∷ [])
number_after-grown n digits b is = rw is (sym (number_after-append 0 digits b))

-- digits in range with one more, in range, are a number
more_digits : (sign : Sign) (minus : Bool) (n : ℕ) (digits : List ℕ) (b : ℕ) → minus ≡ is_minus sign → n ≡ digits_number digits → AreIntegerDigits sign digits → is_digit b ≡ true → is_in_range minus (10 * n + (b - 48)) → AreIntegerDigits sign (digits ++ b ∷ [])
more_digits sign minus n digits b minus_is is number digit in_range = record {
  some = omega (arith, length-append digits (b ∷ []));
  are_digits = list_all-append is_digit digits (b ∷ []) ∙ and_from _ _ number.are_digits (and_from (is_digit b) true digit refl);
  in_range = rw (minus_is, number_after-grown n digits b is) at in_range;
}

-- one more digit of a number
number_longer : (d : Datum) (rest : List ℕ) (b : ℕ) (bs : List ℕ) (minus : Bool) (n : ℕ) (fs : List (ReaderFrame Items)) (sign : Sign) (digits : List ℕ) → minus ≡ is_minus sign → n ≡ digits_number digits → AreIntegerDigits sign digits → is_digit b ≡ true → is_in_range minus (10 * n + (b - 48)) → Lexes d rest (InNumber minus (10 * n + (b - 48))) fs bs → WordGoes d rest (word_text (Number sign digits)) fs (b ∷ bs)
number_longer d rest b bs minus n fs sign digits minus_is is number digit in_range goes =
    word_byte d rest (word_text (Number sign digits)) fs b bs
    (rw (append_assoc (sign_text sign) digits (b ∷ [])) (goes sign (digits ++ b ∷ []) minus_is (number_after-grown n digits b is) (more_digits sign minus n digits b minus_is is number digit in_range)))

-- a byte in a number
pub number_step : (d : Datum) (rest : List ℕ) (b : ℕ) (bs : List ℕ) (minus : Bool) (n : ℕ) (fs : List (ReaderFrame Items)) (s : Unit {0}) → GoesOut d rest b bs (reader_step plain (InNumber minus n) b fs s) → Lexes d rest (InNumber minus n) fs (b ∷ bs)
number_step d rest b bs minus n fs s f sign digits minus_is is number =
    cond_both (is_digit b) (in_number minus (10 * n + (b - 48)) fs s) (atom_before plain (Integer (signed minus n)) b fs s) (λ x. GoesOut d rest b bs x → WordGoes d rest (word_text (Number sign digits)) fs (b ∷ bs))
    (λ digit f.
    let g = in_number_follows d rest b bs minus (10 * n + (b - 48)) fs s f in
    number_longer d rest b bs minus n fs sign digits minus_is is number digit g.0 g.1)
    (λ none f.
    word_before d rest (word_text (Number sign digits)) fs s b bs (Number sign digits) refl number none (rw (minus_is, is) at f))
    f

-- a digit after a sign
signed_word : (d : Datum) (rest : List ℕ) (b : ℕ) (bs : List ℕ) (c : ℕ) (fs : List (ReaderFrame Items)) → is_sign c ≡ true → is_digit b ≡ true → Lexes d rest (InNumber (c == 45) (b - 48)) fs bs → WordGoes d rest (c ∷ b ∷ []) fs bs
signed_word d rest b bs c fs sign digit goes =
    elim (cases_Bool (c == 45)) [
      | inl e ↦ rw (eqb-true c 45 e) (goes Minus (b ∷ []) e (omega arith) (one_digit Minus b digit))
      | inr e ↦ rw (plus_left c sign e) (goes Plus (b ∷ []) e (omega arith) (one_digit Plus b digit))
    ]

-- a byte after a sign
pub sign_step : (d : Datum) (rest : List ℕ) (b : ℕ) (bs : List ℕ) (c : ℕ) (fs : List (ReaderFrame Items)) (s : Unit {0}) → GoesOut d rest b bs (reader_step plain (AfterSign c) b fs s) → Lexes d rest (AfterSign c) fs (b ∷ bs)
sign_step d rest b bs c fs s f sign =
    cond_both (is_digit b) (Goes (InNumber (c == 45) (b - 48)) fs s) (atom_before plain (Identifier (c ∷ [])) b fs s) (λ x. GoesOut d rest b bs x → WordGoes d rest (c ∷ []) fs (b ∷ bs))
    (λ digit f. word_byte d rest (c ∷ []) fs b bs (signed_word d rest b bs c fs sign digit f))
    (λ none f. word_before d rest (c ∷ []) fs s b bs (Single c) refl (sign_is_special c sign) (and_right (is_sign c) (is_digit b) none) f)
    f

-- ---- strings

-- a string is doubled piece by piece
doubled-append : (xs ys : List ℕ) → doubled (xs ++ ys) ≡ doubled xs ++ doubled ys
doubled-append [] ys = refl
doubled-append (x ∷ xs) ys =
    elim (cases_Bool (x == 34)) [
      | inl e ↦ rw e (ap (λ l. 34 ∷ 34 ∷ l) (doubled-append xs ys))
      | inr e ↦ rw e (ap (λ l. x ∷ l) (doubled-append xs ys))
    ]

-- a byte in a string
pub text_step : (d : Datum) (rest : List ℕ) (b : ℕ) (bs cs : List ℕ) (fs : List (ReaderFrame Items)) (s : Unit {0}) → GoesOut d rest b bs (reader_step plain (InText cs) b fs s) → Lexes d rest (InText cs) fs (b ∷ bs)
text_step d rest b bs cs fs s f short =
    cond_both (b == 34) (Goes (AfterQuote cs) fs s) (grown_to 65535 cs (InText (cs ++ b ∷ [])) fs s) (λ x. GoesOut d rest b bs x → WordGoes d rest (34 ∷ doubled cs) fs (b ∷ bs))
    (λ quote f. word_byte d rest (34 ∷ doubled cs) fs b bs (rw (eqb-true b 34 quote) (f short)))
    (λ other f.
    let g = grown_follows d rest b bs 65535 cs (InText (cs ++ b ∷ [])) fs s f in
    word_byte d rest (34 ∷ doubled cs) fs b bs
    (subst (λ l. WordGoes d rest (34 ∷ l) fs bs) (doubled-append cs (b ∷ []) ∙ ap (λ l. doubled cs ++ l) (cond-false (b == 34) (34 ∷ 34 ∷ []) (b ∷ []) other)) (g.1 (omega (arith, g.0, length-append cs (b ∷ []))))))
    f

-- a byte after a `"` in a string
pub after_quote_step : (d : Datum) (rest : List ℕ) (b : ℕ) (bs cs : List ℕ) (fs : List (ReaderFrame Items)) (s : Unit {0}) → GoesOut d rest b bs (reader_step plain (AfterQuote cs) b fs s) → Lexes d rest (AfterQuote cs) fs (b ∷ bs)
after_quote_step d rest b bs cs fs s f short =
    cond_both (b == 34) (grown_to 65535 cs (InText (cs ++ 34 ∷ [])) fs s) (atom_before plain (String cs) b fs s) (λ x. GoesOut d rest b bs x → WordGoes d rest (word_text (word.Text cs)) fs (b ∷ bs))
    (λ quote f.
    let g = grown_follows d rest b bs 65535 cs (InText (cs ++ 34 ∷ [])) fs s f in
    let w = g.1 (omega (arith, g.0, length-append cs (34 ∷ []))) in
    word_byte d rest (word_text (word.Text cs)) fs b bs
    (rw (eqb-true b 34 quote) (subst (λ l. WordGoes d rest (34 ∷ l) fs bs) (doubled-append cs (34 ∷ []) ∙ sym (append_assoc (doubled cs) (34 ∷ []) (34 ∷ []))) w)))
    (λ other f. word_before d rest (word_text (word.Text cs)) fs s b bs (word.Text cs) refl short other f)
    f
