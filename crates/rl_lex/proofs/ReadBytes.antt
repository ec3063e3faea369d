-- What a byte does where a word of Lisp text stands.
use Rattle.std.proofs.Common.{◌≡◌, ◌≢◌, ℕ, ◌+◌, ◌-◌, ◌*◌, ◌^◌, ◌<◌, ◌≤◌, Bool, true, false, ◌==◌, nat_lt, nat_le, List, [], ◌∷◌, ◌++◌, length, drop, get_or, ◌⊎◌, not, take, map, lit<, refl, ap, sym, subst, ◌∙◌, inl, inr, arith}
use Rattle.std.specs.Prelude.{if◌then◌else◌}
use Rattle.std.proofs.lemmas.Bool.{ne_eqb, and_parts}
use Rattle.std.proofs.lemmas.Bool.Decides.{nat_tests}
use Rattle.std.proofs.lemmas.List.{drop_more, take_more, take-take, take-append-drop, get_or-drop, length-drop, map-append}
use Rattle.std.proofs.lemmas.List.Folds.{list_all-append}
use Rattle.std.proofs.Math.ListN.{drop_of_length-le}
use Rattle.rl_tree.specs.Bytes.{is_blank, is_digit, is_letter, is_name_byte, raised}
use Rattle.rl_text.specs.Datum.{Datum, quoted}
use Rattle.rl_text.specs.Word.{Atom, Integer, Identifier, String, signed, datum_of_atom}
use Rattle.rl_text.specs.Reader.{ReaderFrame, Mode, Gap, InName, InEscape, InNumber, InText, AfterQuote, Ended, Whole, Inside, Lacks, ReaderStep, Goes, Refuses, ReaderOutcome, Refused, admits, value_ended, atom_ended, atom_before, goes_before, reader_step, after_step, read_from, at_end, ends_after, left, Listing, Vectoring, Quoting, Begun, Going, Dotted, Shut}
use Rattle.rl_text.specs.Reading.{Items, plain}
use Rattle.rl_grammar.specs.Lexer.{has_no_escape}
use Rattle.rl_lex.specs.Scans.{data_read, read_behind, read_behind_atom, text_between, IsTextOf, IsOneByte}

abbrev pub Frames : Type 0
Frames = List (ReaderFrame Items)

abbrev pub PlainStep : Type 0
PlainStep = ReaderStep (Unit {0}) Datum Items ⊥

-- ---- a byte

abbrev pub stepped : ℕ → List ℕ → PlainStep → ReaderOutcome (Unit {0}) Datum ⊥
stepped b bs st = after_step b bs st (λ mode fs s. read_from plain mode fs s bs)

pub read_byte : (mode : Mode) (fs : Frames) (bytes : List ℕ) (i : ℕ) → i < length bytes → data_read mode fs (drop i bytes) ≡ stepped (get_or bytes i 0) (drop (i + 1) bytes) (reader_step plain mode (get_or bytes i 0) fs tt)
read_byte mode fs bytes i below = ap (λ (rest : List ℕ). data_read mode fs rest) (drop_more bytes i 0 below)

pub read_on : (mode further : Mode) (fs more : Frames) (bytes : List ℕ) (i : ℕ) → i < length bytes → reader_step plain mode (get_or bytes i 0) fs tt ≡ Goes further more tt → data_read mode fs (drop i bytes) ≡ data_read further more (drop (i + 1) bytes)
read_on mode further fs more bytes i below goes = read_byte mode fs bytes i below ∙ ap (stepped (get_or bytes i 0) (drop (i + 1) bytes)) goes

-- two bytes
pub read_on_twice : (mode between further : Mode) (fs : Frames) (bytes : List ℕ) (i : ℕ) → i + 1 < length bytes → reader_step plain mode (get_or bytes i 0) fs tt ≡ Goes between fs tt → reader_step plain between (get_or bytes (i + 1) 0) fs tt ≡ Goes further fs tt → data_read mode fs (drop i bytes) ≡ data_read further fs (drop (i + 2) bytes)
read_on_twice mode between further fs bytes i below first second =
    let two : i + 1 + 1 ≡ i + 2 = omega arith in
    read_on mode between fs fs bytes i (omega arith) first ∙ read_on between further fs fs bytes (i + 1) below second ∙ ap (λ (n : ℕ). data_read further fs (drop n bytes)) two

-- the bytes end
pub read_end : (mode : Mode) (fs : Frames) (bytes : List ℕ) (i : ℕ) → i ≡ length bytes → at_end plain mode fs tt ≡ Refused tt [] → data_read mode fs (drop i bytes) ≡ Refused tt (drop i bytes)
read_end mode fs bytes i end refuses = let none : drop i bytes ≡ [] = drop_of_length-le bytes (omega arith) in rw none refuses

pub read_refused : (mode : Mode) (fs : Frames) (bytes : List ℕ) (i : ℕ) → i < length bytes → reader_step plain mode (get_or bytes i 0) fs tt ≡ Refuses tt → data_read mode fs (drop i bytes) ≡ Refused tt (drop i bytes)
read_refused mode fs bytes i below refuses =
    read_byte mode fs bytes i below
    ∙ ap (stepped (get_or bytes i 0) (drop (i + 1) bytes)) refuses
    ∙ ap (λ (rest : List ℕ). Refused tt rest) (sym (drop_more bytes i 0 below))

-- an element has ended before a byte
before_byte : (b : ℕ) (bs : List ℕ) (e : Ended (Unit {0}) Datum Items ⊥) → stepped b bs (goes_before plain b e) ≡ read_behind (b ∷ bs) e
before_byte b bs (Whole v s) = refl
before_byte b bs (Inside fs s) = refl
before_byte b bs (Lacks w s) = absurd w

pub read_before : (mode : Mode) (a : Atom) (fs : Frames) (bytes : List ℕ) (i : ℕ) → i < length bytes → reader_step plain mode (get_or bytes i 0) fs tt ≡ atom_before plain a (get_or bytes i 0) fs tt → data_read mode fs (drop i bytes) ≡ read_behind_atom a fs (drop i bytes)
read_before mode a fs bytes i below ends =
    read_byte mode fs bytes i below
    ∙ ap (stepped (get_or bytes i 0) (drop (i + 1) bytes)) ends
    ∙ before_byte (get_or bytes i 0) (drop (i + 1) bytes) (value_ended plain (datum_of_atom a) fs tt)
    ∙ ap (λ (rest : List ℕ). read_behind_atom a fs rest) (sym (drop_more bytes i 0 below))

-- ---- what a byte does to a word

pub name_grows : (name : List ℕ) (b : ℕ) (fs : Frames) → is_name_byte b ≡ true → length name < 255 → reader_step plain (InName name) b fs tt ≡ Goes (InName (name ++ raised b ∷ [])) fs tt
name_grows name b fs is short = let test : nat_lt (length name) 255 ≡ true = grind (arith, nat_tests) in rw (is, test) refl

pub name_full : (name : List ℕ) (b : ℕ) (fs : Frames) → is_name_byte b ≡ true → length name ≡ 255 → reader_step plain (InName name) b fs tt ≡ Refuses tt
name_full name b fs is long = rw (is, long) refl

pub name_escapes : (name : List ℕ) (b : ℕ) (fs : Frames) → b ≡ 33 → length name < 255 → reader_step plain (InName name) b fs tt ≡ Goes (InEscape name) fs tt
name_escapes name b fs is short = let test : nat_lt (length name) 255 ≡ true = grind (arith, nat_tests) in rw (is, test) refl

pub name_escapes_none : (name : List ℕ) (b : ℕ) (fs : Frames) → b ≡ 33 → length name ≡ 255 → reader_step plain (InName name) b fs tt ≡ Refuses tt
name_escapes_none name b fs is long = rw (is, long) refl

pub name_ends : (name : List ℕ) (b : ℕ) (fs : Frames) → is_name_byte b ≡ false → b ≢ 33 → reader_step plain (InName name) b fs tt ≡ atom_before plain (Identifier name) b fs tt
name_ends name b fs other plain_byte = rw (other, ne_eqb b 33 plain_byte) refl

-- a name begins as one without bytes goes on
pub letter_begins_name : (b : ℕ) (fs : Frames) → is_letter b ≡ true → admits fs ≡ true → reader_step plain Gap b fs tt ≡ Goes (InName (raised b ∷ [])) fs tt
letter_begins_name b fs letter admitted =
    let solid : is_blank b ≡ false = grind (arith, nat_tests) in
    rw (solid, letter, admitted) refl

pub escape_begins_name : (b : ℕ) (fs : Frames) → b ≡ 33 → admits fs ≡ true → reader_step plain Gap b fs tt ≡ Goes (InEscape []) fs tt
escape_begins_name b fs is admitted = rw (is, admitted) refl

-- any letter or `!` begins a name
pub name_begins : (fs : Frames) (bytes : List ℕ) (at : ℕ) → at < length bytes → (is_letter (get_or bytes at 0) ≡ true) ⊎ (get_or bytes at 0 ≡ 33) → admits fs ≡ true → data_read Gap fs (drop at bytes) ≡ data_read (InName []) fs (drop at bytes)
name_begins fs bytes at below (inl letter) admitted =
    let b = get_or bytes at 0 in
    let is : is_name_byte b ≡ true = rw letter refl in
    read_on Gap (InName (raised b ∷ [])) fs fs bytes at below (letter_begins_name b fs letter admitted)
    ∙ sym (read_on (InName []) (InName (raised b ∷ [])) fs fs bytes at below (name_grows [] b fs is (lit< tt)))
name_begins fs bytes at below (inr escape) admitted =
    read_on Gap (InEscape []) fs fs bytes at below (escape_begins_name _ fs escape admitted)
    ∙ sym (read_on (InName []) (InEscape []) fs fs bytes at below (name_escapes [] _ fs escape (lit< tt)))

pub text_grows : (text : List ℕ) (b : ℕ) (fs : Frames) → b ≢ 34 → length text < 65535 → reader_step plain (InText text) b fs tt ≡ Goes (InText (text ++ b ∷ [])) fs tt
text_grows text b fs other short = let test : nat_lt (length text) 65535 ≡ true = grind (arith, nat_tests) in rw (ne_eqb b 34 other, test) refl

pub text_full : (text : List ℕ) (b : ℕ) (fs : Frames) → b ≢ 34 → length text ≡ 65535 → reader_step plain (InText text) b fs tt ≡ Refuses tt
text_full text b fs other long = rw (ne_eqb b 34 other, long) refl

pub text_quotes : (text : List ℕ) (b : ℕ) (fs : Frames) → b ≡ 34 → reader_step plain (InText text) b fs tt ≡ Goes (AfterQuote text) fs tt
text_quotes text b fs is = rw is refl

pub quote_grows : (text : List ℕ) (b : ℕ) (fs : Frames) → b ≡ 34 → length text < 65535 → reader_step plain (AfterQuote text) b fs tt ≡ Goes (InText (text ++ 34 ∷ [])) fs tt
quote_grows text b fs is short = let test : nat_lt (length text) 65535 ≡ true = grind (arith, nat_tests) in rw (is, test) refl

pub quote_full : (text : List ℕ) (b : ℕ) (fs : Frames) → b ≡ 34 → length text ≡ 65535 → reader_step plain (AfterQuote text) b fs tt ≡ Refuses tt
quote_full text b fs is long = rw (is, long) refl

pub quote_ends : (text : List ℕ) (b : ℕ) (fs : Frames) → b ≢ 34 → reader_step plain (AfterQuote text) b fs tt ≡ atom_before plain (String text) b fs tt
quote_ends text b fs other = rw (ne_eqb b 34 other) refl

pub digit_grows : (minus : Bool) (n b : ℕ) (fs : Frames) → is_digit b ≡ true → (if minus then nat_le (10 * n + (b - 48)) (2 ^ 59) else nat_lt (10 * n + (b - 48)) (2 ^ 59)) ≡ true → reader_step plain (InNumber minus n) b fs tt ≡ Goes (InNumber minus (10 * n + (b - 48))) fs tt
digit_grows minus n b fs digit small = rw (digit, small) refl

pub digit_full : (minus : Bool) (n b : ℕ) (fs : Frames) → is_digit b ≡ true → (if minus then nat_le (10 * n + (b - 48)) (2 ^ 59) else nat_lt (10 * n + (b - 48)) (2 ^ 59)) ≡ false → reader_step plain (InNumber minus n) b fs tt ≡ Refuses tt
digit_full minus n b fs digit large = rw (digit, large) refl

pub digits_end_before : (minus : Bool) (n b : ℕ) (fs : Frames) → is_digit b ≡ false → reader_step plain (InNumber minus n) b fs tt ≡ atom_before plain (Integer (signed minus n)) b fs tt
digits_end_before minus n b fs other = rw other refl

-- ---- the end of the bytes

-- something is left where an element has ended inside
inside_some : (v : Datum) (fs : Frames) (s : Unit {0}) (rest : List ℕ) → ends_after (value_ended plain v fs s) ≡ read_behind [] (value_ended plain v fs s)
inside_some v [] s rest = refl
inside_some v (Quoting ∷ fs) s rest = inside_some (quoted v) fs (left plain fs s) rest
inside_some v (Vectoring l ∷ fs) s rest = refl
inside_some v (Listing l n Begun ∷ fs) s rest = refl
inside_some v (Listing l n Going ∷ fs) s rest = refl
inside_some v (Listing l n Dotted ∷ fs) s rest = refl
inside_some v (Listing l n Shut ∷ fs) s rest = refl

pub ends_at_end : (a : Atom) (fs : Frames) → ends_after (atom_ended plain a fs tt) ≡ read_behind_atom a fs []
ends_at_end a fs = inside_some (datum_of_atom a) fs tt []

-- a word that may end ends with the bytes
pub read_last : (mode : Mode) (a : Atom) (fs : Frames) (bytes : List ℕ) (i : ℕ) → i ≡ length bytes → at_end plain mode fs tt ≡ ends_after (atom_ended plain a fs tt) → data_read mode fs (drop i bytes) ≡ read_behind_atom a fs (drop i bytes)
read_last mode a fs bytes i end ends = let none : drop i bytes ≡ [] = drop_of_length-le bytes (omega arith) in rw none (ends ∙ ends_at_end a fs)

-- ---- names and their text

-- a place where a name ends is behind its first byte
pub name_has_begun : (bytes : List ℕ) (at i : ℕ) → (i ≡ at) ⊎ (at < i) → (is_letter (get_or bytes at 0) ≡ true) ⊎ (get_or bytes at 0 ≡ 33) → is_name_byte (get_or bytes i 0) ≡ false → get_or bytes i 0 ≢ 33 → at < i
name_has_begun bytes at i (inr behind) begins other plain_byte = behind
name_has_begun bytes at i (inl same) (inl letter) other plain_byte =
    absurd (let no_letter : is_name_byte (get_or bytes at 0) ≡ false = rw (← same) other in let is : is_name_byte (get_or bytes at 0) ≡ true = rw letter refl in cc)
name_has_begun bytes at i (inl same) (inr escape) other plain_byte = absurd (plain_byte (ap (λ (n : ℕ). get_or bytes n 0) same ∙ escape))

pub no_text : (bytes : List ℕ) (at : ℕ) → IsTextOf bytes at at []
no_text bytes at bare = let zero_long : at - at ≡ 0 = omega arith in rw zero_long refl

text_more : (bytes : List ℕ) (at i : ℕ) → at ≤ i → i < length bytes → text_between bytes at (i + 1) ≡ text_between bytes at i ++ get_or bytes i 0 ∷ []
text_more bytes at i after below =
    let more : i + 1 - at ≡ (i - at) + 1 = omega arith in
    let size = length-drop at bytes in
    let place : at + (i - at) ≡ i = omega arith in
    let byte : get_or (drop at bytes) (i - at) 0 ≡ get_or bytes i 0 = get_or-drop at bytes (i - at) 0 ∙ ap (λ (n : ℕ). get_or bytes n 0) place in
    ap (λ (n : ℕ). take n (drop at bytes)) more ∙ take_more (drop at bytes) (i - at) 0 (omega arith) ∙ ap (λ (b : ℕ). text_between bytes at i ++ b ∷ []) byte

-- one byte more of a text
pub text_grown : (bytes : List ℕ) (at i : ℕ) (name : List ℕ) → at ≤ i → i < length bytes → IsTextOf bytes at i name → IsTextOf bytes at (i + 1) (name ++ raised (get_or bytes i 0) ∷ [])
text_grown bytes at i name after below text bare =
    let more = text_more bytes at i after below in
    let parts = and_parts _ _ (sym (list_all-append (λ (b : ℕ). not (b == 33)) (text_between bytes at i) (get_or bytes i 0 ∷ [])) ∙ ap has_no_escape (sym more) ∙ bare) in
    ap (λ (bs : List ℕ). bs ++ raised (get_or bytes i 0) ∷ []) (text parts.0) ∙ sym (map-append raised (text_between bytes at i) (get_or bytes i 0 ∷ [])) ∙ ap (map raised) (sym more)

-- a text with `!` in it
pub text_escaped : (bytes : List ℕ) (at i j : ℕ) (name : List ℕ) → at ≤ i → i < j → i < length bytes → get_or bytes i 0 ≡ 33 → IsTextOf bytes at j name
text_escaped bytes at i j name after behind below escape bare =
    let more = text_more bytes at i after below in
    let front : take (i + 1 - at) (text_between bytes at j) ≡ text_between bytes at (i + 1) = take-take (i + 1 - at) (j - at) (drop at bytes) (omega arith) in
    let split : text_between bytes at j ≡ text_between bytes at (i + 1) ++ drop (i + 1 - at) (text_between bytes at j) = sym (take-append-drop (i + 1 - at) (text_between bytes at j)) ∙ ap (λ (bs : List ℕ). bs ++ drop (i + 1 - at) (text_between bytes at j)) front in
    let parts = and_parts _ _ (sym (list_all-append (λ (b : ℕ). not (b == 33)) (text_between bytes at (i + 1)) (drop (i + 1 - at) (text_between bytes at j))) ∙ ap has_no_escape (sym split) ∙ bare) in
    let last = and_parts _ _ (sym (list_all-append (λ (b : ℕ). not (b == 33)) (text_between bytes at i) (get_or bytes i 0 ∷ [])) ∙ ap has_no_escape (sym more) ∙ parts.0) in
    absurd (none_escaped (get_or bytes i 0) escape last.1)
  where
    none_escaped : (b : ℕ) → b ≡ 33 → has_no_escape (b ∷ []) ≡ true → ⊥
    none_escaped b is bare = let never : false ≡ true = subst (λ (x : ℕ). has_no_escape (x ∷ []) ≡ true) is bare in cc

-- the text of a name with what stands next
pub text_next : (bytes : List ℕ) (at i j byte : ℕ) (name : List ℕ) → at ≤ i → i < j → i < length bytes → IsTextOf bytes at i name → IsOneByte bytes i j byte → IsTextOf bytes at j (name ++ byte ∷ [])
text_next bytes at i j byte name after behind below text (inl escape) = text_escaped bytes at i j (name ++ byte ∷ []) after behind below escape
text_next bytes at i j byte name after behind below text (inr one) =
    subst (λ (n : ℕ). IsTextOf bytes at n (name ++ byte ∷ [])) (sym one.0)
    (subst (λ (b : ℕ). IsTextOf bytes at (i + 1) (name ++ b ∷ [])) (sym one.1) (text_grown bytes at i name after below text))

pub after_begun : (at i : ℕ) → (i ≡ at) ⊎ (at < i) → at ≤ i
after_begun at i (inl same) = omega arith
after_begun at i (inr behind) = omega arith
