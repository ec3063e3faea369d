-- Of which class a byte is: the classes of blanks, letters, digits and specials.
use Rattle.std.proofs.Common.{◌≡◌, ℕ, true, false, ◌&&◌, ◌==◌, not, nat_le, refl, inl, inr, arith, eqb-true}
use Rattle.std.proofs.lemmas.Bool.{cond-true, or_cases, and_parts, not-true}
use Rattle.std.proofs.lemmas.Bool.Decides.{nat_tests}
use Rattle.rl_tree.specs.Bytes.{is_blank, is_letter, is_digit}
use Rattle.rl_text.specs.Byte.{is_reserved, is_sign, is_special, Blank, Letter, Digit, Sign, Special, class_of}

digit_no_letter : (b : ℕ) → is_digit b ≡ true → is_letter b ≡ false
digit_no_letter b digit = grind (arith, nat_tests)

-- a letter is no blank
letter_no_blank : (b : ℕ) → is_letter b ≡ true → is_blank b ≡ false
letter_no_blank b letter = grind (arith, nat_tests)

-- a digit is no blank
digit_no_blank : (b : ℕ) → is_digit b ≡ true → is_blank b ≡ false
digit_no_blank b digit = grind (arith, nat_tests)

-- a blank is of the class of blanks
pub blank_class : (b : ℕ) → is_blank b ≡ true → class_of b ≡ Blank
blank_class b blank = cond-true (is_blank b) Blank _ blank

-- a letter is of the class of letters
pub letter_class : (b : ℕ) → is_letter b ≡ true → class_of b ≡ Letter
letter_class b letter = rw (letter_no_blank b letter, letter) refl

-- a digit is of the class of digits
pub digit_class : (b : ℕ) → is_digit b ≡ true → class_of b ≡ Digit
digit_class b digit = rw (digit_no_blank b digit, digit_no_letter b digit, digit) refl

-- `+` and `-` are of the class of signs
pub sign_class : (b : ℕ) → is_sign b ≡ true → class_of b ≡ Sign
sign_class b sign = elim (or_cases (b == 43) (b == 45) sign) [
  | inl e ↦ rw (eqb-true b 43 e) refl
  | inr e ↦ rw (eqb-true b 45 e) refl
]

-- a byte that is not reserved is none of the reserved ones
record IsOrdinary (b : ℕ) : Type 0 where
  no_escape : (b == 33) ≡ false
  no_text : (b == 34) ≡ false
  no_percent : (b == 37) ≡ false
  no_quote : (b == 39) ≡ false
  no_open : (b == 40) ≡ false
  no_close : (b == 41) ≡ false
  no_dot : (b == 46) ≡ false
  no_open_vector : (b == 91) ≡ false
  no_close_vector : (b == 93) ≡ false

-- none of the tests for a reserved byte passes where the byte is not reserved
is_ordinary : (b : ℕ) → is_reserved b ≡ false → IsOrdinary b
is_ordinary b free = record {
  no_escape = grind (arith, nat_tests);
  no_text = grind (arith, nat_tests);
  no_percent = grind (arith, nat_tests);
  no_quote = grind (arith, nat_tests);
  no_open = grind (arith, nat_tests);
  no_close = grind (arith, nat_tests);
  no_dot = grind (arith, nat_tests);
  no_open_vector = grind (arith, nat_tests);
  no_close_vector = grind (arith, nat_tests);
}

-- what a special is not
record IsNoOther (b : ℕ) : Type 0 where
  no_blank : is_blank b ≡ false
  no_letter : is_letter b ≡ false
  no_digit : is_digit b ≡ false
  no_reserved : is_reserved b ≡ false

-- a special is a byte of no other sort
is_no_other : (b : ℕ) → is_special b ≡ true → IsNoOther b
is_no_other b special =
    let free = and_parts (nat_le 33 b && nat_le b 126 && not (is_letter b) && not (is_digit b)) (not (is_reserved b)) special in
    let no_digit = and_parts (nat_le 33 b && nat_le b 126 && not (is_letter b)) (not (is_digit b)) free.0 in
    let no_letter = and_parts (nat_le 33 b && nat_le b 126) (not (is_letter b)) no_digit.0 in
    let range = and_parts (nat_le 33 b) (nat_le b 126) no_letter.0 in
    record {
      no_blank = above_no_blank b range.0;
      no_letter = not-true (is_letter b) no_letter.1;
      no_digit = not-true (is_digit b) no_digit.1;
      no_reserved = not-true (is_reserved b) free.1;
    }
  where
    above_no_blank : (c : ℕ) → nat_le 33 c ≡ true → is_blank c ≡ false
    above_no_blank c e = grind (arith, nat_tests)

-- a special that is no sign is of the class of specials
pub special_class : (b : ℕ) → is_special b ≡ true → is_sign b ≡ false → class_of b ≡ Special
special_class b special no_sign =
    let no = is_no_other b special in
    let plain = is_ordinary b no.no_reserved in
    rw (special, no.no_blank, no.no_letter, no.no_digit, plain.no_open, plain.no_close, plain.no_dot, plain.no_quote, plain.no_open_vector, plain.no_close_vector, plain.no_text, plain.no_escape, plain.no_percent, no_sign) refl
