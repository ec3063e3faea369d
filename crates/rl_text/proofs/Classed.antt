-- What the class of a byte says of the byte.
use Rattle.std.proofs.Common.{◌≡◌, ℕ, true, false, ◌==◌, refl, inl, inr, eqb-true}
use Rattle.std.proofs.lemmas.Bool.{cond_both, cond-true, or_cases}
use Rattle.rl_tree.specs.Bytes.{is_blank, is_digit, is_letter}
use Rattle.rl_text.specs.Byte.{Class, Blank, Percent, Marks, Text, Escape, Letter, Digit, Sign, Special, Nothing, Open, Close, Dot, Quote, OpenVector, CloseVector, mark_byte, is_sign, is_special, class_of}

-- what is so of the bytes of a class
abbrev pub IsOf : Class → ℕ → Type 0
IsOf Blank b = is_blank b ≡ true
IsOf Percent b = b ≡ 37
IsOf (Marks mark) b = b ≡ mark_byte mark
IsOf Text b = b ≡ 34
IsOf Escape b = b ≡ 33
IsOf Letter b = is_letter b ≡ true
IsOf Digit b = is_digit b ≡ true
IsOf Sign b = is_sign b ≡ true
IsOf Special b = (is_special b ≡ true) × (is_sign b ≡ false)
IsOf Nothing b = Unit {0}

-- each byte is as its class says
pub class_says : (b : ℕ) → IsOf (class_of b) b
class_says b =
    let P : Class → Type 0 = λ c. IsOf c b in
    cond_both (is_blank b) Blank _ P (λ e. e) (λ e.
    cond_both (is_letter b) Letter _ P (λ e. e) (λ e.
    cond_both (is_digit b) Digit _ P (λ e. e) (λ e.
    cond_both (b == 40) (Marks Open) _ P (λ e. eqb-true b 40 e) (λ e.
    cond_both (b == 41) (Marks Close) _ P (λ e. eqb-true b 41 e) (λ e.
    cond_both (b == 46) (Marks Dot) _ P (λ e. eqb-true b 46 e) (λ e.
    cond_both (b == 39) (Marks Quote) _ P (λ e. eqb-true b 39 e) (λ e.
    cond_both (b == 91) (Marks OpenVector) _ P (λ e. eqb-true b 91 e) (λ e.
    cond_both (b == 93) (Marks CloseVector) _ P (λ e. eqb-true b 93 e) (λ e.
    cond_both (b == 34) Text _ P (λ e. eqb-true b 34 e) (λ e.
    cond_both (b == 33) Escape _ P (λ e. eqb-true b 33 e) (λ e.
    cond_both (b == 37) Percent _ P (λ e. eqb-true b 37 e) (λ e.
    cond_both (is_sign b) Sign _ P (λ e. e) (λ unsigned.
    cond_both (is_special b) Special Nothing P (λ e. (e, unsigned)) (λ e. tt))))))))))))))

-- a blank is classed as one
pub blank_classed : (b : ℕ) → is_blank b ≡ true → class_of b ≡ Blank
blank_classed b blank = cond-true (is_blank b) Blank _ blank

-- `%` is classed as that
pub percent_classed : (b : ℕ) → (b == 37) ≡ true → class_of b ≡ Percent
percent_classed b percent = rw (eqb-true b 37 percent) refl

-- `%` is no blank
pub percent_no_blank : (b : ℕ) → b ≡ 37 → is_blank b ≡ false
percent_no_blank b percent = rw percent refl

-- a sign is a special
pub sign_is_special : (b : ℕ) → is_sign b ≡ true → is_special b ≡ true
sign_is_special b sign =
    elim (or_cases (b == 43) (b == 45) sign) [
      | inl e ↦ rw (eqb-true b 43 e) refl
      | inr e ↦ rw (eqb-true b 45 e) refl
    ]

-- a sign that is not `-` is `+`
pub plus_left : (b : ℕ) → is_sign b ≡ true → (b == 45) ≡ false → b ≡ 43
plus_left b sign other =
    elim (or_cases (b == 43) (b == 45) sign) [
      | inl e ↦ eqb-true b 43 e
      | inr e ↦ absurd cc
    ]
