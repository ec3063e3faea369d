-- What a byte may begin where a spelling may stand.
use Rattle.std.specs.Prelude.{ℕ, Bool, ◌&&◌, ◌||◌, ◌==◌, nat_le, not, if◌then◌else◌}
use Rattle.rl_tree.specs.Bytes.{is_blank, is_digit, is_letter}

-- ( ) . ' [ ]
pub data Mark : Type 0 where
  Open : Mark
  Close : Mark
  Dot : Mark
  Quote : Mark
  OpenVector : Mark
  CloseVector : Mark

abbrev pub mark_byte : Mark → ℕ
mark_byte Open = 40
mark_byte Close = 41
mark_byte Dot = 46
mark_byte Quote = 39
mark_byte OpenVector = 91
mark_byte CloseVector = 93

-- ! " % ' ( ) . [ ]
abbrev pub is_reserved : ℕ → Bool
is_reserved b = b == 33 || b == 34 || b == 37 || b == 39 || b == 40 || b == 41 || b == 46 || b == 91 || b == 93

-- + -
abbrev pub is_sign : ℕ → Bool
is_sign b = b == 43 || b == 45

-- a byte that is an identifier by itself: from 33 to 126, no letter, no digit, and not reserved
abbrev pub is_special : ℕ → Bool
is_special b = nat_le 33 b && nat_le b 126 && not (is_letter b) && not (is_digit b) && not (is_reserved b)

pub data Class : Type 0 where
  Blank : Class
  Percent : Class
  Marks : Mark → Class
  Text : Class
  Escape : Class
  Letter : Class
  Digit : Class
  Sign : Class
  Special : Class
  Nothing : Class

abbrev pub class_of : ℕ → Class
class_of b =
    if is_blank b then Blank
    else (if is_letter b then Letter
    else (if is_digit b then Digit
    else (if b == 40 then Marks Open
    else (if b == 41 then Marks Close
    else (if b == 46 then Marks Dot
    else (if b == 39 then Marks Quote
    else (if b == 91 then Marks OpenVector
    else (if b == 93 then Marks CloseVector
    else (if b == 34 then Text
    else (if b == 33 then Escape
    else (if b == 37 then Percent
    else (if is_sign b then Sign
    else (if is_special b then Special
    else Nothing)))))))))))))
