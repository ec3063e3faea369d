-- Reading Lisp text from its front, byte by byte: what it makes, what follows it, or the first byte with which no spelling goes on. Each byte takes a turn; a list, a vector and a quote that is an element of a list or a vector, or is quoted, takes a level until it ends; an atom is made as its spelling ends, a pair as each element ends.
use Rattle.std.specs.Prelude.{ℕ, zero, suc, ◌+◌, ◌-◌, ◌*◌, ◌^◌, Bool, true, false, ◌==◌, nat_lt, nat_le, if◌then◌else◌, List, [], ◌∷◌, ◌++◌, length}
use Rattle.rl_tree.specs.Bytes.{is_digit, is_name_byte, raised}
use Rattle.rl_text.specs.Byte.{Mark, Open, Close, Dot, Quote, OpenVector, CloseVector, Class, Blank, Percent, Marks, Text, Escape, Letter, Digit, Sign, Special, Nothing, class_of}
use Rattle.rl_text.specs.Word.{Atom, Integer, Identifier, String, signed}
use Rattle.rl_text.specs.Maker.{Made, Has, Wants, Maker}

-- ---- what has begun

-- how far a list is: it has no element yet; it has some; its dot has come; what stands behind its dot has come
pub data Phase : Type 0 where
  Begun : Phase
  Going : Phase
  Dotted : Phase
  Shut : Phase

pub data ReaderFrame (L : Type 0) : Type 0 where
  -- a list. A list behind its dot goes on with it, so it is one list to so many `)` more, and the innermost is so far
  Listing : L → ℕ → Phase → ReaderFrame L
  Vectoring : L → ReaderFrame L
  Quoting : ReaderFrame L

-- in what the next byte stands; a name and a string by the bytes that it has so far
pub data Mode : Type 0 where
  Gap : Mode
  Comment : Mode
  InName : List ℕ → Mode
  -- after `!`
  InEscape : List ℕ → Mode
  -- after `+` or `-`
  AfterSign : ℕ → Mode
  -- of a negative number or not
  InNumber : Bool → ℕ → Mode
  InText : List ℕ → Mode
  -- after a `"` that ends the string or is the first of two
  AfterQuote : List ℕ → Mode

-- an element is in a list or a vector, or is quoted
abbrev pub is_inner : {L : Type 0} → List (ReaderFrame L) → Bool
is_inner [] = false
is_inner (Listing l n Dotted ∷ fs) = false
is_inner (Listing l n phase ∷ fs) = true
is_inner (Vectoring l ∷ fs) = true
is_inner (Quoting ∷ fs) = true

-- a spelling may stand here
abbrev pub admits : {L : Type 0} → List (ReaderFrame L) → Bool
admits (Listing l n Shut ∷ fs) = false
admits fs = true

-- ---- an element ends

-- the whole text has ended with it, or it goes on, or something is wanting
pub data Ended (S V L W : Type 0) : Type 0 where
  Whole : V → S → Ended S V L W
  Inside : List (ReaderFrame L) → S → Ended S V L W
  Lacks : W → S → Ended S V L W

abbrev pub ended_with : {S A V L W : Type 0} → Made S A W → (A → S → Ended S V L W) → Ended S V L W
ended_with (Has a s) next = next a s
ended_with (Wants w s) next = Lacks w s

-- the level of a list, a vector or a quote is left
abbrev pub left : {S V L W : Type 0} → Maker S V L W → List (ReaderFrame L) → S → S
left m fs s = if is_inner fs then m.leave s else s

abbrev pub value_ended : {S V L W : Type 0} → Maker S V L W → V → List (ReaderFrame L) → S → Ended S V L W
value_ended m v [] s = Whole v s
value_ended m v (Quoting ∷ fs) s = ended_with (m.quoted v s) (λ q s. value_ended m q fs (left m fs s))
value_ended m v (Vectoring l ∷ fs) s = ended_with (m.extended l v s) (λ l s. Inside (Vectoring l ∷ fs) s)
value_ended m v (Listing l n Dotted ∷ fs) s = ended_with (m.ended l v s) (λ l s. Inside (Listing l n Shut ∷ fs) s)
value_ended m v (Listing l n phase ∷ fs) s = ended_with (m.extended l v s) (λ l s. Inside (Listing l n Going ∷ fs) s)

-- ---- a byte

-- it goes on; the text has ended, with this byte or before it; this byte has no place; or something is wanting
pub data ReaderStep (S V L W : Type 0) : Type 0 where
  Goes : Mode → List (ReaderFrame L) → S → ReaderStep S V L W
  Done : V → Bool → S → ReaderStep S V L W
  Refuses : S → ReaderStep S V L W
  Halts : W → S → ReaderStep S V L W

abbrev pub goes_with : {S A V L W : Type 0} → Made S A W → (A → S → ReaderStep S V L W) → ReaderStep S V L W
goes_with (Has a s) next = next a s
goes_with (Wants w s) next = Halts w s

-- an element has ended with this byte
abbrev pub goes_after : {S V L W : Type 0} → Ended S V L W → ReaderStep S V L W
goes_after (Whole v s) = Done v true s
goes_after (Inside fs s) = Goes Gap fs s
goes_after (Lacks w s) = Halts w s

-- a list, a vector or a quote begins
abbrev pub group_begins : {S V L W : Type 0} → Maker S V L W → ReaderFrame L → List (ReaderFrame L) → S → ReaderStep S V L W
group_begins m frame fs s = if is_inner fs then goes_with (m.enter s) (λ _ s. Goes Gap (frame ∷ fs) s) else Goes Gap (frame ∷ fs) s

abbrev pub open_list : {S V L W : Type 0} → Maker S V L W → List (ReaderFrame L) → S → ReaderStep S V L W
open_list m (Listing l n Dotted ∷ fs) s = Goes Gap (Listing l (suc n) Begun ∷ fs) s
open_list m fs s = group_begins m (Listing m.empty 0 Begun) fs s

abbrev pub close_list : {S V L W : Type 0} → Maker S V L W → List (ReaderFrame L) → S → ReaderStep S V L W
close_list m (Listing l n Dotted ∷ fs) s = Refuses s
close_list m (Listing l zero phase ∷ fs) s = goes_after (value_ended m (m.list l) fs (left m fs s))
close_list m (Listing l (suc n) Shut ∷ fs) s = Goes Gap (Listing l n Shut ∷ fs) s
close_list m (Listing l (suc n) phase ∷ fs) s = goes_with (m.ended l m.nil s) (λ l s. Goes Gap (Listing l n Shut ∷ fs) s)
close_list m fs s = Refuses s

abbrev pub dot : {S V L W : Type 0} → Maker S V L W → List (ReaderFrame L) → S → ReaderStep S V L W
dot m (Listing l n Going ∷ fs) s = Goes Gap (Listing l n Dotted ∷ fs) s
dot m fs s = Refuses s

abbrev pub close_vector : {S V L W : Type 0} → Maker S V L W → List (ReaderFrame L) → S → ReaderStep S V L W
close_vector m (Vectoring l ∷ fs) s = goes_after (ended_with (m.vector l s) (λ v s. value_ended m v fs (left m fs s)))
close_vector m fs s = Refuses s

abbrev pub at_mark : {S V L W : Type 0} → Maker S V L W → Mark → List (ReaderFrame L) → S → ReaderStep S V L W
at_mark m Close fs s = close_list m fs s
at_mark m CloseVector fs s = close_vector m fs s
at_mark m Dot fs s = dot m fs s
at_mark m Open fs s = if admits fs then open_list m fs s else Refuses s
at_mark m OpenVector fs s = if admits fs then group_begins m (Vectoring m.empty) fs s else Refuses s
at_mark m Quote fs s = if admits fs then group_begins m Quoting fs s else Refuses s

-- an atom ends
abbrev pub atom_ended : {S V L W : Type 0} → Maker S V L W → Atom → List (ReaderFrame L) → S → Ended S V L W
atom_ended m a fs s = ended_with (m.atom a s) (λ v s. value_ended m v fs s)

-- a word begins
abbrev pub in_word : {S V L W : Type 0} → Mode → List (ReaderFrame L) → S → ReaderStep S V L W
in_word mode fs s = if admits fs then Goes mode fs s else Refuses s

abbrev pub at_class : {S V L W : Type 0} → Maker S V L W → Class → ℕ → List (ReaderFrame L) → S → ReaderStep S V L W
at_class m Blank b fs s = Goes Gap fs s
at_class m Percent b fs s = Goes Comment fs s
at_class m (Marks mark) b fs s = at_mark m mark fs s
at_class m Text b fs s = in_word (InText []) fs s
at_class m Escape b fs s = in_word (InEscape []) fs s
at_class m Letter b fs s = in_word (InName (raised b ∷ [])) fs s
at_class m Digit b fs s = in_word (InNumber false (b - 48)) fs s
at_class m Sign b fs s = in_word (AfterSign b) fs s
at_class m Special b fs s = if admits fs then goes_after (atom_ended m (Identifier (b ∷ [])) fs s) else Refuses s
at_class m Nothing b fs s = Refuses s

abbrev pub at_gap : {S V L W : Type 0} → Maker S V L W → ℕ → List (ReaderFrame L) → S → ReaderStep S V L W
at_gap m b fs s = at_class m (class_of b) b fs s

-- an element has ended before this byte
abbrev pub goes_before : {S V L W : Type 0} → Maker S V L W → ℕ → Ended S V L W → ReaderStep S V L W
goes_before m b (Whole v s) = Done v false s
goes_before m b (Inside fs s) = at_gap m b fs s
goes_before m b (Lacks w s) = Halts w s

abbrev pub atom_before : {S V L W : Type 0} → Maker S V L W → Atom → ℕ → List (ReaderFrame L) → S → ReaderStep S V L W
atom_before m a b fs s = goes_before m b (atom_ended m a fs s)

-- a name has at most 255 bytes, a string 65,535
abbrev pub grown_to : {S V L W : Type 0} → ℕ → List ℕ → Mode → List (ReaderFrame L) → S → ReaderStep S V L W
grown_to most bytes mode fs s = if nat_lt (length bytes) most then Goes mode fs s else Refuses s

-- integers are from -2^59 to 2^59 - 1
abbrev pub in_number : {S V L W : Type 0} → Bool → ℕ → List (ReaderFrame L) → S → ReaderStep S V L W
in_number minus n fs s = if (if minus then nat_le n (2 ^ 59) else nat_lt n (2 ^ 59)) then Goes (InNumber minus n) fs s else Refuses s

abbrev pub reader_step : {S V L W : Type 0} → Maker S V L W → Mode → ℕ → List (ReaderFrame L) → S → ReaderStep S V L W
reader_step m Gap b fs s = at_gap m b fs s
reader_step m Comment b fs s = Goes (if b == 10 then Gap else Comment) fs s
reader_step m (InName cs) b fs s =
    if is_name_byte b then grown_to 255 cs (InName (cs ++ raised b ∷ [])) fs s
    else (if b == 33 then grown_to 255 cs (InEscape cs) fs s
    else atom_before m (Identifier cs) b fs s)
reader_step m (InEscape cs) b fs s = Goes (InName (cs ++ b ∷ [])) fs s
reader_step m (AfterSign c) b fs s = if is_digit b then Goes (InNumber (c == 45) (b - 48)) fs s else atom_before m (Identifier (c ∷ [])) b fs s
reader_step m (InNumber minus n) b fs s = if is_digit b then in_number minus (10 * n + (b - 48)) fs s else atom_before m (Integer (signed minus n)) b fs s
reader_step m (InText cs) b fs s = if b == 34 then Goes (AfterQuote cs) fs s else grown_to 65535 cs (InText (cs ++ b ∷ [])) fs s
reader_step m (AfterQuote cs) b fs s = if b == 34 then grown_to 65535 cs (InText (cs ++ 34 ∷ [])) fs s else atom_before m (String cs) b fs s

-- ---- a text

-- a value and the bytes behind it; only blanks and comments; the bytes from the one on that has no place, none where the text ends in a spelling; or something is wanting, and the bytes that are left
pub data ReaderOutcome (S V W : Type 0) : Type 0 where
  Read : V → S → List ℕ → ReaderOutcome S V W
  NoneLeft : S → ReaderOutcome S V W
  Refused : S → List ℕ → ReaderOutcome S V W
  Stopped : W → S → List ℕ → ReaderOutcome S V W

-- an element has ended with the text
abbrev pub ends_after : {S V L W : Type 0} → Ended S V L W → ReaderOutcome S V W
ends_after (Whole v s) = Read v s []
ends_after (Inside fs s) = Refused s []
ends_after (Lacks w s) = Stopped w s []

abbrev pub at_end_between : {S V L W : Type 0} → List (ReaderFrame L) → S → ReaderOutcome S V W
at_end_between [] s = NoneLeft s
at_end_between (f ∷ fs) s = Refused s []

abbrev pub at_end : {S V L W : Type 0} → Maker S V L W → Mode → List (ReaderFrame L) → S → ReaderOutcome S V W
at_end m Gap fs s = at_end_between fs s
at_end m Comment fs s = at_end_between fs s
at_end m (InName cs) fs s = ends_after (atom_ended m (Identifier cs) fs s)
at_end m (InEscape cs) fs s = Refused s []
at_end m (AfterSign c) fs s = ends_after (atom_ended m (Identifier (c ∷ [])) fs s)
at_end m (InNumber minus n) fs s = ends_after (atom_ended m (Integer (signed minus n)) fs s)
at_end m (InText cs) fs s = Refused s []
at_end m (AfterQuote cs) fs s = ends_after (atom_ended m (String cs) fs s)

abbrev pub after_step : {S V L W : Type 0} → ℕ → List ℕ → ReaderStep S V L W → (Mode → List (ReaderFrame L) → S → ReaderOutcome S V W) → ReaderOutcome S V W
after_step b bs (Goes mode fs s) further = further mode fs s
after_step b bs (Done v used s) further = Read v s (if used then bs else b ∷ bs)
after_step b bs (Refuses s) further = Refused s (b ∷ bs)
after_step b bs (Halts w s) further = Stopped w s bs

abbrev pub after_turn : {S V W : Type 0} → List ℕ → Made S (Unit {0}) W → (S → ReaderOutcome S V W) → ReaderOutcome S V W
after_turn bs (Has u s) further = further s
after_turn bs (Wants w s) further = Stopped w s bs

-- reading goes on with these bytes
abbrev pub read_from : {S V L W : Type 0} → Maker S V L W → Mode → List (ReaderFrame L) → S → List ℕ → ReaderOutcome S V W
read_from m mode fs s [] = at_end m mode fs s
read_from m mode fs s (b ∷ bs) =
    after_turn bs (m.turn s) (λ s. after_step b bs (reader_step m mode b fs s) (λ mode fs s. read_from m mode fs s bs))

-- one spelling is read
abbrev pub read_by : {S V L W : Type 0} → Maker S V L W → S → List ℕ → ReaderOutcome S V W
read_by m s bytes = read_from m Gap [] s bytes
