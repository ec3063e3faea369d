-- Nothing is read exactly where the text is blank.
use Rattle.std.proofs.Common.{◌≡◌, ℕ, zero, suc, Bool, true, false, ◌==◌, nat_lt, nat_le, ◌^◌, ◌+◌, ◌*◌, ◌-◌, if◌then◌else◌, List, [], ◌∷◌, ◌++◌, length, refl, ap, inl, inr}
use Rattle.std.specs.Option.{IsSome}
use Rattle.std.proofs.lemmas.Bool.{cond_both, cases_Bool}
use Rattle.rl_tree.specs.Bytes.{is_blank, is_digit, is_name_byte, raised}
use Rattle.rl_text.specs.Byte.{Mark, Open, Close, Dot, Quote, OpenVector, CloseVector, Class, Blank, Percent, Marks, Text, Escape, Letter, Digit, Special, Nothing, class_of}
use Rattle.rl_text.specs.Byte as byte
use Rattle.rl_text.specs.Word.{Atom, Integer, Identifier, String, signed, datum_of_atom}
use Rattle.rl_text.specs.Datum.{Datum, quoted}
use Rattle.rl_text.specs.Gap.{comment_after, IsBlankText}
use Rattle.rl_text.specs.Reader.{Begun, Going, Dotted, Shut, ReaderFrame, Listing, Vectoring, Quoting, Mode, Gap, Comment, InName, InEscape, AfterSign, InNumber, InText, AfterQuote, is_inner, admits, Ended, Whole, Inside, Lacks, left, value_ended, ReaderStep, Goes, Done, Refuses, Halts, goes_after, group_begins, open_list, close_list, dot, close_vector, at_mark, at_class, atom_ended, goes_before, atom_before, grown_to, in_number, reader_step, ReaderOutcome, Read, NoneLeft, Refused, Stopped, ends_after, at_end, after_step, read_from, read_by}
use Rattle.rl_text.specs.Reading.{Items, plain, NoText, reading, reading_of}
use Rattle.rl_text.proofs.Classed.{IsOf, class_says, blank_classed, percent_classed}

-- ---- where nothing is read

-- nothing but blanks and comments, where nothing has begun
abbrev Quiet : Mode → List (ReaderFrame Items) → List ℕ → Type 0
Quiet Gap [] bytes = IsSome (comment_after false bytes)
Quiet Comment [] bytes = IsSome (comment_after true bytes)
Quiet mode fs bytes = ⊥

-- a step after which nothing is read
abbrev QuietStep : List ℕ → ReaderStep (Unit {0}) Datum Items ⊥ → Type 0
QuietStep bs (Goes mode fs s) = Quiet mode fs bs
QuietStep bs (Done v used s) = ⊥
QuietStep bs (Refuses s) = ⊥
QuietStep bs (Halts w s) = ⊥

-- an element has ended inside something, or with the text
abbrev IsLoud : Ended (Unit {0}) Datum Items ⊥ → Type 0
IsLoud (Inside [] s) = ⊥
IsLoud _ = Unit {0}

-- each element ends so
ended_is_loud : (fs : List (ReaderFrame Items)) (v : Datum) (s : Unit {0}) → IsLoud (value_ended plain v fs s)
ended_is_loud [] v s = tt
ended_is_loud (Quoting ∷ fs) v s = ended_is_loud fs (quoted v) (left plain fs s)
ended_is_loud (Vectoring l ∷ fs) v s = tt
ended_is_loud (Listing l n Dotted ∷ fs) v s = tt
ended_is_loud (Listing l n Begun ∷ fs) v s = tt
ended_is_loud (Listing l n Going ∷ fs) v s = tt
ended_is_loud (Listing l n Shut ∷ fs) v s = tt

-- no silence follows an element that ends with its byte
after_loud : (bs : List ℕ) (e : Ended (Unit {0}) Datum Items ⊥) → IsLoud e → QuietStep bs (goes_after e) → ⊥
after_loud bs (Whole v s) loud q = q
after_loud bs (Inside [] s) loud q = loud
after_loud bs (Inside (f ∷ fs) s) loud q = q
after_loud bs (Lacks w s) loud q = q

-- no silence follows a test where none follows on either side
if_loud : (bs : List ℕ) (c : Bool) (x y : ReaderStep (Unit {0}) Datum Items ⊥) → (QuietStep bs x → ⊥) → (QuietStep bs y → ⊥) → QuietStep bs (if c then x else y) → ⊥
if_loud bs c x y p q = cond_both c x y (λ st. QuietStep bs st → ⊥) (λ e. p) (λ e. q)

-- nor a list, a vector or a quote that begins
begins_loud : (bs : List ℕ) (frame : ReaderFrame Items) (fs : List (ReaderFrame Items)) (s : Unit {0}) → QuietStep bs (group_begins plain frame fs s) → ⊥
begins_loud bs frame fs s = if_loud bs (is_inner fs) (Goes Gap (frame ∷ fs) s) (Goes Gap (frame ∷ fs) s) (λ q. q) (λ q. q)

-- nor `(`
open_loud : (bs : List ℕ) (fs : List (ReaderFrame Items)) (s : Unit {0}) → QuietStep bs (open_list plain fs s) → ⊥
open_loud bs (Listing l n Dotted ∷ fs) s q = q
open_loud bs fs s q = begins_loud bs (Listing plain.empty 0 Begun) fs s q

-- nor `)`
close_loud : (bs : List ℕ) (fs : List (ReaderFrame Items)) (s : Unit {0}) → QuietStep bs (close_list plain fs s) → ⊥
close_loud bs (Listing l zero Begun ∷ fs) s q = after_loud bs _ (ended_is_loud fs _ _) q
close_loud bs (Listing l zero Going ∷ fs) s q = after_loud bs _ (ended_is_loud fs _ _) q
close_loud bs (Listing l zero Shut ∷ fs) s q = after_loud bs _ (ended_is_loud fs _ _) q
close_loud bs (Listing l (suc n) Begun ∷ fs) s q = q
close_loud bs (Listing l (suc n) Going ∷ fs) s q = q
close_loud bs (Listing l (suc n) Shut ∷ fs) s q = q
close_loud bs _ s q = q

-- nor `]`
close_vector_loud : (bs : List ℕ) (fs : List (ReaderFrame Items)) (s : Unit {0}) → QuietStep bs (close_vector plain fs s) → ⊥
close_vector_loud bs (Vectoring l ∷ fs) s q = after_loud bs _ (ended_is_loud fs _ _) q
close_vector_loud bs _ s q = q

-- nor `.`
dot_loud : (bs : List ℕ) (fs : List (ReaderFrame Items)) (s : Unit {0}) → QuietStep bs (dot plain fs s) → ⊥
dot_loud bs (Listing l n Going ∷ fs) s q = q
dot_loud bs _ s q = q

-- nor any mark
mark_loud : (bs : List ℕ) (mark : Mark) (fs : List (ReaderFrame Items)) (s : Unit {0}) → QuietStep bs (at_mark plain mark fs s) → ⊥
mark_loud bs Close fs s = close_loud bs fs s
mark_loud bs CloseVector fs s = close_vector_loud bs fs s
mark_loud bs Dot fs s = dot_loud bs fs s
mark_loud bs Open fs s = if_loud bs (admits fs) (open_list plain fs s) (Refuses s) (open_loud bs fs s) (λ q. q)
mark_loud bs OpenVector fs s = if_loud bs (admits fs) (group_begins plain (Vectoring plain.empty) fs s) (Refuses s) (begins_loud bs (Vectoring plain.empty) fs s) (λ q. q)
mark_loud bs Quote fs s = if_loud bs (admits fs) (group_begins plain Quoting fs s) (Refuses s) (begins_loud bs Quoting fs s) (λ q. q)

-- a byte in a gap, by its class, where nothing has begun
quiet_class : (c : Class) (b : ℕ) (bs : List ℕ) (s : Unit {0}) → IsOf c b → QuietStep bs (at_class plain c b [] s) → IsSome (comment_after false (b ∷ bs))
quiet_class Blank b bs s is q = rw is q
quiet_class Percent b bs s is q = rw is q
quiet_class (Marks mark) b bs s is q = absurd (mark_loud bs mark [] s q)
quiet_class Text b bs s is q = absurd q
quiet_class Escape b bs s is q = absurd q
quiet_class Letter b bs s is q = absurd q
quiet_class Digit b bs s is q = absurd q
quiet_class byte.Sign b bs s is q = absurd q
quiet_class Special b bs s is q = absurd q
quiet_class Nothing b bs s is q = absurd q

-- and where something has
loud_class : (c : Class) (b : ℕ) (bs : List ℕ) (f : ReaderFrame Items) (fs : List (ReaderFrame Items)) (s : Unit {0}) → QuietStep bs (at_class plain c b (f ∷ fs) s) → ⊥
loud_class Blank b bs f fs s q = q
loud_class Percent b bs f fs s q = q
loud_class (Marks mark) b bs f fs s q = mark_loud bs mark (f ∷ fs) s q
loud_class Text b bs f fs s q = if_loud bs (admits (f ∷ fs)) _ _ (λ q. q) (λ q. q) q
loud_class Escape b bs f fs s q = if_loud bs (admits (f ∷ fs)) _ _ (λ q. q) (λ q. q) q
loud_class Letter b bs f fs s q = if_loud bs (admits (f ∷ fs)) _ _ (λ q. q) (λ q. q) q
loud_class Digit b bs f fs s q = if_loud bs (admits (f ∷ fs)) _ _ (λ q. q) (λ q. q) q
loud_class byte.Sign b bs f fs s q = if_loud bs (admits (f ∷ fs)) _ _ (λ q. q) (λ q. q) q
loud_class Special b bs f fs s q = if_loud bs (admits (f ∷ fs)) _ _ (after_loud bs _ (ended_is_loud (f ∷ fs) _ _)) (λ q. q) q
loud_class Nothing b bs f fs s q = q

-- no silence follows an element that ends before its byte
before_loud : (b : ℕ) (bs : List ℕ) (e : Ended (Unit {0}) Datum Items ⊥) → IsLoud e → QuietStep bs (goes_before plain b e) → ⊥
before_loud b bs (Whole v s) loud q = q
before_loud b bs (Inside [] s) loud q = loud
before_loud b bs (Inside (f ∷ fs) s) loud q = loud_class (class_of b) b bs f fs s q
before_loud b bs (Lacks w s) loud q = q

-- an atom ends before a byte
atom_loud : (a : Atom) (b : ℕ) (bs : List ℕ) (fs : List (ReaderFrame Items)) (s : Unit {0}) → QuietStep bs (atom_before plain a b fs s) → ⊥
atom_loud a b bs fs s = before_loud b bs (atom_ended plain a fs s) (ended_is_loud fs (datum_of_atom a) s)

-- nor a name or a string that goes on
grown_loud : (bs : List ℕ) (most : ℕ) (cs ds : List ℕ) (mode : List ℕ → Mode) (fs : List (ReaderFrame Items)) (s : Unit {0}) → (Quiet (mode ds) fs bs → ⊥) → QuietStep bs (grown_to most cs (mode ds) fs s) → ⊥
grown_loud bs most cs ds mode fs s loud = if_loud bs (nat_lt (length cs) most) (Goes (mode ds) fs s) (Refuses s) loud (λ q. q)

-- nor a number that goes on
number_loud : (bs : List ℕ) (minus : Bool) (n : ℕ) (fs : List (ReaderFrame Items)) (s : Unit {0}) → QuietStep bs (in_number minus n fs s) → ⊥
number_loud bs minus n fs s = if_loud bs (if minus then nat_le n (2 ^ 59) else nat_lt n (2 ^ 59)) (Goes (InNumber minus n) fs s) (Refuses s) (λ q. q) (λ q. q)

-- a byte after which nothing is read
quiet_step : (mode : Mode) (b : ℕ) (bs : List ℕ) (fs : List (ReaderFrame Items)) (s : Unit {0}) → QuietStep bs (reader_step plain mode b fs s) → Quiet mode fs (b ∷ bs)
quiet_step Gap b bs [] s q = quiet_class (class_of b) b bs s (class_says b) q
quiet_step Gap b bs (f ∷ fs) s q = loud_class (class_of b) b bs f fs s q
quiet_step Comment b bs [] s q =
    cond_both (b == 10) Gap Comment (λ mode. Quiet mode [] bs → IsSome (comment_after true (b ∷ bs))) (λ e q. rw e q) (λ e q. rw e q) q
quiet_step Comment b bs (f ∷ fs) s q = cond_both (b == 10) Gap Comment (λ mode. Quiet mode (f ∷ fs) bs → ⊥) (λ e q. q) (λ e q. q) q
quiet_step (InName cs) b bs fs s q =
    if_loud bs (is_name_byte b) _ _ (grown_loud bs 255 cs (cs ++ raised b ∷ []) InName fs s (λ q. q))
    (if_loud bs (b == 33) _ _ (grown_loud bs 255 cs cs InEscape fs s (λ q. q)) (atom_loud (Identifier cs) b bs fs s)) q
quiet_step (InEscape cs) b bs fs s q = q
quiet_step (AfterSign c) b bs fs s q = if_loud bs (is_digit b) _ _ (λ q. q) (atom_loud (Identifier (c ∷ [])) b bs fs s) q
quiet_step (InNumber minus n) b bs fs s q =
    if_loud bs (is_digit b) _ _ (number_loud bs minus (10 * n + (b - 48)) fs s) (atom_loud (Integer (signed minus n)) b bs fs s) q
quiet_step (InText cs) b bs fs s q = if_loud bs (b == 34) _ _ (λ q. q) (grown_loud bs 65535 cs (cs ++ b ∷ []) InText fs s (λ q. q)) q
quiet_step (AfterQuote cs) b bs fs s q =
    if_loud bs (b == 34) _ _ (grown_loud bs 65535 cs (cs ++ 34 ∷ []) InText fs s (λ q. q)) (atom_loud (String cs) b bs fs s) q

-- an element that ends with the text is read, or the text is refused
no_end : (e : Ended (Unit {0}) Datum Items ⊥) (t : Unit {0}) → ends_after e ≡ NoneLeft t → ⊥
no_end (Whole v s) t e = cc
no_end (Inside fs s) t e = cc
no_end (Lacks w s) t e = w

-- the end of the text, where nothing is read
quiet_end : (mode : Mode) (fs : List (ReaderFrame Items)) (s t : Unit {0}) → at_end plain mode fs s ≡ NoneLeft t → Quiet mode fs []
quiet_end Gap [] s t e = refl
quiet_end Gap (f ∷ fs) s t e = cc
quiet_end Comment [] s t e = refl
quiet_end Comment (f ∷ fs) s t e = cc
quiet_end (InName cs) fs s t e = no_end (atom_ended plain (Identifier cs) fs s) t e
quiet_end (InEscape cs) fs s t e = cc
quiet_end (AfterSign c) fs s t e = no_end (atom_ended plain (Identifier (c ∷ [])) fs s) t e
quiet_end (InNumber minus n) fs s t e = no_end (atom_ended plain (Integer (signed minus n)) fs s) t e
quiet_end (InText cs) fs s t e = cc
quiet_end (AfterQuote cs) fs s t e = no_end (atom_ended plain (String cs) fs s) t e

-- where nothing is read after a step, the step is such
step_is_quiet : (t : Unit {0}) (b : ℕ) (bs : List ℕ) → ((mode : Mode) (fs : List (ReaderFrame Items)) (s : Unit {0}) → read_from plain mode fs s bs ≡ NoneLeft t → Quiet mode fs bs) → (st : ReaderStep (Unit {0}) Datum Items ⊥) → after_step b bs st (λ mode fs s. read_from plain mode fs s bs) ≡ NoneLeft t → QuietStep bs st
step_is_quiet t b bs further (Goes mode fs s) e = further mode fs s e
step_is_quiet t b bs further (Done v used s) e = cc
step_is_quiet t b bs further (Refuses s) e = cc
step_is_quiet t b bs further (Halts w s) e = w

-- where nothing is left, nothing but blanks and comments was there
none_left : (t : Unit {0}) (bytes : List ℕ) (mode : Mode) (fs : List (ReaderFrame Items)) (s : Unit {0}) → read_from plain mode fs s bytes ≡ NoneLeft t → Quiet mode fs bytes
none_left t [] mode fs s e = quiet_end mode fs s t e
none_left t (b ∷ bs) mode fs s e = quiet_step mode b bs fs s (step_is_quiet t b bs (none_left t bs) (reader_step plain mode b fs s) e)

-- where no text is found, nothing was left
no_text : (bytes : List ℕ) (o : ReaderOutcome (Unit {0}) Datum ⊥) → reading_of bytes o ≡ NoText → o ≡ NoneLeft tt
no_text bytes (Read v s rest) e = absurd cc
no_text bytes (NoneLeft s) e = refl
no_text bytes (Refused s from) e = absurd cc
no_text bytes (Stopped w s rest) e = absurd w

-- where no text is found, the text is blank
pub none_is_blank : (bytes : List ℕ) → reading bytes ≡ NoText → IsBlankText bytes
none_is_blank bytes e = none_left tt bytes Gap [] tt (no_text bytes (read_by plain tt bytes) e)

-- ---- where the text is blank

-- in a gap or in a comment
abbrev mode_of : Bool → Mode
mode_of false = Gap
mode_of true = Comment

-- nothing is read from a blank text
blank_left : (bytes : List ℕ) (inside : Bool) → IsSome (comment_after inside bytes) → read_from plain (mode_of inside) [] tt bytes ≡ NoneLeft tt
blank_left [] false some = refl
blank_left [] true some = refl
blank_left (b ∷ bs) true some =
    elim (cases_Bool (b == 10)) [
      | inl e ↦ rw e (blank_left bs false (rw e at some))
      | inr e ↦ rw e (blank_left bs true (rw e at some))
    ]
blank_left (b ∷ bs) false some =
    elim (cases_Bool (is_blank b)) [
      | inl blank ↦ rw (blank_classed b blank) (blank_left bs false (rw blank at some))
      | inr solid ↦ elim (cases_Bool (b == 37)) [
        | inl percent ↦ rw (percent_classed b percent) (blank_left bs true (rw (solid, percent) at some))
        | inr other ↦ absurd (let none : false ≡ true = rw (solid, other) at some in cc)
      ]
    ]

-- where the text is blank, no text is found
pub blank_is_none : (bytes : List ℕ) → IsBlankText bytes → reading bytes ≡ NoText
blank_is_none bytes blank = ap (reading_of bytes) (blank_left bytes false blank)
