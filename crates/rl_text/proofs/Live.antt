-- Wherever reading has come, some bytes end the text well.
use Rattle.std.proofs.Common.{◌≡◌, ℕ, Bool, zero, suc, ◌++◌, List, [], ◌∷◌, refl, ◌∙◌}
use Rattle.rl_text.specs.Datum.{Datum, Int, Id, Str, Vector, nil, quoted, listed, elements}
use Rattle.rl_text.specs.Word.{signed}
use Rattle.rl_text.specs.Reader.{Begun, Going, Dotted, Shut, ReaderFrame, Listing, Vectoring, Quoting, Mode, Gap, Comment, InName, InEscape, AfterSign, InNumber, InText, AfterQuote, Ended, Whole, Inside, Lacks, value_ended, goes_before, goes_after, ReaderOutcome, Read, after_step, ends_after, read_from}
use Rattle.rl_text.specs.Reading.{Items, plain, listed_items}

-- what is read of bytes behind an element that has ended
abbrev pub resumed : Ended (Unit {0}) Datum Items ⊥ → List ℕ → ReaderOutcome (Unit {0}) Datum ⊥
resumed (Whole v s) bytes = Read v s bytes
resumed (Inside fs s) bytes = read_from plain Gap fs s bytes
resumed (Lacks w s) bytes = absurd w

-- bytes with which no word goes on: none, or `)` or `]` comes first
data Tail : Type 0 where
  Over : Tail
  Closes : List ℕ → Tail
  ClosesVector : List ℕ → Tail

abbrev tail_bytes : Tail → List ℕ
tail_bytes Over = []
tail_bytes (Closes bs) = 41 ∷ bs
tail_bytes (ClosesVector bs) = 93 ∷ bs

-- such bytes, with which the text ends well
record Finish (ended : Ended (Unit {0}) Datum Items ⊥) : Type 0 where
  tail : Tail
  datum : Datum
  read : resumed ended (tail_bytes tail) ≡ Read datum tt []

-- bytes with which the text ends well
pub record Live (mode : Mode) (fs : List (ReaderFrame Items)) : Type 0 where
  pub bytes : List ℕ
  pub datum : Datum
  pub read : read_from plain mode fs tt bytes ≡ Read datum tt []

-- ---- behind an element

-- an element that ends with a byte, and one that has ended before it
ended_with_byte : (ended : Ended (Unit {0}) Datum Items ⊥) (b : ℕ) (bs : List ℕ) → after_step b bs (goes_after ended) (λ mode fs s. read_from plain mode fs s bs) ≡ resumed ended bs
ended_with_byte (Whole v s) b bs = refl
ended_with_byte (Inside fs s) b bs = refl
ended_with_byte (Lacks w s) b bs = absurd w

ended_before_byte : (ended : Ended (Unit {0}) Datum Items ⊥) (b : ℕ) (bs : List ℕ) → after_step b bs (goes_before plain b ended) (λ mode fs s. read_from plain mode fs s bs) ≡ resumed ended (b ∷ bs)
ended_before_byte (Whole v s) b bs = refl
ended_before_byte (Inside fs s) b bs = refl
ended_before_byte (Lacks w s) b bs = absurd w

-- at the end nothing that is inside a list, a vector or a quote is whole
ended_before_end : (ended : Ended (Unit {0}) Datum Items ⊥) (datum : Datum) → resumed ended [] ≡ Read datum tt [] → ends_after ended ≡ Read datum tt []
ended_before_end (Whole v s) datum read = read
ended_before_end (Inside [] s) datum read = absurd cc
ended_before_end (Inside (f ∷ fs) s) datum read = read
ended_before_end (Lacks w s) datum read = absurd w

-- a list behind its dot is closed so many times
shut : (fs : List (ReaderFrame Items)) (each : (v : Datum) → Finish (value_ended plain v fs tt)) (l : Items) (n : ℕ) → Finish (Inside (Listing l n Shut ∷ fs) tt)
shut fs each l zero =
    let outer = each (listed_items l) in
    record { tail = Closes (tail_bytes outer.tail); datum = outer.datum; read = ended_with_byte (value_ended plain (listed_items l) fs tt) 41 (tail_bytes outer.tail) ∙ outer.read }
shut fs each l (suc n) =
    let inner = shut fs each l n in
    record { tail = Closes (tail_bytes inner.tail); datum = inner.datum; read = inner.read }

-- a list is closed after an element
going : (fs : List (ReaderFrame Items)) (each : (v : Datum) → Finish (value_ended plain v fs tt)) (l : Items) (n : ℕ) → Finish (Inside (Listing l n Going ∷ fs) tt)
going fs each l zero =
    let outer = each (listed_items l) in
    record { tail = Closes (tail_bytes outer.tail); datum = outer.datum; read = ended_with_byte (value_ended plain (listed_items l) fs tt) 41 (tail_bytes outer.tail) ∙ outer.read }
going fs each l (suc n) =
    let inner = shut fs each (record { elements = []; tail = listed l.elements nil }) n in
    record { tail = Closes (tail_bytes inner.tail); datum = inner.datum; read = inner.read }

-- a vector is closed
vectoring : (fs : List (ReaderFrame Items)) (each : (v : Datum) → Finish (value_ended plain v fs tt)) (l : Items) → Finish (Inside (Vectoring l ∷ fs) tt)
vectoring fs each l =
    let outer = each (Vector (elements l.elements)) in
    record { tail = ClosesVector (tail_bytes outer.tail); datum = outer.datum; read = ended_with_byte (value_ended plain (Vector (elements l.elements)) fs tt) 93 (tail_bytes outer.tail) ∙ outer.read }

-- after an element what has begun is ended
finish : (fs : List (ReaderFrame Items)) (v : Datum) → Finish (value_ended plain v fs tt)
finish [] v = record { tail = Over; datum = v; read = refl }
finish (Quoting ∷ fs) v = finish fs (quoted v)
finish (Vectoring l ∷ fs) v = vectoring fs (λ u. finish fs u) (record { elements = l.elements ++ v ∷ []; tail = nil })
finish (Listing l n Begun ∷ fs) v = going fs (λ u. finish fs u) (record { elements = l.elements ++ v ∷ []; tail = nil }) n
finish (Listing l n Going ∷ fs) v = going fs (λ u. finish fs u) (record { elements = l.elements ++ v ∷ []; tail = nil }) n
finish (Listing l n Dotted ∷ fs) v = shut fs (λ u. finish fs u) (record { elements = []; tail = listed l.elements v }) n
finish (Listing l n Shut ∷ fs) v = going fs (λ u. finish fs u) (record { elements = l.elements ++ v ∷ []; tail = nil }) n

-- ---- in a word

-- how the element goes on that is ended before a byte
abbrev before : Ended (Unit {0}) Datum Items ⊥ → ℕ → List ℕ → ReaderOutcome (Unit {0}) Datum ⊥
before ended b bs = after_step b bs (goes_before plain b ended) (λ mode fs s. read_from plain mode fs s bs)

-- where the end, `)` and `]` end a word, the text ends well behind it
word_finished : (ended : Ended (Unit {0}) Datum Items ⊥) (reader : List ℕ → ReaderOutcome (Unit {0}) Datum ⊥) (tail : Tail) (datum : Datum) → reader [] ≡ ends_after ended → ((bs : List ℕ) → reader (41 ∷ bs) ≡ before ended 41 bs) → ((bs : List ℕ) → reader (93 ∷ bs) ≡ before ended 93 bs) → resumed ended (tail_bytes tail) ≡ Read datum tt [] → reader (tail_bytes tail) ≡ Read datum tt []
word_finished ended reader Over datum over closes closes_vector read = over ∙ ended_before_end ended datum read
word_finished ended reader (Closes bs) datum over closes closes_vector read = closes bs ∙ (ended_before_byte ended 41 bs ∙ read)
word_finished ended reader (ClosesVector bs) datum over closes closes_vector read = closes_vector bs ∙ (ended_before_byte ended 93 bs ∙ read)

name_live : (cs : List ℕ) (fs : List (ReaderFrame Items)) → Live (InName cs) fs
name_live cs fs =
    let end = finish fs (Id cs) in
    record { bytes = tail_bytes end.tail; datum = end.datum; read = word_finished (value_ended plain (Id cs) fs tt) (λ bs. read_from plain (InName cs) fs tt bs) end.tail end.datum refl (λ bs. refl) (λ bs. refl) end.read }

sign_live : (c : ℕ) (fs : List (ReaderFrame Items)) → Live (AfterSign c) fs
sign_live c fs =
    let end = finish fs (Id (c ∷ [])) in
    record { bytes = tail_bytes end.tail; datum = end.datum; read = word_finished (value_ended plain (Id (c ∷ [])) fs tt) (λ bs. read_from plain (AfterSign c) fs tt bs) end.tail end.datum refl (λ bs. refl) (λ bs. refl) end.read }

number_live : (minus : Bool) (n : ℕ) (fs : List (ReaderFrame Items)) → Live (InNumber minus n) fs
number_live minus n fs =
    let end = finish fs (Int (signed minus n)) in
    record { bytes = tail_bytes end.tail; datum = end.datum; read = word_finished (value_ended plain (Int (signed minus n)) fs tt) (λ bs. read_from plain (InNumber minus n) fs tt bs) end.tail end.datum refl (λ bs. refl) (λ bs. refl) end.read }

quote_live : (cs : List ℕ) (fs : List (ReaderFrame Items)) → Live (AfterQuote cs) fs
quote_live cs fs =
    let end = finish fs (Str cs) in
    record { bytes = tail_bytes end.tail; datum = end.datum; read = word_finished (value_ended plain (Str cs) fs tt) (λ bs. read_from plain (AfterQuote cs) fs tt bs) end.tail end.datum refl (λ bs. refl) (λ bs. refl) end.read }

-- ---- anywhere

-- a byte that goes on leads to where the text can end well
live_after : (mode : Mode) (fs : List (ReaderFrame Items)) (b : ℕ) (next : Mode) → ((bs : List ℕ) → read_from plain mode fs tt (b ∷ bs) ≡ read_from plain next fs tt bs) → Live next fs → Live mode fs
live_after mode fs b next goes live = record { bytes = b ∷ live.bytes; datum = live.datum; read = goes live.bytes ∙ live.read }

-- where a spelling may stand, a letter does
letter_live : (fs : List (ReaderFrame Items)) → ((bs : List ℕ) → read_from plain Gap fs tt (65 ∷ bs) ≡ read_from plain (InName (65 ∷ [])) fs tt bs) → Live Gap fs
letter_live fs goes = live_after Gap fs 65 (InName (65 ∷ [])) goes (name_live (65 ∷ []) fs)

-- behind what stands behind a dot only `)` does
gap_live : (fs : List (ReaderFrame Items)) → Live Gap fs
gap_live [] = letter_live [] (λ bs. refl)
gap_live (Quoting ∷ fs) = letter_live (Quoting ∷ fs) (λ bs. refl)
gap_live (Vectoring l ∷ fs) = letter_live (Vectoring l ∷ fs) (λ bs. refl)
gap_live (Listing l n Begun ∷ fs) = letter_live (Listing l n Begun ∷ fs) (λ bs. refl)
gap_live (Listing l n Going ∷ fs) = letter_live (Listing l n Going ∷ fs) (λ bs. refl)
gap_live (Listing l n Dotted ∷ fs) = letter_live (Listing l n Dotted ∷ fs) (λ bs. refl)
gap_live (Listing l n Shut ∷ fs) =
    let end = shut fs (λ v. finish fs v) l n in
    record { bytes = tail_bytes end.tail; datum = end.datum; read = end.read }

-- whatever has begun, some bytes end the text well
pub live : (mode : Mode) (fs : List (ReaderFrame Items)) → Live mode fs
live Gap fs = gap_live fs
live Comment fs = live_after Comment fs 10 Gap (λ bs. refl) (gap_live fs)
live (InName cs) fs = name_live cs fs
live (InEscape cs) fs = live_after (InEscape cs) fs 65 (InName (cs ++ 65 ∷ [])) (λ bs. refl) (name_live (cs ++ 65 ∷ []) fs)
live (AfterSign c) fs = sign_live c fs
live (InNumber minus n) fs = number_live minus n fs
live (InText cs) fs = live_after (InText cs) fs 34 (AfterQuote cs) (λ bs. refl) (quote_live cs fs)
live (AfterQuote cs) fs = quote_live cs fs
