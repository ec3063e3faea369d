-- What is spelled is read.
use Rattle.std.proofs.Common.{◌≡◌, ℕ, zero, suc, true, List, [], ◌∷◌, ◌++◌, refl, ap, ◌∙◌, subst, sym, append_assoc}
use Rattle.std.proofs.lemmas.Bool.{cond-true, cond_both}
use Rattle.std.proofs.lemmas.List.{append-nil}
use Rattle.rl_text.specs.Byte.{Mark, Open, Close, Dot, Quote, OpenVector, CloseVector, Marks, mark_byte, class_of}
use Rattle.rl_text.specs.Datum.{Datum, Elements, Pair, Vector, NoElements, Element, nil, listed, elements}
use Rattle.rl_text.specs.Spelling.{Spelling, Atom, Quoted, Empty, Listed, Vectored, Rest, End, Dotted, Next, Places, Last, Place, datum_of, rest_datum, places_datum, LispToken, Sign, Spelled, tokens_of, rest_tokens, places_tokens, token_text, IsFront, AreTokens, IsSpelled}
use Rattle.rl_text.specs.Reader.{Phase, Begun, Going, Shut, ReaderFrame, Listing, Vectoring, Quoting, Gap, is_inner, admits, Goes, group_begins, open_list, at_mark, Read, after_step, read_from, read_by}
use Rattle.rl_text.specs.Reading.{Items, plain, Found, reading_of, reading}
use Rattle.rl_text.proofs.CompleteGaps.{Frames, PlainOutcome, from, ending, after_value, ended_after, by_class, gap_skipped}
use Rattle.rl_text.proofs.CompleteWords.{word_read}

-- ---- one token

-- reading goes on behind a mark
abbrev after_mark : Mark → List ℕ → Frames → PlainOutcome
after_mark mark bs fs = after_step (mark_byte mark) bs (at_mark plain mark fs tt) (λ mode fs s. read_from plain mode fs s bs)

-- the byte of a mark is of the class of this mark
mark_class : (mark : Mark) → class_of (mark_byte mark) ≡ Marks mark
mark_class Open = refl
mark_class Close = refl
mark_class Dot = refl
mark_class Quote = refl
mark_class OpenVector = refl
mark_class CloseVector = refl

-- the gap before a token is skipped
front_read : (token : LispToken) (bytes rest : List ℕ) (fs : Frames) → IsFront token bytes rest → from Gap fs bytes ≡ from Gap fs (token_text token ++ rest)
front_read token bytes rest fs front = ap (λ bytes. from Gap fs bytes) front.is ∙ gap_skipped fs front.gap (token_text token ++ rest) front.is_gap

-- a gap and a mark are read by what the mark does
mark_read : (mark : Mark) (bytes rest : List ℕ) (fs : Frames) → IsFront (Sign mark) bytes rest → from Gap fs bytes ≡ after_mark mark rest fs
mark_read mark bytes rest fs front = front_read (Sign mark) bytes rest fs front ∙ by_class (mark_byte mark) rest fs (Marks mark) (mark_class mark)

-- what begins goes on the same, with a level or without
begun : (frame : ReaderFrame Items) (fs : Frames) → group_begins plain frame fs tt ≡ Goes Gap (frame ∷ fs) tt
begun frame fs = cond_both (is_inner fs) _ _ (λ taken. taken ≡ Goes Gap (frame ∷ fs) tt) (λ e. refl) (λ e. refl)

-- a gap and `'` are read
quote_read : (bytes rest : List ℕ) (fs : Frames) → admits fs ≡ true → IsFront (Sign Quote) bytes rest → from Gap fs bytes ≡ from Gap (Quoting ∷ fs) rest
quote_read bytes rest fs free front =
    mark_read Quote bytes rest fs front
    ∙ ap (λ taken. after_step 39 rest taken (λ mode fs s. read_from plain mode fs s rest)) (cond-true (admits fs) _ _ free ∙ begun Quoting fs)

-- a list or a vector of these, that is not whole yet
abbrev items : List Datum → Items
items es = record { elements = es; tail = nil }

-- a gap and `[` are read
vector_opened : (bytes rest : List ℕ) (fs : Frames) → admits fs ≡ true → IsFront (Sign OpenVector) bytes rest → from Gap fs bytes ≡ from Gap (Vectoring (items []) ∷ fs) rest
vector_opened bytes rest fs free front =
    mark_read OpenVector bytes rest fs front
    ∙ ap (λ taken. after_step 91 rest taken (λ mode fs s. read_from plain mode fs s rest)) (cond-true (admits fs) _ _ free ∙ begun (Vectoring (items [])) fs)

-- a gap and `]` are read, and the vector ends
vector_closed : (es : List Datum) (bytes rest : List ℕ) (fs : Frames) → IsFront (Sign CloseVector) bytes rest → from Gap (Vectoring (items es) ∷ fs) bytes ≡ after_value (Vector (elements es)) fs rest
vector_closed es bytes rest fs front = mark_read CloseVector bytes rest (Vectoring (items es) ∷ fs) front ∙ ended_after (ending (Vector (elements es)) fs) 93 rest

-- ---- lists

-- a list of these and what stands behind them goes on so, where it is a list of its own or stands behind so many dots
abbrev after_list : List Datum → Datum → ℕ → Frames → List ℕ → PlainOutcome
after_list es t zero fs rest = after_value (listed es t) fs rest
after_list es t (suc n) fs rest = from Gap (Listing (record { elements = []; tail = listed es t }) n Shut ∷ fs) rest

-- what has begun when a list opens: a list of its own, or more of the list before the dot
record Opening (fs : Frames) : Type 0 where
  list : Items
  closers : ℕ
  frames : Frames
  opens : (bytes rest : List ℕ) → IsFront (Sign Open) bytes rest → from Gap fs bytes ≡ from Gap (Listing list closers Begun ∷ frames) rest
  ends : (t : Datum) (rest : List ℕ) → after_list list.elements t closers frames rest ≡ after_value t fs rest
  empty : (bytes rest : List ℕ) → IsFront (Sign Close) bytes rest → from Gap (Listing list closers Begun ∷ frames) bytes ≡ after_value nil fs rest

-- a gap and `)` behind elements are read
list_closed : (es : List Datum) (n : ℕ) (bytes rest : List ℕ) (fs : Frames) → IsFront (Sign Close) bytes rest → from Gap (Listing (items es) n Going ∷ fs) bytes ≡ after_list es nil n fs rest
list_closed es zero bytes rest fs front = mark_read Close bytes rest (Listing (items es) zero Going ∷ fs) front ∙ ended_after (ending (listed es nil) fs) 41 rest
list_closed es (suc n) bytes rest fs front = mark_read Close bytes rest (Listing (items es) (suc n) Going ∷ fs) front

-- a gap and `)` are read behind what stands behind a dot
tail_closed : (es : List Datum) (t : Datum) (n : ℕ) (bytes rest : List ℕ) (fs : Frames) → IsFront (Sign Close) bytes rest → from Gap (Listing (record { elements = []; tail = listed es t }) n Shut ∷ fs) bytes ≡ after_list es t n fs rest
tail_closed es t zero bytes rest fs front = mark_read Close bytes rest (Listing (record { elements = []; tail = listed es t }) zero Shut ∷ fs) front ∙ ended_after (ending (listed es t) fs) 41 rest
tail_closed es t (suc n) bytes rest fs front = mark_read Close bytes rest (Listing (record { elements = []; tail = listed es t }) (suc n) Shut ∷ fs) front

-- a list that stands behind no dot is one of its own
own_list : (fs : Frames) → admits fs ≡ true → open_list plain fs tt ≡ group_begins plain (Listing (items []) 0 Begun) fs tt → Opening fs
own_list fs free own = record {
  list = items [];
  closers = 0;
  frames = fs;
  opens = λ bytes rest front. mark_read Open bytes rest fs front ∙ ap (λ taken. after_step 40 rest taken (λ mode fs s. read_from plain mode fs s rest)) (cond-true (admits fs) _ _ free ∙ own ∙ begun (Listing (items []) 0 Begun) fs);
  ends = λ t rest. refl;
  empty = λ bytes rest front. mark_read Close bytes rest (Listing (items []) 0 Begun ∷ fs) front ∙ ended_after (ending nil fs) 41 rest;
}

-- a list may open where a spelling may stand
opening : (fs : Frames) → admits fs ≡ true → Opening fs
opening (Listing l n Phase.Dotted ∷ fs) free = record {
  list = l;
  closers = suc n;
  frames = fs;
  opens = λ bytes rest front. mark_read Open bytes rest (Listing l n Phase.Dotted ∷ fs) front;
  ends = λ t rest. refl;
  empty = λ bytes rest front. mark_read Close bytes rest (Listing l (suc n) Begun ∷ fs) front;
}
opening (Listing l n Shut ∷ fs) free = absurd cc
opening fs free = own_list fs free refl

-- one more element comes before what stands behind the list
listed_more : (es : List Datum) (e t : Datum) → listed (es ++ e ∷ []) t ≡ listed es (Pair e t)
listed_more [] e t = refl
listed_more (d ∷ es) e t = ap (λ t. Pair d t) (listed_more es e t)

-- reading goes on the same with the last element or with what stands behind it
list_more : (es : List Datum) (e t : Datum) (n : ℕ) (fs : Frames) (rest : List ℕ) → after_list (es ++ e ∷ []) t n fs rest ≡ after_list es (Pair e t) n fs rest
list_more es e t zero fs rest = ap (λ v. after_value v fs rest) (listed_more es e t)
list_more es e t (suc n) fs rest = ap (λ v. from Gap (Listing (record { elements = []; tail = v }) n Shut ∷ fs) rest) (listed_more es e t)

-- ---- vectors

-- these elements, and then those
abbrev placed : List Datum → Elements → Elements
placed [] more = more
placed (e ∷ es) more = Element e (placed es more)

-- no elements follow those of a whole vector
placed_none : (es : List Datum) → elements es ≡ placed es NoElements
placed_none [] = refl
placed_none (e ∷ es) = ap (λ more. Element e more) (placed_none es)

-- one more element comes before those that follow
placed_more : (es : List Datum) (e : Datum) (more : Elements) → placed (es ++ e ∷ []) more ≡ placed es (Element e more)
placed_more [] e more = refl
placed_more (d ∷ es) e more = ap (λ more. Element d more) (placed_more es e more)

-- ---- spellings

-- reading goes on behind some of the bytes, and these tokens are left
record ReadsOn (start : PlainOutcome) (further : List ℕ → PlainOutcome) (tokens : List LispToken) (rest : List ℕ) : Type 0 where
  middle : List ℕ
  read : start ≡ further middle
  left : AreTokens tokens middle rest

-- the tokens of one, and then those of another, and then more
parted : (some other more : List LispToken) (bytes rest : List ℕ) → AreTokens ((some ++ other) ++ more) bytes rest → AreTokens (some ++ (other ++ more)) bytes rest
parted some other more bytes rest are = subst (λ tokens. AreTokens tokens bytes rest) (append_assoc some other more) are

mutual
  -- a spelling is read as its datum, where a spelling may stand
  spelling_read : (e : Spelling) (fs : Frames) (more : List LispToken) (bytes rest : List ℕ) → admits fs ≡ true → AreTokens (tokens_of e ++ more) bytes rest → ReadsOn (from Gap fs bytes) (after_value (datum_of e) fs) more rest
  spelling_read (Atom word) fs more bytes rest free are = record {
    middle = are.0;
    read = front_read (Spelled word) bytes are.0 fs are.1 ∙ word_read word are.0 fs free (are.1).token_is (are.1).ends;
    left = are.2;
  }
  spelling_read (Quoted e) fs more bytes rest free are =
      let inner = spelling_read e (Quoting ∷ fs) more are.0 rest refl are.2 in
      record { middle = inner.middle; read = quote_read bytes are.0 fs free are.1 ∙ inner.read; left = inner.left }
  spelling_read Empty fs more bytes rest free are =
      let begin = opening fs free in
      let close = are.2 in
      record { middle = close.0; read = begin.opens bytes are.0 are.1 ∙ begin.empty are.0 close.0 close.1; left = close.2 }
  spelling_read (Listed e r) fs more bytes rest free are =
      let begin = opening fs free in
      let first = spelling_read e (Listing begin.list begin.closers Begun ∷ begin.frames) (rest_tokens r ++ more) are.0 rest refl (parted (tokens_of e) (rest_tokens r) more are.0 rest are.2) in
      let others = rest_read r (begin.list.elements ++ datum_of e ∷ []) begin.closers begin.frames more first.middle rest first.left in
      record {
        middle = others.middle;
        read = begin.opens bytes are.0 are.1 ∙ first.read ∙ others.read ∙ list_more begin.list.elements (datum_of e) (rest_datum r) begin.closers begin.frames others.middle ∙ begin.ends (Pair (datum_of e) (rest_datum r)) others.middle;
        left = others.left;
      }
  spelling_read (Vectored places) fs more bytes rest free are =
      let inner = places_read places [] fs more are.0 rest are.2 in
      record { middle = inner.middle; read = vector_opened bytes are.0 fs free are.1 ∙ inner.read; left = inner.left }

  -- the rest of a list is read as what stands behind its elements
  rest_read : (r : Rest) (es : List Datum) (n : ℕ) (fs : Frames) (more : List LispToken) (bytes rest : List ℕ) → AreTokens (rest_tokens r ++ more) bytes rest → ReadsOn (from Gap (Listing (items es) n Going ∷ fs) bytes) (after_list es (rest_datum r) n fs) more rest
  rest_read End es n fs more bytes rest are = record { middle = are.0; read = list_closed es n bytes are.0 fs are.1; left = are.2 }
  rest_read (Dotted e) es n fs more bytes rest are =
      let inner = spelling_read e (Listing (items es) n Phase.Dotted ∷ fs) (Sign Close ∷ more) are.0 rest refl (parted (tokens_of e) (Sign Close ∷ []) more are.0 rest are.2) in
      let close = inner.left in
      record {
        middle = close.0;
        read = mark_read Dot bytes are.0 (Listing (items es) n Going ∷ fs) are.1 ∙ inner.read ∙ tail_closed es (datum_of e) n inner.middle close.0 fs close.1;
        left = close.2;
      }
  rest_read (Next e r) es n fs more bytes rest are =
      let inner = spelling_read e (Listing (items es) n Going ∷ fs) (rest_tokens r ++ more) bytes rest refl (parted (tokens_of e) (rest_tokens r) more bytes rest are) in
      let others = rest_read r (es ++ datum_of e ∷ []) n fs more inner.middle rest inner.left in
      record { middle = others.middle; read = inner.read ∙ others.read ∙ list_more es (datum_of e) (rest_datum r) n fs others.middle; left = others.left }

  -- the places of a vector are read as its elements
  places_read : (places : Places) (es : List Datum) (fs : Frames) (more : List LispToken) (bytes rest : List ℕ) → AreTokens (places_tokens places ++ more) bytes rest → ReadsOn (from Gap (Vectoring (items es) ∷ fs) bytes) (after_value (Vector (placed es (places_datum places))) fs) more rest
  places_read Last es fs more bytes rest are = record {
    middle = are.0;
    read = vector_closed es bytes are.0 fs are.1 ∙ ap (λ es. after_value (Vector es) fs are.0) (placed_none es);
    left = are.2;
  }
  places_read (Place e places) es fs more bytes rest are =
      let inner = spelling_read e (Vectoring (items es) ∷ fs) (places_tokens places ++ more) bytes rest refl (parted (tokens_of e) (places_tokens places) more bytes rest are) in
      let others = places_read places (es ++ datum_of e ∷ []) fs more inner.middle rest inner.left in
      record { middle = others.middle; read = inner.read ∙ others.read ∙ ap (λ es. after_value (Vector es) fs others.middle) (placed_more es (datum_of e) (places_datum places)); left = others.left }

-- ---- a text

-- what is spelled is read
pub spelled_is_read_by : (bytes : List ℕ) (datum : Datum) (rest : List ℕ) → IsSpelled bytes datum rest → read_by plain tt bytes ≡ Read datum tt rest
spelled_is_read_by bytes datum rest spelled =
    let are = subst (λ tokens. AreTokens tokens bytes rest) (sym (append-nil (tokens_of spelled.spelling))) spelled.spelled in
    let whole = spelling_read spelled.spelling [] [] bytes rest refl are in
    whole.read ∙ ap (λ rest. Read (datum_of spelled.spelling) tt rest) whole.left ∙ ap (λ datum. Read datum tt rest) (sym spelled.is)

-- what is spelled is found
pub spelled_is_read : (bytes : List ℕ) (datum : Datum) (rest : List ℕ) → IsSpelled bytes datum rest → reading bytes ≡ Found datum rest
spelled_is_read bytes datum rest spelled = ap (reading_of bytes) (spelled_is_read_by bytes datum rest spelled)
