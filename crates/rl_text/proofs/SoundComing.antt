-- What tokens may still come after what has begun, and that a byte on the way goes before them.
use Rattle.std.proofs.Common.{◌≡◌, ℕ, zero, suc, List, [], ◌∷◌, ◌++◌, true, refl, sym, ap, ◌∙◌, append_assoc}
use Rattle.std.proofs.lemmas.List.{append-nil}
use Rattle.rl_text.specs.Byte.{Open, Close, Dot, Quote, OpenVector, CloseVector}
use Rattle.rl_text.specs.Datum.{Datum, Elements, Pair, Vector, NoElements, Element, nil, quoted, listed, elements}
use Rattle.rl_text.specs.Spelling.{Spelling, Quoted, Empty, Listed, Vectored, Rest, End, Dotted, Next, Places, Last, Place, datum_of, rest_datum, places_datum, LispToken, Sign, tokens_of, rest_tokens, places_tokens}
use Rattle.rl_text.specs.Reader.{Phase, Begun, Going, Shut, ReaderFrame, Listing, Vectoring, Quoting, admits}
use Rattle.rl_text.specs.Reader as reader
use Rattle.rl_text.specs.Reading.{Items, listed_items}

-- `)` so many times
abbrev pub closes : ℕ → List LispToken
closes zero = []
closes (suc n) = Sign Close ∷ closes n

-- these elements, and then those
abbrev pub elements_before : List Datum → Elements → Elements
elements_before [] more = more
elements_before (e ∷ es) more = Element e (elements_before es more)

-- ---- what may come, by what has begun

-- what tokens may come after a value
abbrev pub Coming : Type 1
Coming = Datum → List LispToken → Type 0

-- so many `)`, and then what may come after the value
abbrev pub Closing : Coming → ℕ → Datum → List LispToken → Type 0
Closing after n v tokens = (more : List LispToken) × (tokens ≡ closes n ++ more) × after v more

-- the rest of a list, and so many `)`
abbrev pub ListGoes : Coming → List Datum → ℕ → List LispToken → Type 0
ListGoes after items n tokens = (r : Rest) × (more : List LispToken) × (tokens ≡ rest_tokens r ++ (closes n ++ more)) × after (listed items (rest_datum r)) more

-- an element, and so many `)`
abbrev pub ElementGoes : Coming → List Datum → ℕ → List LispToken → Type 0
ElementGoes after items n tokens = (s : Spelling) × (more : List LispToken) × (tokens ≡ tokens_of s ++ (closes n ++ more)) × after (listed items (datum_of s)) more

-- the places of a vector
abbrev pub VectorGoes : Coming → List Datum → List LispToken → Type 0
VectorGoes after items tokens = (p : Places) × (more : List LispToken) × (tokens ≡ places_tokens p ++ more) × after (Vector (elements_before items (places_datum p))) more

-- this value has just ended inside these frames
abbrev pub After : Datum → List (ReaderFrame Items) → Datum → List LispToken → Type 0
After d [] v tokens = (tokens ≡ []) × (d ≡ v)
After d (Quoting ∷ fs) v tokens = After d fs (quoted v) tokens
After d (Vectoring l ∷ fs) v tokens = VectorGoes (After d fs) (l.elements ++ v ∷ []) tokens
After d (Listing l n reader.Dotted ∷ fs) v tokens = Closing (After d fs) (suc n) (listed l.elements v) tokens
After d (Listing l n phase ∷ fs) v tokens = ListGoes (After d fs) (l.elements ++ v ∷ []) n tokens

-- something is awaited inside these frames. A list that has no tail yet has `nil` for it
abbrev pub Awaited : Datum → List (ReaderFrame Items) → List LispToken → Type 0
Awaited d [] tokens = (s : Spelling) × (tokens ≡ tokens_of s) × (d ≡ datum_of s)
Awaited d (Quoting ∷ fs) tokens = (s : Spelling) × (more : List LispToken) × (tokens ≡ tokens_of s ++ more) × After d fs (quoted (datum_of s)) more
Awaited d (Vectoring l ∷ fs) tokens = VectorGoes (After d fs) l.elements tokens
Awaited d (Listing l n Begun ∷ fs) tokens = l.tail ≡ nil → ElementGoes (After d fs) l.elements n (Sign Open ∷ tokens)
Awaited d (Listing l n Going ∷ fs) tokens = l.tail ≡ nil → ListGoes (After d fs) l.elements n tokens
Awaited d (Listing l n reader.Dotted ∷ fs) tokens = l.tail ≡ nil → ElementGoes (After d fs) l.elements (suc n) tokens
Awaited d (Listing l n Shut ∷ fs) tokens = Closing (After d fs) (suc n) (listed_items l) tokens

-- ---- lists of elements

-- the last element of a list may be said of its end
listed-append : (items : List Datum) (e t : Datum) → listed (items ++ e ∷ []) t ≡ listed items (Pair e t)
listed-append [] e t = refl
listed-append (i ∷ is) e t = ap (Pair i) (listed-append is e t)

-- the last of these elements may be said of those behind them
elements_before-append : (items : List Datum) (e : Datum) (more : Elements) → elements_before (items ++ e ∷ []) more ≡ elements_before items (Element e more)
elements_before-append [] e more = refl
elements_before-append (i ∷ is) e more = ap (Element i) (elements_before-append is e more)

-- elements before none are the elements
elements_before-none : (items : List Datum) → elements_before items NoElements ≡ elements items
elements_before-none [] = refl
elements_before-none (i ∷ is) = ap (Element i) (elements_before-none is)

-- ---- an element

-- the list goes on after an element, so it went on with that element
with_element : (after : Coming) (items : List Datum) (n : ℕ) (s : Spelling) (tokens : List LispToken) → ListGoes after (items ++ datum_of s ∷ []) n tokens → ListGoes after items n (tokens_of s ++ tokens)
with_element after items n s tokens goes = (
  Next s goes.0,
  goes.1,
  ap (λ l. tokens_of s ++ l) goes.2 ∙ sym (append_assoc (tokens_of s) (rest_tokens goes.0) (closes n ++ goes.1)),
  rw (listed-append items (datum_of s) (rest_datum goes.0)) at goes.3,
)

-- the list goes on after its first element, so it is a list
with_first : (after : Coming) (items : List Datum) (n : ℕ) (s : Spelling) (tokens : List LispToken) → ListGoes after (items ++ datum_of s ∷ []) n tokens → ElementGoes after items n (Sign Open ∷ (tokens_of s ++ tokens))
with_first after items n s tokens goes = (
  Listed s goes.0,
  goes.1,
  ap (λ l. Sign Open ∷ l) (ap (λ l. tokens_of s ++ l) goes.2 ∙ sym (append_assoc (tokens_of s) (rest_tokens goes.0) (closes n ++ goes.1))),
  rw (listed-append items (datum_of s) (rest_datum goes.0)) at goes.3,
)

-- the vector goes on after an element, so it went on with that element
with_place : (after : Coming) (items : List Datum) (s : Spelling) (tokens : List LispToken) → VectorGoes after (items ++ datum_of s ∷ []) tokens → VectorGoes after items (tokens_of s ++ tokens)
with_place after items s tokens goes = (
  Place s goes.0,
  goes.1,
  ap (λ l. tokens_of s ++ l) goes.2 ∙ sym (append_assoc (tokens_of s) (places_tokens goes.0) goes.1),
  rw (elements_before-append items (datum_of s) (places_datum goes.0)) at goes.3,
)

-- a spelling goes before what may come after its value
pub element_awaited : (d : Datum) (fs : List (ReaderFrame Items)) (s : Spelling) (tokens : List LispToken) → admits fs ≡ true → After d fs (datum_of s) tokens → Awaited d fs (tokens_of s ++ tokens)
element_awaited d [] s tokens admitted after = (s, ap (λ l. tokens_of s ++ l) after.0 ∙ append-nil (tokens_of s), after.1)
element_awaited d (Quoting ∷ fs) s tokens admitted after = (s, tokens, refl, after)
element_awaited d (Vectoring l ∷ fs) s tokens admitted after = with_place (After d fs) l.elements s tokens after
element_awaited d (Listing l n Begun ∷ fs) s tokens admitted after = λ bare. with_first (After d fs) l.elements n s tokens after
element_awaited d (Listing l n Going ∷ fs) s tokens admitted after = λ bare. with_element (After d fs) l.elements n s tokens after
element_awaited d (Listing l n reader.Dotted ∷ fs) s tokens admitted after = λ bare. (s, after.0, ap (λ l. tokens_of s ++ l) after.1, after.2)
element_awaited d (Listing l n Shut ∷ fs) s tokens admitted after = absurd cc

-- ---- marks

-- `(` goes before what is awaited in the list that it begins
pub open_awaited : (d : Datum) (fs : List (ReaderFrame Items)) (l : Items) (tokens : List LispToken) → l.elements ≡ [] → l.tail ≡ nil → admits fs ≡ true → Awaited d (Listing l 0 Begun ∷ fs) tokens → Awaited d fs (Sign Open ∷ tokens)
open_awaited d fs l tokens none bare admitted awaited =
    let whole = awaited bare in
    let after : After d fs (datum_of whole.0) whole.1 = rw none at whole.3 in
    rw whole.2 (element_awaited d fs whole.0 whole.1 admitted after)

-- `(` behind a dot
pub open_awaited_behind : (d : Datum) (fs : List (ReaderFrame Items)) (l : Items) (n : ℕ) (tokens : List LispToken) → Awaited d (Listing l (suc n) Begun ∷ fs) tokens → Awaited d (Listing l n reader.Dotted ∷ fs) (Sign Open ∷ tokens)
open_awaited_behind d fs l n tokens awaited = awaited

-- `.` goes before what is awaited behind it
pub dot_awaited : (d : Datum) (fs : List (ReaderFrame Items)) (l : Items) (n : ℕ) (tokens : List LispToken) → Awaited d (Listing l n reader.Dotted ∷ fs) tokens → Awaited d (Listing l n Going ∷ fs) (Sign Dot ∷ tokens)
dot_awaited d fs l n tokens awaited = λ bare.
    let goes = awaited bare in
    (Dotted goes.0, goes.1, ap (λ l. Sign Dot ∷ l) (goes.2 ∙ sym (append_assoc (tokens_of goes.0) (Sign Close ∷ []) (closes n ++ goes.1))), goes.3)

-- `[` goes before what is awaited in the vector that it begins
pub vector_awaited : (d : Datum) (fs : List (ReaderFrame Items)) (l : Items) (tokens : List LispToken) → l.elements ≡ [] → admits fs ≡ true → Awaited d (Vectoring l ∷ fs) tokens → Awaited d fs (Sign OpenVector ∷ tokens)
vector_awaited d fs l tokens none admitted awaited =
    let after : After d fs (datum_of (Vectored awaited.0)) awaited.1 = rw none at awaited.3 in
    rw awaited.2 (element_awaited d fs (Vectored awaited.0) awaited.1 admitted after)

-- `'` goes before what is awaited behind it
pub quote_awaited : (d : Datum) (fs : List (ReaderFrame Items)) (tokens : List LispToken) → admits fs ≡ true → Awaited d (Quoting ∷ fs) tokens → Awaited d fs (Sign Quote ∷ tokens)
quote_awaited d fs tokens admitted awaited = rw awaited.2 (element_awaited d fs (Quoted awaited.0) awaited.1 admitted awaited.3)

-- `]` goes before what may come after the vector
pub close_vector_awaited : (d : Datum) (fs : List (ReaderFrame Items)) (l : Items) (tokens : List LispToken) → After d fs (Vector (elements l.elements)) tokens → Awaited d (Vectoring l ∷ fs) (Sign CloseVector ∷ tokens)
close_vector_awaited d fs l tokens after = (Last, tokens, refl, rw (elements_before-none l.elements) after)

-- `)` of a list alone goes before what may come after the list
pub close_awaited : (d : Datum) (fs : List (ReaderFrame Items)) (l : Items) (phase : Phase) (tokens : List LispToken) → (phase ≡ reader.Dotted → ⊥) → After d fs (listed_items l) tokens → Awaited d (Listing l 0 phase ∷ fs) (Sign Close ∷ tokens)
close_awaited d fs l Begun tokens whole after = λ bare. (Empty, tokens, refl, rw (← bare) after)
close_awaited d fs l Going tokens whole after = λ bare. (End, tokens, refl, rw (← bare) after)
close_awaited d fs l reader.Dotted tokens whole after = absurd (whole refl)
close_awaited d fs l Shut tokens whole after = (tokens, refl, after)

-- `)` of a list with lists around it
pub close_shut_awaited : (d : Datum) (fs : List (ReaderFrame Items)) (l : Items) (n : ℕ) (tokens : List LispToken) → Awaited d (Listing l n Shut ∷ fs) tokens → Awaited d (Listing l (suc n) Shut ∷ fs) (Sign Close ∷ tokens)
close_shut_awaited d fs l n tokens awaited = (awaited.0, ap (λ l. Sign Close ∷ l) awaited.1, awaited.2)

-- the list so far is what stands behind the dot
pub close_inner_awaited : (d : Datum) (fs : List (ReaderFrame Items)) (l : Items) (n : ℕ) (phase : Phase) (tokens : List LispToken) → (phase ≡ reader.Dotted → ⊥) → (phase ≡ Shut → ⊥) → Awaited d (Listing (record { elements = []; tail = listed l.elements nil }) n Shut ∷ fs) tokens → Awaited d (Listing l (suc n) phase ∷ fs) (Sign Close ∷ tokens)
close_inner_awaited d fs l n Begun tokens whole some awaited = λ bare. (Empty, awaited.0, ap (λ l. Sign Open ∷ Sign Close ∷ l) awaited.1, awaited.2)
close_inner_awaited d fs l n Going tokens whole some awaited = λ bare. (End, awaited.0, ap (λ l. Sign Close ∷ l) awaited.1, awaited.2)
close_inner_awaited d fs l n reader.Dotted tokens whole some awaited = absurd (whole refl)
close_inner_awaited d fs l n Shut tokens whole some awaited = absurd (some refl)
