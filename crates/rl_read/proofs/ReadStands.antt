-- What is read in cells stands for the datum that is read: each byte leads both to the same.
use Rattle.std.proofs.Common.{◌≡◌, ℕ, zero, suc, ◌+◌, ◌-◌, ◌*◌, ◌^◌, ◌<◌, ◌≤◌, Bool, true, false, if◌then◌else◌, ◌==◌, List, [], ◌∷◌, ◌++◌, length, Option, None, Some, refl, ◌∙◌, subst, arith, length-append}
use Rattle.std.specs.Prelude.{nat_lt, nat_le}
use Rattle.std.proofs.lemmas.Bool.Decides.{nat_tests}
use Rattle.rl_tags.specs.Tagged.{Tagged}
use Rattle.rl_syms.specs.Table.{nil_value}
use Rattle.rl_tree.specs.Bytes.{is_digit, is_name_byte, raised}
use Rattle.rl_text.specs.Byte.{Mark, Open, Close, Dot, Quote, OpenVector, CloseVector, Class, Blank, Percent, Marks, Text, Escape, Letter, Digit, Sign, Special, Nothing, class_of}
use Rattle.rl_text.specs.Datum.{Datum, Vector, quoted, elements, listed, nil}
use Rattle.rl_text.specs.Maker.{Made, Has, Wants}
use Rattle.rl_text.specs.Reader.{Phase, Begun, Going, Dotted, Shut, ReaderFrame, Listing, Vectoring, Quoting, Mode, Gap, Comment, InName, InEscape, AfterSign, InNumber, InText, AfterQuote, is_inner, admits, Ended, Whole, Inside, Lacks, ended_with, left, value_ended, ReaderStep, Goes, Done, Refuses, Halts, goes_with, goes_after, group_begins, open_list, close_list, dot, close_vector, at_mark, atom_ended, in_word, at_class, goes_before, atom_before, reader_step, ReaderOutcome, Read, ends_after, at_end_between, at_end, after_step, after_turn, read_from}
use Rattle.rl_text.specs.Reading.{Items, listed_items, plain}
use Rattle.rl_text.specs.Word.{Atom, Integer, Identifier, String, signed, datum_of_atom}
use Rattle.rl_world.specs.Counts.{tick_stop}
use Rattle.rl_world.specs.declared.stop.Stop.{Stop}
use Rattle.rl_read.specs.Stock.{Stock, PairChain, atom_made, chain_ended, entered, entered_at, chain_extended, first_of_chain, in_stock, quote_made, turned, turned_at, vector_made}
use Rattle.rl_read.proofs.ValueStands.{Heap}
use Rattle.rl_read.proofs.MadeStands.{AreLaws, IsAtomic, IsValue, Makes, atom_makes, atom_size, heap_of, quote_makes}
use Rattle.rl_read.proofs.ListStands.{IsLonger, ended_makes, extended_makes, vector_makes}
use Rattle.rl_read.proofs.ChainStands.{HasPairs, IsOpen}
use Rattle.rl_read.proofs.FramesStand.{Around, Holds, IsListing, IsOutside, IsPending, IsResult, admits_same, atom_pending, going_holds, list_pending, open_size, pending_left, quote_pending, shut_holds, size_ended, size_longer, vector_holds, vector_pending, whole_result}

-- ---- an element ends

abbrev SimEnded : Heap → Ended Stock Tagged PairChain Stop → Ended (Unit {0}) Datum Items ⊥ → Type 0
SimEnded first (Lacks s k) other = Unit {0}
SimEnded first (Whole v k) (Whole d t) = IsResult first (heap_of k) v d
SimEnded first (Inside fs k) (Inside gs t) = Holds first (heap_of k) fs gs
SimEnded first _ _ = ⊥

ended_with_sim : {A : Type 0} (first : Heap) (P : A → Heap → Type 0) (made : Made Stock A Stop) (next : A → Stock → Ended Stock Tagged PairChain Stop) (other : Ended (Unit {0}) Datum Items ⊥) → Makes P made → ((a : A) (k : Stock) → P a (heap_of k) → SimEnded first (next a k) other) → SimEnded first (ended_with made next) other
ended_with_sim first P (Has a k) next other h f = f a k h
ended_with_sim first P (Wants s k) next other h f = tt

-- what is around the newest
pending_outside : (first now : Heap) (v : Tagged) (d : Datum) (f : ReaderFrame PairChain) (g : ReaderFrame Items) (fs : List (ReaderFrame PairChain)) (gs : List (ReaderFrame Items)) (lo : ℕ) → IsPending first now v d (f ∷ fs) (g ∷ gs) → Around (length first.cells) lo now fs gs → admits fs ≡ true → IsOutside first now lo fs gs
pending_outside first now v d f g fs gs lo p a e = record { heap = p.heap; longer = p.longer; stays = p.stays; around = a; admitted = e }

-- what holds of a list holds of one that is as far
at_same_phase : (P : ℕ → Phase → Type 0) (m n : ℕ) (p q : Phase) → m ≡ n → p ≡ q → P m p → P n q
at_same_phase P m n p q many far holds = subst (λ (i : ℕ). P i q) many (subst (λ (r : Phase). P m r) far holds)

-- one more element of a list
longer_sim : AreLaws → (first : Heap) (v : Tagged) (d : Datum) (c : PairChain) (l : Items) (m n : ℕ) (p : Phase) (fs : List (ReaderFrame PairChain)) (gs : List (ReaderFrame Items)) (k : Stock) (x : Unit {0}) (h : IsPending first (heap_of k) v d (Listing c m p ∷ fs) (Listing l n p ∷ gs)) (lo : ℕ) → lo ≤ h.from → admits fs ≡ true → m ≡ n → IsOpen lo h.from (heap_of k) c l → Around (length first.cells) lo (heap_of k) fs gs
    → SimEnded first (ended_with (chain_extended c v k) (λ l s. Inside (Listing l m Going ∷ fs) s)) (Inside (Listing (record { elements = l.elements ++ d ∷ []; tail = nil }) n Going ∷ gs) x)
longer_sim laws first v d c l m n p fs gs k x h lo below admitted e o around =
    ended_with_sim first (IsLonger lo (heap_of k) (record { elements = l.elements ++ d ∷ []; tail = nil })) (chain_extended c v k) _ _ (extended_makes laws lo h.from k c l v d h.heap below h.within o h.stands)
    (λ b j i. going_holds first (heap_of k) (heap_of j) lo m n fs gs b (record { elements = l.elements ++ d ∷ []; tail = nil }) (pending_outside first (heap_of k) v d (Listing c m p) (Listing l n p) fs gs lo h around admitted) (omega (arith, h.within)) e (omega (arith, h.few, size_longer l.elements d, open_size lo h.from (heap_of k) c l o)) i)

-- an element ends in a list
listing_sim : AreLaws → (first : Heap) (t : Bool) (v : Tagged) (d : Datum) (c : PairChain) (l : Items) (m : ℕ) (p : Phase) (fs : List (ReaderFrame PairChain)) (gs : List (ReaderFrame Items)) (k : Stock) (x : Unit {0}) → IsPending first (heap_of k) v d (Listing c m p ∷ fs) (Listing l m p ∷ gs) → SimEnded first (value_ended (in_stock t) v (Listing c m p ∷ fs) k) (value_ended plain d (Listing l m p ∷ gs) x)
listing_sim laws first t v d c l m Begun fs gs k x h = longer_sim laws first v d c l m m Begun fs gs k x h h.around.0 h.around.1 h.around.2 refl h.around.5.0 h.around.6
listing_sim laws first t v d c l m Going fs gs k x h = longer_sim laws first v d c l m m Going fs gs k x h h.around.0 h.around.1 h.around.2 refl h.around.5.0 h.around.6
listing_sim laws first t v d c l m Dotted fs gs k x h =
    let a = h.around in
    ended_with_sim first (λ c w. IsValue a.0 (heap_of k) 0 (listed l.elements d) (first_of_chain c) w) (chain_ended c v k) _ _ (ended_makes laws a.0 h.from k c l v d h.heap a.1 h.within a.5.0 a.5.1 h.stands)
    (λ b j e. shut_holds first (heap_of k) (heap_of j) a.0 m m fs gs b (listed l.elements d) (pending_outside first (heap_of k) v d (Listing c m Dotted) (Listing l m Dotted) fs gs a.0 h a.6 a.2) (omega (arith, a.1, h.within)) refl (omega (arith, h.few, size_ended l.elements d, open_size a.0 h.from (heap_of k) c l a.5.0)) e)
listing_sim laws first t v d c l m Shut fs gs k x h = absurd (let closed : false ≡ true = h.admitted in cc)

value_sim : AreLaws → (first : Heap) (t : Bool) (v : Tagged) (d : Datum) (fs : List (ReaderFrame PairChain)) (gs : List (ReaderFrame Items)) (k : Stock) (x : Unit {0}) → IsPending first (heap_of k) v d fs gs → SimEnded first (value_ended (in_stock t) v fs k) (value_ended plain d gs x)
value_sim laws first t v d [] [] k x p = whole_result first (heap_of k) v d p
value_sim laws first t v d (Quoting ∷ fs) (Quoting ∷ gs) k x p =
    ended_with_sim first (IsValue p.from (heap_of k) 2 (quoted d)) (quote_made v k) _ _ (quote_makes laws p.from k v d p.heap p.within p.stands)
    (λ q j e. value_sim laws first t q (quoted d) fs gs (left (in_stock t) fs j) (left plain gs x) (pending_left t first j q (quoted d) fs gs (quote_pending first (heap_of k) (heap_of j) fs gs v q d p e)))
value_sim laws first t v d (Vectoring c ∷ fs) (Vectoring l ∷ gs) k x p =
    let a = p.around in
    ended_with_sim first (IsLonger a.0 (heap_of k) (record { elements = l.elements ++ d ∷ []; tail = nil })) (chain_extended c v k) _ _ (extended_makes laws a.0 p.from k c l v d p.heap a.1 p.within a.3 p.stands)
    (λ b j i. vector_holds first (heap_of k) (heap_of j) a.0 fs gs b (record { elements = l.elements ++ d ∷ []; tail = nil }) (pending_outside first (heap_of k) v d (Vectoring c) (Vectoring l) fs gs a.0 p a.4 a.2) (omega (arith, a.1, p.within)) (omega (arith, p.few, size_longer l.elements d, open_size a.0 p.from (heap_of k) c l a.3)) i)
value_sim laws first t v d (Listing c m p ∷ fs) (Listing l n q ∷ gs) k x h =
    at_same_phase (λ i r. IsPending first (heap_of k) v d (Listing c m p ∷ fs) (Listing l i r ∷ gs) → SimEnded first (value_ended (in_stock t) v (Listing c m p ∷ fs) k) (value_ended plain d (Listing l i r ∷ gs) x)) m n p q h.around.3 h.around.4
    (listing_sim laws first t v d c l m p fs gs k x) h
value_sim laws first t v d _ _ k x p = absurd p.around

atom_sim : AreLaws → (first : Heap) (t : Bool) (a : Atom) (fs : List (ReaderFrame PairChain)) (gs : List (ReaderFrame Items)) (k : Stock) (x : Unit {0}) → IsAtomic a → admits fs ≡ true → Holds first (heap_of k) fs gs → SimEnded first (atom_ended (in_stock t) a fs k) (atom_ended plain a gs x)
atom_sim laws first t a fs gs k x is admitted h =
    ended_with_sim first (IsValue (length k.cells.cells) (heap_of k) 0 (datum_of_atom a)) (atom_made a k) _ _ (atom_makes laws (length k.cells.cells) k a h.heap is)
    (λ v j e. value_sim laws first t v (datum_of_atom a) fs gs j x (atom_pending first (heap_of k) (heap_of j) fs gs v (datum_of_atom a) h admitted (atom_size a) e))

-- ---- a byte

-- a word that has begun may stand there, and a name has no more bytes than it may have
abbrev IsMode : List (ReaderFrame PairChain) → Mode → Type 0
IsMode fs Gap = Unit {0}
IsMode fs Comment = Unit {0}
IsMode fs (InName cs) = (admits fs ≡ true) × (1 ≤ length cs) × (length cs ≤ 255)
IsMode fs (InEscape cs) = (admits fs ≡ true) × (length cs < 255)
IsMode fs mode = admits fs ≡ true

abbrev SimStep : Heap → ReaderStep Stock Tagged PairChain Stop → ReaderStep (Unit {0}) Datum Items ⊥ → Type 0
SimStep first (Halts s k) other = Unit {0}
SimStep first (Goes mode fs k) (Goes other gs t) = (mode ≡ other) × IsMode fs mode × Holds first (heap_of k) fs gs
SimStep first (Done v used k) (Done d also t) = IsResult first (heap_of k) v d
SimStep first (Refuses k) (Refuses t) = Unit {0}
SimStep first _ _ = ⊥

goes_with_sim : {A : Type 0} (first : Heap) (P : A → Heap → Type 0) (made : Made Stock A Stop) (next : A → Stock → ReaderStep Stock Tagged PairChain Stop) (other : ReaderStep (Unit {0}) Datum Items ⊥) → Makes P made → ((a : A) (k : Stock) → P a (heap_of k) → SimStep first (next a k) other) → SimStep first (goes_with made next) other
goes_with_sim first P (Has a k) next other h f = f a k h
goes_with_sim first P (Wants s k) next other h f = tt

goes_after_sim : (first : Heap) (a : Ended Stock Tagged PairChain Stop) (b : Ended (Unit {0}) Datum Items ⊥) → SimEnded first a b → SimStep first (goes_after a) (goes_after b)
goes_after_sim first (Lacks s k) b h = tt
goes_after_sim first (Whole v k) (Whole d t) h = h
goes_after_sim first (Inside fs k) (Inside gs t) h = (refl, tt, h)
goes_after_sim first _ _ h = absurd h

-- a test that both take
if_sim : (first : Heap) (x y : Bool) (a b : ReaderStep Stock Tagged PairChain Stop) (c d : ReaderStep (Unit {0}) Datum Items ⊥) → x ≡ y → (x ≡ true → SimStep first a c) → (x ≡ false → SimStep first b d) → SimStep first (if x then a else b) (if y then c else d)
if_sim first true true a b c d e f g = f refl
if_sim first false false a b c d e f g = g refl
if_sim first true false a b c d e f g = absurd cc
if_sim first false true a b c d e f g = absurd cc

-- what may stand only where a spelling may
admitted_sim : (first : Heap) (fs : List (ReaderFrame PairChain)) (gs : List (ReaderFrame Items)) (k : Stock) (x : Unit {0}) (a : ReaderStep Stock Tagged PairChain Stop) (b : ReaderStep (Unit {0}) Datum Items ⊥) → Holds first (heap_of k) fs gs → (admits fs ≡ true → SimStep first a b) → SimStep first (if admits fs then a else Refuses k) (if admits gs then b else Refuses x)
admitted_sim first fs gs k x a b h f = if_sim first (admits fs) (admits gs) a (Refuses k) b (Refuses x) (admits_same (length first.cells) (length k.cells.cells) (heap_of k) fs gs h.around) f (λ e. tt)

-- a level that is entered leaves the cells
entered_makes : (P : Heap → Type 0) (n : ℕ) (k : Stock) → P (heap_of k) → Makes (λ (u : Unit {0}) w. P w) (entered_at n k)
entered_makes P zero k h = tt
entered_makes P (suc n) k h = h

begins_sim : (first : Heap) (t : Bool) (f : ReaderFrame PairChain) (g : ReaderFrame Items) (fs : List (ReaderFrame PairChain)) (gs : List (ReaderFrame Items)) (k : Stock) (x : Unit {0}) → Holds first (heap_of k) (f ∷ fs) (g ∷ gs) → SimStep first (group_begins (in_stock t) f fs k) (group_begins plain g gs x)
begins_sim first t f g fs gs k x h = go (is_inner fs) (is_inner gs)
  where
    go : (a b : Bool) → SimStep first (if a then goes_with (entered k) (λ u k. Goes Gap (f ∷ fs) k) else Goes Gap (f ∷ fs) k) (if b then Goes Gap (g ∷ gs) x else Goes Gap (g ∷ gs) x)
    go true true = goes_with_sim first (λ (u : Unit {0}) w. Holds first w (f ∷ fs) (g ∷ gs)) (entered k) _ _ (entered_makes (λ w. Holds first w (f ∷ fs) (g ∷ gs)) k.left k h) (λ u k h. (refl, tt, h))
    go true false = goes_with_sim first (λ (u : Unit {0}) w. Holds first w (f ∷ fs) (g ∷ gs)) (entered k) _ _ (entered_makes (λ w. Holds first w (f ∷ fs) (g ∷ gs)) k.left k h) (λ u k h. (refl, tt, h))
    go false true = (refl, tt, h)
    go false false = (refl, tt, h)

-- ---- lists and vectors begin and end

-- nothing is in what begins
empty_list_holds : (first now : Heap) (fs : List (ReaderFrame PairChain)) (gs : List (ReaderFrame Items)) → Holds first now fs gs → admits fs ≡ true → Holds first now (Listing None 0 Begun ∷ fs) (Listing (record { elements = []; tail = nil }) 0 Begun ∷ gs)
empty_list_holds first now fs gs h admitted = record { heap = h.heap; longer = h.longer; stays = h.stays; around = (length now.cells, omega arith, admitted, refl, refl, ((refl, refl), tt), h.around); few = omega (arith, h.few) }

empty_vector_holds : (first now : Heap) (fs : List (ReaderFrame PairChain)) (gs : List (ReaderFrame Items)) → Holds first now fs gs → admits fs ≡ true → Holds first now (Vectoring None ∷ fs) (Vectoring (record { elements = []; tail = nil }) ∷ gs)
empty_vector_holds first now fs gs h admitted = record { heap = h.heap; longer = h.longer; stays = h.stays; around = (length now.cells, omega arith, admitted, (refl, refl), h.around); few = omega (arith, h.few) }

quote_holds : (first now : Heap) (fs : List (ReaderFrame PairChain)) (gs : List (ReaderFrame Items)) → Holds first now fs gs → admits fs ≡ true → Holds first now (Quoting ∷ fs) (Quoting ∷ gs)
quote_holds first now fs gs h admitted = record { heap = h.heap; longer = h.longer; stays = h.stays; around = (admitted, h.around); few = h.few }

-- the same list is further
further_holds : (first now : Heap) (c : PairChain) (l : Items) (m n : ℕ) (p q r : Phase) (fs : List (ReaderFrame PairChain)) (gs : List (ReaderFrame Items)) (h : Holds first now (Listing c m p ∷ fs) (Listing l m q ∷ gs)) → IsListing r n h.around.0 (length now.cells) now c l → Holds first now (Listing c n r ∷ fs) (Listing l n r ∷ gs)
further_holds first now c l m n p q r fs gs h i = record { heap = h.heap; longer = h.longer; stays = h.stays; around = (h.around.0, h.around.1, h.around.2, refl, refl, i, h.around.6); few = h.few }

list_begins_sim : (first : Heap) (t : Bool) (fs : List (ReaderFrame PairChain)) (gs : List (ReaderFrame Items)) (k : Stock) (x : Unit {0}) → admits fs ≡ true → Holds first (heap_of k) fs gs → SimStep first (group_begins (in_stock t) (Listing None 0 Begun) fs k) (group_begins plain (Listing plain.empty 0 Begun) gs x)
list_begins_sim first t fs gs k x admitted h = begins_sim first t (Listing None 0 Begun) (Listing (record { elements = []; tail = nil }) 0 Begun) fs gs k x (empty_list_holds first (heap_of k) fs gs h admitted)

open_listing_sim : (first : Heap) (t : Bool) (c : PairChain) (l : Items) (n : ℕ) (p : Phase) (fs : List (ReaderFrame PairChain)) (gs : List (ReaderFrame Items)) (k : Stock) (x : Unit {0}) → admits (Listing c n p ∷ fs) ≡ true → Holds first (heap_of k) (Listing c n p ∷ fs) (Listing l n p ∷ gs) → SimStep first (open_list (in_stock t) (Listing c n p ∷ fs) k) (open_list plain (Listing l n p ∷ gs) x)
open_listing_sim first t c l n Begun fs gs k x a h = list_begins_sim first t (Listing c n Begun ∷ fs) (Listing l n Begun ∷ gs) k x a h
open_listing_sim first t c l n Going fs gs k x a h = list_begins_sim first t (Listing c n Going ∷ fs) (Listing l n Going ∷ gs) k x a h
open_listing_sim first t c l n Dotted fs gs k x a h = (refl, tt, further_holds first (heap_of k) c l n (suc n) Dotted Dotted Begun fs gs h h.around.5)
open_listing_sim first t c l n Shut fs gs k x a h = absurd cc

open_sim : (first : Heap) (t : Bool) (fs : List (ReaderFrame PairChain)) (gs : List (ReaderFrame Items)) (k : Stock) (x : Unit {0}) → admits fs ≡ true → Holds first (heap_of k) fs gs → SimStep first (open_list (in_stock t) fs k) (open_list plain gs x)
open_sim first t [] [] k x a h = list_begins_sim first t [] [] k x a h
open_sim first t (Quoting ∷ fs) (Quoting ∷ gs) k x a h = list_begins_sim first t (Quoting ∷ fs) (Quoting ∷ gs) k x a h
open_sim first t (Vectoring c ∷ fs) (Vectoring l ∷ gs) k x a h = list_begins_sim first t (Vectoring c ∷ fs) (Vectoring l ∷ gs) k x a h
open_sim first t (Listing c m p ∷ fs) (Listing l n q ∷ gs) k x a h =
    at_same_phase (λ i r. Holds first (heap_of k) (Listing c m p ∷ fs) (Listing l i r ∷ gs) → SimStep first (open_list (in_stock t) (Listing c m p ∷ fs) k) (open_list plain (Listing l i r ∷ gs) x)) m n p q h.around.3 h.around.4
    (open_listing_sim first t c l m p fs gs k x a) h
open_sim first t _ _ k x a h = absurd h.around

holds_outside : (first now : Heap) (f : ReaderFrame PairChain) (g : ReaderFrame Items) (fs : List (ReaderFrame PairChain)) (gs : List (ReaderFrame Items)) (lo : ℕ) → Holds first now (f ∷ fs) (g ∷ gs) → Around (length first.cells) lo now fs gs → admits fs ≡ true → IsOutside first now lo fs gs
holds_outside first now f g fs gs lo h a e = record { heap = h.heap; longer = h.longer; stays = h.stays; around = a; admitted = e }

-- a list is a value of what is around it
list_whole_sim : AreLaws → (first : Heap) (t : Bool) (c : PairChain) (l : Items) (n : ℕ) (p : Phase) (fs : List (ReaderFrame PairChain)) (gs : List (ReaderFrame Items)) (k : Stock) (x : Unit {0}) → Holds first (heap_of k) (Listing c n p ∷ fs) (Listing l n p ∷ gs) → SimStep first (goes_after (value_ended (in_stock t) (first_of_chain c) fs (left (in_stock t) fs k))) (goes_after (value_ended plain (listed_items l) gs (left plain gs x)))
list_whole_sim laws first t c l n p fs gs k x h =
    goes_after_sim first _ _ (value_sim laws first t (first_of_chain c) (listed_items l) fs gs (left (in_stock t) fs k) (left plain gs x)
    (pending_left t first k (first_of_chain c) (listed_items l) fs gs
    (list_pending first (heap_of k) h.around.0 n p fs gs c l (holds_outside first (heap_of k) (Listing c n p) (Listing l n p) fs gs h.around.0 h h.around.6 h.around.2) h.around.1 h.few h.around.5)))

-- a list behind a dot ends with NIL
list_shut_sim : AreLaws → (first : Heap) (c : PairChain) (l : Items) (m n : ℕ) (p : Phase) (fs : List (ReaderFrame PairChain)) (gs : List (ReaderFrame Items)) (k : Stock) (x : Unit {0}) (h : Holds first (heap_of k) (Listing c m p ∷ fs) (Listing l m p ∷ gs)) → IsOpen h.around.0 (length k.cells.cells) (heap_of k) c l → HasPairs c
    → SimStep first (goes_with (chain_ended c nil_value k) (λ l s. Goes Gap (Listing l n Shut ∷ fs) s)) (Goes Gap (Listing (record { elements = []; tail = listed l.elements nil }) n Shut ∷ gs) x)
list_shut_sim laws first c l m n p fs gs k x h o some =
    let a = h.around in
    goes_with_sim first (λ c w. IsValue a.0 (heap_of k) 0 (listed l.elements nil) (first_of_chain c) w) (chain_ended c nil_value k) _ _ (ended_makes laws a.0 (length k.cells.cells) k c l nil_value nil h.heap a.1 (omega arith) o some h.heap.nil)
    (λ b j e. (refl, tt, shut_holds first (heap_of k) (heap_of j) a.0 n n fs gs b (listed l.elements nil) (holds_outside first (heap_of k) (Listing c m p) (Listing l m p) fs gs a.0 h a.6 a.2) a.1 refl (omega (arith, h.few, open_size a.0 (length k.cells.cells) (heap_of k) c l o)) e))

close_listing_sim : AreLaws → (first : Heap) (t : Bool) (c : PairChain) (l : Items) (n : ℕ) (p : Phase) (fs : List (ReaderFrame PairChain)) (gs : List (ReaderFrame Items)) (k : Stock) (x : Unit {0}) → Holds first (heap_of k) (Listing c n p ∷ fs) (Listing l n p ∷ gs) → SimStep first (close_list (in_stock t) (Listing c n p ∷ fs) k) (close_list plain (Listing l n p ∷ gs) x)
close_listing_sim laws first t c l n Dotted fs gs k x h = tt
close_listing_sim laws first t c l zero Begun fs gs k x h = list_whole_sim laws first t c l 0 Begun fs gs k x h
close_listing_sim laws first t c l zero Going fs gs k x h = list_whole_sim laws first t c l 0 Going fs gs k x h
close_listing_sim laws first t c l zero Shut fs gs k x h = list_whole_sim laws first t c l 0 Shut fs gs k x h
close_listing_sim laws first t c l (suc n) Begun fs gs k x h = list_shut_sim laws first c l (suc n) n Begun fs gs k x h h.around.5.0 h.around.5.1
close_listing_sim laws first t c l (suc n) Going fs gs k x h = list_shut_sim laws first c l (suc n) n Going fs gs k x h h.around.5.0 h.around.5.1
close_listing_sim laws first t c l (suc n) Shut fs gs k x h = (refl, tt, further_holds first (heap_of k) c l (suc n) n Shut Shut Shut fs gs h h.around.5)

close_list_sim : AreLaws → (first : Heap) (t : Bool) (fs : List (ReaderFrame PairChain)) (gs : List (ReaderFrame Items)) (k : Stock) (x : Unit {0}) → Holds first (heap_of k) fs gs → SimStep first (close_list (in_stock t) fs k) (close_list plain gs x)
close_list_sim laws first t [] [] k x h = tt
close_list_sim laws first t (Quoting ∷ fs) (Quoting ∷ gs) k x h = tt
close_list_sim laws first t (Vectoring c ∷ fs) (Vectoring l ∷ gs) k x h = tt
close_list_sim laws first t (Listing c m p ∷ fs) (Listing l n q ∷ gs) k x h =
    at_same_phase (λ i r. Holds first (heap_of k) (Listing c m p ∷ fs) (Listing l i r ∷ gs) → SimStep first (close_list (in_stock t) (Listing c m p ∷ fs) k) (close_list plain (Listing l i r ∷ gs) x)) m n p q h.around.3 h.around.4
    (close_listing_sim laws first t c l m p fs gs k x) h
close_list_sim laws first t _ _ k x h = absurd h.around

dot_listing_sim : (first : Heap) (t : Bool) (c : PairChain) (l : Items) (n : ℕ) (p : Phase) (fs : List (ReaderFrame PairChain)) (gs : List (ReaderFrame Items)) (k : Stock) (x : Unit {0}) → Holds first (heap_of k) (Listing c n p ∷ fs) (Listing l n p ∷ gs) → SimStep first (dot (in_stock t) (Listing c n p ∷ fs) k) (dot plain (Listing l n p ∷ gs) x)
dot_listing_sim first t c l n Begun fs gs k x h = tt
dot_listing_sim first t c l n Going fs gs k x h = (refl, tt, further_holds first (heap_of k) c l n n Going Going Dotted fs gs h h.around.5)
dot_listing_sim first t c l n Dotted fs gs k x h = tt
dot_listing_sim first t c l n Shut fs gs k x h = tt

dot_sim : (first : Heap) (t : Bool) (fs : List (ReaderFrame PairChain)) (gs : List (ReaderFrame Items)) (k : Stock) (x : Unit {0}) → Holds first (heap_of k) fs gs → SimStep first (dot (in_stock t) fs k) (dot plain gs x)
dot_sim first t [] [] k x h = tt
dot_sim first t (Quoting ∷ fs) (Quoting ∷ gs) k x h = tt
dot_sim first t (Vectoring c ∷ fs) (Vectoring l ∷ gs) k x h = tt
dot_sim first t (Listing c m p ∷ fs) (Listing l n q ∷ gs) k x h =
    at_same_phase (λ i r. Holds first (heap_of k) (Listing c m p ∷ fs) (Listing l i r ∷ gs) → SimStep first (dot (in_stock t) (Listing c m p ∷ fs) k) (dot plain (Listing l i r ∷ gs) x)) m n p q h.around.3 h.around.4
    (dot_listing_sim first t c l m p fs gs k x) h
dot_sim first t _ _ k x h = absurd h.around

close_vector_sim : AreLaws → (first : Heap) (t : Bool) (fs : List (ReaderFrame PairChain)) (gs : List (ReaderFrame Items)) (k : Stock) (x : Unit {0}) → Holds first (heap_of k) fs gs → SimStep first (close_vector (in_stock t) fs k) (close_vector plain gs x)
close_vector_sim laws first t [] [] k x h = tt
close_vector_sim laws first t (Quoting ∷ fs) (Quoting ∷ gs) k x h = tt
close_vector_sim laws first t (Listing c m p ∷ fs) (Listing l n q ∷ gs) k x h = tt
close_vector_sim laws first t (Vectoring c ∷ fs) (Vectoring l ∷ gs) k x h =
    let a = h.around in
    let d : Datum = Vector (elements l.elements) in
    goes_after_sim first _ _ (ended_with_sim first (IsValue a.0 (heap_of k) 1 d) (vector_made c k) _ _ (vector_makes laws a.0 (length k.cells.cells) k c l h.heap (omega arith) a.3)
    (λ v j e. value_sim laws first t v d fs gs (left (in_stock t) fs j) (left plain gs x) (pending_left t first j v d fs gs
    (vector_pending first (heap_of k) (heap_of j) a.0 fs gs c l v (holds_outside first (heap_of k) (Vectoring c) (Vectoring l) fs gs a.0 h a.4 a.2) a.1 h.few a.3 e))))
close_vector_sim laws first t _ _ k x h = absurd h.around

mark_sim : AreLaws → (first : Heap) (t : Bool) (mark : Mark) (fs : List (ReaderFrame PairChain)) (gs : List (ReaderFrame Items)) (k : Stock) (x : Unit {0}) → Holds first (heap_of k) fs gs → SimStep first (at_mark (in_stock t) mark fs k) (at_mark plain mark gs x)
mark_sim laws first t Close fs gs k x h = close_list_sim laws first t fs gs k x h
mark_sim laws first t CloseVector fs gs k x h = close_vector_sim laws first t fs gs k x h
mark_sim laws first t Dot fs gs k x h = dot_sim first t fs gs k x h
mark_sim laws first t Open fs gs k x h = admitted_sim first fs gs k x _ _ h (λ a. open_sim first t fs gs k x a h)
mark_sim laws first t OpenVector fs gs k x h = admitted_sim first fs gs k x _ _ h (λ a. begins_sim first t (Vectoring None) (Vectoring (record { elements = []; tail = nil })) fs gs k x (empty_vector_holds first (heap_of k) fs gs h a))
mark_sim laws first t Quote fs gs k x h = admitted_sim first fs gs k x _ _ h (λ a. begins_sim first t Quoting Quoting fs gs k x (quote_holds first (heap_of k) fs gs h a))

-- ---- words

word_sim : (first : Heap) (mode : Mode) (fs : List (ReaderFrame PairChain)) (gs : List (ReaderFrame Items)) (k : Stock) (x : Unit {0}) → Holds first (heap_of k) fs gs → (admits fs ≡ true → IsMode fs mode) → SimStep first (in_word mode fs k) (in_word mode gs x)
word_sim first mode fs gs k x h is = admitted_sim first fs gs k x _ _ h (λ a. (refl, is a, h))

class_sim : AreLaws → (first : Heap) (t : Bool) (class : Class) (b : ℕ) (fs : List (ReaderFrame PairChain)) (gs : List (ReaderFrame Items)) (k : Stock) (x : Unit {0}) → Holds first (heap_of k) fs gs → SimStep first (at_class (in_stock t) class b fs k) (at_class plain class b gs x)
class_sim laws first t Blank b fs gs k x h = (refl, tt, h)
class_sim laws first t Percent b fs gs k x h = (refl, tt, h)
class_sim laws first t (Marks mark) b fs gs k x h = mark_sim laws first t mark fs gs k x h
class_sim laws first t Text b fs gs k x h = word_sim first (InText []) fs gs k x h (λ a. a)
class_sim laws first t Escape b fs gs k x h = word_sim first (InEscape []) fs gs k x h (λ a. (a, omega arith))
class_sim laws first t Letter b fs gs k x h = word_sim first (InName (raised b ∷ [])) fs gs k x h (λ a. (a, omega arith, omega arith))
class_sim laws first t Digit b fs gs k x h = word_sim first (InNumber false (b - 48)) fs gs k x h (λ a. a)
class_sim laws first t Sign b fs gs k x h = word_sim first (AfterSign b) fs gs k x h (λ a. a)
class_sim laws first t Special b fs gs k x h = admitted_sim first fs gs k x _ _ h (λ a. goes_after_sim first _ _ (atom_sim laws first t (Identifier (b ∷ [])) fs gs k x (omega arith, omega arith) a h))
class_sim laws first t Nothing b fs gs k x h = tt

before_sim : AreLaws → (first : Heap) (t : Bool) (b : ℕ) (x : Ended Stock Tagged PairChain Stop) (y : Ended (Unit {0}) Datum Items ⊥) → SimEnded first x y → SimStep first (goes_before (in_stock t) b x) (goes_before plain b y)
before_sim laws first t b (Lacks s k) y h = tt
before_sim laws first t b (Whole v k) (Whole d u) h = h
before_sim laws first t b (Inside fs k) (Inside gs u) h = class_sim laws first t (class_of b) b fs gs k u h
before_sim laws first t b _ _ h = absurd h

atom_before_sim : AreLaws → (first : Heap) (t : Bool) (a : Atom) (b : ℕ) (fs : List (ReaderFrame PairChain)) (gs : List (ReaderFrame Items)) (k : Stock) (x : Unit {0}) → IsAtomic a → admits fs ≡ true → Holds first (heap_of k) fs gs → SimStep first (atom_before (in_stock t) a b fs k) (atom_before plain a b gs x)
atom_before_sim laws first t a b fs gs k x is admitted h = before_sim laws first t b _ _ (atom_sim laws first t a fs gs k x is admitted h)

-- what goes on only under a test of its own
tested_sim : (first : Heap) (test : Bool) (mode : Mode) (fs : List (ReaderFrame PairChain)) (gs : List (ReaderFrame Items)) (k : Stock) (x : Unit {0}) → Holds first (heap_of k) fs gs → (test ≡ true → IsMode fs mode) → SimStep first (if test then Goes mode fs k else Refuses k) (if test then Goes mode gs x else Refuses x)
tested_sim first test mode fs gs k x h is = if_sim first test test _ _ _ _ refl (λ e. (refl, is e, h)) (λ e. tt)

-- one byte more is not too many
fewer : (m n : ℕ) → nat_lt m n ≡ true → m < n
fewer m n e = grind (arith, nat_tests)

one_more : (cs : List ℕ) (b : ℕ) → length (cs ++ b ∷ []) ≡ length cs + 1
one_more cs b = length-append cs (b ∷ []) ∙ omega arith

longer_name : (fs : List (ReaderFrame PairChain)) (cs : List ℕ) (b : ℕ) → admits fs ≡ true → length cs < 255 → IsMode fs (InName (cs ++ b ∷ []))
longer_name fs cs b a l = (a, omega (arith, one_more cs b), omega (arith, one_more cs b))

step_sim : AreLaws → (first : Heap) (t : Bool) (mode : Mode) (b : ℕ) (fs : List (ReaderFrame PairChain)) (gs : List (ReaderFrame Items)) (k : Stock) (x : Unit {0}) → IsMode fs mode → Holds first (heap_of k) fs gs → SimStep first (reader_step (in_stock t) mode b fs k) (reader_step plain mode b gs x)
step_sim laws first t Gap b fs gs k x is h = class_sim laws first t (class_of b) b fs gs k x h
step_sim laws first t Comment b fs gs k x is h = (refl, blank_mode (b == 10), h)
  where
    blank_mode : (c : Bool) → IsMode fs (if c then Gap else Comment)
    blank_mode true = tt
    blank_mode false = tt
step_sim laws first t (InName cs) b fs gs k x is h =
    if_sim first (is_name_byte b) (is_name_byte b) _ _ _ _ refl (λ e. tested_sim first (nat_lt (length cs) 255) (InName (cs ++ raised b ∷ [])) fs gs k x h (λ l. longer_name fs cs (raised b) is.0 (fewer (length cs) 255 l)))
    (λ e. if_sim first (b == 33) (b == 33) _ _ _ _ refl (λ e. tested_sim first (nat_lt (length cs) 255) (InEscape cs) fs gs k x h (λ l. (is.0, fewer (length cs) 255 l)))
    (λ e. atom_before_sim laws first t (Identifier cs) b fs gs k x (is.1, is.2) is.0 h))
step_sim laws first t (InEscape cs) b fs gs k x is h = (refl, longer_name fs cs b is.0 is.1, h)
step_sim laws first t (AfterSign c) b fs gs k x is h =
    if_sim first (is_digit b) (is_digit b) _ _ (Goes (InNumber (c == 45) (b - 48)) gs x) _ refl (λ e. (refl, is, h)) (λ e. atom_before_sim laws first t (Identifier (c ∷ [])) b fs gs k x (omega arith, omega arith) is h)
step_sim laws first t (InNumber minus n) b fs gs k x is h =
    if_sim first (is_digit b) (is_digit b) _ _ _ _ refl (λ e. tested_sim first (if minus then nat_le (10 * n + (b - 48)) (2 ^ 59) else nat_lt (10 * n + (b - 48)) (2 ^ 59)) (InNumber minus (10 * n + (b - 48))) fs gs k x h (λ l. is))
    (λ e. atom_before_sim laws first t (Integer (signed minus n)) b fs gs k x tt is h)
step_sim laws first t (InText cs) b fs gs k x is h =
    if_sim first (b == 34) (b == 34) _ _ (Goes (AfterQuote cs) gs x) _ refl (λ e. (refl, is, h)) (λ e. tested_sim first (nat_lt (length cs) 65535) (InText (cs ++ b ∷ [])) fs gs k x h (λ l. is))
step_sim laws first t (AfterQuote cs) b fs gs k x is h =
    if_sim first (b == 34) (b == 34) _ _ _ _ refl (λ e. tested_sim first (nat_lt (length cs) 65535) (InText (cs ++ 34 ∷ [])) fs gs k x h (λ l. is))
    (λ e. atom_before_sim laws first t (String cs) b fs gs k x tt is h)

-- ---- a text

-- where both read a value
abbrev pub SimRead : Heap → ReaderOutcome Stock Tagged Stop → ReaderOutcome (Unit {0}) Datum ⊥ → Type 0
SimRead first (Read v k rest) (Read d t more) = IsResult first (heap_of k) v d
SimRead first _ _ = Unit {0}

after_sim : (first : Heap) (x : Ended Stock Tagged PairChain Stop) (y : Ended (Unit {0}) Datum Items ⊥) → SimEnded first x y → SimRead first (ends_after x) (ends_after y)
after_sim first (Lacks s k) y h = tt
after_sim first (Whole v k) (Whole d t) h = h
after_sim first (Inside fs k) (Inside gs t) h = tt
after_sim first _ _ h = absurd h

between_sim : (first : Heap) (fs : List (ReaderFrame PairChain)) (gs : List (ReaderFrame Items)) (k : Stock) (x : Unit {0}) → SimRead first (at_end_between fs k) (at_end_between gs x)
between_sim first [] gs k x = tt
between_sim first (f ∷ fs) gs k x = tt

end_sim : AreLaws → (first : Heap) (t : Bool) (mode : Mode) (fs : List (ReaderFrame PairChain)) (gs : List (ReaderFrame Items)) (k : Stock) (x : Unit {0}) → IsMode fs mode → Holds first (heap_of k) fs gs → SimRead first (at_end (in_stock t) mode fs k) (at_end plain mode gs x)
end_sim laws first t Gap fs gs k x is h = between_sim first fs gs k x
end_sim laws first t Comment fs gs k x is h = between_sim first fs gs k x
end_sim laws first t (InName cs) fs gs k x is h = after_sim first _ _ (atom_sim laws first t (Identifier cs) fs gs k x (is.1, is.2) is.0 h)
end_sim laws first t (InEscape cs) fs gs k x is h = tt
end_sim laws first t (AfterSign c) fs gs k x is h = after_sim first _ _ (atom_sim laws first t (Identifier (c ∷ [])) fs gs k x (omega arith, omega arith) is h)
end_sim laws first t (InNumber minus n) fs gs k x is h = after_sim first _ _ (atom_sim laws first t (Integer (signed minus n)) fs gs k x tt is h)
end_sim laws first t (InText cs) fs gs k x is h = tt
end_sim laws first t (AfterQuote cs) fs gs k x is h = after_sim first _ _ (atom_sim laws first t (String cs) fs gs k x tt is h)

turned_makes_at : (P : Heap → Type 0) (s : Option Stop) (k : Stock) → P (heap_of k) → Makes (λ (u : Unit {0}) w. P w) (turned_at s k)
turned_makes_at P (Some s) k h = tt
turned_makes_at P None k h = h

turned_makes : (P : Heap → Type 0) (t : Bool) (k : Stock) → P (heap_of k) → Makes (λ (u : Unit {0}) w. P w) (turned t k)
turned_makes P true k h = turned_makes_at P (tick_stop k.counts) k h
turned_makes P false k h = h

turn_sim : (first : Heap) (P : Heap → Type 0) (bs : List ℕ) (made : Made Stock (Unit {0}) Stop) (further : Stock → ReaderOutcome Stock Tagged Stop) (other : ReaderOutcome (Unit {0}) Datum ⊥) → Makes (λ (u : Unit {0}) w. P w) made → ((k : Stock) → P (heap_of k) → SimRead first (further k) other) → SimRead first (after_turn bs made further) other
turn_sim first P bs (Has u k) further other h f = f k h
turn_sim first P bs (Wants s k) further other h f = tt

after_step_sim : (first : Heap) (b : ℕ) (bs : List ℕ) (x : ReaderStep Stock Tagged PairChain Stop) (y : ReaderStep (Unit {0}) Datum Items ⊥) (further : Mode → List (ReaderFrame PairChain) → Stock → ReaderOutcome Stock Tagged Stop) (also : Mode → List (ReaderFrame Items) → Unit {0} → ReaderOutcome (Unit {0}) Datum ⊥)
    → ((mode : Mode) (fs : List (ReaderFrame PairChain)) (gs : List (ReaderFrame Items)) (k : Stock) (t : Unit {0}) → IsMode fs mode → Holds first (heap_of k) fs gs → SimRead first (further mode fs k) (also mode gs t)) → SimStep first x y → SimRead first (after_step b bs x further) (after_step b bs y also)
after_step_sim first b bs (Halts s k) y further also f h = tt
after_step_sim first b bs (Goes mode fs k) (Goes other gs t) further also f h = subst (λ (n : Mode). SimRead first (further mode fs k) (also n gs t)) h.0 (f mode fs gs k t h.1 h.2)
after_step_sim first b bs (Done v used k) (Done d more t) further also f h = h
after_step_sim first b bs (Refuses k) (Refuses t) further also f h = tt
after_step_sim first b bs _ _ further also f h = absurd h

pub read_sim : AreLaws → (first : Heap) (t : Bool) (mode : Mode) (fs : List (ReaderFrame PairChain)) (gs : List (ReaderFrame Items)) (k : Stock) (x : Unit {0}) (bytes : List ℕ) → IsMode fs mode → Holds first (heap_of k) fs gs → SimRead first (read_from (in_stock t) mode fs k bytes) (read_from plain mode gs x bytes)
read_sim laws first t mode fs gs k x [] is h = end_sim laws first t mode fs gs k x is h
read_sim laws first t mode fs gs k x (b ∷ bs) is h =
    turn_sim first (λ w. Holds first w fs gs) bs (turned t k) _ _ (turned_makes (λ w. Holds first w fs gs) t k h)
    (λ j h. after_step_sim first b bs (reader_step (in_stock t) mode b fs j) (reader_step plain mode b gs x) _ _ (λ mode fs gs k x is h. read_sim laws first t mode fs gs k x bs is h) (step_sim laws first t mode b fs gs j x is h))
