-- What has begun, in cells and as data: the newest at the end of the cells, and each list with its elements.
use Rattle.std.proofs.Common.{◌≡◌, ℕ, zero, suc, ◌+◌, ◌≤◌, Bool, true, false, if◌then◌else◌, List, [], ◌∷◌, ◌++◌, length, None, Some, refl, sym, ap, subst, arith}
use Rattle.rl_tags.specs.Tagged.{Tagged}
use Rattle.rl_text.specs.Datum.{Datum, Vector, quoted, elements, listed, nil}
use Rattle.rl_text.specs.Reader.{Phase, Begun, Going, Dotted, Shut, ReaderFrame, Listing, Vectoring, Quoting, is_inner, admits, left}
use Rattle.rl_text.specs.Reading.{Items, listed_items}
use Rattle.rl_read.specs.Stock.{Stock, PairChain, first_of_chain, in_stock, level_left}
use Rattle.rl_read.proofs.DataStay.{Stays}
use Rattle.rl_read.proofs.ValueStands.{Heap, IsHeap, Stands, Keeps, keeps_fewer, stands_kept, stands_wider, stays_on, size, sizes}
use Rattle.rl_read.proofs.ChainStands.{IsOpen, HasPairs, open_kept, open_list}
use Rattle.rl_read.proofs.MadeStands.{IsValue, heap_of}
use Rattle.rl_read.proofs.ListStands.{IsLonger}

-- ---- frames

-- what stands behind a dot is of a list that has elements
abbrev pub IsOwed : ℕ → PairChain → Type 0
IsOwed zero c = Unit {0}
IsOwed (suc n) c = HasPairs c

abbrev pub IsListing : Phase → ℕ → ℕ → ℕ → Heap → PairChain → Items → Type 0
IsListing Begun n lo hi w c l = IsOpen lo hi w c l × IsOwed n c
IsListing Going n lo hi w c l = IsOpen lo hi w c l × HasPairs c
IsListing Dotted n lo hi w c l = IsOpen lo hi w c l × HasPairs c
IsListing Shut n lo hi w c l = Stands lo hi w (first_of_chain c) (listed_items l)

-- each stands where the one around it ends
abbrev pub Around : ℕ → ℕ → Heap → List (ReaderFrame PairChain) → List (ReaderFrame Items) → Type 0
Around base hi w [] [] = base ≤ hi
Around base hi w (Quoting ∷ fs) (Quoting ∷ gs) = (admits fs ≡ true) × Around base hi w fs gs
Around base hi w (Vectoring c ∷ fs) (Vectoring l ∷ gs) = (lo : ℕ) × (lo ≤ hi) × (admits fs ≡ true) × IsOpen lo hi w c l × Around base lo w fs gs
Around base hi w (Listing c m p ∷ fs) (Listing l n q ∷ gs) = (lo : ℕ) × (lo ≤ hi) × (admits fs ≡ true) × (m ≡ n) × (p ≡ q) × IsListing p m lo hi w c l × Around base lo w fs gs
Around base hi w _ _ = ⊥

listing_kept : (p : Phase) (n lo hi : ℕ) (old new : Heap) (c : PairChain) (l : Items) → Keeps lo hi old new → IsListing p n lo hi old c l → IsListing p n lo hi new c l
listing_kept Begun n lo hi old new c l k h = (open_kept lo hi old new c l k h.0, h.1)
listing_kept Going n lo hi old new c l k h = (open_kept lo hi old new c l k h.0, h.1)
listing_kept Dotted n lo hi old new c l k h = (open_kept lo hi old new c l k h.0, h.1)
listing_kept Shut n lo hi old new c l k h = stands_kept lo hi old new k (first_of_chain c) (listed_items l) h

pub around_kept : (base hi : ℕ) (old new : Heap) (fs : List (ReaderFrame PairChain)) (gs : List (ReaderFrame Items)) → Keeps 0 hi old new → Around base hi old fs gs → Around base hi new fs gs
around_kept base hi old new [] [] k h = h
around_kept base hi old new (Quoting ∷ fs) (Quoting ∷ gs) k h = (h.0, around_kept base hi old new fs gs k h.1)
around_kept base hi old new (Vectoring c ∷ fs) (Vectoring l ∷ gs) k h =
    (h.0, h.1, h.2, open_kept h.0 hi old new c l (keeps_fewer 0 hi h.0 hi old new (omega arith) (omega arith) k) h.3, around_kept base h.0 old new fs gs (keeps_fewer 0 hi 0 h.0 old new (omega arith) h.1 k) h.4)
around_kept base hi old new (Listing c m p ∷ fs) (Listing l n q ∷ gs) k h =
    (h.0, h.1, h.2, h.3, h.4, listing_kept p m h.0 hi old new c l (keeps_fewer 0 hi h.0 hi old new (omega arith) (omega arith) k) h.5, around_kept base h.0 old new fs gs (keeps_fewer 0 hi 0 h.0 old new (omega arith) h.1 k) h.6)
around_kept base hi old new _ _ k h = absurd h

-- nothing stands before the base
around_above : (base hi : ℕ) (w : Heap) (fs : List (ReaderFrame PairChain)) (gs : List (ReaderFrame Items)) → Around base hi w fs gs → base ≤ hi
around_above base hi w [] [] h = h
around_above base hi w (Quoting ∷ fs) (Quoting ∷ gs) h = around_above base hi w fs gs h.1
around_above base hi w (Vectoring c ∷ fs) (Vectoring l ∷ gs) h = omega (arith, h.1, around_above base h.0 w fs gs h.4)
around_above base hi w (Listing c m p ∷ fs) (Listing l n q ∷ gs) h = omega (arith, h.1, around_above base h.0 w fs gs h.6)
around_above base hi w _ _ h = absurd h

phase_admits : {K L : Type 0} (k : K) (l : L) (m n : ℕ) (p : Phase) (fs : List (ReaderFrame K)) (gs : List (ReaderFrame L)) → admits (Listing k m p ∷ fs) ≡ admits (Listing l n p ∷ gs)
phase_admits k l m n Begun fs gs = refl
phase_admits k l m n Going fs gs = refl
phase_admits k l m n Dotted fs gs = refl
phase_admits k l m n Shut fs gs = refl

pub admits_same : (base hi : ℕ) (w : Heap) (fs : List (ReaderFrame PairChain)) (gs : List (ReaderFrame Items)) → Around base hi w fs gs → admits fs ≡ admits gs
admits_same base hi w [] [] h = refl
admits_same base hi w (Quoting ∷ fs) (Quoting ∷ gs) h = refl
admits_same base hi w (Vectoring c ∷ fs) (Vectoring l ∷ gs) h = refl
admits_same base hi w (Listing c m p ∷ fs) (Listing l n q ∷ gs) h = subst (λ (r : Phase). admits (Listing c m p ∷ fs) ≡ admits (Listing l n r ∷ gs)) h.4 (phase_admits c l m n p fs gs)
admits_same base hi w _ _ h = absurd h

-- ---- sizes

abbrev pub frame_sizes : List (ReaderFrame Items) → ℕ
frame_sizes [] = 0
frame_sizes (Quoting ∷ gs) = frame_sizes gs
frame_sizes (Vectoring l ∷ gs) = size (listed_items l) + frame_sizes gs
frame_sizes (Listing l n p ∷ gs) = size (listed_items l) + frame_sizes gs

pub size_ended : (es : List Datum) (t : Datum) → size (listed es t) ≡ size (listed es nil) + size t
size_ended [] t = omega arith
size_ended (e ∷ es) t = omega (arith, size_ended es t)

pub size_longer : (es : List Datum) (d : Datum) → size (listed (es ++ d ∷ []) nil) ≡ size (listed es nil) + size d + 1
size_longer [] d = omega arith
size_longer (e ∷ es) d = omega (arith, size_longer es d)

size_elements : (es : List Datum) → sizes (elements es) ≤ size (listed es nil)
size_elements [] = omega arith
size_elements (e ∷ es) = omega (arith, size_elements es)

-- ---- where reading stands

-- what has begun stands in the cells, which have room for all its pairs and vectors; what there was at first stays
pub record Holds (first now : Heap) (fs : List (ReaderFrame PairChain)) (gs : List (ReaderFrame Items)) : Type 0 where
  pub heap : IsHeap now
  pub longer : length first.cells ≤ length now.cells
  pub stays : Stays first.cells first.head now.cells now.head
  pub around : Around (length first.cells) (length now.cells) now fs gs
  pub few : frame_sizes gs ≤ length now.cells

-- a value has ended inside of it
pub record IsPending (first now : Heap) (v : Tagged) (d : Datum) (fs : List (ReaderFrame PairChain)) (gs : List (ReaderFrame Items)) : Type 0 where
  pub heap : IsHeap now
  pub longer : length first.cells ≤ length now.cells
  pub stays : Stays first.cells first.head now.cells now.head
  pub from : ℕ
  pub within : from ≤ length now.cells
  pub around : Around (length first.cells) from now fs gs
  pub admitted : admits fs ≡ true
  pub stands : Stands from (length now.cells) now v d
  pub few : size d + frame_sizes gs ≤ length now.cells

-- a value has been read
pub record IsResult (first now : Heap) (v : Tagged) (d : Datum) : Type 0 where
  pub heap : IsHeap now
  pub longer : length first.cells ≤ length now.cells
  pub stays : Stays first.cells first.head now.cells now.head
  pub stands : Stands 0 (length now.cells) now v d
  pub few : size d ≤ length now.cells

-- the level that is left is no part of the cells
left_heap_at : (b : Bool) (k : Stock) → heap_of (if b then level_left k else k) ≡ heap_of k
left_heap_at true k = refl
left_heap_at false k = refl

pub pending_left : (t : Bool) (first : Heap) (k : Stock) (v : Tagged) (d : Datum) (fs : List (ReaderFrame PairChain)) (gs : List (ReaderFrame Items)) → IsPending first (heap_of k) v d fs gs → IsPending first (heap_of (left (in_stock t) fs k)) v d fs gs
pending_left t first k v d fs gs p = subst (λ (w : Heap). IsPending first w v d fs gs) (sym (left_heap_at (is_inner fs) k)) p

-- ---- what is made where reading stands

-- a value of no more pairs and vectors than there are new cells
pending_made : (first old new : Heap) (fs : List (ReaderFrame PairChain)) (gs : List (ReaderFrame Items)) (lo more : ℕ) (v : Tagged) (d : Datum) → length first.cells ≤ length old.cells → Stays first.cells first.head old.cells old.head → lo ≤ length old.cells → Around (length first.cells) lo old fs gs → admits fs ≡ true
    → size d + frame_sizes gs ≤ length old.cells + more → IsValue lo old more d v new → IsPending first new v d fs gs
pending_made first old new fs gs lo more v d longer stays l around admitted few e =
    let above = around_above (length first.cells) lo old fs gs around in
    record {
      heap = e.heap;
      longer = omega (arith, e.keeps.longer);
      stays = stays_on first old new lo longer above stays e.keeps;
      from = lo;
      within = omega (arith, e.keeps.longer);
      around = around_kept (length first.cells) lo old new fs gs e.keeps around;
      admitted = admitted;
      stands = e.stands;
      few = omega (arith, e.room);
    }

-- an atom
pub atom_pending : (first old new : Heap) (fs : List (ReaderFrame PairChain)) (gs : List (ReaderFrame Items)) (v : Tagged) (d : Datum) → Holds first old fs gs → admits fs ≡ true → size d ≡ 0 → IsValue (length old.cells) old 0 d v new → IsPending first new v d fs gs
atom_pending first old new fs gs v d h admitted none e = pending_made first old new fs gs (length old.cells) 0 v d h.longer h.stays (omega arith) h.around admitted (omega (arith, h.few)) e

-- a quote
pub quote_pending : (first old new : Heap) (fs : List (ReaderFrame PairChain)) (gs : List (ReaderFrame Items)) (v q : Tagged) (d : Datum) (p : IsPending first old v d (Quoting ∷ fs) (Quoting ∷ gs)) → IsValue p.from old 2 (quoted d) q new → IsPending first new q (quoted d) fs gs
quote_pending first old new fs gs v q d p e = pending_made first old new fs gs p.from 2 q (quoted d) p.longer p.stays p.within p.around.1 p.around.0 (omega (arith, p.few)) e

-- a value alone
pub whole_result : (first now : Heap) (v : Tagged) (d : Datum) → IsPending first now v d [] [] → IsResult first now v d
whole_result first now v d p = record {
  heap = p.heap;
  longer = p.longer;
  stays = p.stays;
  stands = stands_wider p.from (length now.cells) 0 (length now.cells) now (omega arith) (omega arith) v d p.stands;
  few = omega (arith, p.few);
}

-- the items of a list that is not whole have no tail
pub open_size : (lo hi : ℕ) (w : Heap) (c : PairChain) (l : Items) → IsOpen lo hi w c l → size (listed_items l) ≡ size (listed l.elements nil)
open_size lo hi w None l h = ap (λ (t : Datum). size (listed l.elements t)) h.1
open_size lo hi w (Some c) l h = ap (λ (t : Datum). size (listed l.elements t)) h.1

-- what is around a list, a vector or a quote
pub record IsOutside (first now : Heap) (lo : ℕ) (fs : List (ReaderFrame PairChain)) (gs : List (ReaderFrame Items)) : Type 0 where
  pub heap : IsHeap now
  pub longer : length first.cells ≤ length now.cells
  pub stays : Stays first.cells first.head now.cells now.head
  pub around : Around (length first.cells) lo now fs gs
  pub admitted : admits fs ≡ true

outside_stays : (first old new : Heap) (lo : ℕ) (fs : List (ReaderFrame PairChain)) (gs : List (ReaderFrame Items)) → IsOutside first old lo fs gs → Keeps 0 lo old new → Stays first.cells first.head new.cells new.head
outside_stays first old new lo fs gs o k = stays_on first old new lo o.longer (around_above (length first.cells) lo old fs gs o.around) o.stays k

-- a list goes on with one more element
pub going_holds : (first old new : Heap) (lo m n : ℕ) (fs : List (ReaderFrame PairChain)) (gs : List (ReaderFrame Items)) (c : PairChain) (l : Items) → IsOutside first old lo fs gs → lo ≤ length old.cells → m ≡ n → size (listed_items l) + frame_sizes gs ≤ length old.cells + 1 → IsLonger lo old l c new
    → Holds first new (Listing c m Going ∷ fs) (Listing l n Going ∷ gs)
going_holds first old new lo m n fs gs c l o within e few i = record {
  heap = i.heap;
  longer = omega (arith, o.longer, i.room);
  stays = outside_stays first old new lo fs gs o i.keeps;
  around = (lo, omega (arith, i.room), o.admitted, e, refl, (i.opened, i.some), around_kept (length first.cells) lo old new fs gs i.keeps o.around);
  few = omega (arith, i.room);
}

pub vector_holds : (first old new : Heap) (lo : ℕ) (fs : List (ReaderFrame PairChain)) (gs : List (ReaderFrame Items)) (c : PairChain) (l : Items) → IsOutside first old lo fs gs → lo ≤ length old.cells → size (listed_items l) + frame_sizes gs ≤ length old.cells + 1 → IsLonger lo old l c new
    → Holds first new (Vectoring c ∷ fs) (Vectoring l ∷ gs)
vector_holds first old new lo fs gs c l o within few i = record {
  heap = i.heap;
  longer = omega (arith, o.longer, i.room);
  stays = outside_stays first old new lo fs gs o i.keeps;
  around = (lo, omega (arith, i.room), o.admitted, i.opened, around_kept (length first.cells) lo old new fs gs i.keeps o.around);
  few = omega (arith, i.room);
}

-- and ends with what stands behind its dot
pub shut_holds : (first old new : Heap) (lo m n : ℕ) (fs : List (ReaderFrame PairChain)) (gs : List (ReaderFrame Items)) (c : PairChain) (d : Datum) → IsOutside first old lo fs gs → lo ≤ length old.cells → m ≡ n → size d + frame_sizes gs ≤ length old.cells → IsValue lo old 0 d (first_of_chain c) new
    → Holds first new (Listing c m Shut ∷ fs) (Listing (record { elements = []; tail = d }) n Shut ∷ gs)
shut_holds first old new lo m n fs gs c d o within e few i = record {
  heap = i.heap;
  longer = omega (arith, o.longer, i.room);
  stays = outside_stays first old new lo fs gs o i.keeps;
  around = (lo, omega (arith, i.room), o.admitted, e, refl, i.stands, around_kept (length first.cells) lo old new fs gs i.keeps o.around);
  few = omega (arith, i.room);
}

-- a list that has ended is a value
pub list_pending : (first now : Heap) (lo n : ℕ) (p : Phase) (fs : List (ReaderFrame PairChain)) (gs : List (ReaderFrame Items)) (c : PairChain) (l : Items) → IsOutside first now lo fs gs → lo ≤ length now.cells → size (listed_items l) + frame_sizes gs ≤ length now.cells → IsListing p n lo (length now.cells) now c l
    → IsPending first now (first_of_chain c) (listed_items l) fs gs
list_pending first now lo n p fs gs c l o within few h = record {
  heap = o.heap;
  longer = o.longer;
  stays = o.stays;
  from = lo;
  within = within;
  around = o.around;
  admitted = o.admitted;
  stands = stands p h;
  few = few;
}
  where
    stands : (p : Phase) → IsListing p n lo (length now.cells) now c l → Stands lo (length now.cells) now (first_of_chain c) (listed_items l)
    stands Begun h = open_list lo (length now.cells) now c l o.heap h.0
    stands Going h = open_list lo (length now.cells) now c l o.heap h.0
    stands Dotted h = open_list lo (length now.cells) now c l o.heap h.0
    stands Shut h = h

-- and so is a vector
pub vector_pending : (first old new : Heap) (lo : ℕ) (fs : List (ReaderFrame PairChain)) (gs : List (ReaderFrame Items)) (c : PairChain) (l : Items) (v : Tagged) → IsOutside first old lo fs gs → lo ≤ length old.cells → size (listed_items l) + frame_sizes gs ≤ length old.cells → IsOpen lo (length old.cells) old c l → IsValue lo old 1 (Vector (elements l.elements)) v new
    → IsPending first new v (Vector (elements l.elements)) fs gs
vector_pending first old new lo fs gs c l v o within few h e =
    pending_made first old new fs gs lo 1 v (Vector (elements l.elements)) o.longer o.stays within o.around o.admitted (omega (arith, open_size lo (length old.cells) old c l h, size_elements l.elements)) e
