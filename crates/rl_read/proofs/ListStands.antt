-- A list with one element more, a list with what stands behind its dot, and a vector stand for theirs.
use Rattle.std.proofs.Common.{◌≡◌, ℕ, ◌+◌, ◌^◌, ◌<◌, ◌≤◌, Bool, true, false, if◌then◌else◌, List, [], ◌∷◌, ◌++◌, length, None, Some, refl, ap, ◌∙◌, arith, length-set}
use Rattle.std.specs.Prelude.{nat_le}
use Rattle.std.proofs.lemmas.Bool.Decides.{nat_tests}
use Rattle.rl_tags.specs.Tagged.{Tagged, PairAt, VectorAt}
use Rattle.rl_cells.specs.Cell.{PairCell, VectorCell, cell_at, car_of, cost_of}
use Rattle.rl_syms.specs.Table.{nil_value}
use Rattle.rl_text.specs.Datum.{Datum, Elements, Vector, elements, listed, nil}
use Rattle.rl_text.specs.Maker.{Wants}
use Rattle.rl_text.specs.Reading.{Items}
use Rattle.rl_world.specs.declared.stop.Stop.TheVariants as stop
use Rattle.rl_read.specs.Stock.{Stock, PairChain, elements_of, chain_ended, chain_extended, first_of_chain, chain_hung, object_made, pair_made, vector_made}
use Rattle.rl_read.proofs.ValueStands.{Heap, IsHeap, Stands, AreStanding, Keeps, keeps_trans, stands_kept, are_kept, stands_wider, are_wider}
use Rattle.rl_read.proofs.ChainStands.{IsOpen, Leads, HasPairs, leads_kept, leads_list, leads_on, open_elements, set_heap, set_here, set_keeps, with_cdr_at}
use Rattle.rl_read.proofs.MadeStands.{AreLaws, Grows, IsValue, Makes, added, added_grows, added_longer, heap_of, object_makes, then_makes}

-- ---- lists

-- one more element is in the list
pub record IsLonger (lo : ℕ) (old : Heap) (l : Items) (c : PairChain) (new : Heap) : Type 0 where
  pub heap : IsHeap new
  pub keeps : Keeps 0 lo old new
  pub opened : IsOpen lo (length new.cells) new c l
  pub some : HasPairs c
  pub room : length old.cells + 1 ≤ length new.cells

-- a pair was made behind all others
record IsLast (old : Heap) (v p : Tagged) (new : Heap) : Type 0 where
  pub grows : Grows old new
  pub is : p ≡ PairAt (length old.cells)
  pub cell : cell_at new.cells (length old.cells) ≡ PairCell v nil_value
  pub long : length new.cells ≡ length old.cells + 1

-- the last pair before it is made to go on with it
hung_chain : AreLaws → (lo hi n : ℕ) (old w : Heap) (first x v : Tagged) (es : List Datum) (e : Datum) (l : Items) (d : Datum) (q : ℕ) → lo ≤ q → q < hi → hi ≤ n → n ≡ length old.cells → l.elements ≡ es ++ e ∷ [] → Grows old w → cell_at w.cells q ≡ PairCell x nil_value → cell_at w.cells n ≡ PairCell v nil_value → length w.cells ≡ n + 1
    → Leads lo q w first es → Stands lo q w x e → Stands hi n w v d → IsLonger lo old (record { elements = l.elements ++ d ∷ []; tail = nil }) (Some (first, PairAt n)) (with_cdr_at q (PairAt n) w)
hung_chain laws lo hi n old w first x v es e l d q a b c i all g cell last long leads s t =
    let new = with_cdr_at q (PairAt n) w in
    let front : Keeps lo q w new = set_keeps laws.changed laws.kept laws.leave lo q q w x nil_value (PairAt n) g.heap cell (λ p i j. omega arith) in
    let behind : Keeps hi n w new = set_keeps laws.changed laws.kept laws.leave hi n q w x nil_value (PairAt n) g.heap cell (λ p i j. omega arith) in
    let around : Keeps 0 lo w new = set_keeps laws.changed laws.kept laws.leave 0 lo q w x nil_value (PairAt n) g.heap cell (λ p i j. omega arith) in
    let same : length new.cells ≡ length w.cells = length-set w.cells q (PairCell (car_of w.cells (PairAt q)) (PairAt n)) in
    record {
      heap = set_heap laws.kept laws.leave q w x nil_value (PairAt n) g.heap cell;
      keeps = keeps_trans 0 lo old w new (g.keeps 0 lo) around;
      opened = (
        record {
          place = n;
          is = refl;
          above = omega arith;
          below = omega arith;
          front = es ++ e ∷ [];
          element = d;
          all = ap (λ ds. ds ++ d ∷ []) all;
          leads = leads_on lo q n new first x es e a (omega arith) (set_here laws.changed q w x nil_value (PairAt n) cell) (stands_kept lo q w new front x e s) (leads_kept lo q w new front first es leads);
          car = v;
          cell = laws.changed.others w.cells q n (PairCell (car_of w.cells (PairAt q)) (PairAt n)) (omega arith) ∙ last;
          stands = stands_wider hi n lo n new (omega arith) (omega arith) v d (stands_kept hi n w new behind v d t);
        },
        refl,
      );
      some = tt;
      room = omega arith;
    }

hung_makes : AreLaws → (lo hi : ℕ) (old : Heap) (k : Stock) (c : PairChain) (l : Items) (v p : Tagged) (d : Datum) → lo ≤ hi → hi ≤ length old.cells → IsOpen lo hi old c l → Stands hi (length old.cells) old v d → IsLast old v p (heap_of k)
    → Makes (IsLonger lo old (record { elements = l.elements ++ d ∷ []; tail = nil })) (chain_hung c p k)
hung_makes laws lo hi old k None l v p d a b o s e =
    let w = heap_of k in
    let n = length old.cells in
    record {
      heap = e.grows.heap;
      keeps = e.grows.keeps 0 lo;
      opened = (
        record {
          place = n;
          is = e.is;
          above = omega arith;
          below = omega (arith, e.long);
          front = [];
          element = d;
          all = ap (λ es. es ++ d ∷ []) o.0;
          leads = e.is;
          car = v;
          cell = e.cell;
          stands = stands_wider hi n lo n w a (omega arith) v d (stands_kept hi n old w (e.grows.keeps hi n) v d s);
        },
        refl,
      );
      some = tt;
      room = omega (arith, e.long);
    }
hung_makes laws lo hi old k (Some c) l v p d a b o s e =
    let h = o.0 in
    let q = h.place in
    let n = length old.cells in
    let w = heap_of k in
    let below : q < n = omega (arith, h.below) in
    let cell : cell_at w.cells q ≡ PairCell h.car nil_value = (e.grows.keeps lo hi).same q h.above h.below below ∙ h.cell in
    rw (h.is, e.is) (hung_chain laws lo hi n old w c.0 h.car v h.front h.element l d q h.above h.below b refl h.all e.grows cell e.cell e.long
    (leads_kept lo q old w (e.grows.keeps lo q) c.0 h.front h.leads) (stands_kept lo q old w (e.grows.keeps lo q) h.car h.element h.stands) (stands_kept hi n old w (e.grows.keeps hi n) v d s))

pub extended_makes : AreLaws → (lo hi : ℕ) (k : Stock) (c : PairChain) (l : Items) (v : Tagged) (d : Datum) → IsHeap (heap_of k) → lo ≤ hi → hi ≤ length k.cells.cells → IsOpen lo hi (heap_of k) c l → Stands hi (length k.cells.cells) (heap_of k) v d
    → Makes (IsLonger lo (heap_of k) (record { elements = l.elements ++ d ∷ []; tail = nil })) (chain_extended c v k)
extended_makes laws lo hi k c l v d h a b o s =
    let w = heap_of k in
    let made = added w (PairCell v nil_value) in
    let grows : Grows w made = added_grows laws w (PairCell v nil_value) (omega arith) refl h in
    then_makes (IsLast w v) (IsLonger lo w (record { elements = l.elements ++ d ∷ []; tail = nil })) (pair_made v nil_value k) _
    (object_makes (IsLast w v) (λ n. PairAt n) (PairCell v nil_value) k (record { grows = grows; is = refl; cell = laws.added.here w.cells (PairCell v nil_value); long = added_longer laws w (PairCell v nil_value) (omega arith) }))
    (λ p j e. hung_makes laws lo hi w j c l v p d a b o s e)

-- the last pair is made to end with this
ended_chain : AreLaws → (lo hi : ℕ) (w : Heap) (first x v : Tagged) (es : List Datum) (e d : Datum) (q : ℕ) → lo ≤ q → q < hi → hi ≤ length w.cells → IsHeap w → cell_at w.cells q ≡ PairCell x nil_value → Leads lo q w first es → Stands lo q w x e → Stands hi (length w.cells) w v d
    → IsValue lo w 0 (listed (es ++ e ∷ []) d) first (with_cdr_at q v w)
ended_chain laws lo hi w first x v es e d q a b c h cell leads s t =
    let n = length w.cells in
    let new = with_cdr_at q v w in
    let front : Keeps lo q w new = set_keeps laws.changed laws.kept laws.leave lo q q w x nil_value v h cell (λ p i j. omega arith) in
    let behind : Keeps hi n w new = set_keeps laws.changed laws.kept laws.leave hi n q w x nil_value v h cell (λ p i j. omega arith) in
    let around : Keeps 0 lo w new = set_keeps laws.changed laws.kept laws.leave 0 lo q w x nil_value v h cell (λ p i j. omega arith) in
    let same : length new.cells ≡ length w.cells = length-set w.cells q (PairCell (car_of w.cells (PairAt q)) v) in
    record {
      heap = set_heap laws.kept laws.leave q w x nil_value v h cell;
      keeps = around;
      stands = leads_list lo q (length new.cells) new first x v es e d a (omega arith) (set_here laws.changed q w x nil_value v cell) (stands_kept lo q w new front x e s) (stands_wider hi n lo (length new.cells) new (omega arith) (omega arith) v d (stands_kept hi n w new behind v d t)) (leads_kept lo q w new front first es leads);
      room = omega arith;
    }

pub ended_makes : AreLaws → (lo hi : ℕ) (k : Stock) (c : PairChain) (l : Items) (v : Tagged) (d : Datum) → IsHeap (heap_of k) → lo ≤ hi → hi ≤ length k.cells.cells → IsOpen lo hi (heap_of k) c l → HasPairs c → Stands hi (length k.cells.cells) (heap_of k) v d
    → Makes (λ c w. IsValue lo (heap_of k) 0 (listed l.elements d) (first_of_chain c) w) (chain_ended c v k)
ended_makes laws lo hi k None l v d h a b o some s = absurd some
ended_makes laws lo hi k (Some c) l v d h a b o some s =
    let e = o.0 in
    rw (e.is, e.all) (ended_chain laws lo hi (heap_of k) c.0 e.car v e.front e.element d e.place e.above e.below b h e.cell e.leads e.stands s)

-- ---- vectors

vector_makes_with : AreLaws → (lo hi : ℕ) (k : Stock) (xs : List Tagged) (es : Elements) → IsHeap (heap_of k) → hi ≤ length k.cells.cells → (b : Bool) → nat_le (length xs) (2 ^ 31) ≡ b → (length xs ≤ 2 ^ 31 → AreStanding lo hi (heap_of k) xs es)
    → Makes (IsValue lo (heap_of k) 1 (Vector es)) (if b then object_made (λ n. VectorAt n) (VectorCell xs) k else Wants stop.Cells k)
vector_makes_with laws lo hi k xs es h l false e are = tt
vector_makes_with laws lo hi k xs es h l true e are =
    let w = heap_of k in
    let n = length w.cells in
    let new = added w (VectorCell xs) in
    let grows : Grows w new = added_grows laws w (VectorCell xs) (omega arith) refl h in
    let long : length new.cells ≡ n + cost_of (VectorCell xs) = added_longer laws w (VectorCell xs) (omega arith) in
    let stand = are (few (length xs) (2 ^ 31) e) in
    object_makes (IsValue lo w 1 (Vector es)) (λ n. VectorAt n) (VectorCell xs) k (record {
      heap = grows.heap;
      keeps = grows.keeps 0 lo;
      stands = (xs, record { place = n; is = refl; cell = laws.added.here w.cells (VectorCell xs) }, are_wider lo hi lo (length new.cells) new (omega arith) (omega arith) xs es (are_kept lo hi w new (grows.keeps lo hi) xs es stand));
      room = omega arith;
    })
  where
    few : (m n : ℕ) → nat_le m n ≡ true → m ≤ n
    few m n t = grind (arith, nat_tests)

pub vector_makes : AreLaws → (lo hi : ℕ) (k : Stock) (c : PairChain) (l : Items) → IsHeap (heap_of k) → hi ≤ length k.cells.cells → IsOpen lo hi (heap_of k) c l → Makes (IsValue lo (heap_of k) 1 (Vector (elements l.elements))) (vector_made c k)
vector_makes laws lo hi k c l h b o = vector_makes_with laws lo hi k (elements_of k.cells.cells c) (elements l.elements) h b (nat_le (length (elements_of k.cells.cells c)) (2 ^ 31)) refl (λ few. open_elements lo hi (2 ^ 31 + 1) (heap_of k) c l o (omega arith))
