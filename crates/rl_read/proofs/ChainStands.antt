-- Lists that are not whole yet: their pairs lead to a last one, of which the CDR is set as more comes.
use Rattle.std.proofs.Common.{◌≡◌, ◌≢◌, ℕ, zero, suc, ◌<◌, ◌≤◌, List, [], ◌∷◌, ◌++◌, length, None, Some, true, false, refl, sym, ap, ◌∙◌, arith, length-set}
use Rattle.rl_tags.specs.Tagged.{Tagged, PairAt}
use Rattle.rl_cells.specs.Cell.{Cell, PairCell, cell_at, is_pair_cell, car_in, car_of, changed_at}
use Rattle.rl_cells.specs.Laws.{IsChanged}
use Rattle.rl_syms.specs.Laws.{IsKept, LeaveIdentifiers}
use Rattle.rl_syms.specs.Table.{nil_value}
use Rattle.rl_text.specs.Datum.{Datum, elements, listed, nil}
use Rattle.rl_text.specs.Reading.{Items, listed_items}
use Rattle.rl_read.specs.Stock.{PairChain, elements_from, first_of_chain}
use Rattle.rl_read.proofs.ValueStands.{Heap, IsHeap, IsPairIn, Stands, AreStanding, Keeps, keeps_fewer, pair_in_kept, pair_inside, stands_kept, stands_wider}

-- ---- pairs that lead to the one at q

-- the pairs from v on, before the one at q, have these as their cars
abbrev pub Leads : ℕ → ℕ → Heap → Tagged → List Datum → Type 0
Leads lo q w v [] = v ≡ PairAt q
Leads lo q w v (e ∷ es) = (x : Tagged) × (y : Tagged) × IsPairIn lo q w v x y × Stands lo q w x e × Leads lo q w y es

pub leads_kept : (lo q : ℕ) (old new : Heap) → Keeps lo q old new → (v : Tagged) (es : List Datum) → Leads lo q old v es → Leads lo q new v es
leads_kept lo q old new k v [] h = h
leads_kept lo q old new k v (e ∷ es) h = (h.0, h.1, pair_in_kept lo q old new v h.0 h.1 k h.2, stands_kept lo q old new k h.0 e h.3, leads_kept lo q old new k h.1 es h.4)

pair_in_later : (lo q to : ℕ) (w : Heap) (v x y : Tagged) → q ≤ to → IsPairIn lo q w v x y → IsPairIn lo to w v x y
pair_in_later lo q to w v x y l h = record { place = h.place; is = h.is; above = h.above; below = omega (arith, h.below); cell = h.cell }

-- the pair at q leads on to the one at n
pub leads_on : (lo q n : ℕ) (w : Heap) (v x : Tagged) (es : List Datum) (e : Datum) → lo ≤ q → q < n → cell_at w.cells q ≡ PairCell x (PairAt n) → Stands lo q w x e → Leads lo q w v es → Leads lo n w v (es ++ e ∷ [])
leads_on lo q n w v x [] e a b c s h = (x, PairAt n, record { place = q; is = h; above = a; below = b; cell = c }, stands_wider lo q lo n w (omega arith) (omega arith) x e s, refl)
leads_on lo q n w v x (d ∷ ds) e a b c s h =
    (h.0, h.1, pair_in_later lo q n w v h.0 h.1 (omega arith) h.2, stands_wider lo q lo n w (omega arith) (omega arith) h.0 d h.3, leads_on lo q n w h.1 x ds e a b c s h.4)

-- with what the pair at q has they are a list
pub leads_list : (lo q hi : ℕ) (w : Heap) (v x y : Tagged) (es : List Datum) (e t : Datum) → lo ≤ q → q < hi → cell_at w.cells q ≡ PairCell x y → Stands lo q w x e → Stands lo hi w y t → Leads lo q w v es → Stands lo hi w v (listed (es ++ e ∷ []) t)
leads_list lo q hi w v x y [] e t a b c s r h = (x, y, record { place = q; is = h; above = a; below = b; cell = c }, stands_wider lo q lo hi w (omega arith) (omega arith) x e s, r)
leads_list lo q hi w v x y (d ∷ ds) e t a b c s r h =
    (h.0, h.1, pair_in_later lo q hi w v h.0 h.1 (omega arith) h.2, stands_wider lo q lo hi w (omega arith) (omega arith) h.0 d h.3, leads_list lo q hi w h.1 x y ds e t a b c s r h.4)

-- ---- a list that is not whole yet

-- its last pair, and what leads there
pub record IsChainIn (lo hi : ℕ) (w : Heap) (first last : Tagged) (es : List Datum) : Type 0 where
  pub place : ℕ
  pub is : last ≡ PairAt place
  pub above : lo ≤ place
  pub below : place < hi
  pub front : List Datum
  pub element : Datum
  pub all : es ≡ front ++ element ∷ []
  pub leads : Leads lo place w first front
  pub car : Tagged
  pub cell : cell_at w.cells place ≡ PairCell car nil_value
  pub stands : Stands lo place w car element

abbrev pub IsOpen : ℕ → ℕ → Heap → PairChain → Items → Type 0
IsOpen lo hi w None l = (l.elements ≡ []) × (l.tail ≡ nil)
IsOpen lo hi w (Some c) l = IsChainIn lo hi w c.0 c.1 l.elements × (l.tail ≡ nil)

-- it has elements
abbrev pub HasPairs : PairChain → Type 0
HasPairs None = ⊥
HasPairs (Some c) = Unit {0}

chain_in_kept : (lo hi : ℕ) (old new : Heap) (first last : Tagged) (es : List Datum) → Keeps lo hi old new → IsChainIn lo hi old first last es → IsChainIn lo hi new first last es
chain_in_kept lo hi old new first last es k h =
    let front : Keeps lo h.place old new = keeps_fewer lo hi lo h.place old new (omega arith) (omega (arith, h.below)) k in
    record {
      place = h.place;
      is = h.is;
      above = h.above;
      below = h.below;
      front = h.front;
      element = h.element;
      all = h.all;
      leads = leads_kept lo h.place old new front first h.front h.leads;
      car = h.car;
      cell = k.same h.place h.above h.below (pair_inside old h.place h.car nil_value h.cell) ∙ h.cell;
      stands = stands_kept lo h.place old new front h.car h.element h.stands;
    }

pub open_kept : (lo hi : ℕ) (old new : Heap) (c : PairChain) (l : Items) → Keeps lo hi old new → IsOpen lo hi old c l → IsOpen lo hi new c l
open_kept lo hi old new None l k h = h
open_kept lo hi old new (Some c) l k h = (chain_in_kept lo hi old new c.0 c.1 l.elements k h.0, h.1)

-- whole as it is, it is the list of its elements
pub open_list : (lo hi : ℕ) (w : Heap) (c : PairChain) (l : Items) → IsHeap w → IsOpen lo hi w c l → Stands lo hi w (first_of_chain c) (listed_items l)
open_list lo hi w None l n h = rw (h.0, h.1) n.nil
open_list lo hi w (Some c) l n h =
    rw (h.0.all, h.1) (leads_list lo h.0.place hi w c.0 h.0.car nil_value h.0.front h.0.element nil h.0.above h.0.below h.0.cell h.0.stands n.nil h.0.leads)

-- ---- its elements

nil_elements : (m : ℕ) (cells : List Cell) → elements_from m cells nil_value ≡ []
nil_elements zero cells = refl
nil_elements (suc m) cells = refl

-- where fewer are there than were asked for, they are all
leads_elements : (lo q hi m : ℕ) (w : Heap) (v x : Tagged) (es : List Datum) (e : Datum) → q ≤ hi → cell_at w.cells q ≡ PairCell x nil_value → Stands lo q w x e → Leads lo q w v es → length (elements_from m w.cells v) < m → AreStanding lo hi w (elements_from m w.cells v) (elements (es ++ e ∷ []))
leads_elements lo q hi zero w v x es e b c s h few = absurd (omega arith)
leads_elements lo q hi (suc m) w v x [] e b c s h few =
    rw (h, c, nil_elements m w.cells) (stands_wider lo q lo hi w (omega arith) b x e s, tt)
leads_elements lo q hi (suc m) w v x (d ∷ ds) e b c s h few =
    let fewer : length (elements_from m w.cells h.1) < m = omega (arith, rw (h.2.is, h.2.cell) at few) in
    rw (h.2.is, h.2.cell) (stands_wider lo q lo hi w (omega arith) b h.0 d h.3, leads_elements lo q hi m w h.1 x ds e b c s h.4 fewer)

pub open_elements : (lo hi m : ℕ) (w : Heap) (c : PairChain) (l : Items) → IsOpen lo hi w c l → length (elements_from m w.cells (first_of_chain c)) < m → AreStanding lo hi w (elements_from m w.cells (first_of_chain c)) (elements l.elements)
open_elements lo hi m w None l h few = rw (h.0, nil_elements m w.cells) tt
open_elements lo hi m w (Some c) l h few =
    rw h.0.all (leads_elements lo h.0.place hi m w c.0 h.0.car h.0.front h.0.element (omega (arith, h.0.below)) h.0.cell h.0.stands h.0.leads few)

-- ---- the CDR of a pair is set

-- the cells with another CDR at q
abbrev pub with_cdr_at : ℕ → Tagged → Heap → Heap
with_cdr_at q v w = record { cells = changed_at w.cells (PairAt q) (PairCell (car_of w.cells (PairAt q)) v); head = w.head }

pub set_here : IsChanged → (q : ℕ) (w : Heap) (x y v : Tagged) → cell_at w.cells q ≡ PairCell x y → cell_at (with_cdr_at q v w).cells q ≡ PairCell x v
set_here changed q w x y v e = changed.here w.cells q (PairCell (car_of w.cells (PairAt q)) v) (pair_inside w q x y e) ∙ ap (λ c. PairCell (car_in c) v) e

-- what does not reach from q on stays, nor what begins behind q
pub set_keeps : IsChanged → IsKept → LeaveIdentifiers → (lo hi q : ℕ) (w : Heap) (x y v : Tagged) → IsHeap w → cell_at w.cells q ≡ PairCell x y → ((p : ℕ) → lo ≤ p → p < hi → p ≢ q) → Keeps lo hi w (with_cdr_at q v w)
set_keeps changed kept leave lo hi q w x y v n e apart = record {
  longer = omega (arith, length-set w.cells q (PairCell (car_of w.cells (PairAt q)) v));
  same = λ p a b l. changed.others w.cells q p (PairCell (car_of w.cells (PairAt q)) v) (apart p a b);
  others = λ p l o. changed.others w.cells q p (PairCell (car_of w.cells (PairAt q)) v) (λ (i : p ≡ q). let z : true ≡ false = sym (ap is_pair_cell (ap (cell_at w.cells) i ∙ e)) ∙ o in cc);
  names = λ bytes id h. kept.names w.cells (with_cdr_at q v w).cells w.head bytes id (leave.pair w.cells (PairAt q) (car_of w.cells (PairAt q)) v (ap is_pair_cell e)) n.table h;
}

pub set_heap : IsKept → LeaveIdentifiers → (q : ℕ) (w : Heap) (x y v : Tagged) → IsHeap w → cell_at w.cells q ≡ PairCell x y → IsHeap (with_cdr_at q v w)
set_heap kept leave q w x y v n e =
    let blocks = leave.pair w.cells (PairAt q) (car_of w.cells (PairAt q)) v (ap is_pair_cell e) in
    record {
      table = kept.table w.cells (with_cdr_at q v w).cells w.head blocks n.table;
      nil = kept.names w.cells (with_cdr_at q v w).cells w.head _ _ blocks n.table n.nil;
    }
