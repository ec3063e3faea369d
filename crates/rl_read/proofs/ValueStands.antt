-- A value in cells stands for a datum, its pairs between two places; what is changed elsewhere leaves it.
use Rattle.std.proofs.Common.{◌≡◌, ℕ, zero, suc, ◌+◌, ◌<◌, ◌≤◌, true, false, List, [], ◌∷◌, length, map, Option, refl, ap, ◌∙◌, arith}
use Rattle.std.specs.List.{AllByRecursion}
use Rattle.rl_tags.specs.Tagged.{Tagged, Number, StrAt, PairAt, VectorAt, index_of}
use Rattle.rl_cells.specs.Cell.{Cell, PairCell, StrCell, VectorCell, cell_at, is_id_cell, is_pair_cell, is_str_cell, is_vector_cell}
use Rattle.rl_syms.specs.Laws.{AreIdentifiers}
use Rattle.rl_syms.specs.Table.{IsTable, IsNamed, nil_value}
use Rattle.rl_tree.specs.Name.{nil_name}
use Rattle.rl_text.specs.Datum.{Datum, Elements, Int, Id, Str, Pair, Vector, NoElements, Element, elements}
use Rattle.rl_read.specs.Data.{IsDatumWithin, datum_within}
use Rattle.rl_read.proofs.DataStay.{Stays, stands_inside}

-- the cells, and where the chain of names begins
pub record Heap : Type 0 where
  pub cells : List Cell
  pub head : Option Tagged

-- names are a table, and NIL has its name
pub record IsHeap (w : Heap) : Type 0 where
  pub table : IsTable w.cells w.head
  pub nil : IsNamed w.cells w.head nil_name nil_value

-- ---- what a value stands for

-- a pair from one place to another
pub record IsPairIn (lo hi : ℕ) (w : Heap) (v x y : Tagged) : Type 0 where
  pub place : ℕ
  pub is : v ≡ PairAt place
  pub above : lo ≤ place
  pub below : place < hi
  pub cell : cell_at w.cells place ≡ PairCell x y

pub record IsVectorIn (w : Heap) (v : Tagged) (xs : List Tagged) : Type 0 where
  pub place : ℕ
  pub is : v ≡ VectorAt place
  pub cell : cell_at w.cells place ≡ VectorCell xs

pub record IsStringIn (w : Heap) (v : Tagged) (bytes : List ℕ) : Type 0 where
  pub place : ℕ
  pub is : v ≡ StrAt place
  pub cell : cell_at w.cells place ≡ StrCell bytes

abbrev mutual
  pub Stands : ℕ → ℕ → Heap → Tagged → Datum → Type 0
  Stands lo hi w v (Int z) = v ≡ Number z
  Stands lo hi w v (Id name) = IsNamed w.cells w.head name v
  Stands lo hi w v (Str bytes) = IsStringIn w v bytes
  Stands lo hi w v (Pair a d) = (x : Tagged) × (y : Tagged) × IsPairIn lo hi w v x y × Stands lo hi w x a × Stands lo hi w y d
  Stands lo hi w v (Vector es) = (xs : List Tagged) × IsVectorIn w v xs × AreStanding lo hi w xs es

  pub AreStanding : ℕ → ℕ → Heap → List Tagged → Elements → Type 0
  AreStanding lo hi w [] NoElements = Unit {0}
  AreStanding lo hi w (x ∷ xs) (Element e es) = Stands lo hi w x e × AreStanding lo hi w xs es
  AreStanding lo hi w _ _ = ⊥

-- ---- what is changed elsewhere

-- pairs from one place to another stay, and so do other objects, and names
pub record Keeps (lo hi : ℕ) (old new : Heap) : Type 0 where
  pub longer : length old.cells ≤ length new.cells
  pub same : (p : ℕ) → lo ≤ p → p < hi → p < length old.cells → cell_at new.cells p ≡ cell_at old.cells p
  pub others : (p : ℕ) → p < length old.cells → is_pair_cell (cell_at old.cells p) ≡ false → cell_at new.cells p ≡ cell_at old.cells p
  pub names : (bytes : List ℕ) (id : Tagged) → IsNamed old.cells old.head bytes id → IsNamed new.cells new.head bytes id

pub keeps_refl : (lo hi : ℕ) (w : Heap) → Keeps lo hi w w
keeps_refl lo hi w = record { longer = omega arith; same = λ p a b l. refl; others = λ p l o. refl; names = λ bytes id h. h }

pub keeps_fewer : (lo hi from to : ℕ) (old new : Heap) → lo ≤ from → to ≤ hi → Keeps lo hi old new → Keeps from to old new
keeps_fewer lo hi from to old new a b k = record {
  longer = k.longer;
  same = λ p c d l. k.same p (omega arith) (omega arith) l;
  others = k.others;
  names = k.names;
}

pub keeps_trans : (lo hi : ℕ) (a b c : Heap) → Keeps lo hi a b → Keeps lo hi b c → Keeps lo hi a c
keeps_trans lo hi a b c k l = record {
  longer = omega (arith, k.longer, l.longer);
  same = λ p x y i. l.same p x y (omega (arith, k.longer)) ∙ k.same p x y i;
  others = λ p i o. l.others p (omega (arith, k.longer)) (ap is_pair_cell (k.others p i o) ∙ o) ∙ k.others p i o;
  names = λ bytes id h. l.names bytes id (k.names bytes id h);
}

-- all that there was at first stays, also where its places are kept once more
pub stays_on : (first old new : Heap) (n : ℕ) → length first.cells ≤ length old.cells → length first.cells ≤ n → Stays first.cells first.head old.cells old.head → Keeps 0 n old new → Stays first.cells first.head new.cells new.head
stays_on first old new n long some s k = record {
  same = λ p l. k.same p (omega arith) (omega arith) (omega arith) ∙ s.same p l;
  names = λ bytes id h. k.names bytes id (s.names bytes id h);
}

pub pair_inside : (w : Heap) (p : ℕ) (x y : Tagged) → cell_at w.cells p ≡ PairCell x y → p < length w.cells
pair_inside w p x y e = stands_inside is_pair_cell refl w.cells p (ap is_pair_cell e)

pub pair_in_kept : (lo hi : ℕ) (old new : Heap) (v x y : Tagged) → Keeps lo hi old new → IsPairIn lo hi old v x y → IsPairIn lo hi new v x y
pair_in_kept lo hi old new v x y k h = record {
  place = h.place;
  is = h.is;
  above = h.above;
  below = h.below;
  cell = k.same h.place h.above h.below (pair_inside old h.place x y h.cell) ∙ h.cell;
}

vector_in_kept : (lo hi : ℕ) (old new : Heap) (v : Tagged) (xs : List Tagged) → Keeps lo hi old new → IsVectorIn old v xs → IsVectorIn new v xs
vector_in_kept lo hi old new v xs k h = record {
  place = h.place;
  is = h.is;
  cell = k.others h.place (stands_inside is_vector_cell refl old.cells h.place (ap is_vector_cell h.cell)) (ap is_pair_cell h.cell) ∙ h.cell;
}

string_in_kept : (lo hi : ℕ) (old new : Heap) (v : Tagged) (bytes : List ℕ) → Keeps lo hi old new → IsStringIn old v bytes → IsStringIn new v bytes
string_in_kept lo hi old new v bytes k h = record {
  place = h.place;
  is = h.is;
  cell = k.others h.place (stands_inside is_str_cell refl old.cells h.place (ap is_str_cell h.cell)) (ap is_pair_cell h.cell) ∙ h.cell;
}

-- what stands there stands for the same
mutual
  pub stands_kept : (lo hi : ℕ) (old new : Heap) → Keeps lo hi old new → (v : Tagged) (d : Datum) → Stands lo hi old v d → Stands lo hi new v d
  stands_kept lo hi old new k v (Int z) h = h
  stands_kept lo hi old new k v (Id name) h = k.names name v h
  stands_kept lo hi old new k v (Str bytes) h = string_in_kept lo hi old new v bytes k h
  stands_kept lo hi old new k v (Pair a d) h = (h.0, h.1, pair_in_kept lo hi old new v h.0 h.1 k h.2, stands_kept lo hi old new k h.0 a h.3, stands_kept lo hi old new k h.1 d h.4)
  stands_kept lo hi old new k v (Vector es) h = (h.0, vector_in_kept lo hi old new v h.0 k h.1, are_kept lo hi old new k h.0 es h.2)

  pub are_kept : (lo hi : ℕ) (old new : Heap) → Keeps lo hi old new → (xs : List Tagged) (es : Elements) → AreStanding lo hi old xs es → AreStanding lo hi new xs es
  are_kept lo hi old new k [] NoElements h = tt
  are_kept lo hi old new k (x ∷ xs) (Element e es) h = (stands_kept lo hi old new k x e h.0, are_kept lo hi old new k xs es h.1)
  are_kept lo hi old new k [] (Element e es) h = absurd h
  are_kept lo hi old new k (x ∷ xs) NoElements h = absurd h

pair_in_wider : (lo hi from to : ℕ) (w : Heap) (v x y : Tagged) → from ≤ lo → hi ≤ to → IsPairIn lo hi w v x y → IsPairIn from to w v x y
pair_in_wider lo hi from to w v x y a b h = record { place = h.place; is = h.is; above = omega (arith, h.above); below = omega (arith, h.below); cell = h.cell }

-- and between places further off
mutual
  pub stands_wider : (lo hi from to : ℕ) (w : Heap) → from ≤ lo → hi ≤ to → (v : Tagged) (d : Datum) → Stands lo hi w v d → Stands from to w v d
  stands_wider lo hi from to w a b v (Int z) h = h
  stands_wider lo hi from to w a b v (Id name) h = h
  stands_wider lo hi from to w a b v (Str bytes) h = h
  stands_wider lo hi from to w a b v (Pair c d) h = (h.0, h.1, pair_in_wider lo hi from to w v h.0 h.1 a b h.2, stands_wider lo hi from to w a b h.0 c h.3, stands_wider lo hi from to w a b h.1 d h.4)
  stands_wider lo hi from to w a b v (Vector es) h = (h.0, h.1, are_wider lo hi from to w a b h.0 es h.2)

  pub are_wider : (lo hi from to : ℕ) (w : Heap) → from ≤ lo → hi ≤ to → (xs : List Tagged) (es : Elements) → AreStanding lo hi w xs es → AreStanding from to w xs es
  are_wider lo hi from to w a b [] NoElements h = tt
  are_wider lo hi from to w a b (x ∷ xs) (Element e es) h = (stands_wider lo hi from to w a b x e h.0, are_wider lo hi from to w a b xs es h.1)
  are_wider lo hi from to w a b [] (Element e es) h = absurd h
  are_wider lo hi from to w a b (x ∷ xs) NoElements h = absurd h

-- ---- a value that stands for a datum is that datum

-- how many pairs and vectors there are in a datum
abbrev mutual
  pub size : Datum → ℕ
  size (Int z) = 0
  size (Id name) = 0
  size (Str bytes) = 0
  size (Pair a d) = suc (size a + size d)
  size (Vector es) = suc (sizes es)

  pub sizes : Elements → ℕ
  sizes NoElements = 0
  sizes (Element e es) = size e + sizes es

id_datum : (n : ℕ) (w : Heap) (name : List ℕ) (v : Tagged) → AreIdentifiers → IsTable w.cells w.head → IsNamed w.cells w.head name v → IsDatumWithin n w.cells w.head v × (datum_within n w.cells v ≡ Id name)
id_datum n w name v ids table h =
    let is = ids w.cells w.head name v table h in
    let cell : is_id_cell (cell_at w.cells (index_of v)) ≡ true = rw h.interned.0 at is in
    rw h.interned.0 ((cell, h.interned.1), ap Id h.name_is)

mutual
  pub stands_datum : AreIdentifiers → (lo hi : ℕ) (w : Heap) → IsTable w.cells w.head → (n : ℕ) (v : Tagged) (d : Datum) → size d ≤ n → Stands lo hi w v d → IsDatumWithin n w.cells w.head v × (datum_within n w.cells v ≡ d)
  stands_datum ids lo hi w t n v (Int z) l h = rw h (tt, refl)
  stands_datum ids lo hi w t n v (Id name) l h = id_datum n w name v ids t h
  stands_datum ids lo hi w t n v (Str bytes) l h = rw (h.is, h.cell) (refl, refl)
  stands_datum ids lo hi w t zero v (Pair a d) l h = absurd (omega arith)
  stands_datum ids lo hi w t (suc n) v (Pair a d) l h =
      let first = stands_datum ids lo hi w t n h.0 a (omega arith) h.3 in
      let rest = stands_datum ids lo hi w t n h.1 d (omega arith) h.4 in
      rw (h.2.is, h.2.cell) ((refl, first.0, rest.0), cc)
  stands_datum ids lo hi w t zero v (Vector es) l h = absurd (omega arith)
  stands_datum ids lo hi w t (suc n) v (Vector es) l h =
      let parts = are_data ids lo hi w t n h.0 es (omega arith) h.2 in
      rw (h.1.is, h.1.cell) ((refl, parts.0), ap Vector parts.1)

  are_data : AreIdentifiers → (lo hi : ℕ) (w : Heap) → IsTable w.cells w.head → (n : ℕ) (xs : List Tagged) (es : Elements) → sizes es ≤ n → AreStanding lo hi w xs es → AllByRecursion (IsDatumWithin n w.cells w.head) xs × (elements (map (datum_within n w.cells) xs) ≡ es)
  are_data ids lo hi w t n [] NoElements l h = (tt, refl)
  are_data ids lo hi w t n (x ∷ xs) (Element e es) l h =
      let first = stands_datum ids lo hi w t n x e (omega arith) h.0 in
      let rest = are_data ids lo hi w t n xs es (omega arith) h.1 in
      ((first.0, rest.0), cc)
  are_data ids lo hi w t n [] (Element e es) l h = absurd h
  are_data ids lo hi w t n (x ∷ xs) NoElements l h = absurd h
