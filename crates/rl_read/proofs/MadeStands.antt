-- What is made stands for its datum, and leaves what stood before.
use Rattle.std.proofs.Common.{◌≡◌, ℕ, ◌+◌, ◌<◌, ◌≤◌, ◌++◌, length, Option, None, Some, refl, sym, subst, arith}
use Rattle.rl_tags.specs.Tagged.{Tagged, StrAt, PairAt}
use Rattle.rl_cells.specs.Cell.{Cell, PairCell, StrCell, cost_of, placed}
use Rattle.rl_cells.specs.Laws.{IsAdded, IsChanged}
use Rattle.rl_syms.specs.Frame.{words_of_id}
use Rattle.rl_syms.specs.Laws.{AreIdentifiers, IsKept, LeaveIdentifiers, NamesEnter}
use Rattle.rl_syms.specs.Made.{id_cost, new_id, with_id}
use Rattle.rl_syms.specs.Table.{IsFree, IsNamed, ids_from, nil_value}
use Rattle.rl_tree.specs.Name.{Name, quote_name}
use Rattle.rl_text.specs.Datum.{Datum, Pair, Id, nil, quoted}
use Rattle.rl_text.specs.Maker.{Made, Has, Wants}
use Rattle.rl_text.specs.Word.{Atom, Integer, Identifier, String, datum_of_atom}
use Rattle.rl_world.specs.Counts.{room_stop}
use Rattle.rl_world.specs.declared.stop.Stop.{Stop}
use Rattle.rl_read.specs.Stock.{Stock, and_then_made, atom_made, identifier_at, identifier_made, named_among, object_made, pair_made, quote_made, with_room, with_room_at}
use Rattle.rl_read.proofs.NameEntered.{longer_with_id}
use Rattle.rl_read.proofs.NamesFound.{names_found}
use Rattle.rl_read.proofs.ValueStands.{Heap, IsHeap, Stands, Keeps, keeps_refl, keeps_trans, stands_kept, stands_wider, size}

-- what the crates below say of cells and names
pub record AreLaws : Type 0 where
  pub added : IsAdded
  pub changed : IsChanged
  pub kept : IsKept
  pub leave : LeaveIdentifiers
  pub enter : NamesEnter
  pub ids : AreIdentifiers

abbrev pub heap_of : Stock → Heap
heap_of k = record { cells = k.cells.cells; head = k.head }

-- what is made has this, with the cells that there are then
abbrev pub Makes : {A : Type 0} → (A → Heap → Type 0) → Made Stock A Stop → Type 0
Makes P (Has a k) = P a (heap_of k)
Makes P (Wants s k) = Unit {0}

pub then_makes : {A B : Type 0} (P : A → Heap → Type 0) (Q : B → Heap → Type 0) (x : Made Stock A Stop) (f : A → Stock → Made Stock B Stop) → Makes P x → ((a : A) (k : Stock) → P a (heap_of k) → Makes Q (f a k)) → Makes Q (and_then_made x f)
then_makes P Q (Has a k) f h g = g a k h
then_makes P Q (Wants s k) f h g = tt

room_makes_at : (P : Heap → Type 0) (s : Option Stop) (cost : ℕ) (k : Stock) → P (heap_of k) → Makes (λ (u : Unit {0}) w. P w) (with_room_at s cost k)
room_makes_at P (Some s) cost k h = tt
room_makes_at P None cost k h = h

room_makes : (P : Heap → Type 0) (cost : ℕ) (k : Stock) → P (heap_of k) → Makes (λ (u : Unit {0}) w. P w) (with_room cost k)
room_makes P cost k h = room_makes_at P (room_stop k.counts k.cells cost) cost k h

-- ---- objects

abbrev pub added : Heap → Cell → Heap
added w c = record { cells = w.cells ++ placed c; head = w.head }

pub object_makes : (P : Tagged → Heap → Type 0) (at : ℕ → Tagged) (c : Cell) (k : Stock) → P (at (length k.cells.cells)) (added (heap_of k) c) → Makes P (object_made at c k)
object_makes P at c k h = then_makes (λ (u : Unit {0}) w. P (at (length w.cells)) (added w c)) P (with_room (cost_of c) k) _ (room_makes (λ w. P (at (length w.cells)) (added w c)) (cost_of c) k h) (λ u k h. h)

-- there is more, and all stays
pub record Grows (old new : Heap) : Type 0 where
  pub heap : IsHeap new
  pub keeps : (lo hi : ℕ) → Keeps lo hi old new

pub grows_refl : (w : Heap) → IsHeap w → Grows w w
grows_refl w h = record { heap = h; keeps = λ lo hi. keeps_refl lo hi w }

pub added_longer : AreLaws → (w : Heap) (c : Cell) → 0 < cost_of c → length (added w c).cells ≡ length w.cells + cost_of c
added_longer laws w c some = laws.added.long w.cells c some

pub added_grows : AreLaws → (w : Heap) (c : Cell) → 0 < cost_of c → words_of_id c ≡ None → IsHeap w → Grows w (added w c)
added_grows laws w c some none h =
    let blocks = laws.leave.made w.cells c none in
    record {
      heap = record {
        table = laws.kept.table w.cells (added w c).cells w.head blocks h.table;
        nil = laws.kept.names w.cells (added w c).cells w.head _ _ blocks h.table h.nil;
      };
      keeps = λ lo hi. record {
        longer = omega (arith, added_longer laws w c some);
        same = λ p a b l. laws.added.stands w.cells (placed c) p l;
        others = λ p l o. laws.added.stands w.cells (placed c) p l;
        names = λ bytes id n. laws.kept.names w.cells (added w c).cells w.head bytes id blocks h.table n;
      };
    }

-- ---- values

-- so many more cells are there, and the value stands for the datum
pub record IsValue (lo : ℕ) (old : Heap) (more : ℕ) (d : Datum) (v : Tagged) (new : Heap) : Type 0 where
  pub heap : IsHeap new
  pub keeps : Keeps 0 lo old new
  pub stands : Stands lo (length new.cells) new v d
  pub room : length old.cells + more ≤ length new.cells

-- a pair of what stands there
pair_makes : AreLaws → (lo : ℕ) (k : Stock) (a d : Tagged) (x y : Datum) → IsHeap (heap_of k) → lo ≤ length k.cells.cells → Stands lo (length k.cells.cells) (heap_of k) a x → Stands lo (length k.cells.cells) (heap_of k) d y
    → Makes (λ v w. Grows (heap_of k) w × IsValue lo (heap_of k) 1 (Pair x y) v w) (pair_made a d k)
pair_makes laws lo k a d x y h l s t =
    let w = heap_of k in
    let n = length w.cells in
    let new = added w (PairCell a d) in
    let grows : Grows w new = added_grows laws w (PairCell a d) (omega arith) refl h in
    let long : length new.cells ≡ n + 1 = added_longer laws w (PairCell a d) (omega arith) in
    let first : Stands lo (length new.cells) new a x = stands_wider lo n lo (length new.cells) new (omega arith) (omega arith) a x (stands_kept lo n w new (grows.keeps lo n) a x s) in
    let rest : Stands lo (length new.cells) new d y = stands_wider lo n lo (length new.cells) new (omega arith) (omega arith) d y (stands_kept lo n w new (grows.keeps lo n) d y t) in
    object_makes (λ v w'. Grows w w' × IsValue lo w 1 (Pair x y) v w') (λ n. PairAt n) (PairCell a d) k (
      grows,
      record {
        heap = grows.heap;
        keeps = grows.keeps 0 lo;
        stands = (a, d, record { place = n; is = refl; above = l; below = omega arith; cell = laws.added.here w.cells (PairCell a d) }, first, rest);
        room = omega arith;
      },
    )

-- ---- identifiers

-- the name is interned
pub record IsEntered (old : Heap) (name : Name) (v : Tagged) (new : Heap) : Type 0 where
  pub grows : Grows old new
  pub named : IsNamed new.cells new.head name v

-- with a new identifier
abbrev named : Stock → Name → Stock
named k name = record k { cells = with_id k.cells name nil_value k.head; head = Some (new_id k.cells name) }

new_entered : AreLaws → (k : Stock) (name : Name) → IsHeap (heap_of k) → 1 ≤ length name → length name ≤ 255 → IsFree k.cells.cells k.head name → IsEntered (heap_of k) name (new_id k.cells name) (heap_of (named k name))
new_entered laws k name h some short free =
    let gained = laws.enter k.cells k.head name some short h.table free in
    record {
      grows = record {
        heap = record { table = gained.table; nil = gained.names _ _ h.nil };
        keeps = λ lo hi. record {
          longer = longer_with_id k.cells name nil_value k.head;
          same = λ p a b l. gained.adds.stands p l;
          others = λ p l o. gained.adds.stands p l;
          names = gained.names;
        };
      };
      named = gained.named;
    }

new_makes : AreLaws → (k : Stock) (name : Name) → IsHeap (heap_of k) → 1 ≤ length name → length name ≤ 255 → IsFree k.cells.cells k.head name → Makes (IsEntered (heap_of k) name) (identifier_at None name k)
new_makes laws k name h some short free =
    then_makes (λ (u : Unit {0}) w. w ≡ heap_of k) (IsEntered (heap_of k) name) (with_room (id_cost name) k) _ (room_makes (λ w. w ≡ heap_of k) (id_cost name) k refl)
    (λ u j e.
    let heap : IsHeap (heap_of j) = subst IsHeap (sym e) h in
    let free : IsFree j.cells.cells j.head name = subst (λ (w : Heap). IsFree w.cells w.head name) (sym e) free in
    subst (λ w. IsEntered w name (new_id j.cells name) (heap_of (named j name))) e (new_entered laws j name heap some short free))

identifier_makes_at : AreLaws → (k : Stock) (name : Name) → IsHeap (heap_of k) → 1 ≤ length name → length name ≤ 255 → (o : Option ℕ) → named_among k.cells.cells name (ids_from k.cells.cells k.head) ≡ o → Makes (IsEntered (heap_of k) name) (identifier_at o name k)
identifier_makes_at laws k name h some short (Some i) e =
    let found = names_found.found k.cells.cells name (ids_from k.cells.cells k.head) i e in
    record { grows = grows_refl (heap_of k) h; named = record { interned = (refl, found.0); name_is = found.1 } }
identifier_makes_at laws k name h some short None e = new_makes laws k name h some short (record { other = names_found.free k.cells.cells name (ids_from k.cells.cells k.head) e })

identifier_makes : AreLaws → (k : Stock) (name : Name) → IsHeap (heap_of k) → 1 ≤ length name → length name ≤ 255 → Makes (IsEntered (heap_of k) name) (identifier_made name k)
identifier_makes laws k name h some short = identifier_makes_at laws k name h some short (named_among k.cells.cells name (ids_from k.cells.cells k.head)) refl

-- ---- atoms

-- a name has 1 to 255 bytes
abbrev pub IsAtomic : Atom → Type 0
IsAtomic (Identifier name) = (1 ≤ length name) × (length name ≤ 255)
IsAtomic a = Unit {0}

pub atom_size : (a : Atom) → size (datum_of_atom a) ≡ 0
atom_size (Integer z) = refl
atom_size (Identifier name) = refl
atom_size (String bytes) = refl

made_as : {A : Type 0} (P Q : A → Heap → Type 0) (x : Made Stock A Stop) → ((a : A) (w : Heap) → P a w → Q a w) → Makes P x → Makes Q x
made_as P Q (Has a k) f h = f a (heap_of k) h
made_as P Q (Wants s k) f h = tt

pub atom_makes : AreLaws → (lo : ℕ) (k : Stock) (a : Atom) → IsHeap (heap_of k) → IsAtomic a → Makes (IsValue lo (heap_of k) 0 (datum_of_atom a)) (atom_made a k)
atom_makes laws lo k (Integer z) h is = record { heap = h; keeps = keeps_refl 0 lo (heap_of k); stands = refl; room = omega arith }
atom_makes laws lo k (Identifier name) h is =
    made_as (IsEntered (heap_of k) name) (IsValue lo (heap_of k) 0 (Id name)) (identifier_made name k)
    (λ v w e. record { heap = e.grows.heap; keeps = e.grows.keeps 0 lo; stands = e.named; room = omega (arith, (e.grows.keeps 0 lo).longer) })
    (identifier_makes laws k name h is.0 is.1)
atom_makes laws lo k (String bytes) h is =
    let w = heap_of k in
    let grows : Grows w (added w (StrCell bytes)) = added_grows laws w (StrCell bytes) (omega arith) refl h in
    object_makes (IsValue lo w 0 (datum_of_atom (String bytes))) (λ n. StrAt n) (StrCell bytes) k (record {
      heap = grows.heap;
      keeps = grows.keeps 0 lo;
      stands = record { place = length w.cells; is = refl; cell = laws.added.here w.cells (StrCell bytes) };
      room = omega (arith, (grows.keeps 0 lo).longer);
    })

-- ---- quotes

-- the pair of what is quoted is made, and then the pair with QUOTE
quoting : AreLaws → (lo : ℕ) (old : Heap) (k : Stock) (q v : Tagged) (d : Datum) → lo ≤ length old.cells → length old.cells ≤ length k.cells.cells → Grows old (heap_of k) → Stands lo (length k.cells.cells) (heap_of k) v d → IsNamed k.cells.cells k.head quote_name q
    → Makes (IsValue lo old 2 (quoted d)) (and_then_made (pair_made v nil_value k) (λ p k. pair_made q p k))
quoting laws lo old k q v d l m g s named =
    then_makes (λ p w. Grows (heap_of k) w × IsValue lo (heap_of k) 1 (Pair d nil) p w) (IsValue lo old 2 (quoted d)) (pair_made v nil_value k) _ (pair_makes laws lo k v nil_value d nil g.heap (omega arith) s g.heap.nil)
    (λ p j h.
    made_as (λ v w. Grows (heap_of j) w × IsValue lo (heap_of j) 1 (quoted d) v w) (IsValue lo old 2 (quoted d)) (pair_made q p j)
    (λ v w i. record {
      heap = i.0.heap;
      keeps = keeps_trans 0 lo old (heap_of k) w (g.keeps 0 lo) (keeps_trans 0 lo (heap_of k) (heap_of j) w (h.0.keeps 0 lo) (i.0.keeps 0 lo));
      stands = i.1.stands;
      room = omega (arith, h.1.room, i.1.room);
    })
    (pair_makes laws lo j q p (Id quote_name) (Pair d nil) h.0.heap (omega (arith, h.1.room)) ((h.0.keeps 0 lo).names quote_name q named) h.1.stands))

pub quote_makes : AreLaws → (lo : ℕ) (k : Stock) (v : Tagged) (d : Datum) → IsHeap (heap_of k) → lo ≤ length k.cells.cells → Stands lo (length k.cells.cells) (heap_of k) v d → Makes (IsValue lo (heap_of k) 2 (quoted d)) (quote_made v k)
quote_makes laws lo k v d h l s =
    let w = heap_of k in
    then_makes (IsEntered w quote_name) (IsValue lo w 2 (quoted d)) (identifier_made quote_name k) _ (identifier_makes laws k quote_name h (omega arith) (omega arith))
    (λ q j e. quoting laws lo w j q v d l (e.grows.keeps lo (length w.cells)).longer e.grows (stands_wider lo (length w.cells) lo (length j.cells.cells) (heap_of j) (omega arith) (e.grows.keeps lo (length w.cells)).longer v d (stands_kept lo (length w.cells) w (heap_of j) (e.grows.keeps lo (length w.cells)) v d s)) e.named)
