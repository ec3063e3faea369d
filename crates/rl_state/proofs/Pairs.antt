-- The parts of a pair, and a change of one.
use Rattle.std.proofs.Common.{◌≡◌, ◌≢◌, ℕ, true, List, length, map, Option, Some, None, refl, sym, ap, subst, ◌∙◌, slice_get}
use Rattle.std.proofs.lemmas.Option.{slice_get-map}
use Rattle.std.proofs.lemmas.List.{length-map, length-set}
use Rattle.std.specs.Prelude.{option_map, slice_set}
use Rattle.rl_tags.specs.Tagged.{Tagged, Number, IdAt, StrAt, PairAt, VectorAt, BigAt, FunAt, index_of, tag_of}
use Rattle.rl_tags.specs.declared.Tag.TheVariants as tag
use Rattle.rl_tree.specs.Value.{Value, Ref, Object, Pair, Store, Vector, changed_store}
use Rattle.rl_cells.specs.Cell.{Cell, PairCell, VectorCell, IsClosed, changed_at, is_live, is_pair, is_vector, car_of, cdr_of, vector_of}
use Rattle.rl_syms.specs.Contents.{value_of, number_at, store_of}
use Rattle.rl_syms.specs.Functions.{KeepsHeldFunctions}
use Rattle.rl_syms.specs.Laws.{ChangesObject, IsRead}
use Rattle.rl_state.specs.CellLaws.{AreCellLaws}
use Rattle.rl_syms.specs.Frame.{KeepsIdentifiers}
use Rattle.rl_world.specs.Counts.{CountsAreTaken, TakesTurnsAndCells}
use Rattle.rl_world.specs.declared.world.World.{World}
use Rattle.rl_meaning.specs.State.{State}
use Rattle.rl_cells.specs.Cell as cell
use Rattle.rl_meaning.specs.Symbols.{pair_at, parts_of, places_of, vector_at}
use Rattle.rl_state.specs.ShownState.{ShowsState}
use Rattle.rl_state.specs.Worlds.{IsWorld, ObjectsAlone, WorldGrows}
use Rattle.rl_meaning.specs.Copying.{with_object}
use Rattle.rl_state.proofs.Kept.{symbols_kept}
use Rattle.rl_state.proofs.Made.{counts_changed, expanding_kept, running_changed, world_kept}

-- what a pair or a vector refers to
pub pair_ref : (cells : List Cell) (p : Tagged) → is_pair cells p ≡ true → value_of cells p ≡ Ref (number_at cells (index_of p))
pair_ref cells (PairAt k) h = refl
pair_ref cells (Number k) h = absurd (cc)
pair_ref cells (IdAt k) h = absurd (cc)
pair_ref cells (StrAt k) h = absurd (cc)
pair_ref cells (VectorAt k) h = absurd (cc)
pair_ref cells (BigAt k) h = absurd (cc)
pair_ref cells (FunAt k) h = absurd (cc)

-- a live place of a pair is one
pub pair_by_place : (cells : List Cell) (v : Tagged) (k : ℕ) → v ≡ PairAt k → is_live cells v ≡ true → is_pair cells v ≡ true
pair_by_place cells v k e h = subst (λ v. is_live cells v ≡ true → is_pair cells v ≡ true) (sym e) (λ h. h) h

pub vector_ref : (cells : List Cell) (p : Tagged) → is_vector cells p ≡ true → value_of cells p ≡ Ref (number_at cells (index_of p))
vector_ref cells (VectorAt k) h = refl
vector_ref cells (Number k) h = absurd (cc)
vector_ref cells (IdAt k) h = absurd (cc)
vector_ref cells (StrAt k) h = absurd (cc)
vector_ref cells (PairAt k) h = absurd (cc)
vector_ref cells (BigAt k) h = absurd (cc)
vector_ref cells (FunAt k) h = absurd (cc)

pub pair_shown : (law : IsRead) (w : World) (v : Tagged) → is_pair w.cells.cells v ≡ true → (s : State) → ShowsState w s → pair_at s (value_of w.cells.cells v) ≡ Some (value_of w.cells.cells (car_of w.cells.cells v), value_of w.cells.cells (cdr_of w.cells.cells v))
pair_shown law w v h s shown =
    ap (pair_at s) (pair_ref w.cells.cells v h)
    ∙ ap (λ (store : List Object). parts_of (slice_get store (number_at w.cells.cells (index_of v)))) shown.store
    ∙ ap parts_of (law.pair w.cells.cells v h).stands

pub none_shown : (law : IsRead) (w : World) (v : Tagged) → is_live w.cells.cells v ≡ true → tag_of v ≢ tag.Pair → (s : State) → ShowsState w s → pair_at s (value_of w.cells.cells v) ≡ None
none_shown law w (VectorAt k) h ne s shown =
    let r = law.vector w.cells.cells (VectorAt k) h in
    ap (λ (store : List Object). parts_of (slice_get store (number_at w.cells.cells k))) shown.store ∙ ap parts_of r.stands
none_shown law w (PairAt k) h ne s shown = absurd (ne refl)
none_shown law w (Number k) h ne s shown = refl
none_shown law w (IdAt k) h ne s shown = refl
none_shown law w (StrAt k) h ne s shown = refl
none_shown law w (BigAt k) h ne s shown = refl
none_shown law w (FunAt k) h ne s shown = refl

pub pair_shown_at : (law : IsRead) (w : World) (v a d : Tagged) → is_pair w.cells.cells v ≡ true → a ≡ car_of w.cells.cells v → d ≡ cdr_of w.cells.cells v → (s : State) → ShowsState w s → pair_at s (value_of w.cells.cells v) ≡ Some (value_of w.cells.cells a, value_of w.cells.cells d)
pair_shown_at law w v a d h e f s shown = rw (e, f) (pair_shown law w v h s shown)

pub vector_shown : (law : IsRead) (w : World) (v : Tagged) → is_vector w.cells.cells v ≡ true → (s : State) → ShowsState w s → vector_at s (value_of w.cells.cells v) ≡ Some (map (value_of w.cells.cells) (vector_of w.cells.cells v))
vector_shown law w v h s shown =
    ap (vector_at s) (vector_ref w.cells.cells v h)
    ∙ ap (λ (store : List Object). places_of (slice_get store (number_at w.cells.cells (index_of v)))) shown.store
    ∙ ap places_of (law.vector w.cells.cells v h).stands

pub no_vector_shown : (law : IsRead) (w : World) (v : Tagged) → is_live w.cells.cells v ≡ true → tag_of v ≢ tag.Vector → (s : State) → ShowsState w s → vector_at s (value_of w.cells.cells v) ≡ None
no_vector_shown law w (PairAt k) h ne s shown =
    let r = law.pair w.cells.cells (PairAt k) h in
    ap (λ (store : List Object). places_of (slice_get store (number_at w.cells.cells k))) shown.store ∙ ap places_of r.stands
no_vector_shown law w (VectorAt k) h ne s shown = absurd (ne refl)
no_vector_shown law w (Number k) h ne s shown = refl
no_vector_shown law w (IdAt k) h ne s shown = refl
no_vector_shown law w (StrAt k) h ne s shown = refl
no_vector_shown law w (BigAt k) h ne s shown = refl
no_vector_shown law w (FunAt k) h ne s shown = refl

-- ---- an object is changed

abbrev with_list : World → List Cell → World
with_list w cells = record w { cells = record w.cells { cells = cells } }

-- cells in which one object is another, and that leave blocks
pub record Alters (old new : List Cell) (r : ℕ) (o : Object) : Type 0 where
  pub long : length new ≡ length old
  pub keeps : KeepsIdentifiers old new
  pub changes : ChangesObject old new r o

-- cells that leave identifiers, and in which values mean what they meant
pub list_grows : (law : AreCellLaws) (w : World) (new : List Cell) → length new ≡ length w.cells.cells → KeepsIdentifiers w.cells.cells new → ((v : Tagged) → value_of new v ≡ value_of w.cells.cells v) → IsWorld w → WorldGrows w (with_list w new)
list_grows law w new long keeps values i =
    record {
      world = world_kept law w (record w.cells { cells = new }) w.counts keeps (λ v l. values v) (running_changed w.cells w.counts new long i.running)
          (expanding_kept w.cells.cells new w.counts.outermost (λ v h. law.kept.ids w.cells.cells new v keeps ∙ h) i.expanding) i;
      live = keeps.live;
      values = λ v l. values v;
    }

pub list_shown : (law : AreCellLaws) (w : World) (new : List Cell) (s : State) (store : Store) → length new ≡ length w.cells.cells → KeepsIdentifiers w.cells.cells new → ((v : Tagged) → value_of new v ≡ value_of w.cells.cells v) → store ≡ store_of new
    → IsWorld w → IsClosed w.cells.cells → ShowsState w s → ShowsState (with_list w new) (record s { store = store })
list_shown law w new s store long keeps values stored i closed shown =
    let cells = w.cells.cells in
    let kept = symbols_kept law.kept law.numbered cells new w.syms.head s keeps i.table closed (λ v l. values v) shown.symbols in
    record {
      store = stored;
      symbols = record { many = kept.many; symbols = kept.symbols; values = kept.values };
      counts = shown.counts ∙ sym (counts_changed w.cells w.counts new long (λ v l. values v) i.expanding);
      gensyms = shown.gensyms;
      column = shown.column;
      line_length = shown.line_length;
      taken = shown.taken;
      free = shown.free;
      bound = shown.bound;
    }

-- the call of the cells, in the world
pub record IsAltered (w x : World) (new : List Cell) (r : ℕ) (o : Object) : Type 0 where
  pub is : x ≡ with_list w new
  pub alters : Alters w.cells.cells new r o
  pub closed : IsClosed w.cells.cells

pub altered_grows : (law : AreCellLaws) (w x : World) (new : List Cell) (r : ℕ) (o : Object) → IsAltered w x new r o → IsWorld w → WorldGrows w x
altered_grows law w x new r o a i = subst (λ y. WorldGrows w y) (sym a.is) (list_grows law w new a.alters.long a.alters.keeps a.alters.changes.values i)

pub altered_shown : (law : AreCellLaws) (w x : World) (new : List Cell) (r : ℕ) (o : Object) → IsAltered w x new r o → IsWorld w → (s : State) → ShowsState w s
    → ShowsState x (record s { store = changed_store s.store r o })
altered_shown law w x new r o a i s shown =
    subst (λ y. ShowsState y (record s { store = changed_store s.store r o })) (sym a.is)
    (list_shown law w new s (changed_store s.store r o) a.alters.long a.alters.keeps a.alters.changes.values (ap (λ os. changed_store os r o) shown.store ∙ sym a.alters.changes.store) i a.closed shown)

pub altered_rest : (law : CountsAreTaken) (w x : World) (new : List Cell) → KeepsHeldFunctions w.cells.cells new → x ≡ with_list w new → ObjectsAlone w x
altered_rest law w x new same e = record {
  rest = subst (λ (y : World). y ≡ record w { cells = y.cells; syms = y.syms; counts = y.counts }) (sym e) refl;
  counts = subst (λ (y : World). TakesTurnsAndCells w.counts y.counts) (sym e) (law.none w.counts);
  functions = subst (λ (y : World). KeepsHeldFunctions w.cells.cells y.cells.cells) (sym e) same;
}

pub altered_is : (w : World) (cs : cell.CellStore) (new : List Cell) → cs ≡ record w.cells { cells = new } → record w { cells = cs } ≡ with_list w new
altered_is w cs new e = ap (λ x. record w { cells = x }) e

first_same : (p q : Value × Value) → Some p ≡ Some q → p.0 ≡ q.0
first_same p q e = let f : p ≡ q = cc in ap (λ (p : Value × Value). p.0) f

second_same : (p q : Value × Value) → Some p ≡ Some q → p.1 ≡ q.1
second_same p q e = let f : p ≡ q = cc in ap (λ (p : Value × Value). p.1) f

places_same : (xs ys : List Value) → Some xs ≡ Some ys → xs ≡ ys
places_same xs ys e = cc

pub changed_long : (cells : List Cell) (v : Tagged) (c : Cell) → length (changed_at cells v c) ≡ length cells
changed_long cells (Number k) c = refl
changed_long cells (IdAt k) c = length-set cells k c
changed_long cells (StrAt k) c = length-set cells k c
changed_long cells (PairAt k) c = length-set cells k c
changed_long cells (VectorAt k) c = length-set cells k c
changed_long cells (BigAt k) c = length-set cells k c
changed_long cells (FunAt k) c = length-set cells k c

-- a change of the pair that is named
abbrev changed_pair : List Cell → Tagged → Tagged → Tagged → List Cell
changed_pair cells p a d = changed_at cells p (PairCell a d)

pub car_altered : (law : AreCellLaws) (w : World) (cs : cell.CellStore) (p v : Tagged) → is_pair w.cells.cells p ≡ true → IsClosed w.cells.cells
    → cs ≡ record w.cells { cells = changed_at w.cells.cells p (PairCell v (cdr_of w.cells.cells p)) }
    → IsAltered w (record w { cells = cs }) (changed_at w.cells.cells p (PairCell v (cdr_of w.cells.cells p))) (number_at w.cells.cells (index_of p)) (Pair (value_of w.cells.cells v) (value_of w.cells.cells (cdr_of w.cells.cells p)))
car_altered law w cs p v h closed e = record {
  is = altered_is w cs _ e;
  alters = record { long = changed_long w.cells.cells p (PairCell v (cdr_of w.cells.cells p)); keeps = law.blocks.pair w.cells.cells p v (cdr_of w.cells.cells p) h; changes = law.changes.car w.cells.cells p v h };
  closed = closed;
}

pub cdr_altered : (law : AreCellLaws) (w : World) (cs : cell.CellStore) (p v : Tagged) → is_pair w.cells.cells p ≡ true → IsClosed w.cells.cells
    → cs ≡ record w.cells { cells = changed_at w.cells.cells p (PairCell (car_of w.cells.cells p) v) }
    → IsAltered w (record w { cells = cs }) (changed_at w.cells.cells p (PairCell (car_of w.cells.cells p) v)) (number_at w.cells.cells (index_of p)) (Pair (value_of w.cells.cells (car_of w.cells.cells p)) (value_of w.cells.cells v))
cdr_altered law w cs p v h closed e = record {
  is = altered_is w cs _ e;
  alters = record { long = changed_long w.cells.cells p (PairCell (car_of w.cells.cells p) v); keeps = law.blocks.pair w.cells.cells p (car_of w.cells.cells p) v h; changes = law.changes.cdr w.cells.cells p v h };
  closed = closed;
}

pub place_altered : (law : AreCellLaws) (w : World) (cs : cell.CellStore) (v x : Tagged) (i : ℕ) → is_vector w.cells.cells v ≡ true → IsClosed w.cells.cells
    → cs ≡ record w.cells { cells = changed_at w.cells.cells v (VectorCell (slice_set (vector_of w.cells.cells v) i x)) }
    → IsAltered w (record w { cells = cs }) (changed_at w.cells.cells v (VectorCell (slice_set (vector_of w.cells.cells v) i x))) (number_at w.cells.cells (index_of v)) (Vector (slice_set (map (value_of w.cells.cells) (vector_of w.cells.cells v)) i (value_of w.cells.cells x)))
place_altered law w cs v x i h closed e = record {
  is = altered_is w cs _ e;
  alters = record { long = changed_long w.cells.cells v (VectorCell (slice_set (vector_of w.cells.cells v) i x)); keeps = law.blocks.vector w.cells.cells v (slice_set (vector_of w.cells.cells v) i x) h (length-set (vector_of w.cells.cells v) i x); changes = law.changes.place w.cells.cells v x i h };
  closed = closed;
}

object_at : (x : World) (s : State) (v : Value) (r : ℕ) (o p : Object) → v ≡ Ref r → o ≡ p → ShowsState x (record s { store = changed_store s.store r o }) → ShowsState x (with_object v p s)
object_at x s v r o p e f h = subst (λ u. ShowsState x (with_object u p s)) (sym e) (subst (λ q. ShowsState x (record s { store = changed_store s.store r q })) f h)

pub car_shown : (law : AreCellLaws) (w x : World) (new : List Cell) (p v : Tagged) → is_pair w.cells.cells p ≡ true
    → IsAltered w x new (number_at w.cells.cells (index_of p)) (Pair (value_of w.cells.cells v) (value_of w.cells.cells (cdr_of w.cells.cells p))) → IsWorld w
    → (s : State) (a d : Value) → ShowsState w s → pair_at s (value_of w.cells.cells p) ≡ Some (a, d) → ShowsState x (with_object (value_of w.cells.cells p) (Pair (value_of w.cells.cells v) d) s)
car_shown law w x new p v h alt i s a d shown has =
    let cells = w.cells.cells in
    let d_is : value_of cells (cdr_of cells p) ≡ d = second_same (value_of cells (car_of cells p), value_of cells (cdr_of cells p)) (a, d) (sym (pair_shown law.reads w p h s shown) ∙ has) in
    object_at x s (value_of cells p) (number_at cells (index_of p)) (Pair (value_of cells v) (value_of cells (cdr_of cells p))) (Pair (value_of cells v) d) (pair_ref cells p h) (ap (λ y. Pair (value_of cells v) y) d_is) (altered_shown law w x new _ _ alt i s shown)

pub cdr_shown : (law : AreCellLaws) (w x : World) (new : List Cell) (p v : Tagged) → is_pair w.cells.cells p ≡ true
    → IsAltered w x new (number_at w.cells.cells (index_of p)) (Pair (value_of w.cells.cells (car_of w.cells.cells p)) (value_of w.cells.cells v)) → IsWorld w
    → (s : State) (a d : Value) → ShowsState w s → pair_at s (value_of w.cells.cells p) ≡ Some (a, d) → ShowsState x (with_object (value_of w.cells.cells p) (Pair a (value_of w.cells.cells v)) s)
cdr_shown law w x new p v h alt i s a d shown has =
    let cells = w.cells.cells in
    let a_is : value_of cells (car_of cells p) ≡ a = first_same (value_of cells (car_of cells p), value_of cells (cdr_of cells p)) (a, d) (sym (pair_shown law.reads w p h s shown) ∙ has) in
    object_at x s (value_of cells p) (number_at cells (index_of p)) (Pair (value_of cells (car_of cells p)) (value_of cells v)) (Pair a (value_of cells v)) (pair_ref cells p h) (ap (λ y. Pair y (value_of cells v)) a_is) (altered_shown law w x new _ _ alt i s shown)

pub place_shown : (law : AreCellLaws) (w x : World) (new : List Cell) (v y : Tagged) (n : ℕ) → is_vector w.cells.cells v ≡ true
    → IsAltered w x new (number_at w.cells.cells (index_of v)) (Vector (slice_set (map (value_of w.cells.cells) (vector_of w.cells.cells v)) n (value_of w.cells.cells y))) → IsWorld w
    → (s : State) (xs : List Value) → ShowsState w s → vector_at s (value_of w.cells.cells v) ≡ Some xs → ShowsState x (with_object (value_of w.cells.cells v) (Vector (slice_set xs n (value_of w.cells.cells y))) s)
place_shown law w x new v y n h alt i s xs shown has =
    let cells = w.cells.cells in
    let vs = map (value_of cells) (vector_of cells v) in
    let xs_are : vs ≡ xs = places_same vs xs (sym (vector_shown law.reads w v h s shown) ∙ has) in
    object_at x s (value_of cells v) (number_at cells (index_of v)) (Vector (slice_set vs n (value_of cells y))) (Vector (slice_set xs n (value_of cells y))) (vector_ref cells v h)
    (ap (λ zs. Vector (slice_set zs n (value_of cells y))) xs_are) (altered_shown law w x new _ _ alt i s shown)

-- a place of a vector
pub place_read : (read : IsRead) (w : World) (v y : Tagged) (n : ℕ) → is_vector w.cells.cells v ≡ true → slice_get (vector_of w.cells.cells v) n ≡ Some y
    → (s : State) (xs : List Value) → ShowsState w s → vector_at s (value_of w.cells.cells v) ≡ Some xs → slice_get xs n ≡ Some (value_of w.cells.cells y)
place_read read w v y n h got s xs shown has =
    let cells = w.cells.cells in
    let xs_are : map (value_of cells) (vector_of cells v) ≡ xs = places_same _ xs (sym (vector_shown read w v h s shown) ∙ has) in
    ap (λ zs. slice_get zs n) (sym xs_are) ∙ slice_get-map (value_of cells) (vector_of cells v) n ∙ ap (option_map (value_of cells)) got

-- how many places a vector has
pub places_read : (read : IsRead) (w : World) (v : Tagged) (n : ℕ) → is_vector w.cells.cells v ≡ true → n ≡ length (vector_of w.cells.cells v)
    → (s : State) → ShowsState w s → option_map length (vector_at s (value_of w.cells.cells v)) ≡ Some n
places_read read w v n h e s shown =
    let cells = w.cells.cells in
    ap (option_map length) (vector_shown read w v h s shown) ∙ ap Some (length-map (vector_of cells v) (value_of cells) ∙ sym e)

pub no_places_read : (read : IsRead) (w : World) (v : Tagged) → is_live w.cells.cells v ≡ true → tag_of v ≢ tag.Vector → (s : State) → ShowsState w s → option_map length (vector_at s (value_of w.cells.cells v)) ≡ None
no_places_read read w v h ne s shown = ap (option_map length) (no_vector_shown read w v h ne s shown)
