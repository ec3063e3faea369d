-- A new object that is no block: the world is one of a run, what was there stays, and the new state is shown.
use Rattle.std.proofs.Common.{◌≡◌, ℕ, zero, suc, ◌+◌, ◌-◌, ◌/◌, ◌<◌, ◌≤◌, Bool, true, List, [], ◌∷◌, ◌++◌, length, map, Option, Some, None, Ok, Err, refl, sym, ap, subst, ◌∙◌, arith}
use Rattle.std.specs.Prelude.{replicate, slice_index_or}
use Rattle.std.specs.List.{list_all}
use Rattle.std.specs.Option.{ForSome}
use Rattle.rl_tags.specs.Tagged.{Tagged, Number, IdAt, StrAt, PairAt, VectorAt, BigAt, FunAt}
use Rattle.rl_tags.specs.Ids.{nil_id}
use Rattle.rl_tree.specs.Value.{Value, Id, Str, Ref, Vector, Store, cons_store, new_value, vector_store}
use Rattle.rl_cells.specs.Cell as cell
use Rattle.rl_cells.specs.Cell.{Cell, PairCell, StrCell, VectorCell, IsClosed, cell_at, cost_of, grown, has_room, placed, is_id_cell, is_live, is_str, more_counted}
use Rattle.rl_syms.specs.Contents.{ids_before, value_of, store_of}
use Rattle.rl_syms.specs.Frame.{KeepsIdentifiers, words_of_id}
use Rattle.rl_syms.specs.Functions.{FunctionsStand, KeepsHeldFunctions, words_of_function}
use Rattle.rl_syms.specs.Laws.{IsKept}
use Rattle.rl_syms.specs.Numbers.{IdentifiersAreNumbered}
use Rattle.rl_syms.specs.Table.{is_id}
use Rattle.rl_state.specs.CellLaws.{AreCellLaws}
use Rattle.rl_world.specs.Counts as counted
use Rattle.rl_world.specs.Bounds.{AreSpareCounted, OpenTogether, RoomIsEnough}
use Rattle.rl_world.specs.Counts.{CountsAreTaken, TakesTurnsAndCells, cells_bound_at, cells_taken, room_stop, roomed, ticked, with_cells}
use Rattle.rl_world.specs.Errors.{AreTexts}
use Rattle.rl_world.specs.declared.counts.Expansion.{Expansion}
use Rattle.rl_world.specs.declared.stop.Stop as stops
use Rattle.rl_world.specs.declared.world.World.{World}
use Rattle.rl_meaning.specs.State.{State}
use Rattle.rl_meaning.specs.Outcome.{Outcome, Done, room, made_pair, made_string}
use Rattle.rl_meaning.specs.Atoms.{made_places}
use Rattle.rl_meaning.specs.Symbols.{nil_value_of_state}
use Rattle.rl_state.specs.ShownState.{ShowsState, cells_in, counts_in, expansion_in, given_in, turns_in}
use Rattle.rl_state.specs.Worlds.{IsWorld, AreWorldCounts, HasNumber, ObjectsAlone, WorldGrows}
use Rattle.rl_state.specs.Ending.{MeansValue}
use Rattle.rl_state.proofs.Kept.{SameValues, all_ids_same, named_same, symbols_kept}
use Rattle.rl_state.proofs.Room.{left, left_behind, left_in, room_done, room_fits, room_full, roomed_in}

string_kept : (old new : List Cell) (v : Tagged) → KeepsIdentifiers old new → is_str old v ≡ true → is_str new v ≡ true
string_kept old new (StrAt k) b h = b.live (StrAt k) h
string_kept old new (Number k) b h = h
string_kept old new (IdAt k) b h = h
string_kept old new (PairAt k) b h = h
string_kept old new (VectorAt k) b h = h
string_kept old new (BigAt k) b h = h
string_kept old new (FunAt k) b h = h

numbered_kept : (law : IsKept) (old new : List Cell) (id : Tagged) (i : ℕ) → KeepsIdentifiers old new → SameValues old new → HasNumber old id i → HasNumber new id i
numbered_kept law old new id i b same n = record {
  is_id = law.ids old new id b ∙ n.is_id;
  number = named_same old new id same n.is_id ∙ n.number;
}

texts_kept : (old new : List Cell) (texts : List Tagged) → KeepsIdentifiers old new → AreTexts old texts 14 → AreTexts new texts 14
texts_kept old new texts b t = record {
  string = λ i d l. string_kept old new (slice_index_or texts i d) b (t.string i d l);
  text = λ i d l. b.texts (slice_index_or texts i d) (t.string i d l) ∙ t.text i d l;
}

-- as many identifiers as there were
pub made_stays : (law : IdentifiersAreNumbered) (w : World) (new : List Cell) → ((k : ℕ) → is_id_cell (cell_at new k) ≡ is_id_cell (cell_at w.cells.cells k)) → IsWorld w → w.syms.made ≤ ids_before new (length new)
made_stays law w new ids i = subst (λ n. w.syms.made ≤ n) (sym (all_ids_same law w.cells.cells new ids)) i.made

-- what is expanded stays a name
abbrev pub IsExpanding : List Cell → Option Expansion → Type 0
IsExpanding cells outer = ForSome outer (λ e. is_id cells e.name ≡ true)

pub expanding_kept : (old new : List Cell) (outer : Option Expansion) → ((v : Tagged) → is_id old v ≡ true → is_id new v ≡ true) → IsExpanding old outer → IsExpanding new outer
expanding_kept old new outer f h = λ e is. f e.name (h e is)

pub world_kept : (law : AreCellLaws) (w : World) (c : cell.CellStore) (k : counted.WorldCounts) → KeepsIdentifiers w.cells.cells c.cells → SameValues w.cells.cells c.cells → AreWorldCounts c k → IsExpanding c.cells k.outermost → IsWorld w → IsWorld (record w { cells = c; counts = k })
world_kept law w c k b same r x i = record {
  table = law.kept.table w.cells.cells c.cells w.syms.head b i.table;
  t = numbered_kept law.kept w.cells.cells c.cells _ 1 b same i.t;
  message = numbered_kept law.kept w.cells.cells c.cells _ 3 b same i.message;
  texts = texts_kept w.cells.cells c.cells w.texts b i.texts;
  running = r;
  levels = i.levels;
  made = made_stays law.numbered w c.cells (λ k. law.kept.ids w.cells.cells c.cells (IdAt k) b) i;
  expanding = x;
}

-- ---- a new object

abbrev pub with_made : World → Cell → World
with_made w c = record w { cells = grown w.cells c; counts = roomed w.counts (cost_of c) }

-- no spare cells are in use
pub unmarked : (s : cell.CellStore) (k : counted.WorldCounts) → AreWorldCounts s k → s.mark ≡ None
unmarked s k r = go s.mark (subst (λ a. AreSpareCounted a k.outermost s.mark (length s.cells)) r.together r.bounds.spare)
  where
    go : (mark : Option ℕ) → AreSpareCounted None k.outermost mark (length s.cells) → mark ≡ None
    go None h = refl
    go (Some m) h = absurd h

pub running_made : (law : AreCellLaws) (s : cell.CellStore) (k : counted.WorldCounts) (c : Cell) → 0 < cost_of c → AreWorldCounts s k → AreWorldCounts (grown s c) (roomed k (cost_of c))
running_made law s k c some r = record {
  bounds = law.bounds.made k s c some r.bounds;
  together = r.together;
  unexpanded = λ n o. ap (with_cells (cost_of c)) (r.unexpanded n o);
  untaken = r.untaken;
  few = r.few;
}

abbrev counted_so : cell.CellStore → List Cell → Option ℕ → Option ℕ → cell.CellStore
counted_so s cells count mark = record s { cells = cells; count = count; mark = mark }

-- the cells of a new object are taken
pub taken_made : (law : AreCellLaws) (s : cell.CellStore) (k : counted.WorldCounts) (c : Cell) → 0 < cost_of c → AreWorldCounts s k → cells_taken k.opening (grown s c) ≡ cells_taken k.opening s + cost_of c
taken_made law s k c some r = go k.opening s.count s.mark (unmarked s k r) r.bounds.together
  where
    go : (o count mark : Option ℕ) → mark ≡ None → OpenTogether o count → cells_taken o (counted_so s (s.cells ++ placed c) (more_counted count mark (cost_of c)) mark) ≡ cells_taken o (counted_so s s.cells count mark) + cost_of c
    go None None mark m t = absurd t
    go None (Some used) None m t = refl
    go None (Some used) (Some mark) m t = absurd (cc)
    go (Some n) None mark m t = law.added.long s.cells c some
    go (Some n) (Some used) mark m t = absurd t

-- where as many cells hold other objects, as much counts
pub running_changed : (s : cell.CellStore) (k : counted.WorldCounts) (new : List Cell) → length new ≡ length s.cells → AreWorldCounts s k → AreWorldCounts (record s { cells = new }) k
running_changed s k new long r = record {
  bounds = record { bound = r.bounds.bound; together = r.bounds.together; spare = subst (λ n. AreSpareCounted k.aside k.outermost s.mark n) (sym long) r.bounds.spare };
  together = r.together;
  unexpanded = r.unexpanded;
  untaken = r.untaken;
  few = r.few;
}

taken_changed : (o : Option ℕ) (s : cell.CellStore) (new : List Cell) → length new ≡ length s.cells → cells_taken o (record s { cells = new }) ≡ cells_taken o s
taken_changed None s new long = refl
taken_changed (Some n) s new long = long

pub expansion_kept : (old new : List Cell) (inner : ℕ) (e : Option Expansion) → SameValues old new → IsExpanding old e → expansion_in new inner e ≡ expansion_in old inner e
expansion_kept old new inner None same h = refl
expansion_kept old new inner (Some e) same h = ap (λ n. Some (record { macro = n; inner_count = inner - 1; turns = 100000 - e.turns; cells = 1000000 - e.cells })) (named_same old new e.name same (h e refl))

pub expanding_roomed : (cells : List Cell) (cost : ℕ) (outer : Option Expansion) → IsExpanding cells outer → IsExpanding cells (with_cells cost outer)
expanding_roomed cells cost None h = h
expanding_roomed cells cost (Some e) h = λ x is. let q : record e { cells = e.cells + cost } ≡ x = cc in subst (λ (y : Expansion). is_id cells y.name ≡ true) q (h e refl)

same_made : (law : AreCellLaws) (w : World) (c : Cell) → SameValues w.cells.cells (w.cells.cells ++ placed c)
same_made law w c v h = law.makes.values w.cells.cells c v h

pub counts_changed : (s : cell.CellStore) (k : counted.WorldCounts) (new : List Cell) → length new ≡ length s.cells → SameValues s.cells new → IsExpanding s.cells k.outermost → counts_in (record s { cells = new }) k ≡ counts_in s k
counts_changed s k new long same h =
    ap (λ e. record (counts_in (record s { cells = new }) k) { expansion = e }) (expansion_kept s.cells new k.open_count k.outermost same h)
    ∙ ap (λ n. record (counts_in s k) { cells = cells_in k.aside n (cells_bound_at k.opening k.cells_bound) }) (taken_changed k.opening s new long)

counts_made : (law : AreCellLaws) (w : World) (c : Cell) → 0 < cost_of c → IsWorld w → roomed_in w.cells w.counts (cost_of c) ≡ counts_in (grown w.cells c) (roomed w.counts (cost_of c))
counts_made law w c some i =
    let s = w.cells in
    let k = w.counts in
    let given = given_in k.opening k.bound in
    let turns = turns_in k.opening k.bound k.turns in
    let bound = cells_bound_at k.opening k.cells_bound in
    let after = left_in (grown s c) (roomed k (cost_of c)) (running_made law s k c some i.running) in
    let expands = expansion_kept s.cells (s.cells ++ placed c) k.open_count (with_cells (cost_of c) k.outermost) (same_made law w c) (expanding_roomed s.cells (cost_of c) k.outermost i.expanding) in
    sym (after ∙ ap (λ n. left given turns (bound - n) (expansion_in (s.cells ++ placed c) k.open_count (with_cells (cost_of c) k.outermost))) (taken_made law s k c some i.running)
    ∙ ap (λ e. left_behind s k (cost_of c) e) expands)

pub made_grows : (law : AreCellLaws) (w : World) (c : Cell) → words_of_id c ≡ None → 0 < cost_of c → IsWorld w → WorldGrows w (with_made w c)
made_grows law w c none some i =
    let b = law.blocks.made w.cells.cells c none in
    record {
      world = world_kept law w (grown w.cells c) (roomed w.counts (cost_of c)) b (same_made law w c) (running_made law w.cells w.counts c some i.running)
          (expanding_kept w.cells.cells (w.cells.cells ++ placed c) (with_cells (cost_of c) w.counts.outermost) (λ v h. law.kept.ids w.cells.cells (w.cells.cells ++ placed c) v b ∙ h) (expanding_roomed w.cells.cells (cost_of c) w.counts.outermost i.expanding)) i;
      live = b.live;
      values = same_made law w c;
    }

pub shows_made : (law : AreCellLaws) (w : World) (c : Cell) (s : State) (store : Store) → words_of_id c ≡ None → 0 < cost_of c → IsWorld w → IsClosed w.cells.cells → ShowsState w s → store ≡ store_of (w.cells.cells ++ placed c)
    → ShowsState (with_made w c) (record s { counts = roomed_in w.cells w.counts (cost_of c); store = store })
shows_made law w c s store none some i closed shown e =
    let b = law.blocks.made w.cells.cells c none in
    let kept = symbols_kept law.kept law.numbered w.cells.cells (w.cells.cells ++ placed c) w.syms.head s b i.table closed (same_made law w c) shown.symbols in
    record {
      store = e;
      symbols = record { many = kept.many; symbols = kept.symbols; values = kept.values };
      counts = counts_made law w c some i;
      gensyms = shown.gensyms;
      column = shown.column;
      line_length = shown.line_length;
      taken = shown.taken;
      free = shown.free;
      bound = shown.bound;
    }

-- ---- a value that names the new object

-- where there is room, what is made by the definition is what the cells hold
pub value_made : (law : AreCellLaws) (w : World) (c : Cell) (at : Tagged) (s : State) (next : State → Outcome Value) (v : Value) (store : Store)
    → words_of_id c ≡ None → 0 < cost_of c → IsWorld w → IsClosed w.cells.cells → room_stop w.counts w.cells (cost_of c) ≡ None → ShowsState w s
    → next (record s { counts = roomed_in w.cells w.counts (cost_of c) }) ≡ Done v (record s { counts = roomed_in w.cells w.counts (cost_of c); store = store })
    → store ≡ store_of (w.cells.cells ++ placed c) → value_of (w.cells.cells ++ placed c) at ≡ v
    → MeansValue s (room (cost_of c) s next) (Ok at) (with_made w c)
value_made law w c at s next v store none some i closed stop shown then_is stored named = record {
  state = record s { counts = roomed_in w.cells w.counts (cost_of c); store = store };
  is = room_done w.cells w.counts (cost_of c) s next i.running shown.counts stop ∙ then_is ∙ ap (λ x. Done x (record s { counts = roomed_in w.cells w.counts (cost_of c); store = store })) (sym named);
  good = record {
    shows = shows_made law w c s store none some i closed shown stored;
    stays = record { functions = record { functions = refl; compilation = refl }; bindings = record { entries = refl; hidden = λ i b h. refl }; outside = refl };
  };
}

-- room is counted, and then the object made
pub final_is : (w r : World) (cs : cell.CellStore) (c : Cell) → r ≡ record w { counts = roomed w.counts (cost_of c) } → cs ≡ grown r.cells c → record r { cells = cs } ≡ with_made w c
final_is w r cs c e f = ap (λ x. record r { cells = x }) f ∙ ap (λ (x : World). record x { cells = grown x.cells c }) e

-- the calls of a world one after the other: room, and the object at the next place
pub record IsMadeIn (w r : World) (cs : cell.CellStore) (c : Cell) (tag : ℕ → Tagged) (v : Tagged) : Type 0 where
  pub counted : r ≡ record w { counts = roomed w.counts (cost_of c) }
  pub made : cs ≡ grown r.cells c
  pub named : v ≡ tag (length r.cells.cells)
  pub closed : IsClosed r.cells.cells
  pub room : room_stop w.counts w.cells (cost_of c) ≡ None

pub closed_before : (w r : World) (cs : cell.CellStore) (c : Cell) (tag : ℕ → Tagged) (v : Tagged) → IsMadeIn w r cs c tag v → IsClosed w.cells.cells
closed_before w r cs c tag v m = subst (λ (x : World). IsClosed x.cells.cells) m.counted m.closed

pub ends_made : (law : AreCellLaws) (w r : World) (cs : cell.CellStore) (c : Cell) (tag : ℕ → Tagged) (v : Tagged) (s : State) (next : State → Outcome Value) (x : Value) (store : Store)
    → IsMadeIn w r cs c tag v → words_of_id c ≡ None → 0 < cost_of c → IsWorld w → ShowsState w s
    → next (record s { counts = roomed_in w.cells w.counts (cost_of c) }) ≡ Done x (record s { counts = roomed_in w.cells w.counts (cost_of c); store = store })
    → store ≡ store_of (w.cells.cells ++ placed c) → value_of (w.cells.cells ++ placed c) (tag (length w.cells.cells)) ≡ x
    → MeansValue s (room (cost_of c) s next) (Ok v) (record r { cells = cs })
ends_made law w r cs c tag v s next x store m none some i shown then_is stored named =
    let at : v ≡ tag (length w.cells.cells) = m.named ∙ ap (λ (y : World). tag (length y.cells.cells)) m.counted in
    subst (λ y. MeansValue s (room (cost_of c) s next) (Ok v) y) (sym (final_is w r cs c m.counted m.made))
    (subst (λ y. MeansValue s (room (cost_of c) s next) (Ok y) (with_made w c)) (sym at)
    (value_made law w c (tag (length w.cells.cells)) s next x store none some i (closed_before w r cs c tag v m) m.room shown then_is stored named))

pub made_ends : (law : AreCellLaws) (w r : World) (cs : cell.CellStore) (c : Cell)
    → r ≡ record w { counts = roomed w.counts (cost_of c) } → cs ≡ grown r.cells c → words_of_id c ≡ None → 0 < cost_of c → IsWorld w → WorldGrows w (record r { cells = cs })
made_ends law w r cs c e f none some i = subst (λ x. WorldGrows w x) (sym (final_is w r cs c e f)) (made_grows law w c none some i)

pub grows_refl : (w x : World) → x ≡ w → IsWorld w → WorldGrows w x
grows_refl w x e i = subst (λ y. WorldGrows w y) (sym e) (record { world = i; live = λ v h. h; values = λ v h. refl })

-- there is no room
pub made_stops : (w x : World) (cost : ℕ) (s : State) (next : State → Outcome Value) (why : stops.Stop) → x ≡ w → IsWorld w → 0 < cost → room_stop w.counts w.cells cost ≡ Some why → ShowsState w s → MeansValue s (room cost s next) (Err why) x
made_stops w x cost s next why e i p stop shown = subst (λ y. MeansValue s (room cost s next) (Err why) y) (sym e) (room_full w.cells w.counts cost s next why i.running shown.counts p stop)

-- ---- pairs

pub pair_stops : (w x : World) (a d : Tagged) (why : stops.Stop) → x ≡ w → IsWorld w → room_stop w.counts w.cells 1 ≡ Some why
    → (s : State) → ShowsState w s → MeansValue s (made_pair (value_of w.cells.cells a) (value_of w.cells.cells d) s) (Err why) x
pair_stops w x a d why e i stop s shown = made_stops w x 1 s (λ s. Done (new_value s.store) (record s { store = cons_store s.store (value_of w.cells.cells a) (value_of w.cells.cells d) })) why e i (omega arith) stop shown

pub pair_ends : (law : AreCellLaws) (w r : World) (cs : cell.CellStore) (a d v : Tagged)
    → IsMadeIn w r cs (PairCell a d) PairAt v → IsWorld w → is_live w.cells.cells a ≡ true → is_live w.cells.cells d ≡ true
    → (s : State) → ShowsState w s → MeansValue s (made_pair (value_of w.cells.cells a) (value_of w.cells.cells d) s) (Ok v) (record r { cells = cs })
pair_ends law w r cs a d v m i la ld s shown =
    let cells = w.cells.cells in
    let closed = closed_before w r cs (PairCell a d) PairAt v m in
    let va = value_of cells a in
    let vd = value_of cells d in
    ends_made law w r cs (PairCell a d) PairAt v s (λ s. Done (new_value s.store) (record s { store = cons_store s.store va vd })) (new_value s.store) (cons_store s.store va vd) m refl (omega arith) i shown refl
    (ap (λ os. cons_store os va vd) shown.store ∙ sym (law.makes.pair cells a d closed la ld))
    (law.makes.pair_named cells a d ∙ ap new_value (sym shown.store))

-- ---- strings

pub string_ends : (law : AreCellLaws) (w r : World) (cs : cell.CellStore) (bytes : List ℕ) (v : Tagged)
    → IsMadeIn w r cs (StrCell bytes) StrAt v → IsWorld w → (s : State) → ShowsState w s → MeansValue s (made_string bytes s) (Ok v) (record r { cells = cs })
string_ends law w r cs bytes v m i s shown =
    let cells = w.cells.cells in
    let closed = closed_before w r cs (StrCell bytes) StrAt v m in
    ends_made law w r cs (StrCell bytes) StrAt v s (λ s. Done (Str bytes) s) (Str bytes) s.store m refl (omega arith) i shown refl
    (shown.store ∙ sym (law.makes.others cells (StrCell bytes) closed refl))
    (law.makes.string_named cells bytes)

pub string_stops : (w x : World) (bytes : List ℕ) (why : stops.Stop) → x ≡ w → IsWorld w → room_stop w.counts w.cells (cost_of (StrCell bytes)) ≡ Some why
    → (s : State) → ShowsState w s → MeansValue s (made_string bytes s) (Err why) x
string_stops w x bytes why e i stop s shown = made_stops w x (cost_of (StrCell bytes)) s (λ s. Done (Str bytes) s) why e i (omega arith) stop shown

-- ---- vectors

all_copies : (p : Tagged → Bool) (x : Tagged) (n : ℕ) → p x ≡ true → list_all p (replicate n x) ≡ true
all_copies p x zero h = refl
all_copies p x (suc n) h = rw (h, all_copies p x n h) refl

map_copies : {A B : Type 0} (f : A → B) (x : A) (n : ℕ) → map f (replicate n x) ≡ replicate n (f x)
map_copies f x zero = refl
map_copies f x (suc n) = ap (λ ys. f x ∷ ys) (map_copies f x n)

long_copies : (x : Tagged) (n : ℕ) → length (replicate n x) ≡ n
long_copies x zero = refl
long_copies x (suc n) = ap suc (long_copies x n)

pub vector_cost : (n : ℕ) → cost_of (VectorCell (replicate n nil_id)) ≡ 1 + (n + 1) / 2
vector_cost n = ap (λ l. 1 + (l + 1) / 2) (long_copies nil_id n)

pub vector_ends : (law : AreCellLaws) (w r : World) (cs : cell.CellStore) (n : ℕ) (v : Tagged)
    → IsMadeIn w r cs (VectorCell (replicate n nil_id)) VectorAt v → IsWorld w → (s : State) → ShowsState w s → MeansValue s (made_places n s) (Ok v) (record r { cells = cs })
vector_ends law w r cs n v m i s shown =
    let cells = w.cells.cells in
    let xs = replicate n nil_id in
    let c = VectorCell xs in
    let closed = closed_before w r cs c VectorAt v m in
    let nils = replicate n nil_value_of_state in
    let next : State → Outcome Value = λ s. Done (Ref (length s.store)) (record s { store = s.store ++ Vector nils ∷ [] }) in
    let places : map (value_of cells) xs ≡ nils = map_copies (value_of cells) nil_id n ∙ ap (λ k. replicate n (Id k)) i.table.first in
    subst (λ cost. MeansValue s (room cost s next) (Ok v) (record r { cells = cs })) (vector_cost n)
    (ends_made law w r cs c VectorAt v s next (Ref (length s.store)) (s.store ++ Vector nils ∷ []) m refl (omega arith) i shown refl
    (ap (λ os. vector_store os nils) shown.store ∙ ap (λ ys. vector_store (store_of cells) ys) (sym places) ∙ sym (law.makes.vector cells xs closed (all_copies (is_live cells) nil_id n i.table.nil)))
    (law.makes.vector_named cells xs ∙ ap new_value (sym shown.store)))

pub vector_stops : (w x : World) (n : ℕ) (why : stops.Stop) → x ≡ w → IsWorld w → room_stop w.counts w.cells (cost_of (VectorCell (replicate n nil_id))) ≡ Some why
    → (s : State) → ShowsState w s → MeansValue s (made_places n s) (Err why) x
vector_stops w x n why e i stop s shown =
    made_stops w x (1 + (n + 1) / 2) s (λ s. Done (Ref (length s.store)) (record s { store = s.store ++ Vector (replicate n nil_value_of_state) ∷ [] })) why e i (omega arith) (rw (vector_cost n) at stop) shown

-- ---- what is beside the objects

pub rest_made : (law : CountsAreTaken) (stand : FunctionsStand) (w r : World) (cs : cell.CellStore) (c : Cell) (cost : ℕ) → words_of_function c ≡ None → r ≡ record w { counts = roomed w.counts cost } → cs ≡ grown r.cells c → ObjectsAlone w (record r { cells = cs })
rest_made law stand w r cs c cost none e made = record {
  rest = subst (λ (x : World). record x { cells = cs } ≡ record w { cells = cs; syms = x.syms; counts = x.counts }) (sym e) refl;
  counts = subst (λ (x : World). TakesTurnsAndCells w.counts x.counts) (sym e) (law.cells w.counts cost);
  functions = subst (λ (x : cell.CellStore). KeepsHeldFunctions w.cells.cells x.cells) (sym made) (subst (λ (x : World). KeepsHeldFunctions w.cells.cells (x.cells.cells ++ placed c)) (sym e) (stand.made w.cells.cells c none));
}

-- where the cells are the same
pub same_functions : (w x : World) → x.cells ≡ w.cells → KeepsHeldFunctions w.cells.cells x.cells.cells
same_functions w x e = subst (λ (s : cell.CellStore). KeepsHeldFunctions w.cells.cells s.cells) (sym e) (record { words = λ k. refl })

pub functions_both : (a b c : List Cell) → KeepsHeldFunctions a b → KeepsHeldFunctions b c → KeepsHeldFunctions a c
functions_both a b c f g = record { words = λ k. g.words k ∙ f.words k }

pub rest_refl : (law : CountsAreTaken) (w x : World) → x ≡ w → ObjectsAlone w x
rest_refl law w x e = record {
  rest = subst (λ (y : World). y ≡ record w { cells = y.cells; syms = y.syms; counts = y.counts }) (sym e) refl;
  counts = subst (λ (y : World). TakesTurnsAndCells w.counts y.counts) (sym e) (law.none w.counts);
  functions = same_functions w x (ap (λ (y : World). y.cells) e);
}

pub rest_trans : (law : CountsAreTaken) (w x y : World) → ObjectsAlone w x → ObjectsAlone x y → ObjectsAlone w y
rest_trans law w x y a b = record {
  rest = b.rest ∙ ap (λ (z : World). record z { cells = y.cells; syms = y.syms; counts = y.counts }) a.rest;
  counts = law.both w.counts x.counts y.counts a.counts b.counts;
  functions = functions_both w.cells.cells x.cells.cells y.cells.cells a.functions b.functions;
}

pub rest_ticked : (law : CountsAreTaken) (w x : World) → x ≡ record w { counts = ticked w.counts } → ObjectsAlone w x
rest_ticked law w x e = record {
  rest = subst (λ (y : World). y ≡ record w { cells = y.cells; syms = y.syms; counts = y.counts }) (sym e) refl;
  counts = subst (λ (y : World). TakesTurnsAndCells w.counts y.counts) (sym e) (law.turn w.counts);
  functions = same_functions w x (ap (λ (y : World). y.cells) e);
}

-- ---- room that was counted is there

pub has_counted : RoomIsEnough → (w r : World) (k : counted.WorldCounts) (cost : ℕ) → r ≡ record w { counts = k } → IsWorld w → room_stop w.counts w.cells cost ≡ None → has_room r.cells cost ≡ true
has_counted enough w r k cost e i h = subst (λ (x : World). has_room x.cells cost ≡ true) (sym e) (room_fits enough w.cells w.counts cost i.running h)

pub live_counted : (w r : World) (k : counted.WorldCounts) (v : Tagged) → r ≡ record w { counts = k } → is_live w.cells.cells v ≡ true → is_live r.cells.cells v ≡ true
live_counted w r k v e h = subst (λ (x : World). is_live x.cells.cells v ≡ true) (sym e) h
