-- Each step of the walk, in a world.
use Rattle.std.proofs.Common.{◌≡◌, ◌≢◌, ℕ, zero, suc, ◌+◌, ◌-◌, ◌*◌, ◌<◌, ◌≤◌, ◌==◌, Bool, true, false, if◌then◌else◌, List, [], ◌∷◌, ◌++◌, length, map, drop, Bor, Option, Some, None, refl, sym, ap, ◌∙◌, arith, append_assoc, eqb-true}
use Rattle.std.specs.Prelude.{slice_get}
use Rattle.std.proofs.lemmas.List.{append-nil}
use Rattle.std.proofs.lemmas.Bool.Decides.{nat_tests}
use Rattle.std.proofs.lemmas.List.Sums.{fold-append}
use Rattle.rl_tags.specs.Tagged.{Tagged, Number, IdAt, StrAt, PairAt, VectorAt, BigAt, FunAt, tag_of, word_of}
use Rattle.rl_tags.specs.declared.Tag.TheVariants as Tag
use Rattle.rl_cells.specs.Cell.{Cell, CellStore, car_of, cdr_of, is_live, is_pair, is_vector, vector_of}
use Rattle.rl_syms.specs.Contents.{ids_before, value_of}
use Rattle.rl_syms.specs.Numbers.{IdentifiersAreNumbered}
use Rattle.rl_syms.specs.Laws.{IsRead}
use Rattle.rl_syms.specs.Table.{IsTable}
use Rattle.rl_tree.specs.Value.{Value, Id, Ref}
use Rattle.rl_tree.specs.Atoms as atoms
use Rattle.rl_tree.specs.Printing.{Whole, NoTurn, TooDeep, Progress, Setting, column_with, marked, with_atom_of, dotted_atom, printed, value_printed}
use Rattle.rl_world.specs.declared.world.World.{World}
use Rattle.rl_print.specs.AtomText.{is_atom}
use Rattle.rl_print.specs.Counted.{last_count_stop}
use Rattle.rl_print.specs.Walk.{BeginsPrinting, IsCursor, IsReadyToPrint, IsWorldOf, WalkPlace, Rest, Places, all_printed, continued, element_printed, place_printed, levels_left, walk_meaning, walk_place_in, progress_in_world, setting_in_world, state_weight, stopped, waiting_places, walk_weight, whole_printer, whole_printed}
use Rattle.rl_print.specs.declared.walk.Cursor.{Cursor}
use Rattle.rl_print.specs.declared.walk.Cursor.TheVariants as cursor
use Rattle.rl_print.specs.declared.walk.Piece.TheVariants as piece
use Rattle.rl_print.specs.declared.walk.State.{State}
use Rattle.rl_print.specs.declared.walk.State.TheVariants as state
use Rattle.rl_print.proofs.Steps.{atom_next, pair_wants_turn, pair_wants_level, pair_begins, vector_wants_level, vector_begins, place_done, root_atom, root_pair, root_pair_wants_turn, root_vector, rest_nil, rest_wants_turn, rest_pair, rest_vector, places_end, places_want_turn, places_go_on}
use Rattle.rl_world.specs.Walks.{IsSteady}
use Rattle.rl_world.specs.Counts.{count_turns_left}

-- what printing sees of two worlds is the same
pub record SameView (old new : World) : Type 0 where
  pub cells : new.cells ≡ old.cells
  pub syms : new.syms ≡ old.syms
  pub output : new.output ≡ old.output

pub view_of : (old new : World) → new ≡ record old { counts = new.counts; levels = new.levels } → SameView old new
view_of old new e = record { cells = ap (λ (w : World). w.cells) e; syms = ap (λ (w : World). w.syms) e; output = ap (λ (w : World). w.output) e }

pub setting_same : (style : atoms.Style) (old new : World) → SameView old new → setting_in_world style new ≡ setting_in_world style old
setting_same style old new v = rw (v.cells, v.output) refl

pub progress_same : (old new : World) (text : List ℕ) → SameView old new → progress_in_world new text ≡ record (progress_in_world old text) { turns = count_turns_left new.counts }
progress_same old new text v = rw v.output refl

-- the new world sees the same, with so many turns and levels left, and these places waiting
pub record Moved (base : ℕ) (old new : World) (turns levels : ℕ) (places : List WalkPlace) : Type 0 where
  pub view : SameView old new
  pub turns_are : count_turns_left new.counts ≡ turns
  pub levels_are : levels_left new ≡ levels
  pub places_are : waiting_places new base ≡ places

progress_moved : (base : ℕ) (old new : World) (turns levels : ℕ) (places : List WalkPlace) (text : List ℕ) → Moved base old new turns levels places → progress_in_world new text ≡ record (progress_in_world old text) { turns = turns }
progress_moved base old new turns levels places text m = progress_same old new text m.view ∙ ap (λ (t : ℕ). record (progress_in_world old text) { turns = t }) m.turns_are

-- an element and what waits, told in the old world
element_moved : (base : ℕ) (old new : World) (turns levels : ℕ) (places : List WalkPlace) (style : atoms.Style) (x : Value) (p : WalkPlace) (show : Progress → Progress) (text : List ℕ) → Moved base old new turns levels places
    → element_printed (setting_in_world style new) x (p ∷ waiting_places new base) (levels_left new) (show (progress_in_world new text)) ≡ element_printed (setting_in_world style old) x (p ∷ places) levels (show (record (progress_in_world old text) { turns = turns }))
element_moved base old new turns levels places style x p show text m =
    ap (λ g. element_printed g x (p ∷ waiting_places new base) (levels_left new) (show (progress_in_world new text))) (setting_same style old new m.view)
    ∙ (ap (λ ps. element_printed (setting_in_world style old) x (p ∷ ps) (levels_left new) (show (progress_in_world new text))) m.places_are
    ∙ (ap (λ n. element_printed (setting_in_world style old) x (p ∷ places) n (show (progress_in_world new text))) m.levels_are
    ∙ ap (λ q. element_printed (setting_in_world style old) x (p ∷ places) levels (show q)) (progress_moved base old new turns levels places text m)))

-- and what comes next
next_moved : (base : ℕ) (old new : World) (turns levels : ℕ) (places : List WalkPlace) (style : atoms.Style) (p : WalkPlace) (show : Progress → Progress) (text : List ℕ) → Moved base old new turns levels places
    → all_printed (setting_in_world style new) (p ∷ waiting_places new base) (levels_left new) (show (progress_in_world new text)) ≡ all_printed (setting_in_world style old) (p ∷ places) levels (show (record (progress_in_world old text) { turns = turns }))
next_moved base old new turns levels places style p show text m =
    ap (λ g. all_printed g (p ∷ waiting_places new base) (levels_left new) (show (progress_in_world new text))) (setting_same style old new m.view)
    ∙ (ap (λ ps. all_printed (setting_in_world style old) (p ∷ ps) (levels_left new) (show (progress_in_world new text))) m.places_are
    ∙ (ap (λ n. all_printed (setting_in_world style old) (p ∷ places) n (show (progress_in_world new text))) m.levels_are
    ∙ ap (λ q. all_printed (setting_in_world style old) (p ∷ places) levels (show q)) (progress_moved base old new turns levels places text m)))

-- a value that is not small refers to its object
element_of : (style : atoms.Style) (base : ℕ) (w : World) (v : Tagged) (r n : ℕ) (outer : Cursor) (text : List ℕ) → value_of w.cells.cells v ≡ Ref r → levels_left w ≡ n
    → walk_meaning style w base (Some (state.Element v outer)) text ≡ element_printed (setting_in_world style w) (Ref r) (walk_place_in w.cells.cells outer ∷ waiting_places w base) n (progress_in_world w text)
element_of style base w v r n outer text value left =
    ap (λ x. element_printed (setting_in_world style w) x (walk_place_in w.cells.cells outer ∷ waiting_places w base) (levels_left w) (progress_in_world w text)) value
    ∙ ap (λ l. element_printed (setting_in_world style w) (Ref r) (walk_place_in w.cells.cells outer ∷ waiting_places w base) l (progress_in_world w text)) left

-- ---- a turn and a push

-- one turn was taken, and nothing else
pub record Turned (old new : World) : Type 0 where
  pub world : new ≡ record old { counts = new.counts }
  pub turns : count_turns_left old.counts ≡ count_turns_left new.counts + 1

-- one more place waits, in a level more
pub record Pushed (base : ℕ) (old new : World) (outer : Cursor) : Type 0 where
  pub world : new ≡ record old { levels = new.levels }
  pub places : waiting_places new base ≡ walk_place_in old.cells.cells outer ∷ waiting_places old base
  pub levels : levels_left old ≡ levels_left new + 1

turned_view : (old new : World) → Turned old new → SameView old new
turned_view old new t = record { cells = ap (λ (w : World). w.cells) t.world; syms = ap (λ (w : World). w.syms) t.world; output = ap (λ (w : World). w.output) t.world }

pub pushed_view : (base : ℕ) (old new : World) (outer : Cursor) → Pushed base old new outer → SameView old new
pushed_view base old new outer t = record { cells = ap (λ (w : World). w.cells) t.world; syms = ap (λ (w : World). w.syms) t.world; output = ap (λ (w : World). w.output) t.world }

view_trans : (a b c : World) → SameView a b → SameView b c → SameView a c
view_trans a b c p q = record { cells = q.cells ∙ p.cells; syms = q.syms ∙ p.syms; output = q.output ∙ p.output }

turned_pushed : (base : ℕ) (old mid new : World) (outer : Cursor) → Turned old mid → Pushed base mid new outer → Moved base old new (count_turns_left mid.counts) (levels_left new) (walk_place_in old.cells.cells outer ∷ waiting_places old base)
turned_pushed base old mid new outer t p = record {
  view = view_trans old mid new (turned_view old mid t) (pushed_view base mid new outer p);
  turns_are = ap (λ (w : World). count_turns_left w.counts) p.world;
  levels_are = refl;
  places_are = p.places ∙ ap (λ (w : World). walk_place_in w.cells.cells outer ∷ waiting_places w base) t.world;
}

pub pair_means : IsRead → (base : ℕ) (old mid new : World) (v a d : Tagged) (outer : Cursor) → Turned old mid → Pushed base mid new outer → is_pair old.cells.cells v ≡ true → a ≡ car_of new.cells.cells v → d ≡ cdr_of new.cells.cells v → (style : atoms.Style) (text : List ℕ)
    → walk_meaning style old base (Some (state.Element v outer)) text ≡ element_printed (setting_in_world style new) (value_of new.cells.cells a) (Rest (value_of new.cells.cells d) ∷ waiting_places new base) (levels_left new) (marked (40 ∷ []) (progress_in_world new text))
pair_means law base old mid new v a d outer t p pair ea ed style text =
    let cells = old.cells.cells in
    let read = law.pair cells v pair in
    let m = turned_pushed base old mid new outer t p in
    let left : levels_left old ≡ suc (levels_left new) = sym (ap (λ (w : World). levels_left w) t.world) ∙ omega (arith, p.levels) in
    let more : count_turns_left old.counts ≡ suc (count_turns_left mid.counts) = omega (arith, t.turns) in
    let car : value_of new.cells.cells a ≡ value_of cells (car_of cells v) = ap (λ (s : CellStore). value_of s.cells a) m.view.cells ∙ ap (value_of cells) (ea ∙ ap (λ (s : CellStore). car_of s.cells v) m.view.cells) in
    let cdr : value_of new.cells.cells d ≡ value_of cells (cdr_of cells v) = ap (λ (s : CellStore). value_of s.cells d) m.view.cells ∙ ap (value_of cells) (ed ∙ ap (λ (s : CellStore). cdr_of s.cells v) m.view.cells) in
    element_of style base old v _ (suc (levels_left new)) outer text read.value left
    ∙ (pair_begins (setting_in_world style old) _ (value_of cells (car_of cells v)) (value_of cells (cdr_of cells v)) (walk_place_in cells outer ∷ waiting_places old base) (levels_left new) (progress_in_world old text) (count_turns_left mid.counts) read.stands more
    ∙ (sym (element_moved base old new (count_turns_left mid.counts) (levels_left new) (walk_place_in cells outer ∷ waiting_places old base) style (value_of cells (car_of cells v)) (Rest (value_of cells (cdr_of cells v))) (marked (40 ∷ [])) text m)
    ∙ (ap (λ x. element_printed (setting_in_world style new) x (Rest (value_of cells (cdr_of cells v)) ∷ waiting_places new base) (levels_left new) (marked (40 ∷ []) (progress_in_world new text))) (sym car)
    ∙ ap (λ y. element_printed (setting_in_world style new) (value_of new.cells.cells a) (Rest y ∷ waiting_places new base) (levels_left new) (marked (40 ∷ []) (progress_in_world new text))) (sym cdr))))

-- ---- marks

-- one mark behind another
marked_twice : (xs ys : List ℕ) (p : Progress) → marked ys (marked xs p) ≡ marked (xs ++ ys) p
marked_twice xs ys p = rw (append_assoc p.page.text xs ys, fold-append column_with p.page.column xs ys) refl

blank_marked : (first : Bool) (p : Progress) → (if first then p else marked (32 ∷ []) p) ≡ marked (if first then [] else 32 ∷ []) p
blank_marked true p = rw (append-nil p.page.text) refl
blank_marked false p = refl

-- the place i of a vector comes next
some_same : (y x : Tagged) → Some y ≡ Some x → y ≡ x
some_same y x e = cc

drop_at : (f : Tagged → Value) (xs : List Tagged) (i : ℕ) (x : Tagged) → slice_get xs i ≡ Some x → drop i (map f xs) ≡ f x ∷ drop (i + 1) (map f xs)
drop_at f [] i x e = absurd (cc)
drop_at f (y ∷ xs) zero x e = ap (λ z. f z ∷ map f xs) (some_same y x e)
drop_at f (y ∷ xs) (suc i) x e = let n : suc i + 1 ≡ suc (i + 1) = omega arith in rw n (drop_at f xs i x e)

-- ---- an element that wants a turn or a level

pub pair_no_turn : IsRead → (base : ℕ) (w : World) (v : Tagged) (outer : Cursor) → is_pair w.cells.cells v ≡ true → count_turns_left w.counts ≡ 0 → (style : atoms.Style) (text : List ℕ) → walk_meaning style w base (Some (state.Element v outer)) text ≡ stopped w NoTurn text
pair_no_turn law base w v outer pair none style text =
    let cells = w.cells.cells in
    let read = law.pair cells v pair in
    element_of style base w v _ (levels_left w) outer text read.value refl
    ∙ pair_wants_turn (setting_in_world style w) _ (value_of cells (car_of cells v)) (value_of cells (cdr_of cells v)) (walk_place_in cells outer ∷ waiting_places w base) (levels_left w) (progress_in_world w text) read.stands none

pub pair_no_level : IsRead → (base : ℕ) (old new : World) (v : Tagged) (outer : Cursor) → Turned old new → is_pair old.cells.cells v ≡ true → levels_left new ≡ 0 → (style : atoms.Style) (text : List ℕ) → walk_meaning style old base (Some (state.Element v outer)) text ≡ stopped new TooDeep text
pair_no_level law base old new v outer t pair none style text =
    let cells = old.cells.cells in
    let read = law.pair cells v pair in
    let left : levels_left old ≡ 0 = sym (ap (λ (w : World). levels_left w) t.world) ∙ none in
    let more : count_turns_left old.counts ≡ suc (count_turns_left new.counts) = omega (arith, t.turns) in
    element_of style base old v _ 0 outer text read.value left
    ∙ (pair_wants_level (setting_in_world style old) _ (value_of cells (car_of cells v)) (value_of cells (cdr_of cells v)) (walk_place_in cells outer ∷ waiting_places old base) (progress_in_world old text) (count_turns_left new.counts) read.stands more
    ∙ ap (λ (p : Progress). record p { ending = TooDeep }) (sym (progress_same old new text (turned_view old new t))))

pub vector_no_level : IsRead → (base : ℕ) (w : World) (v : Tagged) (outer : Cursor) → is_vector w.cells.cells v ≡ true → levels_left w ≡ 0 → (style : atoms.Style) (text : List ℕ) → walk_meaning style w base (Some (state.Element v outer)) text ≡ stopped w TooDeep text
vector_no_level law base w v outer vector none style text =
    let cells = w.cells.cells in
    let read = law.vector cells v vector in
    element_of style base w v _ 0 outer text read.value none
    ∙ vector_wants_level (setting_in_world style w) _ (map (value_of cells) (vector_of cells v)) (walk_place_in cells outer ∷ waiting_places w base) (progress_in_world w text) read.stands

pushed_moved : (base : ℕ) (old new : World) (outer : Cursor) → Pushed base old new outer → Moved base old new (count_turns_left old.counts) (levels_left new) (walk_place_in old.cells.cells outer ∷ waiting_places old base)
pushed_moved base old new outer p = record {
  view = pushed_view base old new outer p;
  turns_are = ap (λ (w : World). count_turns_left w.counts) p.world;
  levels_are = refl;
  places_are = p.places;
}

pub vector_means : IsRead → (base : ℕ) (old new : World) (v : Tagged) (outer : Cursor) → Pushed base old new outer → is_vector old.cells.cells v ≡ true → (style : atoms.Style) (text : List ℕ)
    → walk_meaning style old base (Some (state.Element v outer)) text ≡ all_printed (setting_in_world style new) (Places true (map (value_of new.cells.cells) (vector_of new.cells.cells v)) false ∷ waiting_places new base) (levels_left new) (marked (91 ∷ []) (progress_in_world new text))
vector_means law base old new v outer p vector style text =
    let cells = old.cells.cells in
    let read = law.vector cells v vector in
    let m = pushed_moved base old new outer p in
    let xs = map (value_of cells) (vector_of cells v) in
    let same : map (value_of new.cells.cells) (vector_of new.cells.cells v) ≡ xs = ap (λ (s : CellStore). map (value_of s.cells) (vector_of s.cells v)) m.view.cells in
    let left : levels_left old ≡ suc (levels_left new) = omega (arith, p.levels) in
    element_of style base old v _ (suc (levels_left new)) outer text read.value left
    ∙ (vector_begins (setting_in_world style old) _ xs (walk_place_in cells outer ∷ waiting_places old base) (levels_left new) (progress_in_world old text) read.stands
    ∙ (sym (next_moved base old new (count_turns_left old.counts) (levels_left new) (walk_place_in cells outer ∷ waiting_places old base) style (Places true xs false) (marked (91 ∷ [])) text m)
    ∙ ap (λ ys. all_printed (setting_in_world style new) (Places true ys false ∷ waiting_places new base) (levels_left new) (marked (91 ∷ []) (progress_in_world new text))) (sym same)))

-- ---- atoms

pub atom_value : (g : Setting) (inner : Bool) (cells : List Cell) (v : Tagged) (levels : ℕ) (p : Progress) → is_atom cells v ≡ true → value_printed g (whole_printer g) inner (value_of cells v) levels p ≡ with_atom_of g (value_of cells v) p
atom_value g inner cells (Number z) levels p h = refl
atom_value g inner cells (IdAt k) levels p h = refl
atom_value g inner cells (StrAt k) levels p h = refl
atom_value g inner cells (BigAt k) levels p h = refl
atom_value g inner cells (FunAt k) levels p h = refl
atom_value g inner cells (PairAt k) levels p h = absurd (cc)
atom_value g inner cells (VectorAt k) levels p h = absurd (cc)

pub atom_means : (base : ℕ) (w : World) (v : Tagged) (outer : Cursor) → is_atom w.cells.cells v ≡ true → (style : atoms.Style) (text : List ℕ)
    → walk_meaning style w base (Some (state.Element v outer)) text ≡ continued style w base (Some (state.Next outer)) (with_atom_of (setting_in_world style w) (value_of w.cells.cells v) (progress_in_world w text))
atom_means base w v outer atom style text =
    let g = setting_in_world style w in
    atom_next g (value_of w.cells.cells v) (walk_place_in w.cells.cells outer ∷ waiting_places w base) (levels_left w) (progress_in_world w text) (atom_value g true w.cells.cells v (levels_left w) (progress_in_world w text) atom) refl

differ_test : (i j : ℕ) → i ≢ j → (i == j) ≡ false
differ_test i j h = grind (arith, nat_tests)

rest_atom : (g : Setting) (cells : List Cell) (v : Tagged) (levels : ℕ) (p : Progress) → IdentifiersAreNumbered → g.nil ≡ ids_before cells 2 → is_live cells (IdAt 2) ≡ true → is_atom cells v ≡ true → v ≢ IdAt 2 → place_printed g (Rest (value_of cells v)) levels p ≡ dotted_atom g (value_of cells v) p
rest_atom g cells (Number z) levels p law n nil h other = refl
rest_atom g cells (StrAt k) levels p law n nil h other = refl
rest_atom g cells (BigAt k) levels p law n nil h other = refl
rest_atom g cells (FunAt k) levels p law n nil h other = refl
rest_atom g cells (PairAt k) levels p law n nil h other = absurd (cc)
rest_atom g cells (VectorAt k) levels p law n nil h other = absurd (cc)
rest_atom g cells (IdAt k) levels p law n nil h other =
    let differ : ids_before cells k ≢ g.nil = λ e. other (ap IdAt (law.distinct cells k 2 h nil (e ∙ n))) in
    let no : (ids_before cells k == g.nil) ≡ false = differ_test (ids_before cells k) g.nil differ in
    ap (λ b. if b then marked (41 ∷ []) p else dotted_atom g (Id (ids_before cells k)) p) no

-- ---- the rest of a list

-- what is printed last, and then what waits
pub done_means : (base : ℕ) (old new : World) (next : Option State) (c : WalkPlace) (style : atoms.Style) (show : Progress → Progress) (text : List ℕ)
    → new ≡ record old { levels = new.levels } → ((p : Progress) → continued style new base next p ≡ all_printed (setting_in_world style old) (waiting_places old base) (levels_left old + 1) p)
    → place_printed (setting_in_world style old) c (levels_left old) (progress_in_world old text) ≡ show (progress_in_world old text) → (show (progress_in_world old text)).ending ≡ Whole
    → all_printed (setting_in_world style old) (c ∷ waiting_places old base) (levels_left old) (progress_in_world old text) ≡ continued style new base next (show (progress_in_world new text))
done_means base old new next c style show text e means is whole_is =
    let g = setting_in_world style old in
    let more : suc (levels_left old) ≡ levels_left old + 1 = omega arith in
    let same : progress_in_world old text ≡ progress_in_world new text = ap (λ (w : World). progress_in_world w text) (sym e) in
    place_done g c (waiting_places old base) (levels_left old) (progress_in_world old text) (show (progress_in_world old text)) is whole_is
    ∙ (ap (λ n. all_printed g (waiting_places old base) n (show (progress_in_world old text))) more
    ∙ (sym (means (show (progress_in_world old text))) ∙ ap (λ p. continued style new base next (show p)) same))

pub nil_is_last : (style : atoms.Style) (w : World) (text : List ℕ) → place_printed (setting_in_world style w) (Rest (value_of w.cells.cells (IdAt 2))) (levels_left w) (progress_in_world w text) ≡ marked (41 ∷ []) (progress_in_world w text)
nil_is_last style w text = rest_nil (setting_in_world style w) (levels_left w) (progress_in_world w text)

pub atom_is_last : IdentifiersAreNumbered → (style : atoms.Style) (w : World) (v : Tagged) (text : List ℕ) → is_live w.cells.cells (IdAt 2) ≡ true → is_atom w.cells.cells v ≡ true → v ≢ IdAt 2 → place_printed (setting_in_world style w) (Rest (value_of w.cells.cells v)) (levels_left w) (progress_in_world w text) ≡ dotted_atom (setting_in_world style w) (value_of w.cells.cells v) (progress_in_world w text)
atom_is_last law style w v text nil atom other = rest_atom (setting_in_world style w) w.cells.cells v (levels_left w) (progress_in_world w text) law refl nil atom other

rest_of : (style : atoms.Style) (base : ℕ) (w : World) (d : Tagged) (r : ℕ) (text : List ℕ) → value_of w.cells.cells d ≡ Ref r
    → walk_meaning style w base (Some (state.Next (cursor.Rest d))) text ≡ all_printed (setting_in_world style w) (Rest (Ref r) ∷ waiting_places w base) (levels_left w) (progress_in_world w text)
rest_of style base w d r text value = ap (λ x. all_printed (setting_in_world style w) (Rest x ∷ waiting_places w base) (levels_left w) (progress_in_world w text)) value

pub rest_no_turn : IsRead → (base : ℕ) (w : World) (d : Tagged) → is_pair w.cells.cells d ≡ true → count_turns_left w.counts ≡ 0 → (style : atoms.Style) (text : List ℕ) → walk_meaning style w base (Some (state.Next (cursor.Rest d))) text ≡ stopped w NoTurn text
rest_no_turn law base w d pair none style text =
    let cells = w.cells.cells in
    let read = law.pair cells d pair in
    rest_of style base w d _ text read.value
    ∙ rest_wants_turn (setting_in_world style w) _ (value_of cells (car_of cells d)) (value_of cells (cdr_of cells d)) (waiting_places w base) (levels_left w) (progress_in_world w text) read.stands none

turned_moved : (base : ℕ) (old new : World) → Turned old new → Moved base old new (count_turns_left new.counts) (levels_left old) (waiting_places old base)
turned_moved base old new t = record {
  view = turned_view old new t;
  turns_are = refl;
  levels_are = ap (λ (w : World). levels_left w) t.world;
  places_are = ap (λ (w : World). waiting_places w base) t.world;
}

pub rest_pair_means : IsRead → (base : ℕ) (old new : World) (v a d : Tagged) → Turned old new → is_pair old.cells.cells v ≡ true → a ≡ car_of new.cells.cells v → d ≡ cdr_of new.cells.cells v → (style : atoms.Style) (text : List ℕ)
    → walk_meaning style old base (Some (state.Next (cursor.Rest v))) text ≡ element_printed (setting_in_world style new) (value_of new.cells.cells a) (Rest (value_of new.cells.cells d) ∷ waiting_places new base) (levels_left new) (marked (32 ∷ []) (progress_in_world new text))
rest_pair_means law base old new v a d t pair ea ed style text =
    let cells = old.cells.cells in
    let read = law.pair cells v pair in
    let m = turned_moved base old new t in
    let more : count_turns_left old.counts ≡ suc (count_turns_left new.counts) = omega (arith, t.turns) in
    let car : value_of new.cells.cells a ≡ value_of cells (car_of cells v) = ap (λ (s : CellStore). value_of s.cells a) m.view.cells ∙ ap (value_of cells) (ea ∙ ap (λ (s : CellStore). car_of s.cells v) m.view.cells) in
    let cdr : value_of new.cells.cells d ≡ value_of cells (cdr_of cells v) = ap (λ (s : CellStore). value_of s.cells d) m.view.cells ∙ ap (value_of cells) (ed ∙ ap (λ (s : CellStore). cdr_of s.cells v) m.view.cells) in
    rest_of style base old v _ text read.value
    ∙ (rest_pair (setting_in_world style old) _ (value_of cells (car_of cells v)) (value_of cells (cdr_of cells v)) (waiting_places old base) (levels_left old) (progress_in_world old text) (count_turns_left new.counts) read.stands more
    ∙ (sym (element_moved base old new (count_turns_left new.counts) (levels_left old) (waiting_places old base) style (value_of cells (car_of cells v)) (Rest (value_of cells (cdr_of cells v))) (marked (32 ∷ [])) text m)
    ∙ (ap (λ x. element_printed (setting_in_world style new) x (Rest (value_of cells (cdr_of cells v)) ∷ waiting_places new base) (levels_left new) (marked (32 ∷ []) (progress_in_world new text))) (sym car)
    ∙ ap (λ y. element_printed (setting_in_world style new) (value_of new.cells.cells a) (Rest y ∷ waiting_places new base) (levels_left new) (marked (32 ∷ []) (progress_in_world new text))) (sym cdr))))

pub rest_vector_means : IsRead → (base : ℕ) (w : World) (v : Tagged) → is_vector w.cells.cells v ≡ true → (style : atoms.Style) (text : List ℕ)
    → walk_meaning style w base (Some (state.Next (cursor.Rest v))) text ≡ all_printed (setting_in_world style w) (Places true (map (value_of w.cells.cells) (vector_of w.cells.cells v)) true ∷ waiting_places w base) (levels_left w) (marked (32 ∷ 46 ∷ 32 ∷ 91 ∷ []) (progress_in_world w text))
rest_vector_means law base w v vector style text =
    let cells = w.cells.cells in
    let read = law.vector cells v vector in
    let xs = map (value_of cells) (vector_of cells v) in
    rest_of style base w v _ text read.value
    ∙ (rest_vector (setting_in_world style w) _ xs (waiting_places w base) (levels_left w) (progress_in_world w text) read.stands
    ∙ ap (λ p. all_printed (setting_in_world style w) (Places true xs true ∷ waiting_places w base) (levels_left w) p) (marked_twice (32 ∷ 46 ∷ 32 ∷ []) (91 ∷ []) (progress_in_world w text)))

-- ---- the places of a vector

pub end_is_last : (style : atoms.Style) (w : World) (first dotted : Bool) (text : List ℕ) → place_printed (setting_in_world style w) (Places first [] dotted) (levels_left w) (progress_in_world w text) ≡ marked (if dotted then 93 ∷ 41 ∷ [] else 93 ∷ []) (progress_in_world w text)
end_is_last style w first true text = places_end (setting_in_world style w) first true (levels_left w) (progress_in_world w text) refl ∙ marked_twice (93 ∷ []) (41 ∷ []) (progress_in_world w text)
end_is_last style w first false text = places_end (setting_in_world style w) first false (levels_left w) (progress_in_world w text) refl

places_of : (style : atoms.Style) (base : ℕ) (w : World) (v : Tagged) (i : ℕ) (dotted : Bool) (xs : List Value) (text : List ℕ) → drop i (map (value_of w.cells.cells) (vector_of w.cells.cells v)) ≡ xs
    → walk_meaning style w base (Some (state.Next (cursor.Places v i dotted))) text ≡ all_printed (setting_in_world style w) (Places (i == 0) xs dotted ∷ waiting_places w base) (levels_left w) (progress_in_world w text)
places_of style base w v i dotted xs text e = ap (λ ys. all_printed (setting_in_world style w) (Places (i == 0) ys dotted ∷ waiting_places w base) (levels_left w) (progress_in_world w text)) e

pub places_no_turn : (base : ℕ) (w : World) (v : Tagged) (i : ℕ) (dotted : Bool) (x : Tagged) → slice_get (vector_of w.cells.cells v) i ≡ Some x → count_turns_left w.counts ≡ 0 → (style : atoms.Style) (text : List ℕ) → walk_meaning style w base (Some (state.Next (cursor.Places v i dotted))) text ≡ stopped w NoTurn text
places_no_turn base w v i dotted x at none style text =
    let cells = w.cells.cells in
    let e = drop_at (value_of cells) (vector_of cells v) i x at in
    places_of style base w v i dotted _ text e
    ∙ places_want_turn (setting_in_world style w) (i == 0) dotted (value_of cells x) (drop (i + 1) (map (value_of cells) (vector_of cells v))) (waiting_places w base) (levels_left w) (progress_in_world w text) none

pub places_mean : (base : ℕ) (old new : World) (v : Tagged) (i : ℕ) (dotted : Bool) (x : Tagged) (mark : List ℕ) → Turned old new → slice_get (vector_of old.cells.cells v) i ≡ Some x → mark ≡ (if i == 0 then [] else 32 ∷ []) → (style : atoms.Style) (text : List ℕ)
    → walk_meaning style old base (Some (state.Next (cursor.Places v i dotted))) text ≡ element_printed (setting_in_world style new) (value_of new.cells.cells x) (walk_place_in new.cells.cells (cursor.Places v (i + 1) dotted) ∷ waiting_places new base) (levels_left new) (marked mark (progress_in_world new text))
places_mean base old new v i dotted x mark t at em style text =
    let cells = old.cells.cells in
    let e = drop_at (value_of cells) (vector_of cells v) i x at in
    let rest = drop (i + 1) (map (value_of cells) (vector_of cells v)) in
    let m = turned_moved base old new t in
    let more : count_turns_left old.counts ≡ suc (count_turns_left new.counts) = omega (arith, t.turns) in
    let later : ((i + 1) == 0) ≡ false = grind (arith, nat_tests) in
    let place : Places false rest dotted ≡ walk_place_in new.cells.cells (cursor.Places v (i + 1) dotted) =
    ap (λ b. Places b rest dotted) (sym later) ∙ ap (λ (s : CellStore). Places ((i + 1) == 0) (drop (i + 1) (map (value_of s.cells) (vector_of s.cells v))) dotted) (sym m.view.cells) in
    let value : value_of cells x ≡ value_of new.cells.cells x = ap (λ (s : CellStore). value_of s.cells x) (sym m.view.cells) in
    places_of style base old v i dotted _ text e
    ∙ (places_go_on (setting_in_world style old) (i == 0) dotted (value_of cells x) rest (waiting_places old base) (levels_left old) (progress_in_world old text) (count_turns_left new.counts) more
    ∙ (ap (λ p. element_printed (setting_in_world style old) (value_of cells x) (Places false rest dotted ∷ waiting_places old base) (levels_left old) p) (blank_marked (i == 0) (record (progress_in_world old text) { turns = count_turns_left new.counts }) ∙ ap (λ bytes. marked bytes (record (progress_in_world old text) { turns = count_turns_left new.counts })) (sym em))
    ∙ (sym (element_moved base old new (count_turns_left new.counts) (levels_left old) (waiting_places old base) style (value_of cells x) (Places false rest dotted) (marked mark) text m)
    ∙ (ap (λ y. element_printed (setting_in_world style new) y (Places false rest dotted ∷ waiting_places new base) (levels_left new) (marked mark (progress_in_world new text))) value
    ∙ ap (λ q. element_printed (setting_in_world style new) (value_of new.cells.cells x) (q ∷ waiting_places new base) (levels_left new) (marked mark (progress_in_world new text))) place))))

-- ---- steps that a world stays through

pub long_pushed : (base : ℕ) (old mid new : World) (outer : Cursor) → Turned old mid → length new.levels.walk ≡ length mid.levels.walk + 1 → length new.levels.walk ≡ length old.levels.walk + 1
long_pushed base old mid new outer t l = l ∙ ap (λ (w : World). length w.levels.walk + 1) t.world

pub ready_turned : (base : ℕ) (old new : World) → Turned old new → IsReadyToPrint old base → IsReadyToPrint new base
ready_turned base old new t r = rw t.world (record { table = r.table; above = r.above; kept = r.kept })

-- a live value that is neither pair nor vector is an atom
pub live_atom : (cells : List Cell) (v : Tagged) → is_live cells v ≡ true → tag_of v ≢ Tag.Pair → tag_of v ≢ Tag.Vector → is_atom cells v ≡ true
live_atom cells (Number z) h p q = h
live_atom cells (IdAt k) h p q = h
live_atom cells (StrAt k) h p q = h
live_atom cells (BigAt k) h p q = h
live_atom cells (FunAt k) h p q = h
live_atom cells (PairAt k) h p q = absurd (p refl)
live_atom cells (VectorAt k) h p q = absurd (q refl)

pub live_pair : (cells : List Cell) (v : Tagged) → is_live cells v ≡ true → Tag.Pair ≡ tag_of v → is_pair cells v ≡ true
live_pair cells (PairAt k) h t = h
live_pair cells v h t = absurd (cc)

pub live_vector : (cells : List Cell) (v : Tagged) → is_live cells v ≡ true → Tag.Vector ≡ tag_of v → is_vector cells v ≡ true
live_vector cells (VectorAt k) h t = h
live_vector cells v h t = absurd (cc)

pub end_of : (style : atoms.Style) (w : World) (v : Tagged) (i : ℕ) (dotted : Bool) (mark : List ℕ) (text : List ℕ) → i ≡ length (vector_of w.cells.cells v) → mark ≡ (if dotted then 93 ∷ 41 ∷ [] else 93 ∷ [])
    → place_printed (setting_in_world style w) (walk_place_in w.cells.cells (cursor.Places v i dotted)) (levels_left w) (progress_in_world w text) ≡ marked mark (progress_in_world w text)
end_of style w v i dotted mark text e em =
    let none : drop i (map (value_of w.cells.cells) (vector_of w.cells.cells v)) ≡ [] = drop_all (value_of w.cells.cells) (vector_of w.cells.cells v) i e in
    ap (λ xs. place_printed (setting_in_world style w) (Places (i == 0) xs dotted) (levels_left w) (progress_in_world w text)) none
    ∙ (end_is_last style w (i == 0) dotted text ∙ ap (λ bytes. marked bytes (progress_in_world w text)) (sym em))
  where
    drop_all : (f : Tagged → Value) (xs : List Tagged) (n : ℕ) → n ≡ length xs → drop n (map f xs) ≡ []
    drop_all f [] zero e = refl
    drop_all f [] (suc n) e = refl
    drop_all f (x ∷ xs) zero e = absurd (omega arith)
    drop_all f (x ∷ xs) (suc n) e = drop_all f xs n (omega arith)

-- ---- fewer steps are left

pub pair_less : (base : ℕ) (old mid new : World) (v a d : Tagged) (outer : Cursor) → Turned old mid → Pushed base mid new outer → length new.levels.walk ≡ length mid.levels.walk + 1 → walk_weight new (Some (state.Element a (cursor.Rest d))) < walk_weight old (Some (state.Element v outer))
pair_less base old mid new v a d outer t p l =
    let turns : count_turns_left new.counts ≡ count_turns_left mid.counts = ap (λ (w : World). count_turns_left w.counts) p.world in
    let long : length mid.levels.walk ≡ length old.levels.walk = ap (λ (w : World). length w.levels.walk) t.world in
    omega (arith, turns, long, l, t.turns)

pub vector_less : (base : ℕ) (old new : World) (v : Tagged) (outer : Cursor) → Pushed base old new outer → length new.levels.walk ≡ length old.levels.walk + 1 → walk_weight new (Some (state.Next (cursor.Places v 0 false))) < walk_weight old (Some (state.Element v outer))
vector_less base old new v outer p l =
    let turns : count_turns_left new.counts ≡ count_turns_left old.counts = ap (λ (w : World). count_turns_left w.counts) p.world in
    omega (arith, turns, l)

pub turn_less : (old new : World) (at : State) (v : Tagged) (c : Cursor) → Turned old new → walk_weight new (Some (state.Element v c)) < walk_weight old (Some at)
turn_less old new at v c t =
    let long : length new.levels.walk ≡ length old.levels.walk = ap (λ (w : World). length w.levels.walk) t.world in
    omega (arith, long, t.turns)

pub pop_less : (old new : World) (at : State) (next : Option State) → new ≡ record old { levels = new.levels } → 4 * length new.levels.walk + state_weight next ≤ 4 * length old.levels.walk → 0 < state_weight (Some at) → walk_weight new next < walk_weight old (Some at)
pop_less old new at next e l some =
    let turns : count_turns_left new.counts ≡ count_turns_left old.counts = ap (λ (w : World). count_turns_left w.counts) e in
    omega (arith, turns, l, some)

pub cursor_less : (c : Cursor) → state_weight (Some (state.Next c)) < 6
cursor_less (cursor.Rest d) = omega arith
cursor_less (cursor.Places v i dotted) = omega arith

-- ---- nothing has changed

pub world_refl : (base : ℕ) (w : World) → IsWorldOf base w w
world_refl base w = record {
  world = refl;
  ticked = record { number = 0; counts = refl; left = omega arith; stop = refl };
  steady = record { below = refl; level = refl; bound = refl; aside = refl };
}

pub vector_cursor : (old new : World) (v : Tagged) → SameView old new → is_vector old.cells.cells v ≡ true → (dotted : Bool) → IsCursor new.cells.cells (cursor.Places v 0 dotted)
vector_cursor old new v view h dotted = (ap (λ (s : CellStore). is_vector s.cells v) view.cells ∙ h, omega arith)

-- ---- NIL, by its word

pub is_nil : (d : Tagged) → (word_of d == 33) ≡ true → d ≡ IdAt 2
is_nil d h = go d (eqb-true (word_of d) 33 h)
  where
    go : (v : Tagged) → word_of v ≡ 33 → v ≡ IdAt 2
    go (IdAt k) e = let k_is : k ≡ 2 = omega (arith, e) in ap IdAt k_is
    go (Number z) e = absurd (omega (arith, e))
    go (StrAt k) e = absurd (omega (arith, e))
    go (PairAt k) e = absurd (omega (arith, e))
    go (VectorAt k) e = absurd (omega (arith, e))
    go (BigAt k) e = absurd (omega (arith, e))
    go (FunAt k) e = absurd (omega (arith, e))

pub is_other : (d : Tagged) → (word_of d == 33) ≡ false → d ≢ IdAt 2
is_other d h e = let same : (word_of d == 33) ≡ true = ap (λ v. word_of v == 33) e in cc

pub nil_last : (style : atoms.Style) (w : World) (d : Tagged) (text : List ℕ) → d ≡ IdAt 2 → place_printed (setting_in_world style w) (walk_place_in w.cells.cells (cursor.Rest d)) (levels_left w) (progress_in_world w text) ≡ marked (41 ∷ []) (progress_in_world w text)
nil_last style w d text e = ap (λ v. place_printed (setting_in_world style w) (Rest (value_of w.cells.cells v)) (levels_left w) (progress_in_world w text)) e ∙ nil_is_last style w text

pub world_popped : (base : ℕ) (old new : World) → new ≡ record old { levels = new.levels } → IsSteady base old.levels new.levels → IsWorldOf base old new
world_popped base old new e steady =
    let counts : new.counts ≡ old.counts = ap (λ (w : World). w.counts) e in
    record {
      world = e ∙ ap (λ c. record old { counts = c; levels = new.levels }) (sym counts);
      ticked = record { number = 0; counts = counts; left = let l = ap count_turns_left counts in omega (arith, l); stop = ap last_count_stop counts };
      steady = steady;
    }

-- ---- the root

ready_at : (w : World) (base : ℕ) → IsTable w.cells.cells w.syms.head → base ≡ length w.levels.walk → IsReadyToPrint w base
ready_at w base table e =
    let none : length w.levels.walk - base ≡ 0 = omega (arith, e) in
    record { table = table; above = omega (arith, e); kept = rw none tt }

none_waits : (w : World) (base : ℕ) → base ≡ length w.levels.walk → waiting_places w base ≡ []
none_waits w base e = let none : length w.levels.walk - base ≡ 0 = omega (arith, e) in rw none refl

root_value : (style : atoms.Style) (w : World) (v : Tagged) (r : ℕ) (text : List ℕ) → value_of w.cells.cells v ≡ Ref r → whole_printed style w v text ≡ printed (setting_in_world style w) (Ref r) (levels_left w) (progress_in_world w text)
root_value style w v r text value = ap (λ x. printed (setting_in_world style w) x (levels_left w) (progress_in_world w text)) value

pub root_no_turn : IsRead → (w : World) (v : Tagged) → is_pair w.cells.cells v ≡ true → count_turns_left w.counts ≡ 0 → (style : atoms.Style) (text : List ℕ) → whole_printed style w v text ≡ stopped w NoTurn text
root_no_turn law w v pair none style text =
    let cells = w.cells.cells in
    let read = law.pair cells v pair in
    root_value style w v _ text read.value ∙ root_pair_wants_turn (setting_in_world style w) _ (value_of cells (car_of cells v)) (value_of cells (cdr_of cells v)) (levels_left w) (progress_in_world w text) read.stands none

pub root_pair_means : IsRead → (base : ℕ) (old new : World) (v a d : Tagged) → base ≡ length old.levels.walk → Turned old new → is_pair old.cells.cells v ≡ true → a ≡ car_of new.cells.cells v → d ≡ cdr_of new.cells.cells v → (style : atoms.Style) (text : List ℕ)
    → whole_printed style old v text ≡ element_printed (setting_in_world style new) (value_of new.cells.cells a) (Rest (value_of new.cells.cells d) ∷ waiting_places new base) (levels_left new) (marked (40 ∷ []) (progress_in_world new text))
root_pair_means law base old new v a d eb t pair ea ed style text =
    let cells = old.cells.cells in
    let read = law.pair cells v pair in
    let m = turned_moved base old new t in
    let more : count_turns_left old.counts ≡ suc (count_turns_left new.counts) = omega (arith, t.turns) in
    let car : value_of new.cells.cells a ≡ value_of cells (car_of cells v) = ap (λ (s : CellStore). value_of s.cells a) m.view.cells ∙ ap (value_of cells) (ea ∙ ap (λ (s : CellStore). car_of s.cells v) m.view.cells) in
    let cdr : value_of new.cells.cells d ≡ value_of cells (cdr_of cells v) = ap (λ (s : CellStore). value_of s.cells d) m.view.cells ∙ ap (value_of cells) (ed ∙ ap (λ (s : CellStore). cdr_of s.cells v) m.view.cells) in
    root_value style old v _ text read.value
    ∙ (root_pair (setting_in_world style old) _ (value_of cells (car_of cells v)) (value_of cells (cdr_of cells v)) (levels_left old) (progress_in_world old text) (count_turns_left new.counts) read.stands more
    ∙ (ap (λ ps. element_printed (setting_in_world style old) (value_of cells (car_of cells v)) (Rest (value_of cells (cdr_of cells v)) ∷ ps) (levels_left old) (marked (40 ∷ []) (record (progress_in_world old text) { turns = count_turns_left new.counts }))) (sym (none_waits old base eb))
    ∙ (sym (element_moved base old new (count_turns_left new.counts) (levels_left old) (waiting_places old base) style (value_of cells (car_of cells v)) (Rest (value_of cells (cdr_of cells v))) (marked (40 ∷ [])) text m)
    ∙ (ap (λ x. element_printed (setting_in_world style new) x (Rest (value_of cells (cdr_of cells v)) ∷ waiting_places new base) (levels_left new) (marked (40 ∷ []) (progress_in_world new text))) (sym car)
    ∙ ap (λ y. element_printed (setting_in_world style new) (value_of new.cells.cells a) (Rest y ∷ waiting_places new base) (levels_left new) (marked (40 ∷ []) (progress_in_world new text))) (sym cdr)))))

pub root_vector_means : IsRead → (base : ℕ) (w : World) (v : Tagged) → base ≡ length w.levels.walk → is_vector w.cells.cells v ≡ true → (style : atoms.Style) (text : List ℕ)
    → whole_printed style w v text ≡ all_printed (setting_in_world style w) (Places true (map (value_of w.cells.cells) (vector_of w.cells.cells v)) false ∷ waiting_places w base) (levels_left w) (marked (91 ∷ []) (progress_in_world w text))
root_vector_means law base w v eb vector style text =
    let cells = w.cells.cells in
    let read = law.vector cells v vector in
    let xs = map (value_of cells) (vector_of cells v) in
    root_value style w v _ text read.value
    ∙ (root_vector (setting_in_world style w) _ xs (levels_left w) (progress_in_world w text) read.stands
    ∙ ap (λ ps. all_printed (setting_in_world style w) (Places true xs false ∷ ps) (levels_left w) (marked (91 ∷ []) (progress_in_world w text))) (sym (none_waits w base eb)))

pub root_atom_means : (w : World) (v : Tagged) → is_atom w.cells.cells v ≡ true → (style : atoms.Style) (text : List ℕ) → whole_printed style w v text ≡ with_atom_of (setting_in_world style w) (value_of w.cells.cells v) (progress_in_world w text)
root_atom_means w v atom style text = root_atom (setting_in_world style w) (value_of w.cells.cells v) (levels_left w) (progress_in_world w text) (atom_value (setting_in_world style w) false w.cells.cells v (levels_left w) (progress_in_world w text) atom)

pub pair_begun : IsRead → (base : ℕ) (old new : World) (v a d : Tagged) (mark : Bor (List ℕ)) → mark.now ≡ 40 ∷ [] → IsTable old.cells.cells old.syms.head → base ≡ length old.levels.walk → Turned old new → is_pair old.cells.cells v ≡ true → a ≡ car_of new.cells.cells v → d ≡ cdr_of new.cells.cells v → is_live new.cells.cells a ≡ true → is_live new.cells.cells d ≡ true
    → BeginsPrinting base old new v (piece.Mark mark) (Some (state.Element a (cursor.Rest d)))
pair_begun law base old new v a d mark em table eb t pair ea ed la ld = record {
  means = λ style text. root_pair_means law base old new v a d eb t pair ea ed style text ∙ ap (λ b. element_printed (setting_in_world style new) (value_of new.cells.cells a) (Rest (value_of new.cells.cells d) ∷ waiting_places new base) (levels_left new) (marked b (progress_in_world new text))) (sym em);
  ready = ready_turned base old new t (ready_at old base table eb);
  next_is = (la, ld);
  piece_is = tt;
}

pub vector_begun : IsRead → (base : ℕ) (w : World) (v : Tagged) (mark : Bor (List ℕ)) → mark.now ≡ 91 ∷ [] → IsTable w.cells.cells w.syms.head → base ≡ length w.levels.walk → is_vector w.cells.cells v ≡ true → BeginsPrinting base w w v (piece.Mark mark) (Some (state.Next (cursor.Places v 0 false)))
vector_begun law base w v mark em table eb vector = record {
  means = λ style text. root_vector_means law base w v eb vector style text ∙ ap (λ b. all_printed (setting_in_world style w) (Places true (map (value_of w.cells.cells) (vector_of w.cells.cells v)) false ∷ waiting_places w base) (levels_left w) (marked b (progress_in_world w text))) (sym em);
  ready = ready_at w base table eb;
  next_is = (vector, omega arith);
  piece_is = tt;
}

pub atom_begun : (base : ℕ) (w : World) (v : Tagged) → IsTable w.cells.cells w.syms.head → base ≡ length w.levels.walk → is_atom w.cells.cells v ≡ true → BeginsPrinting base w w v (piece.Atom v) None
atom_begun base w v table eb atom = record {
  means = root_atom_means w v atom;
  ready = ready_at w base table eb;
  next_is = sym eb;
  piece_is = atom;
}
