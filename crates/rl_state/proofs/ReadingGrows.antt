-- What was live stays so, and means what it meant, where the cells that stood stand and of the counts turns and cells alone were taken.
use Rattle.std.proofs.Common.{◌≡◌, inl, inr, ℕ, zero, suc, ◌%◌, ◌^◌, ◌<◌, ◌≤◌, Bool, true, false, List, [], ◌∷◌, length, Option, Some, None, refl, sym, ap, ap₂, subst, ◌∙◌, arith}
use Rattle.std.specs.Prelude.{◌/◌, count_by, slice_index_or, take}
use Rattle.std.proofs.Math.ListN.{get_or-eq_default}
use Rattle.std.proofs.lemmas.Bool.{cases_lt}
use Rattle.rl_tags.specs.Tagged.{Tagged, Number, IdAt, StrAt, PairAt, VectorAt, BigAt, FunAt}
use Rattle.rl_tree.specs.Value.{Fun, Id, Int, Ref, Str}
use Rattle.rl_cells.specs.Cell as cell
use Rattle.rl_cells.specs.Cell.{Cell, More, big_in, bytes_in, bytes_of, cell_at, is_big_cell, is_fun_cell, is_id_cell, is_live, is_pair_cell, is_str, is_str_cell, is_vector_cell}
use Rattle.rl_syms.specs.Contents.{funs_before, ids_before, number_at, objects_among}
use Rattle.rl_syms.specs.Numbers.{IdentifiersAreNumbered}
use Rattle.rl_syms.specs.Table.{is_id}
use Rattle.rl_world.specs.Bounds.{BoundsAgree}
use Rattle.rl_world.specs.Counts.{TakesInExpansion, TakesTicks, TakesTurnsAndCells, WorldCounts}
use Rattle.rl_world.specs.Errors.{AreTexts}
use Rattle.rl_world.specs.declared.counts.Expansion.{Expansion}
use Rattle.rl_world.specs.declared.world.World.{World}
use Rattle.rl_read.specs.Frames.{CanMake}
use Rattle.rl_read.specs.Reads.{KeepsByReading}
use Rattle.rl_read.specs.ReadingKeepsCells.{CellsStay, LeavesWhatStood}
use Rattle.rl_read.specs.Stock.{stock_of}
use Rattle.rl_state.specs.CellLaws.{AreCellLaws}
use Rattle.rl_state.specs.Worlds.{AreWorldCounts, HasNumber, IsWorld, WorldGrows}
use Rattle.rl_state.proofs.Kept.{SameValues, named_same}
use Rattle.rl_state.proofs.Made.{IsExpanding}

-- ---- cells

inside_by : (cells : List Cell) (k : ℕ) (p : Cell → Bool) → p More ≡ false → p (cell_at cells k) ≡ true → k < length cells
inside_by cells k p none h = elim (cases_lt k (length cells)) [
  | inl l ↦ l
  | inr l ↦ let clash : false ≡ true = sym none ∙ ap p (sym (get_or-eq_default cells More l)) ∙ h in absurd (cc)
]

-- the cells before a place that stood are the same
take_same : (old new : List Cell) (k : ℕ) → k ≤ length old → length old ≤ length new → ((j : ℕ) → j < k → cell_at new j ≡ cell_at old j) → take k new ≡ take k old
take_same old new zero within longer same = refl
take_same [] new (suc k) within longer same = absurd (omega (arith, within))
take_same (c ∷ cs) [] (suc k) within longer same = absurd (omega (arith, longer))
take_same (c ∷ cs) (d ∷ ds) (suc k) within longer same =
    ap₂ (λ (x : Cell) (xs : List Cell). x ∷ xs) (same 0 (omega arith)) (take_same cs ds k (omega (arith, within)) (omega (arith, longer)) (λ j l. same (suc j) (omega (arith, l))))

module _ (old new : List Cell) (stay : CellsStay old new) where
  front_same : (k : ℕ) → k < length old → take k new ≡ take k old
  front_same k l = take_same old new k (omega (arith, l)) stay.longer (λ j m. stay.stands j (omega (arith, m, l)))

  ids_same : (k : ℕ) → k < length old → ids_before new k ≡ ids_before old k
  unfolding ids_before
  ids_same k l = ap (λ cells. count_by is_id_cell cells) (front_same k l)

  funs_same : (k : ℕ) → k < length old → funs_before new k ≡ funs_before old k
  unfolding funs_before
  funs_same k l = ap (λ cells. count_by is_fun_cell cells) (front_same k l)

  objects_same : (k : ℕ) → k < length old → number_at new k ≡ number_at old k
  objects_same k l = ap objects_among (front_same k l)

  values_same : SameValues old new
  values_same (Number n) h = refl
  values_same (IdAt k) h = ap Id (ids_same k (inside_by old k is_id_cell refl h))
  values_same (StrAt k) h = ap (λ c. Str (bytes_in c)) (stay.stands k (inside_by old k is_str_cell refl h))
  values_same (PairAt k) h = ap Ref (objects_same k (inside_by old k is_pair_cell refl h))
  values_same (VectorAt k) h = ap Ref (objects_same k (inside_by old k is_vector_cell refl h))
  values_same (BigAt k) h = ap (λ c. Int (big_in c)) (stay.stands k (inside_by old k is_big_cell refl h))
  values_same (FunAt k) h = ap (λ n. Fun n (k / 2 ^ 32)) (funs_same (k % 2 ^ 32) (inside_by old (k % 2 ^ 32) is_fun_cell refl h))

  id_stands : (id : Tagged) → is_id old id ≡ true → is_id new id ≡ true
  id_stands (IdAt k) h = ap is_id_cell (stay.stands k (inside_by old k is_id_cell refl h)) ∙ h
  id_stands (Number k) h = absurd (cc)
  id_stands (StrAt k) h = absurd (cc)
  id_stands (PairAt k) h = absurd (cc)
  id_stands (VectorAt k) h = absurd (cc)
  id_stands (BigAt k) h = absurd (cc)
  id_stands (FunAt k) h = absurd (cc)

  string_stands : (v : Tagged) → is_str old v ≡ true → (is_str new v ≡ true) × (bytes_of new v ≡ bytes_of old v)
  string_stands (StrAt k) h = let same = stay.stands k (inside_by old k is_str_cell refl h) in (ap is_str_cell same ∙ h, ap bytes_in same)
  string_stands (Number k) h = absurd (cc)
  string_stands (IdAt k) h = absurd (cc)
  string_stands (PairAt k) h = absurd (cc)
  string_stands (VectorAt k) h = absurd (cc)
  string_stands (BigAt k) h = absurd (cc)
  string_stands (FunAt k) h = absurd (cc)

  number_stands : (id : Tagged) (n : ℕ) → HasNumber old id n → HasNumber new id n
  number_stands id n h = record { is_id = id_stands id h.is_id; number = named_same old new id values_same h.is_id ∙ h.number }

  -- no fewer identifiers
  more_ids : IdentifiersAreNumbered → ids_before old (length old) ≤ ids_before new (length new)
  more_ids law =
      let front = law.same old new (length old) (λ j l. ap is_id_cell (stay.stands j l)) in
      let all = law.ordered new (length old) (length new) stay.longer in
      omega (arith, front, all)

-- ---- counts

unexpanded_on : (a b : Option ℕ) (e f : Option Expansion) → TakesTicks a b → TakesInExpansion e f → ((n : ℕ) → a ≡ Some n → e ≡ None) → (n : ℕ) → b ≡ Some n → f ≡ None
unexpanded_on None None e f t x none n is = absurd (cc)
unexpanded_on None (Some m) e f t x none n is = absurd t
unexpanded_on (Some k) None e f t x none n is = absurd t
unexpanded_on (Some k) (Some m) None None t x none n is = refl
unexpanded_on (Some k) (Some m) None (Some f) t x none n is = absurd x
unexpanded_on (Some k) (Some m) (Some e) f t x none n is = absurd (let clash : Some e ≡ None = none k refl in cc)

untaken_on : (a b : Option ℕ) (i j : ℕ) → TakesTicks a b → ((n : ℕ) → a ≡ Some n → j ≡ i) → ((n : ℕ) → a ≡ Some n → i ≡ 0) → (n : ℕ) → b ≡ Some n → j ≡ 0
untaken_on None None i j t same none n is = absurd (cc)
untaken_on None (Some m) i j t same none n is = absurd t
untaken_on (Some k) None i j t same none n is = absurd t
untaken_on (Some k) (Some m) i j t same none n is = same k refl ∙ none k refl

counts_on : (s c : cell.CellStore) (old new : WorldCounts) → TakesTurnsAndCells old new → BoundsAgree new c → AreWorldCounts s old → AreWorldCounts c new
counts_on s c old new t agree r = record {
  bounds = agree;
  together = ap (λ (k : WorldCounts). k.aside) t.same ∙ r.together;
  unexpanded = unexpanded_on old.opening new.opening old.outermost new.outermost t.opening t.expansion r.unexpanded;
  untaken = untaken_on old.opening new.opening old.turns new.turns t.opening t.untaken r.untaken;
  few = (let same = ap (λ (k : WorldCounts). k.bound) t.same in let l = r.few in omega (arith, same, l));
}

expanding_on : (cells : List Cell) (a b : Option Expansion) → TakesInExpansion a b → IsExpanding cells a → IsExpanding cells b
expanding_on cells a None t h = λ e is. absurd (cc)
expanding_on cells None (Some f) t h = absurd t
expanding_on cells (Some e) (Some f) t h = λ x is.
    let same : f ≡ x = cc in
    let name : x.name ≡ e.name = ap (λ (y : Expansion). y.name) (sym same) ∙ t.0 in
    subst (λ (v : Tagged). is_id cells v ≡ true) (sym name) (h e refl)

-- ---- a world

pub reading_grows : AreCellLaws → (w x : World) → IsWorld w → KeepsByReading w x → CanMake x → LeavesWhatStood (stock_of w) (stock_of x) → x.levels.level ≤ x.levels.bound → WorldGrows w x
reading_grows laws w x i keeps able stood levels =
    let old = w.cells.cells in
    let new = x.cells.cells in
    let stay = stood.cells in
    let texts : x.texts ≡ w.texts = ap (λ (y : World). y.texts) keeps.world in
    let made : x.syms.made ≡ w.syms.made = ap (λ (y : World). y.syms.made) keeps.world in
    let more = more_ids old new stay laws.numbered in
    let many = i.made in
    record {
      world = record {
        table = able.table;
        t = number_stands old new stay _ 1 i.t;
        message = number_stands old new stay _ 3 i.message;
        texts = subst (λ texts. AreTexts new texts 14) (sym texts) (record {
          string = λ n d l. (string_stands old new stay (slice_index_or w.texts n d) (i.texts.string n d l)).0;
          text = λ n d l. (string_stands old new stay (slice_index_or w.texts n d) (i.texts.string n d l)).1 ∙ i.texts.text n d l;
        });
        running = counts_on w.cells x.cells w.counts x.counts stood.counts able.bounds i.running;
        levels = levels;
        made = omega (arith, made, more, many);
        expanding = expanding_on new w.counts.outermost x.counts.outermost stood.counts.expansion (λ e is. id_stands old new stay e.name (i.expanding e is));
      };
      live = keeps.live;
      values = values_same old new stay;
    }
