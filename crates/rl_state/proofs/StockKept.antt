-- Reading changes of the cells that stood only the last pair of a list that is not whole yet.
use Rattle.std.proofs.Common.{◌≡◌, ℕ, suc, ◌+◌, ◌<◌, ◌≤◌, ◌^◌, Bool, true, false, nat_le, if◌then◌else◌, List, ◌++◌, length, Option, None, Some, refl, sym, ap, subst, ◌∙◌, arith}
use Rattle.std.proofs.lemmas.List.{get_or_append_left, get_or-set_other, get_or-set_same, length-append, length-set}
use Rattle.rl_tags.specs.Tagged.{Tagged, StrAt, PairAt, VectorAt}
use Rattle.rl_cells.specs.Cell.{Cell, PairCell, StrCell, VectorCell, More, car_in, car_of, cdr_in, cell_at, changed_at, cost_of, grown, placed}
use Rattle.rl_cells.specs.Laws.{IsAdded}
use Rattle.rl_syms.specs.Made.{id_cost}
use Rattle.rl_syms.specs.Table.{ids_from, nil_value}
use Rattle.rl_tree.specs.Name.{Name, quote_name}
use Rattle.rl_text.specs.Maker.{Made, Has, Wants}
use Rattle.rl_text.specs.Word.{Atom, Integer, Identifier, String}
use Rattle.rl_world.specs.Counts.{room_stop, roomed, tick_stop}
use Rattle.rl_world.specs.declared.stop.Stop.{Stop}
use Rattle.rl_world.specs.declared.stop.Stop.TheVariants as stop
use Rattle.rl_read.specs.Stock.{Stock, PairChain, and_then_made, atom_made, chain_ended, chain_extended, chain_hung, elements_of, identifier_at, identifier_made, named_among, object_made, pair_made, quote_made, turned, turned_at, vector_made, with_room_at}
use Rattle.rl_state.proofs.ChainsRise.{IsOpenIn, Rises, rises_kept, rises_on}

-- cells may have been added, and those before a place stay
pub record KeepsTo (lo : ℕ) (old new : List Cell) : Type 0 where
  pub longer : length old ≤ length new
  pub stands : (j : ℕ) → j < lo → cell_at new j ≡ cell_at old j

pub keeps_same : (lo : ℕ) (cells : List Cell) → KeepsTo lo cells cells
keeps_same lo cells = record { longer = omega arith; stands = λ j l. refl }

pub keeps_on : (lo : ℕ) (a b c : List Cell) → KeepsTo lo a b → KeepsTo lo b c → KeepsTo lo a c
keeps_on lo a b c h k = record { longer = (let x = h.longer in let y = k.longer in omega (arith, x, y)); stands = λ j l. k.stands j l ∙ h.stands j l }

pub keeps_less : (lo hi : ℕ) (a b : List Cell) → lo ≤ hi → KeepsTo hi a b → KeepsTo lo a b
keeps_less lo hi a b le h = record { longer = h.longer; stands = λ j l. h.stands j (omega (arith, l, le)) }

keeps_added : (lo : ℕ) (old cells more : List Cell) → lo ≤ length old → KeepsTo lo old cells → KeepsTo lo old (cells ++ more)
keeps_added lo old cells more le h = record {
  longer = (let x = h.longer in let y = length-append cells more in omega (arith, x, y));
  stands = λ j l. get_or_append_left cells more More j (let x = h.longer in omega (arith, x, l, le)) ∙ h.stands j l;
}

keeps_changed : (lo : ℕ) (old cells : List Cell) (i : ℕ) (c : Cell) → lo ≤ i → KeepsTo lo old cells → KeepsTo lo old (changed_at cells (PairAt i) c)
keeps_changed lo old cells i c le h = record {
  longer = (let x = h.longer in let y = length-set cells i c in omega (arith, x, y));
  stands = λ j l. get_or-set_other cells i j c More (λ same. absurd (omega (arith, same, l, le))) ∙ h.stands j l;
}

-- ---- what is made

abbrev pub Stays : {A : Type 0} → ℕ → List Cell → Made Stock A Stop → Type 0
Stays lo old (Has a k) = KeepsTo lo old k.cells.cells
Stays lo old (Wants s k) = Unit {0}

module _ (lo : ℕ) (old : List Cell) (within : lo ≤ length old) where
  then_stays : {A B : Type 0} (x : Made Stock A Stop) (f : A → Stock → Made Stock B Stop) → Stays lo old x → ((a : A) (k : Stock) → KeepsTo lo old k.cells.cells → Stays lo old (f a k)) → Stays lo old (and_then_made x f)
  then_stays (Has a k) f h g = g a k h
  then_stays (Wants s k) f h g = tt

  pub turn_stays : (turns : Bool) (k : Stock) → KeepsTo lo old k.cells.cells → Stays lo old (turned turns k)
  turn_stays false k h = h
  turn_stays true k h = at (tick_stop k.counts)
    where
      at : (o : Option Stop) → Stays lo old (turned_at o k)
      at None = h
      at (Some s) = tt

  room_stays : (o : Option Stop) (cost : ℕ) (k : Stock) → KeepsTo lo old k.cells.cells → Stays lo old (with_room_at o cost k)
  room_stays (Some s) cost k h = tt
  room_stays None cost k h = h

  object_stays : (at : ℕ → Tagged) (c : Cell) (k : Stock) → KeepsTo lo old k.cells.cells → Stays lo old (object_made at c k)
  object_stays at c k h = then_stays (with_room_at (room_stop k.counts k.cells (cost_of c)) (cost_of c) k) _ (room_stays _ (cost_of c) k h) (λ u k h. keeps_added lo old k.cells.cells (placed c) within h)

  identifier_stays : (name : Name) (k : Stock) → KeepsTo lo old k.cells.cells → Stays lo old (identifier_made name k)
  identifier_stays name k h = at (named_among k.cells.cells name (ids_from k.cells.cells k.head))
    where
      at : (o : Option ℕ) → Stays lo old (identifier_at o name k)
      at (Some i) = h
      at None = then_stays (with_room_at (room_stop k.counts k.cells (id_cost name)) (id_cost name) k) _ (room_stays _ (id_cost name) k h) (λ u k h. keeps_added lo old _ _ within (keeps_added lo old k.cells.cells (placed (StrCell name)) within h))

  pub atom_stays : (a : Atom) (k : Stock) → KeepsTo lo old k.cells.cells → Stays lo old (atom_made a k)
  atom_stays (Integer z) k h = h
  atom_stays (Identifier name) k h = identifier_stays name k h
  atom_stays (String bytes) k h = object_stays (λ n. StrAt n) (StrCell bytes) k h

  pub vector_stays : (c : PairChain) (k : Stock) → KeepsTo lo old k.cells.cells → Stays lo old (vector_made c k)
  vector_stays c k h = let xs = elements_of k.cells.cells c in at xs (nat_le (length xs) (2 ^ 31))
    where
      at : (xs : List Tagged) (b : Bool) → Stays lo old (if b then object_made (λ n. VectorAt n) (VectorCell xs) k else Wants stop.Cells k)
      at xs true = object_stays (λ n. VectorAt n) (VectorCell xs) k h
      at xs false = tt

  pub quote_stays : (v : Tagged) (k : Stock) → KeepsTo lo old k.cells.cells → Stays lo old (quote_made v k)
  quote_stays v k h = then_stays (identifier_made quote_name k) _ (identifier_stays quote_name k h) (λ q k h.
      then_stays (pair_made v nil_value k) _ (object_stays (λ n. PairAt n) (PairCell v nil_value) k h) (λ p k h. object_stays (λ n. PairAt n) (PairCell q p) k h))

-- ---- lists

-- the last pair stands in these places
abbrev pub IsLastIn : ℕ → ℕ → PairChain → Type 0
IsLastIn lo hi None = Unit {0}
IsLastIn lo hi (Some c) = (q : ℕ) × (c.1 ≡ PairAt q) × (lo ≤ q) × (q < hi)

-- the list has one more pair, which is the last one now
pub record IsHung (lo : ℕ) (from : List Cell) (c : PairChain) (new : List Cell) (d : PairChain) : Type 0 where
  pub keeps : KeepsTo lo from new
  pub last : IsLastIn lo (length new) d
  pub opens : (hi : ℕ) → hi ≤ length from → IsOpenIn from lo hi c → IsOpenIn new lo (length new) d

abbrev pub HangsWell : ℕ → List Cell → PairChain → Made Stock PairChain Stop → Type 0
HangsWell lo from c (Has d k) = IsHung lo from c k.cells.cells d
HangsWell lo from c (Wants s k) = Unit {0}

place_in : Tagged → ℕ
place_in (PairAt k) = k
place_in v = 0

pair_place : (i j : ℕ) → PairAt i ≡ PairAt j → i ≡ j
unfolding place_in
pair_place i j e = ap place_in e

module _ (added : IsAdded) (lo : ℕ) (from : Stock) (within : lo ≤ length from.cells.cells) (v : Tagged) where
  abbrev longer_cells : List Cell
  longer_cells = from.cells.cells ++ placed (PairCell v nil_value)

  abbrev new_place : ℕ
  new_place = length from.cells.cells

  new_longer : length longer_cells ≡ new_place + 1
  new_longer = added.long from.cells.cells (PairCell v nil_value) (omega arith)

  hung_first : IsHung lo from.cells.cells None longer_cells (Some (PairAt new_place, PairAt new_place))
  hung_first = record {
    keeps = keeps_added lo from.cells.cells from.cells.cells _ within (keeps_same lo from.cells.cells);
    last = (new_place, refl, within, (let l = new_longer in omega (arith, l)));
    opens = λ hi le u. record { begin = new_place; end = new_place; steps = 0; first = refl; last = refl; above = within; below = (let l = new_longer in omega (arith, l)); rises = refl; nil = ap cdr_in (added.here from.cells.cells (PairCell v nil_value)) };
  }

  abbrev hung_cells : ℕ → List Cell
  hung_cells q = changed_at longer_cells (PairAt q) (PairCell (car_in (cell_at longer_cells q)) (PairAt new_place))

  hung_next : (a : Tagged) (q : ℕ) → lo ≤ q → q < new_place → IsHung lo from.cells.cells (Some (a, PairAt q)) (hung_cells q) (Some (a, PairAt new_place))
  hung_next a q above below =
      let long = new_longer in
      let set = length-set longer_cells q (PairCell (car_in (cell_at longer_cells q)) (PairAt new_place)) in
      record {
        keeps = keeps_changed lo from.cells.cells longer_cells q _ above (keeps_added lo from.cells.cells from.cells.cells _ within (keeps_same lo from.cells.cells));
        last = (new_place, refl, within, omega (arith, long, set));
        opens = λ hi le h.
            let end_is : h.end ≡ q = pair_place h.end q (sym h.last) in
            let rising : Rises from.cells.cells h.steps h.begin q = subst (λ n. Rises from.cells.cells h.steps h.begin n) end_is h.rises in
            let same : (j : ℕ) → j < q → cell_at (hung_cells q) j ≡ cell_at from.cells.cells j = λ j l. get_or-set_other longer_cells q j _ More (λ e. absurd (omega (arith, e, l))) ∙ get_or_append_left from.cells.cells (placed (PairCell v nil_value)) More j (omega (arith, l, below)) in
            record {
              begin = h.begin;
              end = new_place;
              steps = suc h.steps;
              first = h.first;
              last = refl;
              above = within;
              below = omega (arith, long, set);
              rises = rises_on (hung_cells q) h.steps h.begin q new_place below (ap cdr_in (get_or-set_same longer_cells q _ More (omega (arith, long, below)))) (rises_kept from.cells.cells (hung_cells q) h.steps h.begin q same rising);
              nil = ap cdr_in (get_or-set_other longer_cells q new_place _ More (λ e. absurd (omega (arith, e, below))) ∙ added.here from.cells.cells (PairCell v nil_value));
            };
      }

  hung_at : (c : PairChain) (hi : ℕ) → hi ≤ new_place → IsLastIn lo hi c → (k : Stock) → k.cells.cells ≡ longer_cells → HangsWell lo from.cells.cells c (chain_hung c (PairAt new_place) k)
  hung_at None hi le last k e = subst (λ cells. IsHung lo from.cells.cells None cells (Some (PairAt new_place, PairAt new_place))) (sym e) hung_first
  hung_at (Some c) hi le last k e =
      subst (λ t. IsHung lo from.cells.cells (Some (c.0, t)) (changed_at k.cells.cells t (PairCell (car_of k.cells.cells t) (PairAt new_place))) (Some (c.0, PairAt new_place))) (sym last.1)
      (subst (λ cells. IsHung lo from.cells.cells (Some (c.0, PairAt last.0)) (changed_at cells (PairAt last.0) (PairCell (car_of cells (PairAt last.0)) (PairAt new_place))) (Some (c.0, PairAt new_place))) (sym e)
      (hung_next c.0 last.0 last.2 (let l = last.3 in omega (arith, l, le))))

  extended_at : (c : PairChain) (hi : ℕ) → hi ≤ new_place → IsLastIn lo hi c → (o : Option Stop)
      → HangsWell lo from.cells.cells c (and_then_made (and_then_made (with_room_at o 1 from) (λ _ k. Has (PairAt (length k.cells.cells)) (record k { cells = grown k.cells (PairCell v nil_value) }))) (λ p k. chain_hung c p k))
  extended_at c hi le last (Some s) = tt
  extended_at c hi le last None = hung_at c hi le last (record from { cells = grown from.cells (PairCell v nil_value); counts = roomed from.counts 1 }) refl

  pub extended_hangs : (c : PairChain) (hi : ℕ) → hi ≤ new_place → IsLastIn lo hi c → HangsWell lo from.cells.cells c (chain_extended c v from)
  extended_hangs c hi le last = extended_at c hi le last (room_stop from.counts from.cells 1)

  -- with what stands behind its dot
  abbrev pub ShutWell : Made Stock PairChain Stop → Type 0
  ShutWell (Has d k) = KeepsTo lo from.cells.cells k.cells.cells × IsLastIn lo (length k.cells.cells) d
  ShutWell (Wants s k) = Unit {0}

  pub ended_stays : (c : PairChain) (hi : ℕ) → hi ≤ new_place → IsLastIn lo hi c → ShutWell (chain_ended c v from)
  ended_stays None hi le last = (keeps_same lo from.cells.cells, tt)
  ended_stays (Some c) hi le last =
      let keeps = subst (λ t. KeepsTo lo from.cells.cells (changed_at from.cells.cells t (PairCell (car_of from.cells.cells t) v))) (sym last.1) (keeps_changed lo from.cells.cells from.cells.cells last.0 (PairCell (car_of from.cells.cells (PairAt last.0)) v) last.2 (keeps_same lo from.cells.cells)) in
      let longer = keeps.longer in
      let below = last.3 in
      (keeps, (last.0, last.1, last.2, omega (arith, longer, below, le)))
