-- Expansions are begun and ended in the counts of a world as in those of the definition.
use Rattle.std.proofs.Common.{◌≡◌, ◌↔◌, ℕ, zero, suc, ◌+◌, ◌-◌, ◌==◌, ◌<◌, Bool, true, false, cond, List, length, Option, Some, None, refl, sym, ap, subst, ◌∙◌, arith}
use Rattle.std.specs.Prelude.{IsTrue, is_some}
use Rattle.std.proofs.lemmas.Bool.{eqb-true}
use Rattle.rl_tags.specs.Tagged.{Tagged}
use Rattle.rl_syms.specs.Table.{is_id}
use Rattle.rl_cells.specs.Cell.{Cell}
use Rattle.rl_cells.specs.Cell as cell
use Rattle.rl_world.specs.Bounds.{AreBoundsKept, IsSpareFree}
use Rattle.rl_world.specs.Counts as counted
use Rattle.rl_world.specs.Counts.{IsOpen, begun, expansion_ended, outermost_with}
use Rattle.rl_world.specs.declared.counts.Expansion as expansion
use Rattle.rl_world.specs.declared.world.World.{World}
use Rattle.rl_meaning.specs.State.{State, Counts, Expansion}
use Rattle.rl_meaning.specs.Evaluation.{closed_expansion, opened_expansion, with_expansion, without_expansion}
use Rattle.rl_state.specs.ShownState.{ShowsState, counts_in, expansion_in, number_in}
use Rattle.rl_state.specs.Worlds.{AreWorldCounts, IsWorld, WorldGrows}
use Rattle.rl_state.proofs.Made.{IsExpanding, unmarked}
use Rattle.rl_state.proofs.Outer.{grows_counted, shows_counted}

-- ---- one is begun

opened_in : (cells : List Cell) (n : ℕ) (outer : Option expansion.Expansion) (name : Tagged) → IsOpen outer n
    → Some (opened_expansion (number_in cells name) (expansion_in cells n outer)) ≡ expansion_in cells (n + 1) (outermost_with name outer)
opened_in cells n None name h = ap (λ (k : ℕ). Some (record { macro = number_in cells name; inner_count = k; turns = 100000; cells = 1000000 })) (let l : 0 ≡ n + 1 - 1 = omega (arith, h) in l)
opened_in cells n (Some e) name h =
    ap (λ (k : ℕ). Some (record { macro = number_in cells e.name; inner_count = k; turns = 100000 - e.turns; cells = 1000000 - e.cells })) (let l : suc (n - 1) ≡ n + 1 - 1 = omega (arith, h) in l)

pub begun_shows : (w x : World) (name : Tagged) → x ≡ record w { counts = begun w.counts name } → IsOpen w.counts.outermost w.counts.open_count
    → (s : State) → ShowsState w s → ShowsState x (with_expansion (number_in w.cells.cells name) s)
begun_shows w x name is outer s h =
    let e = Some (opened_expansion (number_in w.cells.cells name) s.counts.expansion) in
    let q : Counts = record s.counts { expansion = e } in
    subst (λ (y : World). ShowsState y (record s { counts = q })) (sym is) (shows_counted w w.cells.count (begun w.counts name) s q s.compilation
    (ap (λ (k : Counts). record k { expansion = Some (opened_expansion (number_in w.cells.cells name) k.expansion) }) h.counts
    ∙ ap (λ (o : Option Expansion). record (counts_in w.cells w.counts) { expansion = o }) (opened_in w.cells.cells w.counts.open_count w.counts.outermost name outer)) h)

expanding_begun : (cells : List Cell) (name : Tagged) (outer : Option expansion.Expansion) → is_id cells name ≡ true → IsExpanding cells outer → IsExpanding cells (outermost_with name outer)
expanding_begun cells name None id h = λ x is. let q : record { name = name; turns = 0; cells = 0 } ≡ x = cc in subst (λ (y : expansion.Expansion). is_id cells y.name ≡ true) q id
expanding_begun cells name (Some e) id h = h

not_opening : (o : Option ℕ) (n : ℕ) → o ≡ None → o ≡ Some n → ⊥
not_opening o n e f = absurd (let q = sym e ∙ f in cc)

running_begun : AreBoundsKept → (s : cell.CellStore) (k : counted.WorldCounts) (name : Tagged) → k.opening ≡ None → AreWorldCounts s k → AreWorldCounts s (begun k name)
running_begun law s k name run r = record {
  bounds = law.begun k s name (subst (λ (m : Option ℕ). IsSpareFree m (length s.cells)) (sym (unmarked s k r)) tt) r.bounds;
  together = r.together;
  unexpanded = λ n o. absurd (not_opening k.opening n run o);
  untaken = r.untaken;
  few = r.few;
}

pub begun_grows : AreBoundsKept → (w x : World) (name : Tagged) → x ≡ record w { counts = begun w.counts name } → IsWorld w → w.counts.opening ≡ None → is_id w.cells.cells name ≡ true → WorldGrows w x
begun_grows law w x name is i run id =
    subst (λ (y : World). WorldGrows w y) (sym is) (grows_counted w w.cells.count (begun w.counts name) (running_begun law w.cells w.counts name run i.running) (expanding_begun w.cells.cells name w.counts.outermost id i.expanding) i)

-- ---- the newest one ends

closed_at : (cells : List Cell) (e : expansion.Expansion) (n m : ℕ) (b : Bool) → n ≡ suc m → (n == 1) ≡ b → closed_expansion (expansion_in cells n (Some e)) ≡ expansion_in cells (n - 1) (cond b None (Some e))
closed_at cells e n m true is last =
    let l : n - 1 ≡ 0 = let q = eqb-true n 1 last in omega (arith, q) in
    ap (λ (k : ℕ). closed_expansion (Some (record { macro = number_in cells e.name; inner_count = k; turns = 100000 - e.turns; cells = 1000000 - e.cells }))) l
closed_at cells e n zero false is last = absurd (let q : (1 == 1) ≡ false = ap (λ (k : ℕ). k == 1) (sym is) ∙ last in cc)
closed_at cells e n (suc m) false is last =
    let l : n - 1 ≡ suc m = omega (arith, is) in
    let r : m ≡ n - 1 - 1 = omega (arith, is) in
    ap (λ (k : ℕ). closed_expansion (Some (record { macro = number_in cells e.name; inner_count = k; turns = 100000 - e.turns; cells = 1000000 - e.cells }))) l
    ∙ ap (λ (k : ℕ). Some (record { macro = number_in cells e.name; inner_count = k; turns = 100000 - e.turns; cells = 1000000 - e.cells })) r

closed_in : (cells : List Cell) (n : ℕ) (outer : Option expansion.Expansion) → 0 < n → IsOpen outer n → closed_expansion (expansion_in cells n outer) ≡ expansion_in cells (n - 1) (cond (n == 1) None outer)
closed_in cells n None some h = absurd (let l : 0 < 0 = subst (λ (k : ℕ). 0 < k) h some in omega (arith, l))
closed_in cells n (Some e) some h = closed_at cells e n (n - 1) (n == 1) (omega (arith, some)) refl

pub ended_shows : (w x : World) → x ≡ record w { counts = expansion_ended w.counts } → IsOpen w.counts.outermost w.counts.open_count → 0 < w.counts.open_count
    → (s : State) → ShowsState w s → ShowsState x (without_expansion s)
ended_shows w x is outer some s h =
    let q : Counts = record s.counts { expansion = closed_expansion s.counts.expansion } in
    subst (λ (y : World). ShowsState y (record s { counts = q })) (sym is) (shows_counted w w.cells.count (expansion_ended w.counts) s q s.compilation
    (ap (λ (k : Counts). record k { expansion = closed_expansion k.expansion }) h.counts
    ∙ ap (λ (o : Option Expansion). record (counts_in w.cells w.counts) { expansion = o }) (closed_in w.cells.cells w.counts.open_count w.counts.outermost some outer)) h)

expanding_ended : (cells : List Cell) (outer : Option expansion.Expansion) (b : Bool) → IsExpanding cells outer → IsExpanding cells (cond b None outer)
expanding_ended cells outer true h = λ x is. absurd (cc)
expanding_ended cells outer false h = h

none_ended : (outer : Option expansion.Expansion) (b : Bool) → outer ≡ None → cond b None outer ≡ None
none_ended outer true h = refl
none_ended outer false h = h

running_ended : AreBoundsKept → (s : cell.CellStore) (k : counted.WorldCounts) → AreWorldCounts s k → AreWorldCounts s (expansion_ended k)
running_ended law s k r = record {
  bounds = law.ended k s r.bounds;
  together = r.together;
  unexpanded = λ n o. none_ended k.outermost (k.open_count == 1) (r.unexpanded n o);
  untaken = r.untaken;
  few = r.few;
}

pub ended_grows : AreBoundsKept → (w x : World) → x ≡ record w { counts = expansion_ended w.counts } → IsWorld w → WorldGrows w x
ended_grows law w x is i =
    subst (λ (y : World). WorldGrows w y) (sym is) (grows_counted w w.cells.count (expansion_ended w.counts) (running_ended law w.cells w.counts i.running) (expanding_ended w.cells.cells w.counts.outermost (w.counts.open_count == 1) i.expanding) i)

-- ---- whether one is open

some_open : (cells : List Cell) (n : ℕ) (outer : Option expansion.Expansion) (b : Bool) → IsOpen outer n → IsTrue b ↔ (0 < n) → is_some (expansion_in cells n outer) ≡ b
some_open cells n None false h e = refl
some_open cells n None true h e = absurd (let l : 0 < 0 = subst (λ (k : ℕ). 0 < k) h (e.0 refl) in omega (arith, l))
some_open cells n (Some o) true h e = refl
some_open cells n (Some o) false h e = absurd (let q = e.1 h in cc)

pub is_expanding : (w : World) (b : Bool) → IsTrue b ↔ (0 < w.counts.open_count) → IsOpen w.counts.outermost w.counts.open_count → (s : State) → ShowsState w s → is_some s.counts.expansion ≡ b
is_expanding w b e outer s h = ap (λ (k : Counts). is_some k.expansion) h.counts ∙ some_open w.cells.cells w.counts.open_count w.counts.outermost b outer e
