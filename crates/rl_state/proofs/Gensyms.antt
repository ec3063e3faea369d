-- The identifiers that GENSYM makes, as many as there are at most.
use Rattle.std.proofs.Common.{◌≡◌, ℕ, zero, suc, ◌+◌, ◌-◌, ◌^◌, ◌<◌, ◌≤◌, Bool, true, false, List, ◌∷◌, length, decimal, Some, None, Result, Ok, Err, refl, sym, ap, subst, ◌∙◌, arith, length-append}
use Rattle.std.specs.Prelude.{OnErr, is_ok, replicate}
use Rattle.std.proofs.lemmas.Fmt.{length-decimal-le}
use Rattle.std.proofs.lemmas.List.{length-replicate}
use Rattle.rl_cells.specs.Cell.{Cell, IsClosed, cell_at, has_room, is_id_cell}
use Rattle.rl_cells.specs.Cell as cell
use Rattle.rl_tags.specs.Tagged.{Tagged}
use Rattle.rl_tree.specs.Value.{Value}
use Rattle.rl_tree.specs.Name.{Name}
use Rattle.rl_syms.specs.Contents.{ids_before}
use Rattle.rl_syms.specs.Gensym.{IsGensym, LacksGensym, MakesGensym, next_number}
use Rattle.rl_syms.specs.Laws.{AreIdentifiers}
use Rattle.rl_syms.specs.Numbers.{IdentifiersAreNumbered}
use Rattle.rl_syms.specs.Made.{id_cost, new_id, with_id}
use Rattle.rl_syms.specs.Table.{IsTable, nil_value}
use Rattle.rl_syms.specs.declared.table.Syms.{Syms}
use Rattle.rl_world.specs.Counts.{room_stop, roomed}
use Rattle.rl_world.specs.declared.stop.Stop as stops
use Rattle.rl_world.specs.declared.world.World.{World}
use Rattle.rl_meaning.specs.State.{State}
use Rattle.rl_meaning.specs.Outcome.{Outcome, Done, made_symbol, then_do}
use Rattle.rl_meaning.specs.Symbols.{new_symbol}
use Rattle.rl_meaning.specs.Atoms.{gensym, padded}
use Rattle.rl_state.specs.CellLaws.{AreCellLaws}
use Rattle.rl_state.specs.ShownState.{ShowsState}
use Rattle.rl_state.specs.Worlds.{IsWorld, WorldGrows}
use Rattle.rl_state.specs.Ending.{MeansValue, stop_in}
use Rattle.rl_state.proofs.Digits.{digits_are_padded}
use Rattle.rl_state.proofs.Steps.{stops_first}
use Rattle.rl_state.proofs.Entering.{GainsIdentifier, IsNamedIn, gains_loose, loose_in, loose_table, named_ends, named_grows, symbol_made, symbol_stops}

abbrev pub counted_on : ℕ → ℕ
counted_on n = suc n

abbrev pub next_name : World → Name
next_name w = 71 ∷ padded (decimal (suc w.syms.made))

few_before : (law : IdentifiersAreNumbered) (cells : List Cell) (k : ℕ) → ids_before cells k ≤ k
few_before law cells zero = let none = law.none cells in omega (arith, none)
few_before law cells (suc k) = subst (λ n. ids_before cells n ≤ n) more (go (is_id_cell (cell_at cells k)) refl (few_before law cells k))
  where
    more : k + 1 ≡ suc k
    more = omega arith

    go : (b : Bool) → is_id_cell (cell_at cells k) ≡ b → ids_before cells k ≤ k → ids_before cells (k + 1) ≤ k + 1
    go true e rest = let here = law.here cells k e in omega (arith, here, rest)
    go false e rest = let here = law.elsewhere cells k e in omega (arith, here, rest)

-- fewer than the cells
pub few_made : (law : AreCellLaws) (w : World) (places : ℕ) → IsWorld w → places ≡ length w.cells.cells → places < 2 ^ 32 → suc w.syms.made ≤ 2 ^ 32
few_made law w places i e l =
    let made = i.made in
    let few = few_before law.numbered w.cells.cells (length w.cells.cells) in
    omega (arith, made, few, e, l)

pub next_is : (w : World) → suc w.syms.made ≤ 2 ^ 32 → next_number w.syms.made ≡ suc w.syms.made
next_is w few = omega (arith, few)

pub name_is_next : (w : World) (name : Name) → suc w.syms.made ≤ 2 ^ 32 → IsGensym name (next_number w.syms.made) → name ≡ next_name w
name_is_next w name few g =
    let next = next_is w few in
    g.is ∙ ap (λ ds. 71 ∷ ds) (digits_are_padded g.width (next_number w.syms.made) g.is_width (omega (arith, next, few)) ∙ ap (λ n. padded (decimal n)) next)

-- five digits to ten, and their length
next_length : (w : World) → suc w.syms.made ≤ 2 ^ 32 → length (next_name w) ≤ 11
next_length w few =
    let n = suc w.syms.made in
    let most = length-decimal-le 10 n (omega arith) (omega (arith, few)) (omega (arith, few)) in
    let all = length-append (replicate (4 - length (decimal n)) 48) (decimal n) in
    let front = length-replicate {A = ℕ} (4 - length (decimal n)) 48 in
    omega (arith, most, all, front)

pub next_cost : (w : World) → suc w.syms.made ≤ 2 ^ 32 → id_cost (next_name w) ≡ 5
next_cost w few = let long = next_length w few in omega (arith, long)

-- ---- the calls of a world

made_before : (w r : World) (cost : ℕ) → r ≡ record w { counts = roomed w.counts cost } → r.syms.made ≡ w.syms.made
made_before w r cost e = ap (λ (y : World). y.syms.made) e

pub gensym_fits : {T E : Type 0} (w r : World) (o : Result T E) → suc w.syms.made ≤ 2 ^ 32 → r ≡ record w { counts = roomed w.counts 5 } → OnErr o (LacksGensym r.cells (next_number r.syms.made)) → has_room r.cells 5 ≡ true → is_ok o ≡ true
gensym_fits w r (Ok x) few e h room = refl
gensym_fits w r (Err x) few e h room =
    let l : LacksGensym r.cells (next_number r.syms.made) = h in
    let name = name_is_next w l.name few (subst (λ n. IsGensym l.name (next_number n)) (made_before w r 5 e) l.is_name) in
    let cost : id_cost l.name ≡ 5 = ap id_cost name ∙ next_cost w few in
    let full : has_room r.cells 5 ≡ false = ap (has_room r.cells) (sym cost) ∙ l.full in
    absurd (let both : true ≡ false = sym room ∙ full in cc)

pub gensym_in : (w r : World) (cs : cell.CellStore) (names : Syms) (v : Tagged) → suc w.syms.made ≤ 2 ^ 32 → r ≡ record w { counts = roomed w.counts 5 } → MakesGensym r.cells cs (next_number r.syms.made) v → names.head ≡ r.syms.head
    → names.made ≡ next_number r.syms.made → IsNamedIn w r cs names v (next_name w) None w.syms.head counted_on
gensym_in w r cs names v few e m h n =
    let before = made_before w r 5 e in
    let name = name_is_next w m.name few (subst (λ n. IsGensym m.name (next_number n)) before m.is_name) in
    loose_in w r cs names v (next_name w) counted_on
    (subst (λ c. r ≡ record w { counts = roomed w.counts c }) (sym (next_cost w few)) e)
    (m.cells ∙ ap (λ x. with_id r.cells x nil_value None) name) h
    (n ∙ ap next_number before ∙ next_is w few ∙ ap suc (sym before))
    (m.place ∙ ap (new_id r.cells) name)

named_short : (w : World) → suc w.syms.made ≤ 2 ^ 32 → (1 ≤ length (next_name w)) × (length (next_name w) ≤ 255)
named_short w few = let long = next_length w few in (omega arith, omega (arith, long))

gensym_gains : (law : AreCellLaws) (ids : AreIdentifiers) (w r : World) (cs : cell.CellStore) (names : Syms) (v : Tagged) → suc w.syms.made ≤ 2 ^ 32 → IsWorld w → IsNamedIn w r cs names v (next_name w) None w.syms.head counted_on → IsTable cs.cells names.head
    → GainsIdentifier w (next_name w) None w.syms.head false counted_on
gensym_gains law ids w r cs names v few i into table =
    let short = named_short w few in
    gains_loose law ids w (next_name w) counted_on short.0 short.1 i (loose_table w r cs names v (next_name w) counted_on into table) (omega arith)

abbrev counting_on : Value → State → Outcome Value
counting_on v s = Done v (record s { gensyms = suc s.gensyms })

-- the definition's name is the next
gensym_named : (w : World) (s : State) → ShowsState w s → gensym s ≡ then_do (made_symbol (new_symbol (next_name w) false) s) counting_on
gensym_named w s shown = ap (λ n. then_do (made_symbol (new_symbol (71 ∷ padded (decimal (suc n))) false) s) counting_on) shown.gensyms

pub gensym_ends : (law : AreCellLaws) (ids : AreIdentifiers) (w r : World) (cs : cell.CellStore) (names : Syms) (v : Tagged) → suc w.syms.made ≤ 2 ^ 32 → IsWorld w → IsNamedIn w r cs names v (next_name w) None w.syms.head counted_on → IsTable cs.cells names.head
    → IsClosed r.cells.cells → room_stop w.counts w.cells 5 ≡ None → (s : State) → ShowsState w s → MeansValue s (gensym s) (Ok v) (record r { cells = cs; syms = names })
gensym_ends law ids w r cs names v few i into table closed stop s shown =
    let gains = gensym_gains law ids w r cs names v few i into table in
    let room : room_stop w.counts w.cells (id_cost (next_name w)) ≡ None = ap (room_stop w.counts w.cells) (next_cost w few) ∙ stop in
    named_ends law w r cs names v (next_name w) None w.syms.head false counted_on i gains into closed (gensym s) s shown
    (gensym_named w s shown ∙ ap (λ o. then_do o counting_on) (symbol_made law w (next_name w) None w.syms.head false counted_on i gains room s shown))

pub gensym_grows : (law : AreCellLaws) (ids : AreIdentifiers) (w r : World) (cs : cell.CellStore) (names : Syms) (v : Tagged) → suc w.syms.made ≤ 2 ^ 32 → IsWorld w → IsNamedIn w r cs names v (next_name w) None w.syms.head counted_on → IsTable cs.cells names.head
    → WorldGrows w (record r { cells = cs; syms = names })
gensym_grows law ids w r cs names v few i into table =
    named_grows law w r cs names v (next_name w) None w.syms.head false counted_on i (gensym_gains law ids w r cs names v few i into table) into

pub gensym_stops : (w x : World) (why : stops.Stop) → suc w.syms.made ≤ 2 ^ 32 → IsWorld w → x ≡ w → room_stop w.counts w.cells 5 ≡ Some why → (s : State) → ShowsState w s → MeansValue s (gensym s) (Err why) x
gensym_stops w x why few i e stop s shown =
    let room : room_stop w.counts w.cells (id_cost (next_name w)) ≡ Some why = ap (room_stop w.counts w.cells) (next_cost w few) ∙ stop in
    subst (λ o. MeansValue s o (Err why) x) (sym (gensym_named w s shown))
    (stops_first s (made_symbol (new_symbol (next_name w) false) s) counting_on (stop_in x.cells.cells why) (symbol_stops w x (new_symbol (next_name w) false) why i e room s shown))
