-- A new held function, and a new word of one.
use Rattle.std.proofs.Common.{◌≡◌, ℕ, ◌+◌, ◌/◌, ◌^◌, ◌<◌, true, List, ◌++◌, length, Ok, Err, Some, refl, sym, ap, subst, ◌∙◌, arith}
use Rattle.std.specs.Prelude.{replicate}
use Rattle.std.proofs.lemmas.List.{length-replicate}
use Rattle.rl_tags.specs.Tagged.{Tagged, FunAt, index_of}
use Rattle.rl_tags.specs.declared.Tag.TheVariants as tag
use Rattle.rl_cells.specs.Cell as cell
use Rattle.rl_cells.specs.Cell.{Cell, BlockCell, IsClosed, block_with, cell_at, changed_at, cost_of, grown, is_block, placed}
use Rattle.rl_syms.specs.Functions.{ChangesFunction, FunctionsStand, GainsFunction, is_held_function}
use Rattle.rl_world.specs.Counts.{room_stop, roomed}
use Rattle.rl_world.specs.declared.stop.Stop as stops
use Rattle.rl_world.specs.declared.world.World.{World}
use Rattle.rl_meaning.specs.State.{State}
use Rattle.rl_meaning.specs.Outcome.{Done, room}
use Rattle.rl_state.specs.CellLaws.{AreCellLaws}
use Rattle.rl_state.specs.ShownState.{ShowsState}
use Rattle.rl_state.specs.Worlds.{IsWorld, WorldGrows}
use Rattle.rl_state.specs.Ending.{MeansUnseen}
use Rattle.rl_state.proofs.Room.{room_done, room_full, roomed_in}
use Rattle.rl_state.proofs.Made.{IsMadeIn, closed_before, final_is, shows_made}
use Rattle.rl_state.proofs.Pairs.{altered_is, changed_long, list_grows, list_shown}

-- ---- a new function

abbrev pub blank_function : ℕ → Cell
blank_function n = BlockCell tag.Fun (replicate n 0)

pub function_costs : (n : ℕ) → cost_of (blank_function n) ≡ (n + 1) / 2
function_costs n = ap (λ l. (l + 1) / 2) (length-replicate {A = ℕ} n 0)

pub function_takes : (n : ℕ) → 0 < n → 0 < cost_of (blank_function n)
function_takes n some = let cost = function_costs n in omega (arith, cost, some)

pub function_ends : (law : AreCellLaws) (w r : World) (cs : cell.CellStore) (n : ℕ) (v : Tagged) → IsMadeIn w r cs (blank_function n) FunAt v → 0 < n → IsWorld w
    → (s : State) → ShowsState w s → MeansUnseen s (room ((n + 1) / 2) s (λ t. Done tt t)) (Ok v) (record r { cells = cs })
function_ends law w r cs n v m some i s shown =
    let c = blank_function n in
    let closed = closed_before w r cs c FunAt v m in
    let store = shown.store ∙ sym (law.makes.others w.cells.cells c closed refl) in
    subst (λ cost. MeansUnseen s (room cost s (λ t. Done tt t)) (Ok v) (record r { cells = cs })) (function_costs n)
    (subst (λ x. MeansUnseen s (room (cost_of c) s (λ t. Done tt t)) (Ok v) x) (sym (final_is w r cs c m.counted m.made)) (record {
      state = record s { counts = roomed_in w.cells w.counts (cost_of c) };
      is = room_done w.cells w.counts (cost_of c) s (λ t. Done tt t) i.running shown.counts m.room;
      good = record {
        shows = shows_made law w c s s.store refl (function_takes n some) i closed shown store;
        stays = record { functions = record { functions = refl; compilation = refl }; bindings = record { entries = refl; hidden = λ i b h. refl }; outside = refl };
      };
    }))

pub function_stops : (w x : World) (n : ℕ) (why : stops.Stop) → x ≡ w → IsWorld w → 0 < n → room_stop w.counts w.cells (cost_of (blank_function n)) ≡ Some why
    → (s : State) → ShowsState w s → MeansUnseen s (room ((n + 1) / 2) s (λ t. Done tt t)) (Err why) x
function_stops w x n why e i some stop s shown =
    let cost = function_costs n in
    subst (λ y. MeansUnseen s (room ((n + 1) / 2) s (λ t. Done tt t)) (Err why) y) (sym e) (room_full w.cells w.counts ((n + 1) / 2) s (λ t. Done tt t) why i.running shown.counts (omega (arith, some)) (rw cost at stop))

pub function_gains : (stand : FunctionsStand) (w r : World) (cs : cell.CellStore) (n : ℕ) (v : Tagged) → r ≡ record w { counts = roomed w.counts (cost_of (blank_function n)) } → cs ≡ grown r.cells (blank_function n) → v ≡ FunAt (length r.cells.cells)
    → length w.cells.cells < 2 ^ 32 → GainsFunction w.cells.cells cs.cells (replicate n 0) v
function_gains stand w r cs n v e made named few =
    let c = blank_function n in
    let cells = w.cells.cells in
    let at : v ≡ FunAt (length cells) = named ∙ ap (λ (x : World). FunAt (length x.cells.cells)) e in
    let is : cs ≡ grown w.cells c = made ∙ ap (λ (x : World). grown x.cells c) e in
    subst (λ (x : cell.CellStore). GainsFunction cells x.cells (replicate n 0) v) (sym is) (subst (λ f. GainsFunction cells (cells ++ placed c) (replicate n 0) f) (sym at) (stand.function cells (replicate n 0) few))

pub function_rest : (w r : World) (cs : cell.CellStore) (cost : ℕ) → r ≡ record w { counts = roomed w.counts cost } → record r { cells = cs } ≡ record w { cells = cs; counts = r.counts }
function_rest w r cs cost e = subst (λ (x : World). record x { cells = cs } ≡ record w { cells = cs; counts = x.counts }) (sym e) refl

-- ---- a word

pub function_block : (cells : List Cell) (f : Tagged) → is_held_function cells f ≡ true → is_block cells f ≡ true
function_block cells (FunAt k) h = h
function_block cells f h = absurd (cc)

abbrev pub with_function_word : List Cell → Tagged → ℕ → ℕ → List Cell
with_function_word cells f i x = changed_at cells f (block_with (cell_at cells (index_of f)) i x)

pub word_grows : (law : AreCellLaws) (w : World) (cs : cell.CellStore) (f : Tagged) (i x : ℕ) → is_held_function w.cells.cells f ≡ true → cs ≡ record w.cells { cells = with_function_word w.cells.cells f i x } → IsWorld w → WorldGrows w (record w { cells = cs })
word_grows law w cs (FunAt k) i x h e is =
    let new = with_function_word w.cells.cells (FunAt k) i x in
    let same = law.changes.word w.cells.cells (FunAt k) i x in
    subst (λ y. WorldGrows w y) (sym (altered_is w cs new e)) (list_grows law w new (changed_long w.cells.cells (FunAt k) _) (law.blocks.word w.cells.cells k i x h) same.values is)
word_grows law w cs f i x h e is = absurd (cc)

pub word_shown : (law : AreCellLaws) (w : World) (cs : cell.CellStore) (f : Tagged) (i x : ℕ) → is_held_function w.cells.cells f ≡ true → cs ≡ record w.cells { cells = with_function_word w.cells.cells f i x } → IsWorld w → IsClosed w.cells.cells
    → (s : State) → ShowsState w s → ShowsState (record w { cells = cs }) s
word_shown law w cs (FunAt k) i x h e is closed s shown =
    let new = with_function_word w.cells.cells (FunAt k) i x in
    let same = law.changes.word w.cells.cells (FunAt k) i x in
    subst (λ y. ShowsState y s) (sym (altered_is w cs new e)) (list_shown law w new s s.store (changed_long w.cells.cells (FunAt k) _) (law.blocks.word w.cells.cells k i x h) same.values (shown.store ∙ sym same.store) is closed shown)
word_shown law w cs f i x h e is closed s shown = absurd (cc)

pub word_changes : (stand : FunctionsStand) (w : World) (cs : cell.CellStore) (f : Tagged) (i x : ℕ) → is_held_function w.cells.cells f ≡ true → cs ≡ record w.cells { cells = with_function_word w.cells.cells f i x } → ChangesFunction w.cells.cells cs.cells f i x
word_changes stand w cs f i x h e = subst (λ (c : cell.CellStore). ChangesFunction w.cells.cells c.cells f i x) (sym e) (stand.word w.cells.cells f i x h)

pub word_rest : (w : World) (cs : cell.CellStore) (new : List Cell) → cs ≡ record w.cells { cells = new } → record w { cells = cs } ≡ record w { cells = record w.cells { cells = cs.cells } }
word_rest w cs new e = subst (λ (c : cell.CellStore). record w { cells = c } ≡ record w { cells = record w.cells { cells = c.cells } }) (sym e) refl
