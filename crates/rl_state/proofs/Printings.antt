-- What the definition prints in a state is what it prints in a world that shows it.
use Rattle.std.proofs.Common.{◌≡◌, ℕ, zero, suc, ◌+◌, Bool, true, false, nat_lt, cond, List, [], ◌∷◌, length, Option, Some, None, refl, sym, ap, subst, ◌∙◌, arith, take_all}
use Rattle.std.specs.Prelude.{count_by}
use Rattle.std.specs.List.{flat_map}
use Rattle.std.proofs.Math.Path.{fun_ext}
use Rattle.std.proofs.lemmas.Bool.{ltb-true, ltb-false}
use Rattle.std.proofs.lemmas.List.{get_or_past}
use Rattle.std.proofs.lemmas.List.Recursion.{is_count_by}
use Rattle.rl_tags.specs.declared.Tag.TheVariants as tag
use Rattle.rl_tags.specs.Tagged.{Tagged, index_of}
use Rattle.rl_tags.specs.Ids.{nil_id}
use Rattle.rl_tree.specs.Value.{Store}
use Rattle.rl_tree.specs.Atoms.{Style}
use Rattle.rl_tree.specs.Printing.{Progress, Setting, Whole, printed}
use Rattle.rl_cells.specs.Cell.{Cell, PairCell, StrCell, VectorCell, BigCell, BlockCell, More, is_id_cell}
use Rattle.rl_cells.specs.Cell as cell
use Rattle.rl_syms.specs.Contents.{ids_before, store_of, value_of}
use Rattle.rl_syms.specs.Numbers.{IdentifiersAreNumbered, NamesAreNumbered, cell_names, numbered_name}
use Rattle.rl_world.specs.Counts as counted
use Rattle.rl_world.specs.Bounds.{AreBoundsKept}
use Rattle.rl_world.specs.Counts.{count_turns_left, ticked, turns_left_at}
use Rattle.rl_print.specs.Counted.{ticks}
use Rattle.rl_world.specs.declared.counts.Expansion as expansion
use Rattle.rl_world.specs.declared.world.World.{World}
use Rattle.rl_print.specs.Walk.{levels_left, progress_in_world, setting_in_world, whole_printed}
use Rattle.rl_meaning.specs.State.{Counts, Expansion, State, Symbol}
use Rattle.rl_meaning.specs.Outcome.{turns_left, turns_of}
use Rattle.rl_meaning.specs.Symbols.{name_of_number, new_symbol}
use Rattle.rl_meaning.specs.Printing.{levels_in, progress_in, setting_in, turns_taken}
use Rattle.rl_state.specs.ShownState.{ShowsState, counts_in, expansion_in, symbol_meant, turns_in}
use Rattle.rl_state.specs.Descents.{levels_shown}
use Rattle.rl_state.specs.Worlds.{AreWorldCounts, IsWorld}
use Rattle.rl_state.proofs.Room.{running_ticked}

-- ---- names

-- each identifier has one name
names_many : (cells xs : List Cell) → length (flat_map (cell_names cells) xs) ≡ count_by is_id_cell xs
names_many cells xs = is_count_by (λ ys. length (flat_map (cell_names cells) ys)) is_id_cell refl step xs
  where
    step : (c : Cell) (ys : List Cell) → length (flat_map (cell_names cells) (c ∷ ys)) ≡ cond (is_id_cell c) (1 + length (flat_map (cell_names cells) ys)) (length (flat_map (cell_names cells) ys))
    step (BlockCell tag.Id words) ys = omega arith
    step (BlockCell tag.Int words) ys = refl
    step (BlockCell tag.Str words) ys = refl
    step (BlockCell tag.Pair words) ys = refl
    step (BlockCell tag.Vector words) ys = refl
    step (BlockCell tag.Big words) ys = refl
    step (BlockCell tag.Fun words) ys = refl
    step (PairCell a d) ys = refl
    step (StrCell bytes) ys = refl
    step (VectorCell vs) ys = refl
    step (BigCell z) ys = refl
    step More ys = refl

names_shown : (numbers : IdentifiersAreNumbered) (named : NamesAreNumbered) (w : World) (s : State) → ShowsState w s → (i : ℕ) → name_of_number s i ≡ numbered_name w.cells.cells i
unfolding symbol_meant numbered_name ids_before
names_shown numbers named w s shown i = go (nat_lt i (ids_before cells (length cells))) refl
  where
    cells : List Cell
    cells = w.cells.cells

    go : (b : Bool) → nat_lt i (ids_before cells (length cells)) ≡ b → name_of_number s i ≡ numbered_name cells i
    go true e =
        let k = numbers.each cells i (ltb-true i (ids_before cells (length cells)) e) in
        subst (λ n. name_of_number s n ≡ numbered_name cells n) k.2 (ap (λ (y : Symbol). y.name) (shown.symbols.symbols k.0 k.1) ∙ sym (named cells k.0 k.1))
    go false e =
        let past = ltb-false i (ids_before cells (length cells)) e in
        let many = shown.symbols.many in
        let all : length (flat_map (cell_names cells) cells) ≡ ids_before cells (length cells) = names_many cells cells ∙ ap (count_by is_id_cell) (sym (take_all (length cells) cells (omega arith))) in
        ap (λ (y : Symbol). y.name) (get_or_past s.symbols i (new_symbol [] false) (omega (arith, past, many)))
        ∙ sym (get_or_past (flat_map (cell_names cells) cells) i [] (omega (arith, past, all)))

-- ---- turns

turns_shown : (c : cell.CellStore) (k : counted.WorldCounts) (s : State) → AreWorldCounts c k → s.counts ≡ counts_in c k → turns_left s ≡ count_turns_left k
turns_shown c k s r e = ap (λ q. turns_of q s.counts.turns) (ap (λ (q : Counts). q.expansion) e) ∙ ap (λ n. turns_of (expansion_in c.cells k.open_count k.outermost) n) (ap (λ (q : Counts). q.turns) e) ∙ go k.opening k.outermost refl refl
  where
    go : (o : Option ℕ) (outer : Option expansion.Expansion) → k.opening ≡ o → k.outermost ≡ outer → turns_of (expansion_in c.cells k.open_count outer) (turns_in o k.bound k.turns) ≡ turns_left_at o outer k.turns k.bound
    go None None eo ex = refl
    go None (Some e) eo ex = refl
    go (Some n) None eo ex = refl
    go (Some n) (Some e) eo ex = absurd (let none = r.unexpanded n eo in let f : Some e ≡ None = sym ex ∙ none in cc)

-- ---- what is printed

setting_shown : (numbers : IdentifiersAreNumbered) (named : NamesAreNumbered) (w : World) (s : State) (style : Style) → IsWorld w → ShowsState w s → setting_in style s ≡ setting_in_world style w
setting_shown numbers named w s style i shown =
    ap (λ f. made f 0 s.store s.outside.line_length) (fun_ext (names_shown numbers named w s shown))
    ∙ ap (λ n. made (numbered_name w.cells.cells) n s.store s.outside.line_length) (sym i.table.first)
    ∙ ap (λ st. made (numbered_name w.cells.cells) (ids_before w.cells.cells (index_of nil_id)) st s.outside.line_length) shown.store
    ∙ ap (λ n. made (numbered_name w.cells.cells) (ids_before w.cells.cells (index_of nil_id)) (store_of w.cells.cells) n) shown.line_length
  where
    made : (ℕ → List ℕ) → ℕ → Store → ℕ → Setting
    made names nil store line = record { style = style; names = names; nil = nil; store = store; line_length = line }

progress_shown : (w : World) (s : State) → IsWorld w → ShowsState w s → progress_in s ≡ progress_in_world w s.outside.output
progress_shown w s i shown =
    ap (λ c. made c (turns_left s)) shown.column ∙ ap (λ n. made w.output.column n) (turns_shown w.cells w.counts s i.running shown.counts)
  where
    made : ℕ → ℕ → Progress
    made column turns = record { page = record { text = s.outside.output; column = column }; turns = turns; ending = Whole }

-- PRIN1 or PRIN2 of a value
pub printed_shown : (numbers : IdentifiersAreNumbered) (named : NamesAreNumbered) (w : World) (s : State) (style : Style) (v : Tagged) → IsWorld w → ShowsState w s
    → printed (setting_in style s) (value_of w.cells.cells v) (levels_in (levels_shown w) s) (progress_in s) ≡ whole_printed style w v s.outside.output
printed_shown numbers named w s style v i shown =
    ap (λ g. printed g (value_of w.cells.cells v) (levels_left w) (progress_in s)) (setting_shown numbers named w s style i shown)
    ∙ ap (λ p. printed (setting_in_world style w) (value_of w.cells.cells v) (levels_left w) p) (progress_shown w s i shown)

-- ---- turns that were taken

abbrev pub retaken : Option Expansion → ℕ → Counts → Counts
retaken None n q = record q { turns = n }
retaken (Some e) n q = record q { expansion = Some (record e { turns = n }) }

pub taken_is : (e : Option Expansion) (n : ℕ) (s : State) → turns_taken e n s ≡ record s { counts = retaken e n s.counts }
taken_is None n s = refl
taken_is (Some e) n s = refl

still_left : (c : cell.CellStore) (k : counted.WorldCounts) (o : Option ℕ) (outer : Option expansion.Expansion) → AreWorldCounts c k → k.opening ≡ o → k.outermost ≡ outer
    → counts_in c k ≡ retaken (expansion_in c.cells k.open_count outer) (turns_left_at o outer k.turns k.bound) (counts_in c k)
still_left c k None None r eo ex = rw (eo, ex) refl
still_left c k None (Some e) r eo ex = rw (eo, ex) refl
still_left c k (Some n) None r eo ex = rw (eo, ex) refl
still_left c k (Some n) (Some e) r eo ex = absurd (let none = r.unexpanded n eo in let f : Some e ≡ None = sym ex ∙ none in cc)

after_tick : (c : cell.CellStore) (k : counted.WorldCounts) (n : ℕ) (o : Option ℕ) (outer : Option expansion.Expansion) → AreWorldCounts c k → k.opening ≡ o → k.outermost ≡ outer
    → retaken (counts_in c (counted.ticked_at o outer k)).expansion n (counts_in c (counted.ticked_at o outer k)) ≡ retaken (counts_in c k).expansion n (counts_in c k)
after_tick c k n None None r eo ex = rw (eo, ex) refl
after_tick c k n None (Some e) r eo ex = rw (eo, ex) refl
after_tick c k n (Some m) None r eo ex = rw (eo, ex) refl
after_tick c k n (Some m) (Some e) r eo ex = absurd (let none = r.unexpanded m eo in let f : Some e ≡ None = sym ex ∙ none in cc)

pub retaken_ticks : AreBoundsKept → (number : ℕ) (c : cell.CellStore) (k : counted.WorldCounts) → AreWorldCounts c k → counts_in c (ticks number k) ≡ retaken (counts_in c k).expansion (count_turns_left (ticks number k)) (counts_in c k)
retaken_ticks law zero c k r = still_left c k k.opening k.outermost r refl refl
retaken_ticks law (suc number) c k r = retaken_ticks law number c (ticked k) (running_ticked law c k r) ∙ after_tick c k (count_turns_left (ticks (suc number) k)) k.opening k.outermost r refl refl
