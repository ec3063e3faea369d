-- As opening begins, the world shows just the states that are the one before the prelude, but for what is not set yet.
use Rattle.std.proofs.Common.{◌≡◌, ℕ, suc, ◌-◌, ◌<◌, Bool, true, false, nat_le, List, [], ◌∷◌, ◌++◌, ◌↔◌, length, map, get_or, Option, Some, None, refl, sym, ap, subst, ◌∙◌, arith}
use Rattle.std.proofs.lemmas.Bool.{leb-true, leb-false}
use Rattle.std.proofs.lemmas.List.{ext_get_or, get_or-map, length-map, map-append}
use Rattle.rl_tags.specs.Opening.{byte_names, names_at_opening, opening_names, opening_rows, place_of}
use Rattle.rl_tags.specs.Tagged.{Tagged, IdAt}
use Rattle.rl_tree.specs.ErrorTexts.{error_texts}
use Rattle.rl_tree.specs.Name.{Name}
use Rattle.rl_tree.specs.Value.{Value}
use Rattle.rl_cells.specs.Cell.{Cell, BlockCell, PairCell, StrCell, VectorCell, BigCell, More, cell_at, is_id_cell, placed}
use Rattle.rl_syms.specs.Contents.{ids_before, object_in, objects_meant, value_of}
use Rattle.rl_syms.specs.Laws.{AreIdentifiers}
use Rattle.rl_syms.specs.Opened.{IsOpened, is_name_cell, made_name}
use Rattle.rl_syms.specs.Table.{ids_from}
use Rattle.rl_world.specs.Input.{Input}
use Rattle.rl_world.specs.Output.{Output}
use Rattle.rl_world.specs.OpeningCells.{with_strings}
use Rattle.rl_world.specs.declared.world.World.{World}
use Rattle.rl_meaning.specs.Opening.{bare_state, byte_symbols, symbol_at_opening, symbols_from, system_function, system_kind}
use Rattle.rl_meaning.specs.Holding.{pointer_to}
use Rattle.rl_meaning.specs.State.{State, Counts, Function, Symbol}
use Rattle.rl_meaning.specs.Symbols.{message_id, new_symbol, symbol_at}
use Rattle.rl_meaning.specs.Variables.{Nearest, nearest}
use Rattle.rl_state.specs.BareStates.{IsUnset, unset}
use Rattle.rl_state.specs.CellLaws.{AreCellLaws}
use Rattle.rl_state.specs.ShownState.{ShowsState, counts_in, option_value_in, seen_of, symbol_meant}
use Rattle.rl_state.specs.Worlds.{HasNumber}
use Rattle.rl_state.proofs.Kept.{all_ids_same, blank_symbol, id_cell}
use Rattle.rl_state.proofs.Finding.{among_listed}
use Rattle.rl_state.proofs.Totals.{shown as each_shows}
use Rattle.rl_state.specs.StateOfWorld.{state_in}
use Rattle.rl_state.proofs.Beginning.{Begins, names_long, opened_named, opened_numbers}

-- ---- the identifiers of the definition

abbrev fresh : Name → Symbol
fresh name = new_symbol name true

rows_unset : (names : List Name) (i f : ℕ) → map unset (symbols_from i f names) ≡ map fresh names
rows_unset [] i f = refl
rows_unset (name ∷ names) i f = go (system_function name) (rows_unset names)
  where
    go : (o : Option Function) → ((i f : ℕ) → map unset (symbols_from i f names) ≡ map fresh names)
        → map unset (elim o [ None ↦ symbol_at_opening i name None ∷ symbols_from (suc i) f names | Some function ↦ symbol_at_opening i name (Some (record { kind = system_kind function; function = pointer_to f })) ∷ symbols_from (suc i) (suc f) names ]) ≡ fresh name ∷ map fresh names
    go None next = ap (λ ys. fresh name ∷ ys) (next (suc i) f)
    go (Some function) next = ap (λ ys. fresh name ∷ ys) (next (suc i) (suc f))

bytes_unset : (names : List Name) → map unset (byte_symbols names) ≡ map fresh names
bytes_unset [] = refl
bytes_unset (name ∷ names) = ap (λ ys. fresh name ∷ ys) (bytes_unset names)

symbols_unset : map unset bare_state.symbols ≡ map fresh names_at_opening
unfolding bare_state
symbols_unset =
    map-append unset (symbols_from 0 0 opening_names) (byte_symbols byte_names)
    ∙ ap (λ ys. ys ++ map unset (byte_symbols byte_names)) (rows_unset opening_names 0 0)
    ∙ ap (λ ys. map fresh opening_names ++ ys) (bytes_unset byte_names)
    ∙ sym (map-append fresh opening_names byte_names)

-- ---- the identifiers of the world

many_stay : AreCellLaws → (texts : List (List ℕ)) (cells : List Cell) → ids_before (with_strings texts cells) (length (with_strings texts cells)) ≡ ids_before cells (length cells)
many_stay law [] cells = refl
many_stay law (bytes ∷ more) cells =
    let b = law.blocks.made cells (StrCell bytes) refl in
    many_stay law more (cells ++ placed (StrCell bytes)) ∙ all_ids_same law.numbered cells (cells ++ placed (StrCell bytes)) (λ k. law.kept.ids cells (cells ++ placed (StrCell bytes)) (IdAt k) b)

-- ---- no objects, and what counts

none_in : (meaning : Tagged → Value) (c : Cell) → is_name_cell c ≡ true → object_in meaning c ≡ []
none_in meaning (StrCell bytes) h = refl
none_in meaning (BlockCell t words) h = refl
none_in meaning (BigCell z) h = refl
none_in meaning More h = refl
none_in meaning (PairCell a d) h = absurd (cc)
none_in meaning (VectorCell xs) h = absurd (cc)

none_meant : (meaning : Tagged → Value) (cells : List Cell) → ((k : ℕ) → is_name_cell (cell_at cells k) ≡ true) → objects_meant meaning cells ≡ []
none_meant meaning [] h = refl
none_meant meaning (c ∷ cells) h = ap (λ os. os ++ objects_meant meaning cells) (none_in meaning c (h 0)) ∙ none_meant meaning cells (λ k. h (suc k))

abbrev counts_of : ℕ → Counts
counts_of n = record { given = 1000000; turns = 1000000; cells = Some (65536 - n); expansion = None }

bare_counts : counts_of 2145 ≡ bare_state.counts
unfolding bare_state opening_rows byte_names error_texts
bare_counts = refl

-- what has no value is neither bound nor set
unseen : (o : Option Nearest) (top : Option Value) → seen_of o top ≡ None → (o ≡ None) × (top ≡ None)
unseen None top h = (refl, h)
unseen (Some b) top h = absurd (cc)

-- with one of the states that are so, a world shows all
all_shown : (w : World) (t s : State) → ShowsState w t → IsUnset t → IsUnset s → ShowsState w s
all_shown w t s shown p q =
    let e : s.symbols ≡ t.symbols = q.symbols ∙ sym p.symbols in
    record {
      store = q.store ∙ sym p.store ∙ shown.store;
      symbols = record {
        many = ap length e ∙ shown.symbols.many;
        symbols = λ k h.
            let n = ids_before w.cells.cells k in
            let P : List Symbol → Type 0 = λ ys. get_or ys n (new_symbol [] false) ≡ symbol_meant w.cells.cells w.syms.head k (get_or ys n (new_symbol [] false)).top in
            subst P (sym e) (shown.symbols.symbols k h);
        values = λ k h.
            let n = ids_before w.cells.cells k in
            ap (λ o. seen_of o (symbol_at s n).top) (q.unbound n) ∙ ap (λ ys. (get_or ys n (new_symbol [] false)).top) e ∙ sym (ap (λ o. seen_of o (symbol_at t n).top) (p.unbound n)) ∙ shown.symbols.values k h;
      };
      counts = q.counts ∙ sym p.counts ∙ shown.counts;
      gensyms = q.gensyms ∙ sym p.gensyms ∙ shown.gensyms;
      column = q.column ∙ sym p.column ∙ shown.column;
      line_length = q.line_length ∙ sym p.line_length ∙ shown.line_length;
      taken = q.taken ∙ sym p.taken ∙ shown.taken;
      free = q.unbound message_id;
      bound = λ i l. q.unbound i;
    }

module _ (law : AreCellLaws) (ids : AreIdentifiers) (w : World) (turns bound nest : ℕ) (b : Begins w turns bound nest) (opened : IsOpened w.cells.cells w.syms.head) (s : State) (shown : ShowsState w s) where
  many : length s.symbols ≡ length names_at_opening
  many = shown.symbols.many ∙ ap (λ cells. ids_before cells (length cells)) b.exact.cells_are ∙ many_stay law error_texts b.exact.names.cells ∙ b.exact.first.many

  module _ (i : ℕ) (l : i < length names_at_opening) where
    number : HasNumber w.cells.cells (IdAt (place_of i)) i
    number = opened_numbers law ids w.cells.cells w.texts w.syms.head b.table b.exact i l

    here : is_id_cell (cell_at w.cells.cells (place_of i)) ≡ true
    here = id_cell w.cells.cells (IdAt (place_of i)) number.is_id

    nothing : (nearest i s ≡ None) × ((symbol_at s i).top ≡ None)
    nothing =
        let blank = opened.blank (place_of i) here in
        let P : ℕ → Type 0 = λ n. seen_of (nearest n s) (symbol_at s n).top ≡ None in
        unseen (nearest i s) (symbol_at s i).top (subst P number.number (shown.symbols.values (place_of i) here ∙ ap (option_value_in w.cells.cells) blank.value))

    is_fresh : symbol_at s i ≡ fresh (made_name i)
    is_fresh =
        let named = opened_named law w.cells.cells w.texts w.syms.head b.exact i l in
        let P : ℕ → Type 0 = λ n. symbol_at s n ≡ symbol_meant w.cells.cells w.syms.head (place_of i) (symbol_at s n).top in
        subst P number.number (shown.symbols.symbols (place_of i) here) ∙ ap (symbol_meant w.cells.cells w.syms.head (place_of i)) nothing.1
        ∙ blank_symbol w.cells.cells w.syms.head (place_of i) (made_name i) true b.table named.name_is (among_listed (place_of i) (ids_from w.cells.cells w.syms.head) named.interned.1) (opened.blank (place_of i) here)

  unbound : (i : ℕ) → nearest i s ≡ None
  unbound i = go (nat_le (length s.symbols) i) refl
    where
      go : (q : Bool) → nat_le (length s.symbols) i ≡ q → nearest i s ≡ None
      go true e = shown.bound i (leb-true (length s.symbols) i e)
      go false e = (nothing i (subst (λ n. i < n) many (leb-false (length s.symbols) i e))).0

  symbols : s.symbols ≡ map unset bare_state.symbols
  symbols =
      ext_get_or (new_symbol [] false) s.symbols (map fresh names_at_opening) (many ∙ sym (length-map names_at_opening fresh))
      (λ i l. let within = subst (λ n. i < n) many l in is_fresh i within ∙ sym (get_or-map fresh names_at_opening i [] (new_symbol [] false) within))
      ∙ sym symbols_unset

  long : length w.cells.cells ≡ 2145
  long = let all = b.exact.long in let first = b.exact.first.long in let names = names_long in omega (arith, all, first, names)

  counts : s.counts ≡ bare_state.counts
  counts = shown.counts ∙ ap (λ k. counts_in w.cells k) b.counts ∙ ap counts_of long ∙ bare_counts

  unset_shown : IsUnset s
  unfolding bare_state
  unset_shown = record {
    store = shown.store ∙ none_meant (value_of w.cells.cells) w.cells.cells opened.objects;
    symbols = symbols;
    counts = counts;
    gensyms = shown.gensyms ∙ b.made;
    column = shown.column ∙ ap (λ (o : Output). o.column) b.output;
    line_length = shown.line_length ∙ ap (λ (o : Output). o.line_length) b.output;
    taken = shown.taken ∙ ap (λ (o : Input). o.given) b.input;
    unbound = unbound;
  }

-- the world shows these states, and no others
pub unset_alone : (law : AreCellLaws) (ids : AreIdentifiers) (w : World) (turns bound nest : ℕ) → Begins w turns bound nest → IsOpened w.cells.cells w.syms.head → (s : State) → ShowsState w s ↔ IsUnset s
unset_alone law ids w turns bound nest b opened s =
    let there = each_shows law.numbered w in
    (λ shown. unset_shown law ids w turns bound nest b opened s shown, λ q. all_shown w (state_in w) s there (unset_shown law ids w turns bound nest b opened (state_in w) there) q)
