-- A new identifier before the others on the chain: the world is one of a run, and shows the state with one more symbol.
use Rattle.std.proofs.Common.{◌≡◌, ℕ, ◌+◌, ◌-◌, ◌<◌, ◌≤◌, ◌⊎◌, Bool, true, false, ◌||◌, ◌==◌, nat_le, List, [], ◌∷◌, ◌++◌, length, Option, Some, None, Ok, Err, refl, sym, ap, subst, ◌∙◌, arith, inl, inr, length-append}
use Rattle.std.specs.Prelude.{slice_index_or, Result, OnErr, is_ok}
use Rattle.std.proofs.lemmas.Bool.{eqb-true, leb-true, leb-false}
use Rattle.std.proofs.lemmas.List.{get_or_append_left}
use Rattle.std.proofs.Math.Seq.{get_or-append_seam}
use Rattle.rl_tags.specs.Tagged.{Tagged, Number, IdAt, StrAt, PairAt, VectorAt, BigAt, FunAt, index_of}
use Rattle.rl_tags.specs.declared.Tag.TheVariants as tag
use Rattle.rl_tree.specs.Value.{Value, Id, Str}
use Rattle.rl_tree.specs.Name.{Name}
use Rattle.rl_cells.specs.Cell as cell
use Rattle.rl_cells.specs.Cell.{Cell, BlockCell, StrCell, IsClosed, cell_at, cost_of, is_id_cell, is_live, is_str, bytes_of, words_in}
use Rattle.rl_syms.specs.Contents.{ids_before, value_of}
use Rattle.rl_syms.specs.Frame.{Adds}
use Rattle.rl_syms.specs.Functions.{FunctionsStand, KeepsHeldFunctions}
use Rattle.rl_syms.specs.Laws.{AreIdentifiers}
use Rattle.rl_syms.specs.Made.{Enters, Finds, id_cost, new_id, new_words, with_id}
use Rattle.rl_syms.specs.Opened.{IsBlank}
use Rattle.rl_syms.specs.Table as table
use Rattle.rl_syms.specs.Table.{IsFree, IsTable, SymbolCells, ids_from, is_id, name_in_cells, nil_value, symbol_in_cells}
use Rattle.rl_syms.specs.declared.table.Syms.{Syms}
use Rattle.rl_world.specs.Counts as counted
use Rattle.rl_world.specs.Counts.{CountsAreTaken, TakesTurnsAndCells, cells_bound_at, cells_taken, room_stop, roomed, with_cells}
use Rattle.rl_world.specs.declared.counts.Expansion as expansion
use Rattle.rl_world.specs.declared.stop.Stop as stops
use Rattle.rl_world.specs.declared.world.World.{World}
use Rattle.rl_meaning.specs.State.{State}
use Rattle.rl_meaning.specs.State as meaning
use Rattle.rl_meaning.specs.Outcome.{Outcome, Done, made_symbol, room, string_cost}
use Rattle.rl_meaning.specs.Symbols.{interned, interned_at, new_symbol, symbol_at}
use Rattle.rl_meaning.specs.Variables.{Nearest, nearest}
use Rattle.rl_state.specs.CellLaws.{AreCellLaws}
use Rattle.rl_state.specs.ShownState.{ShowsState, ShowsSymbols, counts_in, expansion_in, given_in, is_listed, option_value_in, seen_of, symbol_meant, turns_in, value_seen}
use Rattle.rl_state.specs.Beside.{StaysBeside}
use Rattle.rl_state.specs.Worlds.{AreWorldCounts, HasNumber, IsWorld, ObjectsAlone, WorldGrows}
use Rattle.rl_state.specs.Ending.{MeansValue}
use Rattle.rl_state.proofs.Kept.{SameValues, alike_stood, blank_symbol, id_inside, named_same, number_same, same_id, symbol_like, value_stood}
use Rattle.rl_state.proofs.Room.{left, left_behind, left_in, room_done, room_full, roomed_in}
use Rattle.rl_state.proofs.Made.{expanding_kept, expanding_roomed, expansion_kept, running_made, taken_made}
use Rattle.rl_state.proofs.Finding.{among_listed, false_unless, free_name, listed_among}

-- what is known of the cells with a new identifier: whether it is interned, and how many were made by GENSYM then
pub record GainsIdentifier (w : World) (name : Name) (link after : Option Tagged) (listed : Bool) (step : ℕ → ℕ) : Type 0 where
  pub table : IsTable (with_id w.cells name nil_value link).cells after
  pub adds : Adds w.cells.cells (with_id w.cells name nil_value link).cells
  pub name_is : name_in_cells (with_id w.cells name nil_value link).cells (index_of (new_id w.cells name)) ≡ name
  pub here : is_listed (index_of (new_id w.cells name)) (ids_from (with_id w.cells name nil_value link).cells after) ≡ listed
  pub there : (k : ℕ) → is_id_cell (cell_at w.cells.cells k) ≡ true → is_listed k (ids_from (with_id w.cells name nil_value link).cells after) ≡ is_listed k (ids_from w.cells.cells w.syms.head)
  pub few : step w.syms.made ≤ ids_before w.cells.cells (length w.cells.cells) + 1

-- the world with the new identifier
abbrev pub entered_world : World → Name → Option Tagged → Option Tagged → (ℕ → ℕ) → World
entered_world w name link after step =
    record w { cells = with_id w.cells name nil_value link; counts = roomed w.counts (id_cost name); syms = record { head = after; made = step w.syms.made } }

abbrev pub adding : meaning.Symbol → State → Outcome Value
adding symbol t = Done (Id (length t.symbols)) (record t { symbols = t.symbols ++ symbol ∷ [] })

costs : (name : Name) → 3 + string_cost name ≡ id_cost name
costs name = three (string_cost name)
  where
    three : (c : ℕ) → 3 + c ≡ c + 3
    three c = omega arith

pub symbol_stops : (w x : World) (symbol : meaning.Symbol) (why : stops.Stop) → IsWorld w → x ≡ w → room_stop w.counts w.cells (id_cost symbol.name) ≡ Some why → (s : State) → ShowsState w s → MeansValue s (made_symbol symbol s) (Err why) x
symbol_stops w x symbol why i e stop s shown =
    let r = room_full w.cells w.counts (id_cost symbol.name) s (adding symbol) why i.running shown.counts (omega arith) stop in
    subst (λ y. MeansValue s (made_symbol symbol s) (Err why) y) (sym e) (record { state = r.state; is = ap (λ c. room c s (adding symbol)) (costs symbol.name) ∙ r.is; good = r.good })

module _ (law : AreCellLaws) (w : World) (name : Name) (link after : Option Tagged) (listed : Bool) (step : ℕ → ℕ) (i : IsWorld w) (gains : GainsIdentifier w name link after listed step) where
  abbrev old_cells : List Cell
  old_cells = w.cells.cells

  abbrev new_cells : List Cell
  new_cells = (with_id w.cells name nil_value link).cells

  abbrev entered_id : Tagged
  entered_id = new_id w.cells name

  abbrev place : ℕ
  place = index_of entered_id

  abbrev entered_counts : counted.WorldCounts
  entered_counts = roomed w.counts (id_cost name)

  same : SameValues old_cells new_cells
  same v h = law.naming.values w.cells name link v h

  string_stands : (v : Tagged) → is_str old_cells v ≡ true → is_str new_cells v ≡ true
  string_stands (StrAt k) h = gains.adds.live (StrAt k) h
  string_stands (Number k) h = absurd (cc)
  string_stands (IdAt k) h = absurd (cc)
  string_stands (PairAt k) h = absurd (cc)
  string_stands (VectorAt k) h = absurd (cc)
  string_stands (BigAt k) h = absurd (cc)
  string_stands (FunAt k) h = absurd (cc)

  text_of : Value → List ℕ
  text_of (Str bytes) = bytes
  text_of v = []

  text_stands : (v : Tagged) → is_str old_cells v ≡ true → bytes_of new_cells v ≡ bytes_of old_cells v
  unfolding text_of
  text_stands (StrAt k) h = ap text_of (same (StrAt k) h)
  text_stands (Number k) h = absurd (cc)
  text_stands (IdAt k) h = absurd (cc)
  text_stands (PairAt k) h = absurd (cc)
  text_stands (VectorAt k) h = absurd (cc)
  text_stands (BigAt k) h = absurd (cc)
  text_stands (FunAt k) h = absurd (cc)

  numbered_stands : (id : Tagged) (n : ℕ) → HasNumber old_cells id n → HasNumber new_cells id n
  numbered_stands id n h = record { is_id = gains.adds.ids id h.is_id; number = named_same old_cells new_cells id same h.is_id ∙ h.number }

  -- the string of the name, and then the block
  abbrev block : Cell
  block = BlockCell tag.Id (new_words (StrAt (length old_cells)) nil_value link)

  text_running : AreWorldCounts (cell.grown w.cells (StrCell name)) (roomed w.counts (cost_of (StrCell name)))
  text_running = running_made law w.cells w.counts (StrCell name) (omega arith) i.running

  cells_added : with_cells 3 (with_cells (cost_of (StrCell name)) w.counts.outermost) ≡ with_cells (id_cost name) w.counts.outermost
  cells_added = go w.counts.outermost
    where
      three : (n c : ℕ) → n + c + 3 ≡ n + (c + 3)
      three n c = omega arith

      go : (e : Option expansion.Expansion) → with_cells 3 (with_cells (cost_of (StrCell name)) e) ≡ with_cells (id_cost name) e
      go None = refl
      go (Some e) = ap (λ n. Some (record e { cells = n })) (three e.cells (cost_of (StrCell name)))

  counted_entered : AreWorldCounts (with_id w.cells name nil_value link) entered_counts
  counted_entered = subst (λ e. AreWorldCounts (with_id w.cells name nil_value link) (record w.counts { outermost = e })) cells_added
      (running_made law (cell.grown w.cells (StrCell name)) (roomed w.counts (cost_of (StrCell name))) block (omega arith) text_running)

  taken_entered : cells_taken w.counts.opening (with_id w.cells name nil_value link) ≡ cells_taken w.counts.opening w.cells + id_cost name
  taken_entered =
      let text = taken_made law w.cells w.counts (StrCell name) (omega arith) i.running in
      let words = taken_made law (cell.grown w.cells (StrCell name)) (roomed w.counts (cost_of (StrCell name))) block (omega arith) text_running in
      omega (arith, text, words)

  more_made : step w.syms.made ≤ ids_before new_cells (length new_cells)
  more_made = let many = law.naming.many w.cells name link in let few = gains.few in omega (arith, many, few)

  pub entered_grows : WorldGrows w (entered_world w name link after step)
  entered_grows = record {
    world = record {
      table = gains.table;
      t = numbered_stands _ 1 i.t;
      message = numbered_stands _ 3 i.message;
      texts = record {
        string = λ n d l. string_stands (slice_index_or w.texts n d) (i.texts.string n d l);
        text = λ n d l. text_stands (slice_index_or w.texts n d) (i.texts.string n d l) ∙ i.texts.text n d l;
      };
      running = counted_entered;
      levels = i.levels;
      made = more_made;
      expanding = expanding_kept old_cells new_cells (with_cells (id_cost name) w.counts.outermost) gains.adds.ids (expanding_roomed old_cells (id_cost name) w.counts.outermost i.expanding);
    };
    live = gains.adds.live;
    values = same;
  }

  counts_entered : roomed_in w.cells w.counts (id_cost name) ≡ counts_in (with_id w.cells name nil_value link) entered_counts
  counts_entered =
      let k = w.counts in
      let given = given_in k.opening k.bound in
      let turns = turns_in k.opening k.bound k.turns in
      let bound = cells_bound_at k.opening k.cells_bound in
      let now = left_in (with_id w.cells name nil_value link) entered_counts counted_entered in
      let expands = expansion_kept old_cells new_cells k.open_count (with_cells (id_cost name) k.outermost) same (expanding_roomed old_cells (id_cost name) k.outermost i.expanding) in
      sym (now ∙ ap (λ n. left given turns (bound - n) (expansion_in new_cells k.open_count (with_cells (id_cost name) k.outermost))) taken_entered
      ∙ ap (λ e. left_behind w.cells k (id_cost name) e) expands)

  -- ---- the new symbol

  abbrev entered_symbol : meaning.Symbol
  entered_symbol = new_symbol name listed

  abbrev with_entered : State → State
  with_entered s = record s { counts = roomed_in w.cells w.counts (id_cost name); symbols = s.symbols ++ entered_symbol ∷ []; gensyms = step s.gensyms }

  number_there : (s : State) → ShowsState w s → ids_before new_cells place ≡ length s.symbols
  number_there s shown = same_id (ids_before new_cells place) (ids_before old_cells (length old_cells)) (law.naming.named w.cells name link) ∙ sym shown.symbols.many

  blank : IsBlank (symbol_in_cells new_cells place)
  blank = law.naming.blank w.cells name link

  symbol_there : (top : Option Value) → top ≡ None → symbol_meant new_cells after place top ≡ entered_symbol
  symbol_there top e = ap (symbol_meant new_cells after place) e ∙ blank_symbol new_cells after place name listed gains.table gains.name_is gains.here blank

  at_end : (s : State) → symbol_at (with_entered s) (length s.symbols) ≡ entered_symbol
  at_end s = get_or-append_seam s.symbols entered_symbol [] (new_symbol [] false)

  at_front : (s : State) (n : ℕ) → n < length s.symbols → symbol_at (with_entered s) n ≡ symbol_at s n
  at_front s n l = get_or_append_left s.symbols (entered_symbol ∷ []) (new_symbol [] false) n l

  cells_stand : (k : ℕ) → is_id_cell (cell_at old_cells k) ≡ true → symbol_in_cells new_cells k ≡ symbol_in_cells old_cells k
  cells_stand k h = ap (λ c. table.symbol_of (words_in c)) (gains.adds.stands k (id_inside old_cells k h))

  symbols_entered : IsClosed old_cells → (s : State) → ShowsState w s → ShowsSymbols new_cells after (with_entered s)
  symbols_entered closed s shown = record {
    many = length-append s.symbols (entered_symbol ∷ []) ∙ ap (λ n. n + 1) shown.symbols.many ∙ sym (law.naming.many w.cells name link);
    symbols = λ k h. symbol k (law.naming.only w.cells name link k h);
    values = λ k h. value k (law.naming.only w.cells name link k h);
  }
    where
      within : (k : ℕ) → is_id_cell (cell_at old_cells k) ≡ true → ids_before old_cells k < length s.symbols
      within k h = subst (λ n. ids_before old_cells k < n) (sym shown.symbols.many) (law.numbered.within old_cells k h)

      symbol : (k : ℕ) → (k ≡ place) ⊎ (is_id_cell (cell_at old_cells k) ≡ true) → symbol_at (with_entered s) (ids_before new_cells k) ≡ symbol_meant new_cells after k (symbol_at (with_entered s) (ids_before new_cells k)).top
      symbol k (inl e) =
          let P : ℕ → Type 0 = λ j. symbol_at (with_entered s) (ids_before new_cells j) ≡ symbol_meant new_cells after j (symbol_at (with_entered s) (ids_before new_cells j)).top in
          let Q : ℕ → Type 0 = λ n. symbol_at (with_entered s) n ≡ symbol_meant new_cells after place (symbol_at (with_entered s) n).top in
          subst P (sym e) (subst Q (sym (number_there s shown)) (at_end s ∙ sym (symbol_there _ (ap (λ (y : meaning.Symbol). y.top) (at_end s)))))
      symbol k (inr h) =
          let Q : ℕ → Type 0 = λ n. symbol_at (with_entered s) n ≡ symbol_meant new_cells after k (symbol_at (with_entered s) n).top in
          let front = at_front s (ids_before old_cells k) (within k h) in
          subst Q (sym (number_same old_cells new_cells k same h)) (front ∙ shown.symbols.symbols k h
          ∙ sym (symbol_like old_cells new_cells w.syms.head after k _ (alike_stood old_cells new_cells w.syms.head after k i.table closed same text_stands (gains.there k h) h (cells_stand k h)))
          ∙ ap (λ (y : meaning.Symbol). symbol_meant new_cells after k y.top) (sym front))

      value : (k : ℕ) → (k ≡ place) ⊎ (is_id_cell (cell_at old_cells k) ≡ true) → value_seen (with_entered s) (ids_before new_cells k) ≡ option_value_in new_cells (symbol_in_cells new_cells k).value
      value k (inl e) =
          let P : ℕ → Type 0 = λ j. value_seen (with_entered s) (ids_before new_cells j) ≡ option_value_in new_cells (symbol_in_cells new_cells j).value in
          let Q : ℕ → Type 0 = λ n. value_seen (with_entered s) n ≡ option_value_in new_cells (symbol_in_cells new_cells place).value in
          subst P (sym e) (subst Q (sym (number_there s shown)) (ap (λ o. seen_of o (symbol_at (with_entered s) (length s.symbols)).top) (shown.bound (length s.symbols) (omega arith))
          ∙ ap (λ (y : meaning.Symbol). y.top) (at_end s) ∙ ap (option_value_in new_cells) (sym blank.value)))
      value k (inr h) =
          let Q : ℕ → Type 0 = λ n. value_seen (with_entered s) n ≡ option_value_in new_cells (symbol_in_cells new_cells k).value in
          subst Q (sym (number_same old_cells new_cells k same h)) (ap (λ (y : meaning.Symbol). seen_of (nearest (ids_before old_cells k) s) y.top) (at_front s (ids_before old_cells k) (within k h))
          ∙ shown.symbols.values k h ∙ sym (value_stood old_cells new_cells w.syms.head k i.table closed same h (cells_stand k h)))

  entered_shows : IsClosed old_cells → (s : State) → ShowsState w s → ShowsState (entered_world w name link after step) (with_entered s)
  entered_shows closed s shown = let y = symbols_entered closed s shown in record {
    store = shown.store ∙ sym (law.naming.store w.cells name link closed);
    symbols = record { many = y.many; symbols = y.symbols; values = y.values };
    counts = counts_entered;
    gensyms = ap step shown.gensyms;
    column = shown.column;
    line_length = shown.line_length;
    taken = shown.taken;
    free = shown.free;
    bound = λ j l. shown.bound j (let more = length-append s.symbols (entered_symbol ∷ []) in omega (arith, more, l));
  }

  entered_stays : (s : State) → ShowsState w s → StaysBeside s (with_entered s)
  entered_stays s shown = record {
    functions = record { functions = refl; compilation = refl };
    bindings = record { entries = refl; hidden = λ n b h. go n b h (nat_le (length s.symbols) n) refl };
    outside = refl;
  }
    where
      go : (n : ℕ) (b : Nearest) → nearest n s ≡ Some b → (q : Bool) → nat_le (length s.symbols) n ≡ q → (symbol_at (with_entered s) n).top ≡ (symbol_at s n).top
      go n b h true e = absurd (let none = shown.bound n (leb-true (length s.symbols) n e) in let f : None ≡ Some b = sym none ∙ h in cc)
      go n b h false e = ap (λ (y : meaning.Symbol). y.top) (at_front s n (leb-false (length s.symbols) n e))

  -- what the definition makes, but for the count of GENSYM
  pub symbol_made : room_stop w.counts w.cells (id_cost name) ≡ None → (s : State) → ShowsState w s
      → made_symbol entered_symbol s ≡ Done (value_of new_cells entered_id) (record s { counts = roomed_in w.cells w.counts (id_cost name); symbols = s.symbols ++ entered_symbol ∷ [] })
  symbol_made stop s shown =
      ap (λ c. room c s (adding entered_symbol)) (costs name) ∙ room_done w.cells w.counts (id_cost name) s (adding entered_symbol) i.running shown.counts stop
      ∙ ap (λ v. Done v (record s { counts = roomed_in w.cells w.counts (id_cost name); symbols = s.symbols ++ entered_symbol ∷ [] })) (ap Id (sym (number_there s shown)))

  -- an outcome that ends so
  pub entered_means : IsClosed old_cells → (o : Outcome Value) (s : State) → ShowsState w s → o ≡ Done (value_of new_cells entered_id) (with_entered s) → MeansValue s o (Ok entered_id) (entered_world w name link after step)
  entered_means closed o s shown is = record { state = with_entered s; is = is; good = record { shows = entered_shows closed s shown; stays = entered_stays s shown } }

-- the calls of a world one after the other: room, and the identifier
pub record IsNamedIn (w r : World) (cs : cell.CellStore) (names : Syms) (v : Tagged) (name : Name) (link after : Option Tagged) (step : ℕ → ℕ) : Type 0 where
  pub counted : r ≡ record w { counts = roomed w.counts (id_cost name) }
  pub cells : cs ≡ with_id r.cells name nil_value link
  pub head : names.head ≡ after
  pub made : names.made ≡ step r.syms.made
  pub place : v ≡ new_id r.cells name

named_final : (w r : World) (cs : cell.CellStore) (names : Syms) (v : Tagged) (name : Name) (link after : Option Tagged) (step : ℕ → ℕ) → IsNamedIn w r cs names v name link after step → record r { cells = cs; syms = names } ≡ entered_world w name link after step
named_final w r cs names v name link after step m =
    ap (λ c. record r { cells = c; syms = names }) m.cells
    ∙ ap (λ h. record r { cells = with_id r.cells name nil_value link; syms = record names { head = h } }) m.head
    ∙ ap (λ n. record r { cells = with_id r.cells name nil_value link; syms = record { head = after; made = n } }) m.made
    ∙ ap (λ (y : World). record y { cells = with_id y.cells name nil_value link; syms = record { head = after; made = step y.syms.made } }) m.counted

pub named_ends : (law : AreCellLaws) (w r : World) (cs : cell.CellStore) (names : Syms) (v : Tagged) (name : Name) (link after : Option Tagged) (listed : Bool) (step : ℕ → ℕ) → IsWorld w → GainsIdentifier w name link after listed step
    → IsNamedIn w r cs names v name link after step → IsClosed r.cells.cells → (o : Outcome Value) (s : State) → ShowsState w s
    → o ≡ Done (value_of (with_id w.cells name nil_value link).cells (new_id w.cells name)) (record s { counts = roomed_in w.cells w.counts (id_cost name); symbols = s.symbols ++ new_symbol name listed ∷ []; gensyms = step s.gensyms })
    → MeansValue s o (Ok v) (record r { cells = cs; syms = names })
named_ends law w r cs names v name link after listed step i gains m closed o s shown is =
    let at : v ≡ new_id w.cells name = m.place ∙ ap (λ (y : World). new_id y.cells name) m.counted in
    subst (λ x. MeansValue s o (Ok v) x) (sym (named_final w r cs names v name link after step m))
    (subst (λ y. MeansValue s o (Ok y) (entered_world w name link after step)) (sym at)
    (entered_means law w name link after listed step i gains (subst (λ (y : World). IsClosed y.cells.cells) m.counted closed) o s shown is))

pub named_grows : (law : AreCellLaws) (w r : World) (cs : cell.CellStore) (names : Syms) (v : Tagged) (name : Name) (link after : Option Tagged) (listed : Bool) (step : ℕ → ℕ) → IsWorld w → GainsIdentifier w name link after listed step
    → IsNamedIn w r cs names v name link after step → WorldGrows w (record r { cells = cs; syms = names })
named_grows law w r cs names v name link after listed step i gains m =
    subst (λ x. WorldGrows w x) (sym (named_final w r cs names v name link after step m)) (entered_grows law w name link after listed step i gains)

-- ---- an interned identifier

abbrev pub not_counted : ℕ → ℕ
not_counted n = n

abbrev pub entered_head : World → Name → Option Tagged
entered_head w name = Some (new_id w.cells name)

pub gains_interned : (law : AreCellLaws) (w : World) (name : Name) → 1 ≤ length name → length name ≤ 255 → IsWorld w → IsFree w.cells.cells w.syms.head name → GainsIdentifier w name w.syms.head (entered_head w name) true not_counted
gains_interned law w name some short i free =
    let g = law.enters w.cells w.syms.head name some short i.table free in
    let cells = w.cells.cells in
    let place = index_of (new_id w.cells name) in
    let made = i.made in
    record {
      table = g.table;
      adds = g.adds;
      name_is = g.named.name_is;
      here = among_listed place (ids_from (with_id w.cells name nil_value w.syms.head).cells (Some (new_id w.cells name))) g.named.interned.1;
      there = λ k h. let l = id_inside cells k h in
          ap (is_listed k) (law.naming.entered w.cells name w.syms.head some short i.table)
          ∙ ap (λ b. b || is_listed k (ids_from cells w.syms.head)) (false_unless (k == place) (λ e. let q = eqb-true k place e in absurd (omega (arith, q, l))));
      few = omega (arith, made);
    }

pub interned_made : (law : AreCellLaws) (w : World) (name : Name) → (i : IsWorld w) → (free : IsFree w.cells.cells w.syms.head name) → GainsIdentifier w name w.syms.head (entered_head w name) true not_counted
    → room_stop w.counts w.cells (id_cost name) ≡ None → (s : State) → ShowsState w s
    → interned name s ≡ Done (value_of (with_id w.cells name nil_value w.syms.head).cells (new_id w.cells name)) (record s { counts = roomed_in w.cells w.counts (id_cost name); symbols = s.symbols ++ new_symbol name true ∷ [] })
interned_made law w name i free gains stop s shown =
    ap (λ o. interned_at o name s) (free_name law.numbered w name free s shown) ∙ symbol_made law w name w.syms.head (entered_head w name) true not_counted i gains stop s shown

pub interned_stops : (law : AreCellLaws) (w x : World) (name : Name) (why : stops.Stop) → IsWorld w → IsFree w.cells.cells w.syms.head name → x ≡ w → room_stop w.counts w.cells (id_cost name) ≡ Some why
    → (s : State) → ShowsState w s → MeansValue s (interned name s) (Err why) x
interned_stops law w x name why i free e stop s shown =
    subst (λ o. MeansValue s o (Err why) x) (sym (ap (λ o. interned_at o name s) (free_name law.numbered w name free s shown))) (symbol_stops w x (new_symbol name true) why i e stop s shown)

-- a name that none has is not found
enters_alone : (o n : cell.CellStore) (h k : Option Tagged) (name : Name) (id : Tagged) → IsFree o.cells h name → (Finds o n h k name id) ⊎ (Enters o n h k name id) → Enters o n h k name id
enters_alone o n h k name id free (inl f) = absurd (free.other (index_of id) f.named.interned.1 f.named.name_is)
enters_alone o n h k name id free (inr e) = e

pub interned_in : (w r : World) (name : Name) → IsFree w.cells.cells w.syms.head name → (cs : cell.CellStore) (names : Syms) (v : Tagged)
    → r ≡ record w { counts = roomed w.counts (id_cost name) } → (Finds r.cells cs r.syms.head names.head name v) ⊎ (Enters r.cells cs r.syms.head names.head name v) → names.made ≡ r.syms.made
    → IsNamedIn w r cs names v name w.syms.head (entered_head w name) not_counted
interned_in w r name free cs names v e =
    subst (λ (y : World). (Finds y.cells cs y.syms.head names.head name v) ⊎ (Enters y.cells cs y.syms.head names.head name v) → names.made ≡ y.syms.made
    → IsNamedIn w y cs names v name w.syms.head (entered_head w name) not_counted) (sym e)
    (λ both made. let enters = enters_alone w.cells cs w.syms.head names.head name v free both in
    record { counted = refl; cells = enters.cells; head = enters.head ∙ ap Some enters.place; made = made; place = enters.place })

-- ---- an identifier that is not interned

-- a table where nothing is interned
unchained : (cells : List Cell) (head : Option Tagged) → IsTable cells head → IsTable cells None
unchained cells head t = record {
  chained = record { six = t.chained.six; named = t.chained.named; listed = t.chained.listed; linked = t.chained.linked; first = tt; distinct = λ j k a b e. absurd a };
  nil = t.nil;
  first = t.first;
  defined = t.defined;
}

pub gains_loose : (law : AreCellLaws) (ids : AreIdentifiers) (w : World) (name : Name) (step : ℕ → ℕ) → 1 ≤ length name → length name ≤ 255 → IsWorld w → IsTable (with_id w.cells name nil_value None).cells w.syms.head
    → step w.syms.made ≤ w.syms.made + 1 → GainsIdentifier w name None w.syms.head false step
gains_loose law ids w name step some short i table more =
    let cells = w.cells.cells in
    let g = law.enters w.cells None name some short (unchained cells w.syms.head i.table) (record { other = λ k a. absurd a }) in
    let place = index_of (new_id w.cells name) in
    let made = i.made in
    let chain = law.naming.chain w.cells name None w.syms.head i.table in
    record {
      table = table;
      adds = g.adds;
      name_is = g.named.name_is;
      here = ap (is_listed place) chain ∙ false_unless (is_listed place (ids_from cells w.syms.head)) (λ h.
          let l = id_inside cells place (ids cells w.syms.head (name_in_cells cells place) (IdAt place) i.table (record { interned = (refl, listed_among place (ids_from cells w.syms.head) h); name_is = refl })) in
          absurd (omega (arith, l)));
      there = λ k h. ap (is_listed k) chain;
      few = omega (arith, made, more);
    }

pub loose_in : (w r : World) (cs : cell.CellStore) (names : Syms) (v : Tagged) (name : Name) (step : ℕ → ℕ) → r ≡ record w { counts = roomed w.counts (id_cost name) } → cs ≡ with_id r.cells name nil_value None → names.head ≡ r.syms.head → names.made ≡ step r.syms.made → v ≡ new_id r.cells name
    → IsNamedIn w r cs names v name None w.syms.head step
loose_in w r cs names v name step e c h m p = record { counted = e; cells = c; head = h ∙ ap (λ (y : World). y.syms.head) e; made = m; place = p }

-- the table with it, of the world before
pub loose_table : (w r : World) (cs : cell.CellStore) (names : Syms) (v : Tagged) (name : Name) (step : ℕ → ℕ) → IsNamedIn w r cs names v name None w.syms.head step → IsTable cs.cells names.head → IsTable (with_id w.cells name nil_value None).cells w.syms.head
loose_table w r cs names v name step m t =
    let x = named_final w r cs names v name None w.syms.head step m in
    subst (λ (y : World). IsTable y.cells.cells y.syms.head) x t

pub entered_rest : (law : CountsAreTaken) (stand : FunctionsStand) (w r : World) (cs : cell.CellStore) (names : Syms) (v : Tagged) (name : Name) (link after : Option Tagged) (step : ℕ → ℕ) → IsNamedIn w r cs names v name link after step → ObjectsAlone w (record r { cells = cs; syms = names })
entered_rest law stand w r cs names v name link after step m = record {
  rest = subst (λ (y : World). record y { cells = cs; syms = names } ≡ record w { cells = cs; syms = names; counts = y.counts }) (sym m.counted) refl;
  counts = subst (λ (y : World). TakesTurnsAndCells w.counts y.counts) (sym m.counted) (law.cells w.counts (id_cost name));
  functions = subst (λ (x : cell.CellStore). KeepsHeldFunctions w.cells.cells x.cells) (sym m.cells) (subst (λ (y : World). KeepsHeldFunctions w.cells.cells (with_id y.cells name nil_value link).cells) (sym m.counted) (stand.named w.cells name nil_value link));
}

pub table_counted : (w r : World) (k : counted.WorldCounts) → r ≡ record w { counts = k } → IsTable w.cells.cells w.syms.head → IsTable r.cells.cells r.syms.head
table_counted w r k e t = subst (λ (y : World). IsTable y.cells.cells y.syms.head) (sym e) t

pub ok_with_room : {T E : Type 0} (r : Result T E) (b : Bool) → OnErr r (b ≡ false) → b ≡ true → is_ok r ≡ true
ok_with_room (Ok x) b h t = refl
ok_with_room (Err e) b h t = absurd (let f : b ≡ false = h in cc)
