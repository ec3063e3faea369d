-- One identifier has something else: all that cells mean stays, and what is shown of that identifier changes alone.
use Rattle.std.proofs.Common.{◌≡◌, ◌≢◌, ℕ, ◌<◌, ◌≤◌, Bool, true, false, ◌==◌, List, [], length, Option, Some, None, refl, sym, ap, subst, ◌∙◌}
use Rattle.std.specs.Prelude.{slice_index_or}
use Rattle.std.proofs.lemmas.Bool.{eqb-true, eqb-false}
use Rattle.std.proofs.lemmas.List.{get_or-set_same, get_or-set_other, length-set}
use Rattle.rl_tags.specs.Tagged.{Tagged, Number, IdAt, StrAt, PairAt, VectorAt, BigAt, FunAt, index_of}
use Rattle.rl_tags.specs.Ids.{emsg_star_id}
use Rattle.rl_tree.specs.Value.{Value, Str}
use Rattle.rl_tree.specs.declared.held.Kind.{Kind}
use Rattle.rl_tree.specs.declared.held.VarKind.{VarKind}
use Rattle.rl_cells.specs.Cell as cell
use Rattle.rl_cells.specs.Cell.{Cell, cell_at, is_id_cell, is_live, is_str, bytes_of, words_in}
use Rattle.rl_syms.specs.Contents.{ids_before, value_of}
use Rattle.rl_syms.specs.Numbers.{IdentifiersAreNumbered}
use Rattle.rl_syms.specs.Table as table
use Rattle.rl_syms.specs.Table.{IsTable, SymbolCells, ids_from, is_id, symbol_in_cells}
use Rattle.rl_syms.specs.Frame.{KeepsMeaning, Sets}
use Rattle.rl_syms.specs.Functions.{FunctionsStand}
use Rattle.rl_syms.specs.declared.table.Syms.{Syms}
use Rattle.rl_world.specs.Counts.{CountsAreTaken, TakesTurnsAndCells}
use Rattle.rl_world.specs.declared.world.World.{World}
use Rattle.rl_meaning.specs.State.{State}
use Rattle.rl_meaning.specs.State as meaning
use Rattle.rl_meaning.specs.Symbols as symbols
use Rattle.rl_meaning.specs.Variables.{nearest}
use Rattle.rl_meaning.specs.Symbols.{with_symbol, with_top, message_id, new_symbol}
use Rattle.rl_state.specs.ShownState.{ShowsState, ShowsSymbols, is_listed, definition_in, number_in, option_value_in, pointer_named, value_seen, seen_of, symbol_meant}
use Rattle.rl_state.specs.Worlds.{IsWorld, HasNumber, ObjectsAlone, WorldGrows, SeenOtherwise}
use Rattle.rl_state.proofs.Kept.{AlikeShown, all_ids_same, id_cell, named_same, number_same, symbol_like}
use Rattle.rl_state.proofs.Made.{counts_changed, expanding_kept, made_stays, running_changed}

-- ---- cells that keep their meaning

live_kept : (old new : List Cell) (v : Tagged) → KeepsMeaning old new → is_live old v ≡ true → is_live new v ≡ true
live_kept old new v m h = m.live v ∙ h

ids_kept : (old new : List Cell) (k : ℕ) → KeepsMeaning old new → is_id_cell (cell_at new k) ≡ is_id_cell (cell_at old k)
ids_kept old new k m = m.live (IdAt k)

string_kept : (old new : List Cell) (v : Tagged) → KeepsMeaning old new → is_str old v ≡ true → is_str new v ≡ true
string_kept old new (StrAt k) m h = m.live (StrAt k) ∙ h
string_kept old new (Number k) m h = h
string_kept old new (IdAt k) m h = h
string_kept old new (PairAt k) m h = h
string_kept old new (VectorAt k) m h = h
string_kept old new (BigAt k) m h = h
string_kept old new (FunAt k) m h = h

text_of : Value → List ℕ
text_of (Str bytes) = bytes
text_of v = []

bytes_kept : (old new : List Cell) (v : Tagged) → KeepsMeaning old new → bytes_of new v ≡ bytes_of old v
unfolding text_of
bytes_kept old new (StrAt k) m = ap text_of (m.values (StrAt k))
bytes_kept old new (Number k) m = refl
bytes_kept old new (IdAt k) m = refl
bytes_kept old new (PairAt k) m = refl
bytes_kept old new (VectorAt k) m = refl
bytes_kept old new (BigAt k) m = refl
bytes_kept old new (FunAt k) m = refl

definition_kept : (old new : List Cell) (d : Option (Kind × Tagged)) → KeepsMeaning old new → definition_in new d ≡ definition_in old d
definition_kept old new None m = refl
definition_kept old new (Some p) m = ap (λ v. Some (record { kind = p.0; function = pointer_named v })) (m.values p.1)

option_kept : (old new : List Cell) (o : Option Tagged) → KeepsMeaning old new → option_value_in new o ≡ option_value_in old o
option_kept old new None m = refl
option_kept old new (Some v) m = ap Some (m.values v)

-- what is shown of an identifier whose cells hold the same
alike_kept : (old new : List Cell) (head : Option Tagged) (k : ℕ) → KeepsMeaning old new
    → (symbol_in_cells new k).plist ≡ (symbol_in_cells old k).plist → (symbol_in_cells new k).definition ≡ (symbol_in_cells old k).definition → (symbol_in_cells new k).kind ≡ (symbol_in_cells old k).kind
    → AlikeShown old new head head k
alike_kept old new head k m p d n = record {
  name = m.names k;
  listed = ap (is_listed k) (m.chains head);
  plist = ap (value_of new) p ∙ m.values (symbol_in_cells old k).plist;
  definition = ap (definition_in new) d ∙ definition_kept old new (symbol_in_cells old k).definition m;
  kind = n;
}

-- ---- one identifier is set

-- the identifier that is set, and what it has now
pub record IsSetIn (old new : List Cell) (k : ℕ) (y : SymbolCells) : Type 0 where
  pub was : is_id_cell (cell_at old k) ≡ true
  pub symbol : symbol_in_cells new k ≡ y
  pub others : (j : ℕ) → j ≢ k → cell_at new j ≡ cell_at old j
  pub rest : KeepsMeaning old new

pub set_in : (old new : List Cell) (id : Tagged) (y : SymbolCells) → is_id old id ≡ true → Sets old new id y → IsSetIn old new (index_of id) y
set_in old new id y h s = record { was = id_cell old id h; symbol = s.symbol; others = s.others; rest = s.rest }

other_symbol : (old new : List Cell) (k j : ℕ) (y : SymbolCells) → IsSetIn old new k y → j ≢ k → symbol_in_cells new j ≡ symbol_in_cells old j
other_symbol old new k j y s ne = ap (λ c. table.symbol_of (words_in c)) (s.others j ne)

other_alike : (old new : List Cell) (head : Option Tagged) (k j : ℕ) (y : SymbolCells) → IsSetIn old new k y → j ≢ k → AlikeShown old new head head j
other_alike old new head k j y s ne =
    let e = other_symbol old new k j y s ne in
    alike_kept old new head j s.rest (ap (λ (z : SymbolCells). z.plist) e) (ap (λ (z : SymbolCells). z.definition) e) (ap (λ (z : SymbolCells). z.kind) e)

-- what is shown of each identifier, by its number among those that were there
symbols_set : (law : IdentifiersAreNumbered) (old new : List Cell) (head : Option Tagged) (t : State) → KeepsMeaning old new → length t.symbols ≡ ids_before old (length old)
    → ((j : ℕ) → is_id_cell (cell_at old j) ≡ true → symbols.symbol_at t (ids_before old j) ≡ symbol_meant new head j (symbols.symbol_at t (ids_before old j)).top)
    → ((j : ℕ) → is_id_cell (cell_at old j) ≡ true → value_seen t (ids_before old j) ≡ option_value_in new (symbol_in_cells new j).value)
    → ShowsSymbols new head t
symbols_set law old new head t m many symbol value = record {
  many = many ∙ sym (all_ids_same law old new (λ k. ids_kept old new k m));
  symbols = λ j h.
      let was : is_id_cell (cell_at old j) ≡ true = sym (ids_kept old new j m) ∙ h in
      let P : ℕ → Type 0 = λ n. symbols.symbol_at t n ≡ symbol_meant new head j (symbols.symbol_at t n).top in
      subst P (sym (number_same old new j (λ v l. m.values v) was)) (symbol j was);
  values = λ j h.
      let was : is_id_cell (cell_at old j) ≡ true = sym (ids_kept old new j m) ∙ h in
      let P : ℕ → Type 0 = λ n. value_seen t n ≡ option_value_in new (symbol_in_cells new j).value in
      subst P (sym (number_same old new j (λ v l. m.values v) was)) (value j was);
}

numbers_apart : (law : IdentifiersAreNumbered) (old : List Cell) (j k : ℕ) → is_id_cell (cell_at old j) ≡ true → is_id_cell (cell_at old k) ≡ true → j ≢ k → ids_before old j ≢ ids_before old k
numbers_apart law old j k hj hk ne e = ne (law.distinct old j k hj hk e)

-- ---- in a world

abbrev pub with_list : World → List Cell → World
with_list w cells = record w { cells = record w.cells { cells = cells } }

numbered_kept : (old new : List Cell) (id : Tagged) (i : ℕ) → KeepsMeaning old new → ((v : Tagged) → is_id old v ≡ true → is_id new v ≡ true) → HasNumber old id i → HasNumber new id i
numbered_kept old new id i m ids n = record { is_id = ids id n.is_id; number = named_same old new id (λ v l. m.values v) n.is_id ∙ n.number }

pub set_grows : (law : IdentifiersAreNumbered) (w : World) (new : List Cell) (id : Tagged) (y : SymbolCells) → IsWorld w → IsTable new w.syms.head → Sets w.cells.cells new id y → WorldGrows w (with_list w new)
set_grows law w new id y i t sets =
    let old = w.cells.cells in
    let m = sets.rest in
    record {
      world = record {
        table = t;
        t = numbered_kept old new _ 1 m sets.ids i.t;
        message = numbered_kept old new _ 3 m sets.ids i.message;
        texts = record {
          string = λ n d l. string_kept old new (slice_index_or w.texts n d) m (i.texts.string n d l);
          text = λ n d l. bytes_kept old new (slice_index_or w.texts n d) m ∙ i.texts.text n d l;
        };
        running = running_changed w.cells w.counts new m.long i.running;
        levels = i.levels;
        made = made_stays law w new (λ k. ids_kept old new k m) i;
        expanding = expanding_kept old new w.counts.outermost sets.ids i.expanding;
      };
      live = λ v h. m.live v ∙ h;
      values = λ v h. m.values v;
    }

set_shown : (w : World) (new : List Cell) (s t : State) → KeepsMeaning w.cells.cells new → IsWorld w → ShowsState w s → ShowsSymbols new w.syms.head t
    → t.store ≡ s.store → t.counts ≡ s.counts → t.gensyms ≡ s.gensyms → t.outside ≡ s.outside → nearest message_id t ≡ None → ((j : ℕ) → length t.symbols ≤ j → nearest j t ≡ None) → ShowsState (with_list w new) t
set_shown w new s t m i shown y store counts gensyms outside free bound = record {
  store = store ∙ shown.store ∙ sym m.store;
  symbols = record { many = y.many; symbols = y.symbols; values = y.values };
  counts = counts ∙ shown.counts ∙ sym (counts_changed w.cells w.counts new m.long (λ v l. m.values v) i.expanding);
  gensyms = gensyms ∙ shown.gensyms;
  column = ap (λ (o : meaning.Outside). o.column) outside ∙ shown.column;
  line_length = ap (λ (o : meaning.Outside). o.line_length) outside ∙ shown.line_length;
  taken = ap (λ (o : meaning.Outside). o.taken) outside ∙ shown.taken;
  free = free;
  bound = bound;
}

pub set_final : (w : World) (cs : cell.CellStore) (y : Syms) → cs ≡ record w.cells { cells = cs.cells } → y ≡ w.syms → with_list w cs.cells ≡ record w { cells = cs; syms = y }
set_final w cs y e f = ap (λ x. record w { cells = x }) (sym e) ∙ ap (λ x. record w { cells = cs; syms = x }) (sym f)

-- ---- the value that is seen

value_symbol : (old new : List Cell) (head : Option Tagged) (k j : ℕ) (o : Option Tagged) → IsSetIn old new k (record (symbol_in_cells old k) { value = o }) → AlikeShown old new head head j
value_symbol old new head k j o s = go (j == k) refl
  where
    go : (b : Bool) → (j == k) ≡ b → AlikeShown old new head head j
    go true e =
        let at : j ≡ k = eqb-true j k e in
        let P : ℕ → Type 0 = λ n. AlikeShown old new head head n in
        subst P (sym at) (alike_kept old new head k s.rest (ap (λ (z : SymbolCells). z.plist) s.symbol) (ap (λ (z : SymbolCells). z.definition) s.symbol) (ap (λ (z : SymbolCells). z.kind) s.symbol))
    go false e = other_alike old new head k j _ s (eqb-false j k e)

pub cell_shown : (law : IdentifiersAreNumbered) (w : World) (new : List Cell) (id : Tagged) (o : Option Tagged) → IsWorld w → is_id w.cells.cells id ≡ true → Sets w.cells.cells new id (record (symbol_in_cells w.cells.cells (index_of id)) { value = o })
    → (s t : State) → ShowsState w s → SeenOtherwise (number_in w.cells.cells id) (option_value_in w.cells.cells o) s t → ShowsState (with_list w new) t
unfolding symbol_meant
cell_shown law w new id o i h sets s t shown r =
    let old = w.cells.cells in
    let head = w.syms.head in
    let k = index_of id in
    let here = set_in old new id _ h sets in
    set_shown w new s t sets.rest i shown
    (symbols_set law old new head t sets.rest (r.many ∙ shown.symbols.many)
    (λ j is. r.symbols (ids_before old j) ∙ ap (λ (y : meaning.Symbol). record y { top = (symbols.symbol_at t (ids_before old j)).top }) (shown.symbols.symbols j is)
    ∙ sym (symbol_like old new head head j (symbols.symbol_at t (ids_before old j)).top (value_symbol old new head k j o here)))
    (λ j is. value j is (j == k) refl here))
    r.store r.counts r.gensyms r.outside r.free r.bound
  where
    value : (j : ℕ) → is_id_cell (cell_at w.cells.cells j) ≡ true → (b : Bool) → (j == index_of id) ≡ b → IsSetIn w.cells.cells new (index_of id) (record (symbol_in_cells w.cells.cells (index_of id)) { value = o })
        → value_seen t (ids_before w.cells.cells j) ≡ option_value_in new (symbol_in_cells new j).value
    value j is true e here =
        let at : j ≡ index_of id = eqb-true j (index_of id) e in
        let P : ℕ → Type 0 = λ n. value_seen t (ids_before w.cells.cells n) ≡ option_value_in new (symbol_in_cells new n).value in
        subst P (sym at) (r.here ∙ sym (option_kept w.cells.cells new o here.rest) ∙ ap (λ (y : SymbolCells). option_value_in new y.value) (sym here.symbol))
    value j is false e here =
        let ne = eqb-false j (index_of id) e in
        r.others (ids_before w.cells.cells j) (numbers_apart law w.cells.cells j (index_of id) is here.was ne)
        ∙ shown.symbols.values j is
        ∙ sym (option_kept w.cells.cells new (symbol_in_cells w.cells.cells j).value here.rest)
        ∙ ap (λ (y : SymbolCells). option_value_in new y.value) (sym (other_symbol w.cells.cells new (index_of id) j _ here ne))

pub cell_seen : (w : World) (id : Tagged) (o : Option Tagged) → is_id w.cells.cells id ≡ true → o ≡ (symbol_in_cells w.cells.cells (index_of id)).value → (s : State) → ShowsState w s → value_seen s (number_in w.cells.cells id) ≡ option_value_in w.cells.cells o
cell_seen w id o i e s shown = shown.symbols.values (index_of id) (id_cell w.cells.cells id i) ∙ ap (option_value_in w.cells.cells) (sym e)

-- ---- the top value

pub top_at : (s : State) (i : ℕ) (v : Value) → i < length s.symbols → symbols.symbol_at (with_top i v s) i ≡ record (symbols.symbol_at s i) { top = Some v }
top_at s i v l = get_or-set_same s.symbols i (record (symbols.symbol_at s i) { top = Some v }) (new_symbol [] false) l

pub top_else : (s : State) (i j : ℕ) (v : Value) → j ≢ i → symbols.symbol_at (with_top i v s) j ≡ symbols.symbol_at s j
top_else s i j v ne = get_or-set_other s.symbols i j (record (symbols.symbol_at s i) { top = Some v }) (new_symbol [] false) ne

pub with_top_at : (s : State) (i j : ℕ) (v : Value) → i < length s.symbols → symbols.symbol_at (with_top i v s) j ≡ record (symbols.symbol_at s j) { top = (symbols.symbol_at (with_top i v s) j).top }
with_top_at s i j v l = go (j == i) refl
  where
    go : (b : Bool) → (j == i) ≡ b → symbols.symbol_at (with_top i v s) j ≡ record (symbols.symbol_at s j) { top = (symbols.symbol_at (with_top i v s) j).top }
    go true e =
        let at : j ≡ i = eqb-true j i e in
        let P : ℕ → Type 0 = λ n. symbols.symbol_at (with_top i v s) n ≡ record (symbols.symbol_at s n) { top = (symbols.symbol_at (with_top i v s) n).top } in
        let f = top_at s i v l in
        subst P (sym at) (f ∙ ap (λ t. record (symbols.symbol_at s i) { top = t }) (ap (λ (y : meaning.Symbol). y.top) (sym f)))
    go false e =
        let f = top_else s i j v (eqb-false j i e) in
        f ∙ ap (λ t. record (symbols.symbol_at s j) { top = t }) (ap (λ (y : meaning.Symbol). y.top) (sym f))

-- a variable without a binding is seen by its top value
pub seen_by_top : (s : State) (i : ℕ) (v : Value) → i < length s.symbols → nearest i s ≡ None → nearest message_id s ≡ None → ((j : ℕ) → length s.symbols ≤ j → nearest j s ≡ None) → SeenOtherwise i (Some v) s (with_top i v s)
seen_by_top s i v l none free bound = record {
  store = refl;
  many = length-set s.symbols i (record (symbols.symbol_at s i) { top = Some v });
  symbols = λ j. with_top_at s i j v l;
  counts = refl;
  gensyms = refl;
  outside = refl;
  here = ap (λ o. seen_of o (symbols.symbol_at (with_top i v s) i).top) none ∙ ap (λ (y : meaning.Symbol). y.top) (top_at s i v l);
  others = λ j ne. ap (λ (y : meaning.Symbol). seen_of (nearest j s) y.top) (top_else s i j v ne);
  free = free;
  bound = λ j m. bound j (subst (λ n. n ≤ j) (length-set s.symbols i (record (symbols.symbol_at s i) { top = Some v })) m);
}

pub message_shown : (law : IdentifiersAreNumbered) (w : World) (new : List Cell) (v : Tagged) → IsWorld w → Sets w.cells.cells new emsg_star_id (record (symbol_in_cells w.cells.cells (index_of emsg_star_id)) { value = Some v })
    → (s : State) → ShowsState w s → ShowsState (with_list w new) (with_top message_id (value_of w.cells.cells v) s)
message_shown law w new v i sets s shown =
    let old = w.cells.cells in
    let k = index_of emsg_star_id in
    let within : message_id < length s.symbols =
    subst (λ n. message_id < n) (sym shown.symbols.many) (subst (λ n. n < ids_before old (length old)) i.message.number (law.within old k (id_cell old emsg_star_id i.message.is_id))) in
    let r = seen_by_top s message_id (value_of old v) within shown.free shown.free shown.bound in
    cell_shown law w new emsg_star_id (Some v) i i.message.is_id sets s (with_top message_id (value_of old v) s) shown
    (let P : ℕ → Type 0 = λ n. SeenOtherwise n (Some (value_of old v)) s (with_top message_id (value_of old v) s) in subst P (sym i.message.number) r)

-- ---- another field of an identifier

-- the definition changes the symbol by f, which leaves the value below all bindings
pub field_shown : (law : IdentifiersAreNumbered) (w : World) (new : List Cell) (id : Tagged) (y : SymbolCells) (f : meaning.Symbol → meaning.Symbol) → IsWorld w → is_id w.cells.cells id ≡ true → Sets w.cells.cells new id y
    → y.value ≡ (symbol_in_cells w.cells.cells (index_of id)).value → ((x : meaning.Symbol) → (f x).top ≡ x.top)
    → ((top : Option Value) → f (symbol_meant w.cells.cells w.syms.head (index_of id) top) ≡ symbol_meant new w.syms.head (index_of id) top)
    → (s : State) → ShowsState w s → ShowsState (with_list w new) (with_symbol (number_in w.cells.cells id) (f (symbols.symbol_at s (number_in w.cells.cells id))) s)
field_shown law w new id y f i h sets value keeps meant s shown =
    let here = set_in w.cells.cells new id y h sets in
    set_shown w new s now sets.rest i shown
    (symbols_set law w.cells.cells new w.syms.head now sets.rest (length-set s.symbols n _ ∙ shown.symbols.many)
    (λ j is. symbol j is (j == k) refl here) (λ j is. seen j is (j == k) refl here))
    refl refl refl refl shown.free (λ j m. shown.bound j (subst (λ l. l ≤ j) (length-set s.symbols n (f (symbols.symbol_at s n))) m))
  where
    k : ℕ
    k = index_of id

    n : ℕ
    n = number_in w.cells.cells id

    now : State
    now = with_symbol n (f (symbols.symbol_at s n)) s

    at_here : IsSetIn w.cells.cells new k y → symbols.symbol_at now n ≡ f (symbols.symbol_at s n)
    at_here here = get_or-set_same s.symbols n (f (symbols.symbol_at s n)) (new_symbol [] false) (subst (λ m. n < m) (sym shown.symbols.many) (law.within w.cells.cells k here.was))

    at_other : (j : ℕ) → j ≢ n → symbols.symbol_at now j ≡ symbols.symbol_at s j
    at_other j ne = get_or-set_other s.symbols n j (f (symbols.symbol_at s n)) (new_symbol [] false) ne

    symbol : (j : ℕ) → is_id_cell (cell_at w.cells.cells j) ≡ true → (b : Bool) → (j == k) ≡ b → IsSetIn w.cells.cells new k y
        → symbols.symbol_at now (ids_before w.cells.cells j) ≡ symbol_meant new w.syms.head j (symbols.symbol_at now (ids_before w.cells.cells j)).top
    symbol j is true e here =
        let at : j ≡ k = eqb-true j k e in
        let P : ℕ → Type 0 = λ m. symbols.symbol_at now (ids_before w.cells.cells m) ≡ symbol_meant new w.syms.head m (symbols.symbol_at now (ids_before w.cells.cells m)).top in
        let top : (symbols.symbol_at now n).top ≡ (symbols.symbol_at s n).top = ap (λ (x : meaning.Symbol). x.top) (at_here here) ∙ keeps (symbols.symbol_at s n) in
        subst P (sym at) (at_here here ∙ ap f (shown.symbols.symbols k here.was) ∙ meant (symbols.symbol_at s n).top ∙ ap (symbol_meant new w.syms.head k) (sym top))
    symbol j is false e here =
        let ne = eqb-false j k e in
        let other = at_other (ids_before w.cells.cells j) (numbers_apart law w.cells.cells j k is here.was ne) in
        other ∙ shown.symbols.symbols j is
        ∙ sym (symbol_like w.cells.cells new w.syms.head w.syms.head j _ (other_alike w.cells.cells new w.syms.head k j y here ne))
        ∙ ap (λ (x : meaning.Symbol). symbol_meant new w.syms.head j x.top) (sym other)

    seen : (j : ℕ) → is_id_cell (cell_at w.cells.cells j) ≡ true → (b : Bool) → (j == k) ≡ b → IsSetIn w.cells.cells new k y
        → value_seen now (ids_before w.cells.cells j) ≡ option_value_in new (symbol_in_cells new j).value
    seen j is true e here =
        let at : j ≡ k = eqb-true j k e in
        let P : ℕ → Type 0 = λ m. value_seen now (ids_before w.cells.cells m) ≡ option_value_in new (symbol_in_cells new m).value in
        let top : (symbols.symbol_at now n).top ≡ (symbols.symbol_at s n).top = ap (λ (x : meaning.Symbol). x.top) (at_here here) ∙ keeps (symbols.symbol_at s n) in
        subst P (sym at) (ap (seen_of (nearest n s)) top ∙ shown.symbols.values k here.was ∙ sym (option_kept w.cells.cells new (symbol_in_cells w.cells.cells k).value here.rest)
        ∙ ap (option_value_in new) (sym value) ∙ ap (λ (x : SymbolCells). option_value_in new x.value) (sym here.symbol))
    seen j is false e here =
        let ne = eqb-false j k e in
        ap (λ (x : meaning.Symbol). seen_of (nearest (ids_before w.cells.cells j) s) x.top) (at_other (ids_before w.cells.cells j) (numbers_apart law w.cells.cells j k is here.was ne))
        ∙ shown.symbols.values j is
        ∙ sym (option_kept w.cells.cells new (symbol_in_cells w.cells.cells j).value here.rest)
        ∙ ap (λ (x : SymbolCells). option_value_in new x.value) (sym (other_symbol w.cells.cells new k j y here ne))

-- what is shown of the identifier that is set
symbol_parts : (old new : List Cell) (head : Option Tagged) (k : ℕ) (y : SymbolCells) (top : Option Value) → IsSetIn old new k y
    → symbol_meant new head k top ≡ record { name = table.name_in_cells old k; interned = is_listed k (ids_from old head); top = top; properties = value_of old y.plist; definition = definition_in old y.definition; kind = y.kind }
unfolding symbol_meant
symbol_parts old new head k y top s =
    ap (λ x. made x (is_listed k (ids_from new head)) (value_of new (symbol_in_cells new k).plist) (definition_in new (symbol_in_cells new k).definition) (symbol_in_cells new k).kind) (s.rest.names k)
    ∙ ap (λ x. made (table.name_in_cells old k) (is_listed k x) (value_of new (symbol_in_cells new k).plist) (definition_in new (symbol_in_cells new k).definition) (symbol_in_cells new k).kind) (s.rest.chains head)
    ∙ ap (λ (z : SymbolCells). made (table.name_in_cells old k) (is_listed k (ids_from old head)) (value_of new z.plist) (definition_in new z.definition) z.kind) s.symbol
    ∙ ap (λ x. made (table.name_in_cells old k) (is_listed k (ids_from old head)) x (definition_in new y.definition) y.kind) (s.rest.values y.plist)
    ∙ ap (λ x. made (table.name_in_cells old k) (is_listed k (ids_from old head)) (value_of old y.plist) x y.kind) (definition_kept old new y.definition s.rest)
  where
    made : List ℕ → Bool → Value → Option meaning.Definition → VarKind → meaning.Symbol
    made name listed plist definition kind = record { name = name; interned = listed; top = top; properties = plist; definition = definition; kind = kind }

-- one call of the names, in the world
pub record IsFieldSet (w x : World) (id : Tagged) (y : SymbolCells) : Type 0 where
  pub is : x ≡ with_list w x.cells.cells
  pub table : IsTable x.cells.cells w.syms.head
  pub sets : Sets w.cells.cells x.cells.cells id y

pub field_set : (w : World) (cs : cell.CellStore) (names : Syms) (id : Tagged) (y : SymbolCells) → cs ≡ record w.cells { cells = cs.cells } → names ≡ w.syms → IsTable cs.cells names.head → Sets w.cells.cells cs.cells id y
    → IsFieldSet w (record w { cells = cs; syms = names }) id y
field_set w cs names id y e f t sets = record {
  is = sym (set_final w cs names e f);
  table = subst (λ (n : Syms). IsTable cs.cells n.head) f t;
  sets = sets;
}

pub field_grows : (law : IdentifiersAreNumbered) (w x : World) (id : Tagged) (y : SymbolCells) → IsFieldSet w x id y → IsWorld w → WorldGrows w x
field_grows law w x id y s i = subst (λ z. WorldGrows w z) (sym s.is) (set_grows law w x.cells.cells id y i s.table s.sets)

pub field_rest : (law : CountsAreTaken) (stand : FunctionsStand) (w x : World) (id : Tagged) (y : SymbolCells) → is_id w.cells.cells id ≡ true → IsFieldSet w x id y → ObjectsAlone w x
field_rest law stand w x id y h s = record {
  rest = subst (λ (z : World). z ≡ record w { cells = z.cells; syms = z.syms; counts = z.counts }) (sym s.is) refl;
  counts = subst (λ (z : World). TakesTurnsAndCells w.counts z.counts) (sym s.is) (law.none w.counts);
  functions = stand.set w.cells.cells x.cells.cells id y h s.sets;
}

pub properties_shown : (law : IdentifiersAreNumbered) (w x : World) (id v : Tagged) → IsFieldSet w x id (record (symbol_in_cells w.cells.cells (index_of id)) { plist = v }) → IsWorld w → is_id w.cells.cells id ≡ true
    → (s : State) → ShowsState w s → ShowsState x (with_symbol (number_in w.cells.cells id) (record (symbols.symbol_at s (number_in w.cells.cells id)) { properties = value_of w.cells.cells v }) s)
unfolding symbol_meant
properties_shown law w x id v f i h s shown =
    subst (λ z. ShowsState z (with_symbol (number_in w.cells.cells id) (record (symbols.symbol_at s (number_in w.cells.cells id)) { properties = value_of w.cells.cells v }) s)) (sym f.is)
    (field_shown law w x.cells.cells id _ (λ y. record y { properties = value_of w.cells.cells v }) i h f.sets refl (λ y. refl)
    (λ top. sym (symbol_parts w.cells.cells x.cells.cells w.syms.head (index_of id) _ top (set_in w.cells.cells x.cells.cells id _ h f.sets))) s shown)

pub definition_shown : (law : IdentifiersAreNumbered) (w x : World) (id : Tagged) (d : Option (Kind × Tagged)) → IsFieldSet w x id (record (symbol_in_cells w.cells.cells (index_of id)) { definition = d }) → IsWorld w → is_id w.cells.cells id ≡ true
    → (s : State) → ShowsState w s → ShowsState x (with_symbol (number_in w.cells.cells id) (record (symbols.symbol_at s (number_in w.cells.cells id)) { definition = definition_in w.cells.cells d }) s)
unfolding symbol_meant
definition_shown law w x id d f i h s shown =
    subst (λ z. ShowsState z (with_symbol (number_in w.cells.cells id) (record (symbols.symbol_at s (number_in w.cells.cells id)) { definition = definition_in w.cells.cells d }) s)) (sym f.is)
    (field_shown law w x.cells.cells id _ (λ y. record y { definition = definition_in w.cells.cells d }) i h f.sets refl (λ y. refl)
    (λ top. sym (symbol_parts w.cells.cells x.cells.cells w.syms.head (index_of id) _ top (set_in w.cells.cells x.cells.cells id _ h f.sets))) s shown)

pub kind_shown : (law : IdentifiersAreNumbered) (w x : World) (id : Tagged) (kind : VarKind) → IsFieldSet w x id (record (symbol_in_cells w.cells.cells (index_of id)) { kind = kind }) → IsWorld w → is_id w.cells.cells id ≡ true
    → (s : State) → ShowsState w s → ShowsState x (with_symbol (number_in w.cells.cells id) (record (symbols.symbol_at s (number_in w.cells.cells id)) { kind = kind }) s)
unfolding symbol_meant
kind_shown law w x id kind f i h s shown =
    subst (λ z. ShowsState z (with_symbol (number_in w.cells.cells id) (record (symbols.symbol_at s (number_in w.cells.cells id)) { kind = kind }) s)) (sym f.is)
    (field_shown law w x.cells.cells id _ (λ y. record y { kind = kind }) i h f.sets refl (λ y. refl)
    (λ top. sym (symbol_parts w.cells.cells x.cells.cells w.syms.head (index_of id) _ top (set_in w.cells.cells x.cells.cells id _ h f.sets))) s shown)

-- ---- what an identifier has is read

symbol_read : (w : World) (id : Tagged) → is_id w.cells.cells id ≡ true → (s : State) → ShowsState w s → symbols.symbol_at s (number_in w.cells.cells id) ≡ symbol_meant w.cells.cells w.syms.head (index_of id) (symbols.symbol_at s (number_in w.cells.cells id)).top
symbol_read w id h s shown = shown.symbols.symbols (index_of id) (id_cell w.cells.cells id h)

pub properties_read : (w : World) (id v : Tagged) → is_id w.cells.cells id ≡ true → v ≡ (symbol_in_cells w.cells.cells (index_of id)).plist → (s : State) → ShowsState w s → (symbols.symbol_at s (number_in w.cells.cells id)).properties ≡ value_of w.cells.cells v
unfolding symbol_meant
properties_read w id v h e s shown = ap (λ (y : meaning.Symbol). y.properties) (symbol_read w id h s shown) ∙ ap (value_of w.cells.cells) (sym e)

pub definition_read : (w : World) (id : Tagged) (d : Option (Kind × Tagged)) → is_id w.cells.cells id ≡ true → d ≡ (symbol_in_cells w.cells.cells (index_of id)).definition → (s : State) → ShowsState w s → (symbols.symbol_at s (number_in w.cells.cells id)).definition ≡ definition_in w.cells.cells d
unfolding symbol_meant
definition_read w id d h e s shown = ap (λ (y : meaning.Symbol). y.definition) (symbol_read w id h s shown) ∙ ap (definition_in w.cells.cells) (sym e)

pub kind_read : (w : World) (id : Tagged) (kind : VarKind) → is_id w.cells.cells id ≡ true → kind ≡ (symbol_in_cells w.cells.cells (index_of id)).kind → (s : State) → ShowsState w s → (symbols.symbol_at s (number_in w.cells.cells id)).kind ≡ kind
unfolding symbol_meant
kind_read w id kind h e s shown = ap (λ (y : meaning.Symbol). y.kind) (symbol_read w id h s shown) ∙ sym e

pub name_read : (w : World) (id v : Tagged) → is_id w.cells.cells id ≡ true → v ≡ (symbol_in_cells w.cells.cells (index_of id)).name → (s : State) → ShowsState w s → (symbols.symbol_at s (number_in w.cells.cells id)).name ≡ bytes_of w.cells.cells v
unfolding symbol_meant
name_read w id v h e s shown = ap (λ (y : meaning.Symbol). y.name) (symbol_read w id h s shown) ∙ ap (bytes_of w.cells.cells) (sym e)
