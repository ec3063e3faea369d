-- What is shown of identifiers stays where cells keep it: numbers, names, chains and the meaning of what lives.
use Rattle.std.proofs.Common.{◌≡◌, ℕ, zero, suc, ◌+◌, ◌<◌, ◌%◌, Bool, true, false, nat_le, cond, List, [], ◌∷◌, length, get_or, Option, Some, None, refl, sym, ap, ◌∙◌, arith}
use Rattle.std.specs.Prelude.{IsSome}
use Rattle.std.specs.List.{list_all}
use Rattle.std.proofs.Math.ListN.{get_or-eq_default}
use Rattle.std.proofs.lemmas.Bool.{and_parts, leb-true, leb-false}
use Rattle.rl_tags.specs.Tagged.{Tagged, Number, IdAt, StrAt, PairAt, VectorAt, BigAt, FunAt, index_of, tagged_of}
use Rattle.rl_tree.specs.Value.{Value, Id}
use Rattle.rl_tree.specs.declared.held.Kind.{Kind}
use Rattle.rl_tree.specs.declared.held.VarKind.{VarKind}
use Rattle.rl_cells.specs.Cell.{Cell, PairCell, StrCell, VectorCell, BigCell, BlockCell, More, IsClosed, cell_at, is_closed_cell, is_id_cell, is_live, is_live_word, is_str, bytes_of, words_in}
use Rattle.rl_syms.specs.Contents.{ids_before, value_of}
use Rattle.rl_syms.specs.Numbers.{IdentifiersAreNumbered}
use Rattle.rl_syms.specs.Table as table
use Rattle.rl_syms.specs.Table.{IsTable, SymbolCells, chain, ids_from, is_id, held_in, kind_in_word, next_at, of_kind, rank_of, symbol_in_cells}
use Rattle.rl_syms.specs.Frame.{KeepsIdentifiers}
use Rattle.rl_syms.specs.Laws.{IsKept}
use Rattle.rl_syms.specs.Opened.{IsBlank}
use Rattle.rl_meaning.specs.State.{State}
use Rattle.rl_meaning.specs.State as meaning
use Rattle.rl_meaning.specs.Symbols.{new_symbol, nil_value_of_state}
use Rattle.rl_state.specs.ShownState.{ShowsSymbols, is_listed, definition_in, number_in, option_value_in, pointer_named, symbol_meant}

-- ---- identifiers

pub id_inside : (cells : List Cell) (k : ℕ) → is_id_cell (cell_at cells k) ≡ true → k < length cells
id_inside cells k h = go (nat_le (length cells) k) refl
  where
    go : (b : Bool) → nat_le (length cells) k ≡ b → k < length cells
    go true e =
        let past : cell_at cells k ≡ More = get_or-eq_default cells More (leb-true (length cells) k e) in
        let no_id : false ≡ true = sym (ap is_id_cell past) ∙ h in
        absurd (cc)
    go false e = leb-false (length cells) k e

pub id_cell : (cells : List Cell) (id : Tagged) → is_id cells id ≡ true → is_id_cell (cell_at cells (index_of id)) ≡ true
id_cell cells (IdAt k) h = h
id_cell cells (Number k) h = absurd (cc)
id_cell cells (StrAt k) h = absurd (cc)
id_cell cells (PairAt k) h = absurd (cc)
id_cell cells (VectorAt k) h = absurd (cc)
id_cell cells (BigAt k) h = absurd (cc)
id_cell cells (FunAt k) h = absurd (cc)

pub id_live : (cells : List Cell) (id : Tagged) → is_id cells id ≡ true → is_live cells id ≡ true
id_live cells (IdAt k) h = h
id_live cells (Number k) h = absurd (cc)
id_live cells (StrAt k) h = absurd (cc)
id_live cells (PairAt k) h = absurd (cc)
id_live cells (VectorAt k) h = absurd (cc)
id_live cells (BigAt k) h = absurd (cc)
id_live cells (FunAt k) h = absurd (cc)

-- ---- what lives means what it meant

abbrev pub SameValues : List Cell → List Cell → Type 0
SameValues old new = (v : Tagged) → is_live old v ≡ true → value_of new v ≡ value_of old v

id_number : Value → ℕ
id_number (Id i) = i
id_number v = 0

pub same_id : (i j : ℕ) → Id i ≡ Id j → i ≡ j
unfolding id_number
same_id i j e = ap id_number e

pub number_same : (old new : List Cell) (k : ℕ) → SameValues old new → is_id_cell (cell_at old k) ≡ true → ids_before new k ≡ ids_before old k
number_same old new k same h = same_id (ids_before new k) (ids_before old k) (same (IdAt k) h)

pub named_same : (old new : List Cell) (id : Tagged) → SameValues old new → is_id old id ≡ true → number_in new id ≡ number_in old id
named_same old new id same h = number_same old new (index_of id) same (id_cell old id h)

-- as many identifiers
pub all_ids_same : (law : IdentifiersAreNumbered) (old new : List Cell) → ((k : ℕ) → is_id_cell (cell_at new k) ≡ is_id_cell (cell_at old k)) → ids_before new (length new) ≡ ids_before old (length old)
all_ids_same law old new b =
    let turned : length new + length old ≡ length old + length new = omega arith in
    sym (law.past new (length new + length old) (omega arith)) ∙ law.same old new (length new + length old) (λ j l. b j) ∙ law.past old (length new + length old) (omega arith)

-- ---- what identifiers hold is live

list_all_get : (p : ℕ → Bool) (xs : List ℕ) (i : ℕ) → list_all p xs ≡ true → i < length xs → p (get_or xs i 0) ≡ true
list_all_get p [] i h l = absurd (omega arith)
list_all_get p (x ∷ xs) zero h l = (and_parts (p x) (list_all p xs) h).0
list_all_get p (x ∷ xs) (suc i) h l = list_all_get p xs i (and_parts (p x) (list_all p xs) h).1 (omega arith)

pub words_live : (cells : List Cell) (k i : ℕ) → IsClosed cells → i < length (words_in (cell_at cells k)) → is_live_word cells (get_or (words_in (cell_at cells k)) i 0) ≡ true
words_live cells k i c = go (cell_at cells k) (c.at k)
  where
    go : (d : Cell) → is_closed_cell cells d ≡ true → i < length (words_in d) → is_live_word cells (get_or (words_in d) i 0) ≡ true
    go (BlockCell t words) h l = list_all_get (is_live_word cells) words i h l
    go (PairCell a d) h l = absurd (omega arith)
    go (StrCell bytes) h l = absurd (omega arith)
    go (VectorCell xs) h l = absurd (omega arith)
    go (BigCell z) h l = absurd (omega arith)
    go More h l = absurd (omega arith)

-- what a live word holds is live
pub held_live : (cells : List Cell) (w : ℕ) (v : Tagged) → is_live_word cells w ≡ true → held_in w ≡ Some v → is_live cells v ≡ true
held_live cells w v h e = go (nat_le (w % 16) 6) h e
  where
    go : (b : Bool) → cond b (is_live cells (tagged_of w)) true ≡ true → cond b (Some (tagged_of w)) None ≡ Some v → is_live cells v ≡ true
    go true h e = let same : tagged_of w ≡ v = cc in rw same at h
    go false h e = absurd (cc)

pub held_is : (w : ℕ) → IsSome (held_in w) → held_in w ≡ Some (tagged_of w)
held_is w = go (nat_le (w % 16) 6)
  where
    go : (b : Bool) → IsSome (cond b (Some (tagged_of w)) None) → cond b (Some (tagged_of w)) None ≡ Some (tagged_of w)
    go true h = refl
    go false h = absurd (cc)

pub held_tagged : (w : ℕ) (v : Tagged) → held_in w ≡ Some v → tagged_of w ≡ v
held_tagged w v = go (nat_le (w % 16) 6)
  where
    go : (b : Bool) → cond b (Some (tagged_of w)) None ≡ Some v → tagged_of w ≡ v
    go true h = cc
    go false h = absurd (cc)

definition_same : (old new : List Cell) (kind : Kind) (w : ℕ) → is_live_word old w ≡ true → SameValues old new → definition_in new (of_kind kind (held_in w)) ≡ definition_in old (of_kind kind (held_in w))
definition_same old new kind w h same = go (held_in w) refl
  where
    go : (o : Option Tagged) → o ≡ held_in w → definition_in new (of_kind kind o) ≡ definition_in old (of_kind kind o)
    go None e = refl
    go (Some v) e = ap (λ x. Some (record { kind = kind; function = pointer_named x })) (same v (held_live old w v h (sym e)))

pub option_same : (old new : List Cell) (w : ℕ) → is_live_word old w ≡ true → SameValues old new → option_value_in new (held_in w) ≡ option_value_in old (held_in w)
option_same old new w h same = go (held_in w) refl
  where
    go : (o : Option Tagged) → o ≡ held_in w → option_value_in new o ≡ option_value_in old o
    go None e = refl
    go (Some v) e = ap Some (same v (held_live old w v h (sym e)))

-- a name is live
pub name_string : (cells : List Cell) (head : Option Tagged) (k : ℕ) → IsTable cells head → is_id_cell (cell_at cells k) ≡ true → is_str cells (symbol_in_cells cells k).name ≡ true
name_string cells head k t h =
    let n = t.chained.named k h in
    let w = get_or (words_in (cell_at cells k)) 0 0 in
    let held : tagged_of w ≡ n.text = held_tagged w n.text n.is in
    rw held n.string

-- the property list of an identifier is live
pub plist_live : (cells : List Cell) (head : Option Tagged) (k : ℕ) → IsTable cells head → IsClosed cells → is_id_cell (cell_at cells k) ≡ true → is_live cells (symbol_in_cells cells k).plist ≡ true
plist_live cells head k t c h =
    let six : length (words_in (cell_at cells k)) ≡ 6 = t.chained.six k h in
    held_live cells (get_or (words_in (cell_at cells k)) 2 0) _ (words_live cells k 2 c (omega arith)) (held_is (get_or (words_in (cell_at cells k)) 2 0) (t.chained.listed k h))

-- ---- what is shown of an identifier

-- two cells have the same of an identifier, but for the value
pub record AlikeShown (old new : List Cell) (before after : Option Tagged) (k : ℕ) : Type 0 where
  pub name : table.name_in_cells new k ≡ table.name_in_cells old k
  pub listed : is_listed k (ids_from new after) ≡ is_listed k (ids_from old before)
  pub plist : value_of new (symbol_in_cells new k).plist ≡ value_of old (symbol_in_cells old k).plist
  pub definition : definition_in new (symbol_in_cells new k).definition ≡ definition_in old (symbol_in_cells old k).definition
  pub kind : (symbol_in_cells new k).kind ≡ (symbol_in_cells old k).kind

abbrev symbol_from : Option Value → List ℕ → Bool → Value → Option meaning.Definition → VarKind → meaning.Symbol
symbol_from top name listed plist definition kind = record { name = name; interned = listed; top = top; properties = plist; definition = definition; kind = kind }

pub symbol_like : (old new : List Cell) (before after : Option Tagged) (k : ℕ) (top : Option Value) → AlikeShown old new before after k → symbol_meant new after k top ≡ symbol_meant old before k top
unfolding symbol_meant
symbol_like old new before after k top a =
    let y = symbol_in_cells new k in
    let z = symbol_in_cells old k in
    ap (λ x. symbol_from top x (is_listed k (ids_from new after)) (value_of new y.plist) (definition_in new y.definition) y.kind) a.name
    ∙ ap (λ x. symbol_from top (table.name_in_cells old k) x (value_of new y.plist) (definition_in new y.definition) y.kind) a.listed
    ∙ ap (λ x. symbol_from top (table.name_in_cells old k) (is_listed k (ids_from old before)) x (definition_in new y.definition) y.kind) a.plist
    ∙ ap (λ x. symbol_from top (table.name_in_cells old k) (is_listed k (ids_from old before)) (value_of old z.plist) x y.kind) a.definition
    ∙ ap (λ x. symbol_from top (table.name_in_cells old k) (is_listed k (ids_from old before)) (value_of old z.plist) (definition_in old z.definition) x) a.kind

-- a blank identifier is a new symbol
pub blank_symbol : (cells : List Cell) (head : Option Tagged) (k : ℕ) (name : List ℕ) (listed : Bool) → IsTable cells head → table.name_in_cells cells k ≡ name → is_listed k (ids_from cells head) ≡ listed → IsBlank (symbol_in_cells cells k)
    → symbol_meant cells head k None ≡ new_symbol name listed
unfolding symbol_meant
blank_symbol cells head k name listed t named among blank =
    let y = symbol_in_cells cells k in
    ap (λ x. symbol_from None x (is_listed k (ids_from cells head)) (value_of cells y.plist) (definition_in cells y.definition) y.kind) named
    ∙ ap (λ x. symbol_from None name x (value_of cells y.plist) (definition_in cells y.definition) y.kind) among
    ∙ ap (λ x. symbol_from None name listed x (definition_in cells y.definition) y.kind) (ap (value_of cells) blank.plist ∙ ap Id t.first)
    ∙ ap (λ x. symbol_from None name listed nil_value_of_state (definition_in cells x) y.kind) blank.definition
    ∙ ap (λ x. symbol_from None name listed nil_value_of_state None x) blank.kind

-- the cells of the identifier are the same, and what lives means the same
pub alike_stood : (old new : List Cell) (before after : Option Tagged) (k : ℕ) → IsTable old before → IsClosed old → SameValues old new → ((v : Tagged) → is_str old v ≡ true → bytes_of new v ≡ bytes_of old v)
    → is_listed k (ids_from new after) ≡ is_listed k (ids_from old before) → is_id_cell (cell_at old k) ≡ true → symbol_in_cells new k ≡ symbol_in_cells old k → AlikeShown old new before after k
alike_stood old new before after k t c same texts listed h e =
    let six = t.chained.six k h in
    record {
      name = ap (λ (y : SymbolCells). bytes_of new y.name) e ∙ texts _ (name_string old before k t h);
      listed = listed;
      plist = ap (λ (y : SymbolCells). value_of new y.plist) e ∙ same _ (plist_live old before k t c h);
      definition = ap (λ (y : SymbolCells). definition_in new y.definition) e ∙ definition_same old new (kind_in_word (get_or (words_in (cell_at old k)) 4 0)) (get_or (words_in (cell_at old k)) 3 0) (words_live old k 3 c (omega arith)) same;
      kind = ap (λ (y : SymbolCells). y.kind) e;
    }

pub value_stood : (old new : List Cell) (head : Option Tagged) (k : ℕ) → IsTable old head → IsClosed old → SameValues old new → is_id_cell (cell_at old k) ≡ true → symbol_in_cells new k ≡ symbol_in_cells old k
    → option_value_in new (symbol_in_cells new k).value ≡ option_value_in old (symbol_in_cells old k).value
value_stood old new head k t c same h e =
    let six = t.chained.six k h in
    ap (λ (y : SymbolCells). option_value_in new y.value) e ∙ option_same old new _ (words_live old k 1 c (omega arith)) same

pub symbols_kept : (law : IsKept) (numbers : IdentifiersAreNumbered) (old new : List Cell) (head : Option Tagged) (s : State) → KeepsIdentifiers old new → IsTable old head → IsClosed old → SameValues old new
    → ShowsSymbols old head s → ShowsSymbols new head s
symbols_kept law numbers old new head s b t c same shown =
    let chains : ids_from new head ≡ ids_from old head = law.chains old new head b t in
    let id_same : (k : ℕ) → is_id_cell (cell_at new k) ≡ is_id_cell (cell_at old k) = λ k. law.ids old new (IdAt k) b in
    record {
      many = shown.many ∙ sym (all_ids_same numbers old new id_same);
      symbols = λ k h.
          let was : is_id_cell (cell_at old k) ≡ true = sym (id_same k) ∙ h in
          let number = number_same old new k same was in
          rw number (shown.symbols k was ∙ sym (symbol_like old new head head k _ (alike_stood old new head head k t c same b.texts (ap (is_listed k) chains) was (law.symbols old new k b was))));
      values = λ k h.
          let was : is_id_cell (cell_at old k) ≡ true = sym (id_same k) ∙ h in
          let number = number_same old new k same was in
          rw number (shown.values k was ∙ sym (value_stood old new head k t c same was (law.symbols old new k b was)));
    }
