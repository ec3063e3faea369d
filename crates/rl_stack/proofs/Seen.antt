-- What is seen of variables as they are bound, set and bound no longer.
use Rattle.std.proofs.Common.{◌≡◌, ◌≢◌, ℕ, ◌<◌, ◌≤◌, Bool, true, false, ◌==◌, List, [], ◌∷◌, length, Option, Some, None, refl, sym, ap, subst, ◌∙◌, arith}
use Rattle.std.proofs.lemmas.Bool.{eqb-true, eqb-false}
use Rattle.std.proofs.lemmas.List.{get_or-set_same, get_or-set_other, length-set}
use Rattle.rl_tags.specs.Tagged.{Tagged, Number, IdAt, StrAt, PairAt, VectorAt, BigAt, FunAt, index_of}
use Rattle.rl_tags.specs.Ids.{emsg_star_id}
use Rattle.rl_tree.specs.Value.{Value}
use Rattle.rl_cells.specs.Cell.{Cell}
use Rattle.rl_syms.specs.Contents.{ids_before}
use Rattle.rl_syms.specs.Numbers.{IdentifiersAreNumbered}
use Rattle.rl_syms.specs.Table.{is_id}
use Rattle.rl_world.specs.declared.world.World.{World}
use Rattle.rl_meaning.specs.State.{State, Symbol, Entry, Binding, Mark, Scope, Pointer}
use Rattle.rl_meaning.specs.Symbols.{message_id, new_symbol, symbol_at, with_top}
use Rattle.rl_meaning.specs.Variables.{Nearest, nearest, nearest_from, with_binding, with_mark, with_nearest}
use Rattle.rl_state.specs.ShownState.{ShowsState, number_in, seen_of, symbol_meant, value_seen}
use Rattle.rl_state.specs.Worlds.{IsWorld, SeenOtherwise}
use Rattle.rl_stack.specs.ShowsStack.{IsVariable, tops_of, value_below}
use Rattle.rl_stack.proofs.EntriesKept.{eqb-refl, id_cell, neq-eqb, seen_below}

-- ---- numbers of identifiers

pub within : (law : IdentifiersAreNumbered) (w : World) (id : Tagged) (s : State) → is_id w.cells.cells id ≡ true → ShowsState w s → number_in w.cells.cells id < length s.symbols
within law w id s i h =
    let l = law.within w.cells.cells (index_of id) (id_cell w.cells.cells id i) in
    omega (arith, l, h.symbols.many)

-- identifiers at one place are one
same_place : (cells : List Cell) (x y : Tagged) → is_id cells x ≡ true → is_id cells y ≡ true → index_of x ≡ index_of y → x ≡ y
same_place cells (IdAt k) (IdAt j) h i e = ap IdAt e
same_place cells (Number k) y h i e = absurd (cc)
same_place cells (StrAt k) y h i e = absurd (cc)
same_place cells (PairAt k) y h i e = absurd (cc)
same_place cells (VectorAt k) y h i e = absurd (cc)
same_place cells (BigAt k) y h i e = absurd (cc)
same_place cells (FunAt k) y h i e = absurd (cc)
same_place cells (IdAt k) (Number j) h i e = absurd (cc)
same_place cells (IdAt k) (StrAt j) h i e = absurd (cc)
same_place cells (IdAt k) (PairAt j) h i e = absurd (cc)
same_place cells (IdAt k) (VectorAt j) h i e = absurd (cc)
same_place cells (IdAt k) (BigAt j) h i e = absurd (cc)
same_place cells (IdAt k) (FunAt j) h i e = absurd (cc)

pub same_number : (law : IdentifiersAreNumbered) (cells : List Cell) (x y : Tagged) → is_id cells x ≡ true → is_id cells y ≡ true → number_in cells x ≡ number_in cells y → x ≡ y
same_number law cells x y h i e = same_place cells x y h i (law.distinct cells (index_of x) (index_of y) (id_cell cells x h) (id_cell cells y i) e)

pub not_message : (law : IdentifiersAreNumbered) (w : World) (id : Tagged) → IsWorld w → IsVariable w.cells.cells id → number_in w.cells.cells id ≢ message_id
not_message law w id i v e = v.bindable (same_number law w.cells.cells id emsg_star_id v.is_id i.message.is_id (e ∙ sym i.message.number))

-- ---- states that are seen alike

pub record SeenAlike (s t : State) : Type 0 where
  pub store : t.store ≡ s.store
  pub many : length t.symbols ≡ length s.symbols
  pub symbols : (j : ℕ) → symbol_at t j ≡ record (symbol_at s j) { top = (symbol_at t j).top }
  pub counts : t.counts ≡ s.counts
  pub gensyms : t.gensyms ≡ s.gensyms
  pub outside : t.outside ≡ s.outside
  pub seen : (j : ℕ) → value_seen t j ≡ value_seen s j
  pub free : nearest message_id t ≡ None
  pub bound : (j : ℕ) → length t.symbols ≤ j → nearest j t ≡ None

pub shows_alike : (w : World) (s t : State) → ShowsState w s → SeenAlike s t → ShowsState w t
unfolding symbol_meant
shows_alike w s t h r = record {
  store = r.store ∙ h.store;
  symbols = record {
    many = r.many ∙ h.symbols.many;
    symbols = λ k i. r.symbols (ids_before w.cells.cells k) ∙ ap (λ (y : Symbol). record y { top = (symbol_at t (ids_before w.cells.cells k)).top }) (h.symbols.symbols k i);
    values = λ k i. r.seen (ids_before w.cells.cells k) ∙ h.symbols.values k i;
  };
  counts = r.counts ∙ h.counts;
  gensyms = r.gensyms ∙ h.gensyms;
  column = ap (λ o. o.column) r.outside ∙ h.column;
  line_length = ap (λ o. o.line_length) r.outside ∙ h.line_length;
  taken = ap (λ o. o.taken) r.outside ∙ h.taken;
  free = r.free;
  bound = r.bound;
}

-- ---- marks

pub none_flag : (a b : Bool) (i : ℕ) (entries : List Entry) → nearest_from a i entries ≡ None → nearest_from b i entries ≡ None
none_flag a b i [] h = refl
none_flag a b i (Mark f ∷ entries) h = h
none_flag a b i (Binding y scope v ∷ entries) h = go (i == y) refl (none_flag a b i entries)
  where
    go : (z : Bool) → (i == y) ≡ z → (nearest_from a i entries ≡ None → nearest_from b i entries ≡ None) → nearest_from b i (Binding y scope v ∷ entries) ≡ None
    go true e r = absurd (let n : Some (record { scope = scope; value = v; below = a }) ≡ None = rw e at h in cc)
    go false e r = let rest : nearest_from a i entries ≡ None = rw e at h in rw e (r rest)

pub alike_marked : (m : Option Pointer) (s : State) → nearest message_id s ≡ None → ((j : ℕ) → length s.symbols ≤ j → nearest j s ≡ None) → SeenAlike s (with_mark m s)
alike_marked m s free bound = record {
  store = refl;
  many = refl;
  symbols = λ j. refl;
  counts = refl;
  gensyms = refl;
  outside = refl;
  seen = λ j. seen_below true j (tops_of s j) s.bindings ∙ sym (seen_below false j (tops_of s j) s.bindings);
  free = none_flag false true message_id s.bindings free;
  bound = λ j l. none_flag false true j s.bindings (bound j l);
}

pub alike_unmarked : (m : Option Pointer) (entries : List Entry) (s : State) → s.bindings ≡ Mark m ∷ entries → nearest message_id s ≡ None → ((j : ℕ) → length s.symbols ≤ j → nearest j s ≡ None) → SeenAlike s (record s { bindings = entries })
alike_unmarked m entries s e free bound = record {
  store = refl;
  many = refl;
  symbols = λ j. refl;
  counts = refl;
  gensyms = refl;
  outside = refl;
  seen = λ j. seen_below false j (tops_of s j) entries ∙ sym (ap (value_below j (tops_of s j)) e) ∙ sym (seen_below false j (tops_of s j) s.bindings);
  free = none_flag true false message_id entries (ap (nearest_from false message_id) (sym e) ∙ free);
  bound = λ j l. none_flag true false j entries (ap (nearest_from false j) (sym e) ∙ bound j l);
}

-- ---- a binding

pub seen_bound : (x : ℕ) (scope : Scope) (v : Value) (s : State) → x < length s.symbols → nearest message_id s ≡ None → ((j : ℕ) → length s.symbols ≤ j → nearest j s ≡ None) → x ≢ message_id → SeenOtherwise x (Some v) s (with_binding x scope v s)
seen_bound x scope v s l free bound ne = record {
  store = refl;
  many = refl;
  symbols = λ j. refl;
  counts = refl;
  gensyms = refl;
  outside = refl;
  here = rw (eqb-refl x) refl;
  others = λ j n. rw (neq-eqb j x n) refl;
  free = rw (neq-eqb message_id x (λ e. ne (sym e))) free;
  bound = λ j k. let n : (j == x) ≡ false = neq-eqb j x (λ e. absurd (omega (arith, l, k, e))) in rw n (bound j k);
}

-- ---- the end of a binding

tail_none : (x j : ℕ) (scope : Scope) (v : Value) (entries : List Entry) → nearest_from false j (Binding x scope v ∷ entries) ≡ None → nearest_from false j entries ≡ None
tail_none x j scope v entries h = go (j == x) refl
  where
    go : (b : Bool) → (j == x) ≡ b → nearest_from false j entries ≡ None
    go true e = absurd (let n : Some (record { scope = scope; value = v; below = false }) ≡ None = rw e at h in cc)
    go false e = rw e at h

pub seen_unbound : (x : ℕ) (scope : Scope) (v : Value) (entries : List Entry) (o : Option Value) (s : State) → s.bindings ≡ Binding x scope v ∷ entries → o ≡ value_below x (tops_of s x) entries → nearest message_id s ≡ None → ((j : ℕ) → length s.symbols ≤ j → nearest j s ≡ None)
    → SeenOtherwise x o s (record s { bindings = entries })
seen_unbound x scope v entries o s e is free bound = record {
  store = refl;
  many = refl;
  symbols = λ j. refl;
  counts = refl;
  gensyms = refl;
  outside = refl;
  here = seen_below false x (tops_of s x) entries ∙ sym is;
  others = λ j n.
      let tail : value_below j (tops_of s j) (Binding x scope v ∷ entries) ≡ value_below j (tops_of s j) entries = rw (neq-eqb j x n) refl in
      seen_below false j (tops_of s j) entries ∙ sym tail ∙ sym (ap (value_below j (tops_of s j)) e) ∙ sym (seen_below false j (tops_of s j) s.bindings);
  free = tail_none x message_id scope v entries (ap (nearest_from false message_id) (sym e) ∙ free);
  bound = λ j l. tail_none x j scope v entries (ap (nearest_from false j) (sym e) ∙ bound j l);
}

-- ---- a setting

pub below_else : (x y : ℕ) (v : Value) (top : Option Value) (entries : List Entry) → y ≢ x → value_below y top (with_nearest x v entries) ≡ value_below y top entries
below_else x y v top [] ne = refl
below_else x y v top (Mark f ∷ entries) ne = below_else x y v top entries ne
below_else x y v top (Binding z scope u ∷ entries) ne = go (x == z) refl (below_else x y v top entries ne)
  where
    go : (b : Bool) → (x == z) ≡ b → value_below y top (with_nearest x v entries) ≡ value_below y top entries → value_below y top (with_nearest x v (Binding z scope u ∷ entries)) ≡ value_below y top (Binding z scope u ∷ entries)
    go true e r =
        let other : (y == z) ≡ false = neq-eqb y z (λ f. ne (f ∙ sym (eqb-true x z e))) in
        rw (e, other) refl
    go false e r = rw (e, r) refl

below_here : (x : ℕ) (v : Value) (top : Option Value) (below : Bool) (b : Nearest) (entries : List Entry) → nearest_from below x entries ≡ Some b → value_below x top (with_nearest x v entries) ≡ Some v
below_here x v top below b [] h = absurd (cc)
below_here x v top below b (Mark f ∷ entries) h = below_here x v top true b entries h
below_here x v top below b (Binding z scope u ∷ entries) h = go (x == z) refl (below_here x v top below b entries)
  where
    go : (y : Bool) → (x == z) ≡ y → (nearest_from below x entries ≡ Some b → value_below x top (with_nearest x v entries) ≡ Some v) → value_below x top (with_nearest x v (Binding z scope u ∷ entries)) ≡ Some v
    go true e r = rw e (rw e refl)
    go false e r =
        let rest : nearest_from below x entries ≡ Some b = rw e at h in
        rw e (rw e (r rest))

none_set : (x j : ℕ) (v : Value) (below : Bool) (entries : List Entry) → nearest_from below j entries ≡ None → nearest_from below j (with_nearest x v entries) ≡ None
none_set x j v below [] h = refl
none_set x j v below (Mark f ∷ entries) h = none_set x j v true entries h
none_set x j v below (Binding z scope u ∷ entries) h = go (j == z) (x == z) refl refl (none_set x j v below entries)
  where
    go : (a b : Bool) → (j == z) ≡ a → (x == z) ≡ b → (nearest_from below j entries ≡ None → nearest_from below j (with_nearest x v entries) ≡ None) → nearest_from below j (with_nearest x v (Binding z scope u ∷ entries)) ≡ None
    go true b e f r = absurd (let n : Some (record { scope = scope; value = u; below = below }) ≡ None = rw e at h in cc)
    go false true e f r =
        let rest : nearest_from below j entries ≡ None = rw e at h in
        rw f (rw e rest)
    go false false e f r =
        let rest : nearest_from below j entries ≡ None = rw e at h in
        rw f (rw e (r rest))

pub top_at : (s : State) (i : ℕ) (v : Value) → i < length s.symbols → symbol_at (with_top i v s) i ≡ record (symbol_at s i) { top = Some v }
top_at s i v l = get_or-set_same s.symbols i (record (symbol_at s i) { top = Some v }) (new_symbol [] false) l

pub top_else : (s : State) (i j : ℕ) (v : Value) → j ≢ i → symbol_at (with_top i v s) j ≡ symbol_at s j
top_else s i j v ne = get_or-set_other s.symbols i j (record (symbol_at s i) { top = Some v }) (new_symbol [] false) ne

pub with_top_at : (s : State) (i j : ℕ) (v : Value) → i < length s.symbols → symbol_at (with_top i v s) j ≡ record (symbol_at s j) { top = (symbol_at (with_top i v s) j).top }
with_top_at s i j v l = go (j == i) refl
  where
    go : (b : Bool) → (j == i) ≡ b → symbol_at (with_top i v s) j ≡ record (symbol_at s j) { top = (symbol_at (with_top i v s) j).top }
    go true e =
        let at : j ≡ i = eqb-true j i e in
        let P : ℕ → Type 0 = λ n. symbol_at (with_top i v s) n ≡ record (symbol_at s n) { top = (symbol_at (with_top i v s) n).top } in
        let f = top_at s i v l in
        subst P (sym at) (f ∙ ap (λ t. record (symbol_at s i) { top = t }) (ap (λ (y : Symbol). y.top) (sym f)))
    go false e =
        let f = top_else s i j v (eqb-false j i e) in
        f ∙ ap (λ t. record (symbol_at s j) { top = t }) (ap (λ (y : Symbol). y.top) (sym f))

pub seen_top : (x : ℕ) (v : Value) (s : State) → x < length s.symbols → nearest x s ≡ None → nearest message_id s ≡ None → ((j : ℕ) → length s.symbols ≤ j → nearest j s ≡ None) → SeenOtherwise x (Some v) s (with_top x v s)
seen_top x v s l none free bound = record {
  store = refl;
  many = length-set s.symbols x _;
  symbols = λ j. with_top_at s x j v l;
  counts = refl;
  gensyms = refl;
  outside = refl;
  here = ap (λ o. seen_of o (symbol_at (with_top x v s) x).top) none ∙ ap (λ (y : Symbol). y.top) (top_at s x v l);
  others = λ j n. ap (λ (y : Symbol). seen_of (nearest j s) y.top) (top_else s x j v n);
  free = free;
  bound = λ j k. bound j (let m : length (with_top x v s).symbols ≡ length s.symbols = length-set s.symbols x _ in omega (arith, m, k));
}

pub seen_nearest : (x : ℕ) (v : Value) (b : Nearest) (s : State) → nearest x s ≡ Some b → nearest message_id s ≡ None → ((j : ℕ) → length s.symbols ≤ j → nearest j s ≡ None) → SeenOtherwise x (Some v) s (record s { bindings = with_nearest x v s.bindings })
seen_nearest x v b s is free bound = record {
  store = refl;
  many = refl;
  symbols = λ j. refl;
  counts = refl;
  gensyms = refl;
  outside = refl;
  here = seen_below false x (tops_of s x) (with_nearest x v s.bindings) ∙ below_here x v (tops_of s x) false b s.bindings is;
  others = λ j n. seen_below false j (tops_of s j) (with_nearest x v s.bindings) ∙ below_else x j v (tops_of s j) s.bindings n ∙ sym (seen_below false j (tops_of s j) s.bindings);
  free = none_set x message_id v false s.bindings free;
  bound = λ j l. none_set x j v false s.bindings (bound j l);
}
