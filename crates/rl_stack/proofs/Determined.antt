-- World and stack determine the bindings, and the values below them.
use Rattle.std.proofs.Common.{◌≡◌, ◌≢◌, ℕ, Bool, true, false, ◌==◌, List, [], ◌∷◌, Option, Some, refl, sym, ap, subst, ◌∙◌}
use Rattle.std.proofs.lemmas.Bool.{eqb-true, eqb-false}
use Rattle.rl_tags.specs.Tagged.{index_of}
use Rattle.rl_tree.specs.Value.{Value}
use Rattle.rl_cells.specs.Cell.{Cell, cell_at, is_id_cell}
use Rattle.rl_syms.specs.Contents.{ids_before}
use Rattle.rl_meaning.specs.State.{Entry, Binding, Mark, Scope}
use Rattle.rl_meaning.specs.Variables.{Nearest, nearest_from}
use Rattle.rl_state.specs.ShownState.{number_in}
use Rattle.rl_state.specs.Worlds.{WorldDetermines}
use Rattle.rl_state.specs.StateOfWorld.{WorldIsShown, state_in}
use Rattle.rl_stack.specs.StackLaws.{EmptyStackShows, StackDetermines, WatchedIsHidden}
use Rattle.rl_stack.specs.ShowsStack.{AreSavedLive, ShowsEntries, tops_of, value_below}
use Rattle.rl_stack.specs.declared.saved.Saved as stacked
use Rattle.rl_stack.specs.declared.saved.Saved.TheVariants as saved
use Rattle.rl_stack.proofs.EntriesKept.{eqb-refl, id_cell, neq-eqb, seen_below}

-- each identifier has the same value below
abbrev Agree : List Cell → (ℕ → Option Value) → (ℕ → Option Value) → List Entry → List Entry → Type 0
Agree cells f g es ds = (k : ℕ) → is_id_cell (cell_at cells k) ≡ true → value_below (ids_before cells k) (f (ids_before cells k)) es ≡ value_below (ids_before cells k) (g (ids_before cells k)) ds

record SameEntries (cells : List Cell) (f g : ℕ → Option Value) (es ds : List Entry) : Type 0 where
  pub entries : es ≡ ds
  pub tops : (k : ℕ) → is_id_cell (cell_at cells k) ≡ true → f (ids_before cells k) ≡ g (ids_before cells k)

record PlaceOf (cells : List Cell) (i : ℕ) : Type 0 where
  pub at : ℕ
  pub is_id : is_id_cell (cell_at cells at) ≡ true
  pub number : ids_before cells at ≡ i

binding_same : (x y : ℕ) (a b : Scope) (u v : Value) (es ds : List Entry) → x ≡ y → a ≡ b → u ≡ v → es ≡ ds → Binding x a u ∷ es ≡ Binding y b v ∷ ds
binding_same x y a b u v es ds e f g h = rw (e, f, g, h) refl

head_value : (x : ℕ) (a : Scope) (u : Value) (top : Option Value) (es : List Entry) → value_below x top (Binding x a u ∷ es) ≡ Some u
head_value x a u top es = rw (eqb-refl x) refl

tail_value : (i x : ℕ) (a : Scope) (u : Value) (top : Option Value) (es : List Entry) → i ≢ x → value_below i top (Binding x a u ∷ es) ≡ value_below i top es
tail_value i x a u top es ne = rw (neq-eqb i x ne) refl

same : (cells : List Cell) (f g : ℕ → Option Value) (saves : List stacked.Saved) (es ds : List Entry) → AreSavedLive cells saves → ShowsEntries cells f saves es → ShowsEntries cells g saves ds → Agree cells f g es ds → SameEntries cells f g es ds
same cells f g [] [] [] l p q a = record { entries = refl; tops = a }
same cells f g (saved.Mark m ∷ saves) (Mark x ∷ es) (Mark y ∷ ds) l p q a =
    let r = same cells f g saves es ds l.1 p.1 q.1 a in
    let e : x ≡ y = sym p.0 ∙ q.0 in
    record { entries = rw (e, r.entries) refl; tops = r.tops }
same cells f g (saved.Binding id local hid levels ∷ saves) (Binding x s u ∷ es) (Binding y t v ∷ ds) l p q a =
    let n = number_in cells id in
    let cell = id_cell cells id l.0.is_id in
    let r = same cells f g saves es ds l.2 p.1 q.1 (λ k h. behind k h (ids_before cells k == n) refl) in
    let here : Some u ≡ Some v =
    sym (head_value x s u (f x) es) ∙ ap (λ i. value_below i (f i) (Binding x s u ∷ es)) (sym p.0.variable)
    ∙ a (index_of id) cell
    ∙ ap (λ i. value_below i (g i) (Binding y t v ∷ ds)) q.0.variable ∙ head_value y t v (g y) ds in
    let value : u ≡ v = cc in
    record { entries = binding_same x y s t u v es ds (sym p.0.variable ∙ q.0.variable) (sym p.0.made ∙ q.0.made) value r.entries; tops = r.tops }
  where
    behind : (k : ℕ) → is_id_cell (cell_at cells k) ≡ true → (b : Bool) → (ids_before cells k == number_in cells id) ≡ b
        → value_below (ids_before cells k) (f (ids_before cells k)) es ≡ value_below (ids_before cells k) (g (ids_before cells k)) ds
    behind k h true e =
        let i : ids_before cells k ≡ number_in cells id = eqb-true _ _ e in
        ap (λ i. value_below i (f i) es) (i ∙ p.0.variable) ∙ sym p.0.hidden ∙ q.0.hidden ∙ ap (λ i. value_below i (g i) ds) (sym (i ∙ q.0.variable))
    behind k h false e =
        let ne = eqb-false (ids_before cells k) (number_in cells id) e in
        sym (tail_value (ids_before cells k) x s u (f (ids_before cells k)) es (λ i. ne (i ∙ sym p.0.variable))) ∙ a k h ∙ tail_value (ids_before cells k) y t v (g (ids_before cells k)) ds (λ i. ne (i ∙ sym q.0.variable))
same cells f g [] [] (Mark y ∷ ds) l p q a = absurd q
same cells f g [] [] (Binding y t v ∷ ds) l p q a = absurd q
same cells f g [] (Mark x ∷ es) ds0 l p q a = absurd p
same cells f g [] (Binding x s u ∷ es) ds0 l p q a = absurd p
same cells f g (saved.Mark m ∷ saves) [] ds0 l p q a = absurd p
same cells f g (saved.Mark m ∷ saves) (Mark x ∷ es) [] l p q a = absurd q
same cells f g (saved.Mark m ∷ saves) (Mark x ∷ es) (Binding y t v ∷ ds) l p q a = absurd q
same cells f g (saved.Mark m ∷ saves) (Binding x s u ∷ es) ds0 l p q a = absurd p
same cells f g (saved.Binding id local hid levels ∷ saves) [] ds0 l p q a = absurd p
same cells f g (saved.Binding id local hid levels ∷ saves) (Mark x ∷ es) ds0 l p q a = absurd p
same cells f g (saved.Binding id local hid levels ∷ saves) (Binding x s u ∷ es) [] l p q a = absurd q
same cells f g (saved.Binding id local hid levels ∷ saves) (Binding x s u ∷ es) (Mark y ∷ ds) l p q a = absurd q

-- what is bound is an identifier
bound_at : (cells : List Cell) (f : ℕ → Option Value) (below : Bool) (i : ℕ) (b : Nearest) (saves : List stacked.Saved) (es : List Entry) → AreSavedLive cells saves → ShowsEntries cells f saves es → nearest_from below i es ≡ Some b → PlaceOf cells i
bound_at cells f below i b [] [] l p e = absurd (cc)
bound_at cells f below i b (saved.Mark m ∷ saves) (Mark x ∷ es) l p e = bound_at cells f true i b saves es l.1 p.1 e
bound_at cells f below i b (saved.Binding id local hid levels ∷ saves) (Binding x s u ∷ es) l p e = go (i == x) refl (bound_at cells f below i b saves es l.2 p.1)
  where
    go : (z : Bool) → (i == x) ≡ z → (nearest_from below i es ≡ Some b → PlaceOf cells i) → PlaceOf cells i
    go true z r = record { at = index_of id; is_id = id_cell cells id l.0.is_id; number = p.0.variable ∙ sym (eqb-true i x z) }
    go false z r = r (rw z at e)
bound_at cells f below i b [] (Mark x ∷ es) l p e = absurd p
bound_at cells f below i b [] (Binding x s u ∷ es) l p e = absurd p
bound_at cells f below i b (saved.Mark m ∷ saves) [] l p e = absurd p
bound_at cells f below i b (saved.Mark m ∷ saves) (Binding x s u ∷ es) l p e = absurd p
bound_at cells f below i b (saved.Binding id local hid levels ∷ saves) [] l p e = absurd p
bound_at cells f below i b (saved.Binding id local hid levels ∷ saves) (Mark x ∷ es) l p e = absurd p

pub determined_by : WorldDetermines → StackDetermines
determined_by law w stack s t l p q o =
    let cells = w.cells.cells in
    let saves = stack.saved in
    let r = same cells (tops_of s) (tops_of t) saves s.bindings t.bindings l.saved p.entries q.entries (λ k h.
    sym (seen_below false (ids_before cells k) (tops_of s (ids_before cells k)) s.bindings) ∙ p.world.symbols.values k h ∙ sym (q.world.symbols.values k h) ∙ seen_below false (ids_before cells k) (tops_of t (ids_before cells k)) t.bindings) in
    law w s t p.world q.world (record {
      functions = o.functions;
      bindings = r.entries;
      compilation = o.compilation;
      watched = o.watched;
      files = o.files;
      input = o.input;
      output = o.output;
      notes = o.notes;
      hidden = λ i b e. let at = bound_at cells (tops_of s) false i b saves s.bindings l.saved p.entries e in ap (tops_of s) (sym at.number) ∙ r.tops at.at at.is_id ∙ ap (tops_of t) at.number;
    })

pub shown_by : WorldIsShown → EmptyStackShows
unfolding state_in
shown_by law w stack e = record { world = law w; entries = subst (λ saves. ShowsEntries w.cells.cells (tops_of (state_in w)) saves []) (sym e) tt }

pub watched_hidden : WatchedIsHidden
watched_hidden w stack s watched functions compilation h = record {
  world = record {
    store = h.world.store;
    symbols = record { many = h.world.symbols.many; symbols = h.world.symbols.symbols; values = h.world.symbols.values };
    counts = h.world.counts;
    gensyms = h.world.gensyms;
    column = h.world.column;
    line_length = h.world.line_length;
    taken = h.world.taken;
    free = h.world.free;
    bound = h.world.bound;
  };
  entries = h.entries;
}
