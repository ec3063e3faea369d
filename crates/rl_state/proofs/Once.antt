-- A world determines a state but for what is beside it.
use Rattle.std.proofs.Common.{◌≡◌, ℕ, ◌<◌, true, false, [], length, Option, Some, None, refl, sym, ap, subst, ◌∙◌}
use Rattle.std.proofs.lemmas.List.{ext_get_or}
use Rattle.rl_cells.specs.Cell.{cell_at, is_id_cell}
use Rattle.rl_world.specs.declared.world.World.{World}
use Rattle.rl_meaning.specs.State.{State, Outside}
use Rattle.rl_meaning.specs.Symbols.{symbol_at, new_symbol}
use Rattle.rl_meaning.specs.Variables.{Nearest, nearest}
use Rattle.rl_syms.specs.Numbers.{IdentifiersAreNumbered}
use Rattle.rl_syms.specs.Contents.{ids_before}
use Rattle.rl_state.specs.ShownState.{ShowsState, seen_of, symbol_meant}
use Rattle.rl_state.specs.Worlds.{WorldDetermines, SameBesideWorld}

top_once : (w : World) (s t : State) (k : ℕ) → is_id_cell (cell_at w.cells.cells k) ≡ true → ShowsState w s → ShowsState w t → SameBesideWorld s t → (symbol_at s (ids_before w.cells.cells k)).top ≡ (symbol_at t (ids_before w.cells.cells k)).top
top_once w s t k h p q b = go (nearest i s) refl
  where
    i : ℕ
    i = ids_before w.cells.cells k

    go : (o : Option Nearest) → nearest i s ≡ o → (symbol_at s i).top ≡ (symbol_at t i).top
    go (Some n) e = b.hidden i n e
    go None e =
        let f : nearest i t ≡ None = ap (λ entries. nearest i (record t { bindings = entries })) (sym b.bindings) ∙ e in
        sym (ap (λ o. seen_of o (symbol_at s i).top) e) ∙ p.symbols.values k h ∙ sym (q.symbols.values k h) ∙ ap (λ o. seen_of o (symbol_at t i).top) f

symbols_once : (law : IdentifiersAreNumbered) (w : World) (s t : State) → ShowsState w s → ShowsState w t → SameBesideWorld s t → s.symbols ≡ t.symbols
symbols_once law w s t p q b = ext_get_or (new_symbol [] false) s.symbols t.symbols (p.symbols.many ∙ sym q.symbols.many) (λ i l. one i (subst (λ n. i < n) p.symbols.many l))
  where
    one : (i : ℕ) → i < ids_before w.cells.cells (length w.cells.cells) → symbol_at s i ≡ symbol_at t i
    one i l =
        let k = law.each w.cells.cells i l in
        let P : ℕ → Type 0 = λ n. symbol_at s n ≡ symbol_at t n in
        subst P k.2 (p.symbols.symbols k.0 k.1
        ∙ ap (λ x. symbol_meant w.cells.cells w.syms.head k.0 x) (top_once w s t k.0 k.1 p q b)
        ∙ sym (q.symbols.symbols k.0 k.1))

outside_once : (a b : Outside) → a.files ≡ b.files → a.input ≡ b.input → a.taken ≡ b.taken → a.output ≡ b.output → a.column ≡ b.column → a.line_length ≡ b.line_length → a.notes ≡ b.notes → a ≡ b
outside_once a b f i t o c l n =
    ap (λ x. record a { files = x }) f ∙ ap (λ x. record a { files = b.files; input = x }) i ∙ ap (λ x. record a { files = b.files; input = b.input; taken = x }) t
    ∙ ap (λ x. record a { files = b.files; input = b.input; taken = b.taken; output = x }) o
    ∙ ap (λ x. record a { files = b.files; input = b.input; taken = b.taken; output = b.output; column = x }) c
    ∙ ap (λ x. record a { files = b.files; input = b.input; taken = b.taken; output = b.output; column = b.column; line_length = x }) l
    ∙ ap (λ x. record b { notes = x }) n

pub determined : IdentifiersAreNumbered → WorldDetermines
determined law w s t p q b =
    ap (λ x. record s { store = x }) (p.store ∙ sym q.store)
    ∙ ap (λ x. record s { store = t.store; symbols = x }) (symbols_once law w s t p q b)
    ∙ ap (λ x. record s { store = t.store; symbols = t.symbols; functions = x }) b.functions
    ∙ ap (λ x. record s { store = t.store; symbols = t.symbols; functions = t.functions; bindings = x }) b.bindings
    ∙ ap (λ x. record s { store = t.store; symbols = t.symbols; functions = t.functions; bindings = t.bindings; counts = x }) (p.counts ∙ sym q.counts)
    ∙ ap (λ x. record t { outside = x; gensyms = s.gensyms; watched = s.watched; compilation = s.compilation }) (outside_once s.outside t.outside b.files b.input (p.taken ∙ sym q.taken) b.output (p.column ∙ sym q.column) (p.line_length ∙ sym q.line_length) b.notes)
    ∙ ap (λ x. record t { gensyms = x; watched = s.watched; compilation = s.compilation }) (p.gensyms ∙ sym q.gensyms)
    ∙ ap (λ x. record t { watched = x; compilation = s.compilation }) b.watched
    ∙ ap (λ x. record t { compilation = x }) b.compilation
