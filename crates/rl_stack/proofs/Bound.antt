-- World and stack as variables are bound, set and bound no longer.
use Rattle.std.proofs.Common.{◌≡◌, ℕ, ◌+◌, ◌-◌, ◌≤◌, take, drop, Bool, true, false, ◌==◌, if◌then◌else◌, List, [], ◌∷◌, length, Option, Some, None, refl, sym, ap, subst, ◌∙◌, arith}
use Rattle.std.specs.Option.{ForSome}
use Rattle.std.specs.Prelude.{MatchOption}
use Rattle.std.proofs.lemmas.Bool.{eqb-false}
use Rattle.rl_tags.specs.Tagged.{Tagged}
use Rattle.rl_tree.specs.Value.{Value, Id}
use Rattle.rl_cells.specs.Cell.{Cell, CellStore, is_live}
use Rattle.rl_syms.specs.Contents.{value_of}
use Rattle.rl_syms.specs.Functions.{KeepsHeldFunctions}
use Rattle.rl_syms.specs.Numbers.{IdentifiersAreNumbered}
use Rattle.rl_syms.specs.Table.{is_id}
use Rattle.rl_world.specs.Levels.{WorldLevels}
use Rattle.rl_world.specs.declared.world.World.{World}
use Rattle.rl_meaning.specs.State.{State, Symbol, Entry, Binding, Mark, Scope}
use Rattle.rl_meaning.specs.Symbols.{symbol_at, with_top}
use Rattle.rl_meaning.specs.Outcome.{Done}
use Rattle.rl_meaning.specs.Errors.{fail, unbound}
use Rattle.rl_meaning.specs.Variables.{Nearest, nearest, strays, top_value, use_strays, variable, variable_used, with_binding, with_mark, with_nearest, with_value}
use Rattle.rl_state.specs.ShownState.{ShowsState, number_in, option_value_in, seen_of, value_seen}
use Rattle.rl_state.specs.Worlds.{IsWorld, ObjectsAlone, SeenOtherwise, WorldGrows}
use Rattle.rl_stack.specs.Saving.{UndoesNewest}
use Rattle.rl_stack.specs.ShowsStack.{AreSavedLive, GivesVariable, IsStackLive, IsVariable, ShowsEntries, ShowsStack, StandsIn, mark_shown, scope_saved, tops_of}
use Rattle.rl_stack.specs.StackState.{StackState, levels_of_frames, levels_of_saved}
use Rattle.rl_stack.specs.declared.saved.Saved as stacked
use Rattle.rl_stack.specs.declared.saved.Saved.TheVariants as saved
use Rattle.rl_stack.proofs.EntriesKept.{entries_kept, number_kept, option_kept, seen_below, stack_kept, tops_kept}
use Rattle.rl_stack.proofs.Seen.{alike_marked, alike_unmarked, below_else, not_message, seen_bound, seen_nearest, seen_top, seen_unbound, shows_alike, top_else, within}

abbrev pub SetsCell : World → World → Tagged → Option Tagged → Type 0
SetsCell w x id o = (s t : State) → ShowsState w s → SeenOtherwise (number_in w.cells.cells id) (option_value_in w.cells.cells o) s t → ShowsState x t

-- ---- a binding

pub all_bound : (law : IdentifiersAreNumbered) (w x : World) (old new : StackState) (id : Tagged) (local : Bool) (hid : Option Tagged) (levels : ℕ) (scope : Scope) (v : Tagged) → new ≡ record old { saved = saved.Binding id local hid levels ∷ old.saved } → scope_saved local ≡ scope
    → IsWorld w → IsStackLive w.cells.cells old → IsVariable w.cells.cells id → ForSome hid (λ v. is_live w.cells.cells v ≡ true)
    → ((s : State) → ShowsState w s → value_seen s (number_in w.cells.cells id) ≡ option_value_in w.cells.cells hid) → SetsCell w x id (Some v) → WorldGrows w x
    → (s : State) → ShowsStack w old s → ShowsStack x new (with_binding (number_in w.cells.cells id) scope (value_of w.cells.cells v) s)
all_bound law w x old new id local hid levels scope v e made i l var live sees sets g s h =
    subst (λ stack. ShowsStack x stack (with_binding (number_in w.cells.cells id) scope (value_of w.cells.cells v) s)) (sym e) (record {
      world = sets s _ h.world (seen_bound _ _ _ s (within law w id s var.is_id h.world) h.world.free h.world.bound (not_message law w id i var));
      entries = (
        record {
          variable = number_kept w x g id var.is_id;
          made = made;
          hidden = option_kept w x g hid live ∙ sym (sees s h.world) ∙ seen_below false (number_in w.cells.cells id) (tops_of s (number_in w.cells.cells id)) s.bindings;
        },
        entries_kept w x g (tops_of s) old.saved s.bindings l.saved h.entries,
      );
    })

pub bound_live : (w x : World) (old new : StackState) (id : Tagged) (local : Bool) (hid : Option Tagged) (levels : ℕ) → new ≡ record old { saved = saved.Binding id local hid levels ∷ old.saved } → IsStackLive w.cells.cells old → IsVariable w.cells.cells id
    → ForSome hid (λ v. is_live w.cells.cells v ≡ true) → WorldGrows w x → IsStackLive x.cells.cells new
bound_live w x old new id local hid levels e l var live g =
    let whole : IsStackLive w.cells.cells (record old { saved = saved.Binding id local hid levels ∷ old.saved }) = record { frames = l.frames; unframed = l.unframed; saved = (var, live, l.saved); registers = l.registers } in
    subst (IsStackLive x.cells.cells) (sym e) (stack_kept w x (record old { saved = saved.Binding id local hid levels ∷ old.saved }) g whole)

pub all_marked : (w : World) (old new : StackState) (f : Option Tagged) → new ≡ record old { saved = saved.Mark f ∷ old.saved } → (s : State) → ShowsStack w old s → ShowsStack w new (with_mark (mark_shown w.cells.cells f) s)
all_marked w old new f e s h = subst (λ stack. ShowsStack w stack (with_mark (mark_shown w.cells.cells f) s)) (sym e) (record {
  world = shows_alike w s _ h.world (alike_marked (mark_shown w.cells.cells f) s h.world.free h.world.bound);
  entries = (refl, h.entries);
})

-- ---- a setting

entries_set : (cells : List Cell) (tops : ℕ → Option Value) (x : ℕ) (v : Value) (saves : List stacked.Saved) (entries : List Entry) → ShowsEntries cells tops saves entries → ShowsEntries cells tops saves (with_nearest x v entries)
entries_set cells tops x v [] [] h = tt
entries_set cells tops x v (saved.Mark f ∷ saves) (Mark m ∷ entries) h = (h.0, entries_set cells tops x v saves entries h.1)
entries_set cells tops x v (saved.Binding id local hid levels ∷ saves) (Binding y scope u ∷ entries) h = go (x == y) refl (entries_set cells tops x v saves entries h.1)
  where
    go : (b : Bool) → (x == y) ≡ b → ShowsEntries cells tops saves (with_nearest x v entries) → ShowsEntries cells tops (saved.Binding id local hid levels ∷ saves) (with_nearest x v (Binding y scope u ∷ entries))
    go true e r = subst (λ b. ShowsEntries cells tops (saved.Binding id local hid levels ∷ saves) (if b then Binding y scope v ∷ entries else Binding y scope u ∷ with_nearest x v entries)) (sym e)
        (record { variable = h.0.variable; made = h.0.made; hidden = h.0.hidden }, h.1)
    go false e r = subst (λ b. ShowsEntries cells tops (saved.Binding id local hid levels ∷ saves) (if b then Binding y scope v ∷ entries else Binding y scope u ∷ with_nearest x v entries)) (sym e)
        (record { variable = h.0.variable; made = h.0.made; hidden = h.0.hidden ∙ sym (below_else x y v (tops y) entries (λ f. eqb-false x y e (sym f))) }, r)
entries_set cells tops x v [] (Mark m ∷ entries) h = absurd h
entries_set cells tops x v [] (Binding y scope u ∷ entries) h = absurd h
entries_set cells tops x v (saved.Mark f ∷ saves) [] h = absurd h
entries_set cells tops x v (saved.Mark f ∷ saves) (Binding y scope u ∷ entries) h = absurd h
entries_set cells tops x v (saved.Binding id local hid levels ∷ saves) [] h = absurd h
entries_set cells tops x v (saved.Binding id local hid levels ∷ saves) (Mark m ∷ entries) h = absurd h

-- a variable that is not bound
pub all_topped : (law : IdentifiersAreNumbered) (w x : World) (stack : StackState) (id v : Tagged) → IsStackLive w.cells.cells stack → is_id w.cells.cells id ≡ true → SetsCell w x id (Some v) → WorldGrows w x
    → (s : State) → nearest (number_in w.cells.cells id) s ≡ None → ShowsStack w stack s → ShowsStack x stack (with_top (number_in w.cells.cells id) (value_of w.cells.cells v) s)
all_topped law w x stack id v l is sets g s e h =
    let n = number_in w.cells.cells id in
    let u = value_of w.cells.cells v in
    record {
      world = sets s _ h.world (seen_top n u s (within law w id s is h.world) e h.world.free h.world.bound);
      entries = tops_kept x.cells.cells (tops_of s) (tops_of (with_top n u s)) false stack.saved s.bindings (λ j b f. ap (λ (y : Symbol). y.top) (top_else s n j u (λ same. absurd (let k : nearest j s ≡ None = ap (λ k. nearest k s) same ∙ e in cc)))) (entries_kept w x g (tops_of s) stack.saved s.bindings l.saved h.entries);
    }

pub all_set : (law : IdentifiersAreNumbered) (w x : World) (stack : StackState) (id v : Tagged) → IsStackLive w.cells.cells stack → is_id w.cells.cells id ≡ true → SetsCell w x id (Some v) → WorldGrows w x
    → (s : State) → ShowsStack w stack s → ShowsStack x stack (with_value (nearest (number_in w.cells.cells id) s) (number_in w.cells.cells id) (value_of w.cells.cells v) s)
all_set law w x stack id v l is sets g s h = go (nearest n s) refl
  where
    n : ℕ
    n = number_in w.cells.cells id

    u : Value
    u = value_of w.cells.cells v

    go : (o : Option Nearest) → nearest n s ≡ o → ShowsStack x stack (with_value o n u s)
    go None e = all_topped law w x stack id v l is sets g s e h
    go (Some b) e = record {
      world = sets s _ h.world (seen_nearest n u b s e h.world.free h.world.bound);
      entries = entries_set x.cells.cells (tops_of s) n u stack.saved s.bindings (entries_kept w x g (tops_of s) stack.saved s.bindings l.saved h.entries);
    }

-- ---- the end of a binding

abbrev without_newest : State → State
without_newest s = record s { bindings = drop 1 s.bindings }

all_popped : (w x : World) (saves : List stacked.Saved) (id : Tagged) (local : Bool) (hid : Option Tagged) (levels : ℕ) → AreSavedLive w.cells.cells (saved.Binding id local hid levels ∷ saves) → SetsCell w x id hid → WorldGrows w x
    → (s : State) → ShowsState w s → ShowsEntries w.cells.cells (tops_of s) (saved.Binding id local hid levels ∷ saves) s.bindings → ShowsState x (without_newest s) × ShowsEntries x.cells.cells (tops_of s) saves (drop 1 s.bindings)
all_popped w x saves id local hid levels l sets g s h entries = go s.bindings refl entries
  where
    go : (es : List Entry) → s.bindings ≡ es → ShowsEntries w.cells.cells (tops_of s) (saved.Binding id local hid levels ∷ saves) es → ShowsState x (without_newest s) × ShowsEntries x.cells.cells (tops_of s) saves (drop 1 s.bindings)
    go [] e f = absurd f
    go (Mark m ∷ es) e f = absurd f
    go (Binding y scope v ∷ es) e f =
        let r : SeenOtherwise y (option_value_in w.cells.cells hid) s (record s { bindings = es }) = seen_unbound y scope v es (option_value_in w.cells.cells hid) s e f.0.hidden h.free h.bound in
        subst (λ ds. ShowsState x (record s { bindings = drop 1 ds }) × ShowsEntries x.cells.cells (tops_of s) saves (drop 1 ds)) (sym e) (
          sets s _ h (subst (λ n. SeenOtherwise n (option_value_in w.cells.cells hid) s (record s { bindings = es })) (sym f.0.variable) r),
          entries_kept w x g (tops_of s) saves es l.2 f.1,
        )

pub grows_then : (w x y : World) → WorldGrows w x → WorldGrows x y → WorldGrows w y
grows_then w x y a b = record {
  world = b.world;
  live = λ v h. b.live v (a.live v h);
  values = λ v h. b.values v (a.live v h) ∙ a.values v h;
}

-- the first of the newest is a binding: its cell is set back, and then its levels are left
pub unbinds_one : (w x y : World) (old new : StackState) (id : Tagged) (local : Bool) (hid : Option Tagged) (levels : ℕ) → old ≡ record new { saved = saved.Binding id local hid levels ∷ new.saved } → IsStackLive w.cells.cells old → StandsIn w old
    → SetsCell w x id hid → WorldGrows w x → ObjectsAlone w x
    → ((s : State) → ShowsState x s → ShowsState y s) → WorldGrows x y → y ≡ record x { levels = record x.levels { level = x.levels.level - levels } } → UndoesNewest 1 w y old new
unbinds_one w x y old new id local hid levels e live stands sets g alone shows grows left =
    let l : IsStackLive w.cells.cells (record new { saved = saved.Binding id local hid levels ∷ new.saved }) = subst (IsStackLive w.cells.cells) e live in
    let st : StandsIn w (record new { saved = saved.Binding id local hid levels ∷ new.saved }) = subst (StandsIn w) e stands in
    let same : x.levels ≡ w.levels = ap (λ (z : World). z.levels) alone.rest in
    let lower : y.levels ≡ record w.levels { level = w.levels.level - levels } = ap (λ (z : World). z.levels) left ∙ ap (λ (z : WorldLevels). record z { level = z.level - levels }) same in
    let cells : y.cells ≡ x.cells = ap (λ (z : World). z.cells) left in
    subst (λ stack. UndoesNewest 1 w y stack new) (sym e) (record {
      shows = λ s h.
          let p = all_popped w x new.saved id local hid levels l.saved sets g s h.world h.entries in
          record { world = shows _ p.0; entries = subst (λ (c : CellStore). ShowsEntries c.cells (tops_of s) new.saved (drop 1 s.bindings)) (sym cells) p.1 };
      saved = refl;
      levels = lower ∙ ap (λ n. record w.levels { level = w.levels.level - n }) (let z : levels ≡ levels + 0 = omega arith in z);
      rest = sides w x y levels alone.rest left;
      functions = subst (λ (c : CellStore). KeepsHeldFunctions w.cells.cells c.cells) (sym cells) alone.functions;
      stands = record { nest = subst (λ (z : WorldLevels). z.bound ≤ new.nest) (sym lower) st.nest; levels = subst (λ (z : WorldLevels). levels_of_frames new.frames + levels_of_saved new.saved + length z.walk ≤ z.level) (sym lower) (omega (arith, st.levels)) };
      live = stack_kept w y new (grows_then w x y g grows) (record { frames = l.frames; unframed = l.unframed; saved = l.saved.2; registers = l.registers });
      grows = grows_then w x y g grows;
    })
  where
    sides : (w x y : World) (n : ℕ) → x ≡ record w { cells = x.cells; syms = x.syms; counts = x.counts } → y ≡ record x { levels = record x.levels { level = x.levels.level - n } } → y ≡ record w { cells = y.cells; syms = y.syms; counts = y.counts; levels = y.levels }
    sides w x y n e f =
        let P : World → Type 0 = λ z. z ≡ record w { cells = z.cells; syms = z.syms; counts = z.counts; levels = z.levels } in
        let at : P (record x { levels = record x.levels { level = x.levels.level - n } }) = ap (λ (z : World). record z { levels = record x.levels { level = x.levels.level - n } }) e in
        subst P (sym f) at

pub unmarks_one : (w : World) (old new : StackState) (f : Option Tagged) → old ≡ record new { saved = saved.Mark f ∷ new.saved } → IsWorld w → IsStackLive w.cells.cells old → StandsIn w old → UndoesNewest 1 w w old new
unmarks_one w old new f e i live stands =
    let l : IsStackLive w.cells.cells (record new { saved = saved.Mark f ∷ new.saved }) = subst (IsStackLive w.cells.cells) e live in
    let st : StandsIn w (record new { saved = saved.Mark f ∷ new.saved }) = subst (StandsIn w) e stands in
    subst (λ stack. UndoesNewest 1 w w stack new) (sym e) (record {
      shows = λ s h. go s s.bindings refl h.world h.entries;
      saved = refl;
      levels = ap (λ n. record w.levels { level = n }) (let z : w.levels.level ≡ w.levels.level - 0 = omega arith in z);
      rest = refl;
      functions = record { words = λ k. refl };
      stands = record { nest = st.nest; levels = omega (arith, st.levels) };
      live = record { frames = l.frames; unframed = l.unframed; saved = l.saved.1; registers = l.registers };
      grows = record { world = i; live = λ v h. h; values = λ v h. refl };
    })
  where
    go : (s : State) (es : List Entry) → s.bindings ≡ es → ShowsState w s → ShowsEntries w.cells.cells (tops_of s) (saved.Mark f ∷ new.saved) es → ShowsStack w new (without_newest s)
    go s [] e h g = absurd g
    go s (Binding y scope v ∷ es) e h g = absurd g
    go s (Mark m ∷ es) e h g = subst (λ ds. ShowsStack w new (record s { bindings = drop 1 ds })) (sym e) (record { world = shows_alike w s _ h (alike_unmarked m es s e h.free h.bound); entries = g.1 })

pub undoes_none : (w : World) (old new : StackState) → old.saved ≡ [] → new ≡ old → IsWorld w → IsStackLive w.cells.cells old → StandsIn w old → UndoesNewest 1 w w old new
undoes_none w old new e same i live stands = subst (UndoesNewest 1 w w old) (sym same) (record {
  shows = λ s h. record { world = empty s s.bindings refl h.world (subst (λ saves. ShowsEntries w.cells.cells (tops_of s) saves s.bindings) e h.entries); entries = subst (λ saves. ShowsEntries w.cells.cells (tops_of s) saves (drop 1 s.bindings)) (sym e) (none s s.bindings (subst (λ saves. ShowsEntries w.cells.cells (tops_of s) saves s.bindings) e h.entries)) };
  saved = ap (λ saves. record old { saved = saves }) (e ∙ sym (ap (drop 1) e));
  levels = ap (λ n. record w.levels { level = n }) (let z : w.levels.level ≡ w.levels.level - 0 = omega arith in z) ∙ ap (λ saves. record w.levels { level = w.levels.level - levels_of_saved (take 1 saves) }) (sym e);
  rest = refl;
  functions = record { words = λ k. refl };
  stands = stands;
  live = live;
  grows = record { world = i; live = λ v h. h; values = λ v h. refl };
})
  where
    empty : (s : State) (es : List Entry) → s.bindings ≡ es → ShowsState w s → ShowsEntries w.cells.cells (tops_of s) [] es → ShowsState w (without_newest s)
    empty s [] e h g = subst (λ ds. ShowsState w (record s { bindings = drop 1 ds })) (sym e) (subst (λ ds. ShowsState w (record s { bindings = ds })) e h)
    empty s (Binding y scope v ∷ es) e h g = absurd g
    empty s (Mark m ∷ es) e h g = absurd g

    none : (s : State) (es : List Entry) → ShowsEntries w.cells.cells (tops_of s) [] es → ShowsEntries w.cells.cells (tops_of s) [] (drop 1 es)
    none s [] g = tt
    none s (Binding y scope v ∷ es) g = absurd g
    none s (Mark m ∷ es) g = absurd g

-- ---- a use

gives : (x : ℕ) (v : Value) (o : Option Nearest) (s : State) → nearest x s ≡ o → value_seen s x ≡ Some v → GivesVariable x v s
gives x v None s e h =
    let top : (symbol_at s x).top ≡ Some v = ap (λ o. seen_of o (symbol_at s x).top) (sym e) ∙ h in
    record { astray = false; is = ap (λ o. variable_used o x s) e ∙ ap (λ t. top_value t x s) top }
gives x v (Some b) s e h =
    let is : b.value ≡ v = (let f : Some b.value ≡ Some v = ap (λ o. seen_of o (symbol_at s x).top) (sym e) ∙ h in cc) in
    record { astray = use_strays b; is = ap (λ o. variable_used o x s) e ∙ ap (λ v. Done v (strays (use_strays b) x s)) is }

gives_none : (x : ℕ) (o : Option Nearest) (s : State) → nearest x s ≡ o → value_seen s x ≡ None → variable x s ≡ fail unbound (Id x) s
gives_none x None s e h =
    let top : (symbol_at s x).top ≡ None = ap (λ o. seen_of o (symbol_at s x).top) (sym e) ∙ h in
    ap (λ o. variable_used o x s) e ∙ ap (λ t. top_value t x s) top
gives_none x (Some b) s e h = absurd (let f : Some b.value ≡ None = ap (λ o. seen_of o (symbol_at s x).top) (sym e) ∙ h in cc)

pub looked_up : (w : World) (x : ℕ) (o : Option Tagged) → ((s : State) → ShowsState w s → value_seen s x ≡ option_value_in w.cells.cells o) → (stack : StackState) (s : State) → ShowsStack w stack s
    → MatchOption o (variable x s ≡ fail unbound (Id x) s) (λ v. GivesVariable x (value_of w.cells.cells v) s)
looked_up w x None sees stack s h = gives_none x (nearest x s) s refl (sees s h.world)
looked_up w x (Some v) sees stack s h = gives x (value_of w.cells.cells v) (nearest x s) s refl (sees s h.world)
