-- The value that a variable has below all its bindings, read and set on the stack.
use Rattle.std.proofs.Common.{◌≡◌, ◌≢◌, ℕ, zero, suc, ◌+◌, ◌-◌, ◌<◌, ◌≤◌, take, drop, reverse, get_or, set, Bool, true, false, ◌==◌, cond, List, [], ◌∷◌, ◌++◌, length, Option, Some, None, refl, sym, ap, subst, ◌∙◌, arith}
use Rattle.std.specs.Option.{ForSome}
use Rattle.std.specs.Global.{Vec}
use Rattle.std.specs.Prelude.{IsTrue, ◌↔◌, MatchOption, slice_get}
use Rattle.std.proofs.lemmas.Bool.{eqb-true, eqb-false}
use Rattle.std.proofs.lemmas.List.{drop_all, get_or-reverse, length-reverse, length-set, length-take-le}
use Rattle.std.proofs.lemmas.Option.{slice_get_read}
use Rattle.rl_tags.specs.Tagged.{Tagged}
use Rattle.rl_tree.specs.Value.{Value}
use Rattle.rl_cells.specs.Cell.{Cell, is_live}
use Rattle.rl_syms.specs.Contents.{value_of}
use Rattle.rl_syms.specs.Numbers.{IdentifiersAreNumbered}
use Rattle.rl_syms.specs.Table.{is_id}
use Rattle.rl_world.specs.declared.world.World.{World}
use Rattle.rl_meaning.specs.State.{State, Symbol, Entry, Binding, Mark}
use Rattle.rl_meaning.specs.Symbols.{with_top}
use Rattle.rl_meaning.specs.Variables.{nearest_from}
use Rattle.rl_state.specs.ShownState.{number_in, option_value_in, seen_of}
use Rattle.rl_state.specs.Worlds.{WorldGrows}
use Rattle.rl_stack.specs.Saving.{BindsIt, HidesFrom, IsOldestOf, NoneBinds, SetsHidden, with_hid}
use Rattle.rl_stack.specs.ShowsStack.{AreSavedLive, IsStackLive, ShowsEntries, ShowsStack, StandsIn, tops_of, value_below}
use Rattle.rl_stack.specs.StackState.{StackState, levels_of_one, levels_of_saved}
use Rattle.rl_stack.specs.declared.saved.Saved as stacked
use Rattle.rl_stack.specs.declared.saved.Saved.TheVariants as saved
use Rattle.rl_stack.proofs.Bound.{SetsCell, all_topped}
use Rattle.rl_stack.proofs.EntriesKept.{eqb-refl, neq-eqb, seen_below}
use Rattle.rl_stack.proofs.Seen.{SeenAlike, same_number, shows_alike, top_at, top_else, with_top_at, within}
use Rattle.rl_stack.proofs.Undone.{depth_shown}

-- ---- what a binding hides is changed

pub hid_set : (k : ℕ) (hid : Option Tagged) (saves : List stacked.Saved) (id : Tagged) (local : Bool) (old : Option Tagged) (levels : ℕ) → slice_get saves k ≡ Some (saved.Binding id local old levels) → with_hid k hid saves ≡ set saves k (saved.Binding id local hid levels)
hid_set k hid [] id local old levels e = absurd (cc)
hid_set zero hid (x ∷ saves) id local old levels e =
    let is : x ≡ saved.Binding id local old levels = cc in
    subst (λ y. with_hid zero hid (y ∷ saves) ≡ saved.Binding id local hid levels ∷ saves) (sym is) refl
hid_set (suc k) hid (x ∷ saves) id local old levels e = ap (λ xs. x ∷ xs) (hid_set k hid saves id local old levels e)

pub hid_mark : (k : ℕ) (hid : Option Tagged) (saves : List stacked.Saved) (f : Option Tagged) → slice_get saves k ≡ Some (saved.Mark f) → with_hid k hid saves ≡ saves
hid_mark k hid [] f e = absurd (cc)
hid_mark zero hid (x ∷ saves) f e =
    let is : x ≡ saved.Mark f = cc in
    subst (λ y. with_hid zero hid (y ∷ saves) ≡ y ∷ saves) (sym is) refl
hid_mark (suc k) hid (x ∷ saves) f e = ap (λ xs. x ∷ xs) (hid_mark k hid saves f e)

pub newest_at : {X : Type 0} (xs : List X) (k at : ℕ) (x : X) → k < length xs → at ≡ length xs - 1 - k → x ≡ get_or xs at x → slice_get (reverse xs) k ≡ Some x
newest_at xs k at x l e is = slice_get_read (reverse xs) (length (reverse xs)) k x refl (omega (arith, l, length-reverse xs)) (is ∙ ap (λ n. get_or xs n x) e ∙ sym (get_or-reverse xs k x l))

pub saved_long : (now : StackState) (saves : Vec stacked.Saved) (k : ℕ) → reverse saves.items ≡ now.saved → k < length now.saved → k < length saves.items
saved_long now saves k e l = let n : length (reverse saves.items) ≡ length now.saved = ap length e in omega (arith, n, l, length-reverse saves.items)

-- ---- read from the newest to the oldest

number_else : (law : IdentifiersAreNumbered) (cells : List Cell) (x id : Tagged) → is_id cells x ≡ true → is_id cells id ≡ true → x ≢ id → number_in cells id ≢ number_in cells x
number_else law cells x id h i ne e = ne (sym (same_number law cells id x i h e))

-- a binding or mark more is passed
pub passes_one : (law : IdentifiersAreNumbered) (cells : List Cell) (tops : ℕ → Option Value) (id : Tagged) (o r : Option Tagged) (k : ℕ) (x : stacked.Saved) (saves : List stacked.Saved) (entries : List Entry) → is_id cells id ≡ true → AreSavedLive cells saves → ShowsEntries cells tops saves entries → slice_get saves k ≡ Some x → HidesFrom id o x r
    → option_value_in cells o ≡ value_below (number_in cells id) (tops (number_in cells id)) (drop k entries) → option_value_in cells r ≡ value_below (number_in cells id) (tops (number_in cells id)) (drop (suc k) entries)
passes_one law cells tops id o r k x [] entries i l h e p b = absurd (cc)
passes_one law cells tops id o r zero x (saved.Mark f ∷ saves) (Mark m ∷ entries) i l h e p b =
    let is : x ≡ saved.Mark f = cc in
    let same : r ≡ o = subst (λ y. HidesFrom id o y r) is p in
    ap (option_value_in cells) same ∙ b
passes_one law cells tops id o r zero x (saved.Binding y local hid levels ∷ saves) (Binding z scope u ∷ entries) i l h e p b =
    let is : x ≡ saved.Binding y local hid levels = cc in
    go (number_in cells id == z) refl (subst (λ y. HidesFrom id o y r) is p)
  where
    n : ℕ
    n = number_in cells id

    go : (t : Bool) → (n == z) ≡ t → HidesFrom id o (saved.Binding y local hid levels) r → option_value_in cells r ≡ value_below n (tops n) entries
    go true t q =
        let at : n ≡ z = eqb-true n z t in
        let same : y ≡ id = same_number law cells y id l.0.is_id i (h.0.variable ∙ sym at) in
        ap (option_value_in cells) (q.0 same) ∙ h.0.hidden ∙ ap (λ j. value_below j (tops j) entries) (sym at)
    go false t q =
        let other : y ≢ id = λ same. eqb-false n z t (ap (number_in cells) (sym same) ∙ h.0.variable) in
        ap (option_value_in cells) (q.1 other) ∙ b ∙ (rw t refl)
passes_one law cells tops id o r (suc k) x (saved.Mark f ∷ saves) (Mark m ∷ entries) i l h e p b = passes_one law cells tops id o r k x saves entries i l.1 h.1 e p b
passes_one law cells tops id o r (suc k) x (saved.Binding y local hid levels ∷ saves) (Binding z scope u ∷ entries) i l h e p b = passes_one law cells tops id o r k x saves entries i l.2 h.1 e p b
passes_one law cells tops id o r k x (saved.Mark f ∷ saves) [] i l h e p b = absurd h
passes_one law cells tops id o r k x (saved.Mark f ∷ saves) (Binding z scope u ∷ entries) i l h e p b = absurd h
passes_one law cells tops id o r k x (saved.Binding y local hid levels ∷ saves) [] i l h e p b = absurd h
passes_one law cells tops id o r k x (saved.Binding y local hid levels ∷ saves) (Mark m ∷ entries) i l h e p b = absurd h

pub passes_live : (law : IdentifiersAreNumbered) (cells : List Cell) (id : Tagged) (o r : Option Tagged) (k : ℕ) (x : stacked.Saved) (saves : List stacked.Saved) → is_id cells id ≡ true → AreSavedLive cells saves → slice_get saves k ≡ Some x → HidesFrom id o x r → ForSome o (λ v. is_live cells v ≡ true) → ForSome r (λ v. is_live cells v ≡ true)
passes_live law cells id o r k x [] i l e p h = absurd (cc)
passes_live law cells id o r zero x (saved.Mark f ∷ saves) i l e p h =
    let is : x ≡ saved.Mark f = cc in
    let same : r ≡ o = subst (λ y. HidesFrom id o y r) is p in
    subst (λ q. ForSome q (λ v. is_live cells v ≡ true)) (sym same) h
passes_live law cells id o r zero x (saved.Binding y local hid levels ∷ saves) i l e p h =
    let is : x ≡ saved.Binding y local hid levels = cc in
    go (number_in cells y == number_in cells id) refl (subst (λ y. HidesFrom id o y r) is p)
  where
    go : (t : Bool) → (number_in cells y == number_in cells id) ≡ t → HidesFrom id o (saved.Binding y local hid levels) r → ForSome r (λ v. is_live cells v ≡ true)
    go true t q = subst (λ z. ForSome z (λ v. is_live cells v ≡ true)) (sym (q.0 (same_number law cells y id l.0.is_id i (eqb-true _ _ t)))) l.1
    go false t q = subst (λ z. ForSome z (λ v. is_live cells v ≡ true)) (sym (q.1 (λ s. eqb-false _ _ t (ap (number_in cells) s)))) h
passes_live law cells id o r (suc k) x (saved.Mark f ∷ saves) i l e p h = passes_live law cells id o r k x saves i l.1 e p h
passes_live law cells id o r (suc k) x (saved.Binding y local hid levels ∷ saves) i l e p h = passes_live law cells id o r k x saves i l.2 e p h

-- all are passed
pub passes_all : (cells : List Cell) (tops : ℕ → Option Value) (i k : ℕ) (saves : List stacked.Saved) (entries : List Entry) → ShowsEntries cells tops saves entries → length saves ≤ k → value_below i (tops i) (drop k entries) ≡ tops i
passes_all cells tops i k saves entries h l =
    let n = depth_shown cells tops saves entries h in
    ap (value_below i (tops i)) (drop_all k entries (omega (arith, n, l)))

-- ---- the oldest binding

none_more : (id : Tagged) (xs : List stacked.Saved) (x : stacked.Saved) → NoneBinds id xs → (BindsIt id x → ⊥) → NoneBinds id (xs ++ x ∷ [])
none_more id [] x n b = (b, tt)
none_more id (y ∷ xs) x n b = (n.0, none_more id xs x n.1 b)

oldest_more : (id : Tagged) (j : ℕ) (xs : List stacked.Saved) (x : stacked.Saved) → IsOldestOf id j xs → (BindsIt id x → ⊥) → IsOldestOf id j (xs ++ x ∷ [])
oldest_more id j [] x o b = absurd o
oldest_more id zero (y ∷ xs) x o b = (o.0, none_more id xs x o.1 b)
oldest_more id (suc j) (y ∷ xs) x o b = oldest_more id j xs x o b

oldest_new : (id : Tagged) (xs : List stacked.Saved) (x : stacked.Saved) → BindsIt id x → IsOldestOf id (length xs) (xs ++ x ∷ [])
oldest_new id [] x b = (b, tt)
oldest_new id (y ∷ xs) x b = oldest_new id xs x b

abbrev pub FoundAmong : Tagged → Option ℕ → List stacked.Saved → Type 0
FoundAmong id found saves = MatchOption found (NoneBinds id saves) (λ j. IsOldestOf id j saves)

pub found_more : (id : Tagged) (found new : Option ℕ) (k : ℕ) (here : Bool) (x : stacked.Saved) (saves : List stacked.Saved) → k < length saves → slice_get saves k ≡ Some x → (IsTrue here ↔ BindsIt id x) → new ≡ cond here (Some k) found → FoundAmong id found (take k saves) → FoundAmong id new (take (k + 1) saves)
found_more id found new k here x saves l e b is f = subst (FoundAmong id new) (sym (took saves k e)) (go here b is found f)
  where
    took : (ys : List stacked.Saved) (k : ℕ) → slice_get ys k ≡ Some x → take (k + 1) ys ≡ take k ys ++ x ∷ []
    took [] k e = absurd (cc)
    took (y ∷ ys) zero e = let s : y ≡ x = cc in ap (λ z. z ∷ []) s
    took (y ∷ ys) (suc k) e = let n : suc k + 1 ≡ suc (k + 1) = omega arith in ap (λ m. take m (y ∷ ys)) n ∙ ap (λ zs. y ∷ zs) (took ys k e)

    go : (h : Bool) → (IsTrue h ↔ BindsIt id x) → new ≡ cond h (Some k) found → (o : Option ℕ) → FoundAmong id found (take k saves) → FoundAmong id new (take k saves ++ x ∷ [])
    go true b is o f = subst (λ n. FoundAmong id n (take k saves ++ x ∷ [])) (sym is) (subst (λ n. IsOldestOf id n (take k saves ++ x ∷ [])) (length-take-le k saves (omega (arith, l))) (oldest_new id (take k saves) x (b.0 refl)))
    go false b is o f = subst (λ n. FoundAmong id n (take k saves ++ x ∷ [])) (sym is) (still found f)
      where
        not : BindsIt id x → ⊥
        not y = absurd (let t : false ≡ true = b.1 y in cc)

        still : (o : Option ℕ) → FoundAmong id o (take k saves) → FoundAmong id o (take k saves ++ x ∷ [])
        still None f = none_more id (take k saves) x f not
        still (Some j) f = oldest_more id j (take k saves) x f not

-- ---- a variable that none binds

pub none_nearest : (law : IdentifiersAreNumbered) (cells : List Cell) (tops : ℕ → Option Value) (id : Tagged) (below : Bool) (saves : List stacked.Saved) (entries : List Entry) → is_id cells id ≡ true → AreSavedLive cells saves → ShowsEntries cells tops saves entries → NoneBinds id saves → nearest_from below (number_in cells id) entries ≡ None
none_nearest law cells tops id below [] [] i l h n = refl
none_nearest law cells tops id below (saved.Mark f ∷ saves) (Mark m ∷ entries) i l h n = none_nearest law cells tops id true saves entries i l.1 h.1 n.1
none_nearest law cells tops id below (saved.Binding y local hid levels ∷ saves) (Binding z scope u ∷ entries) i l h n =
    let other : (number_in cells id == z) ≡ false = neq-eqb (number_in cells id) z (λ e. n.0 (same_number law cells y id l.0.is_id i (h.0.variable ∙ sym e))) in
    rw other (none_nearest law cells tops id below saves entries i l.2 h.1 n.1)
none_nearest law cells tops id below [] (Mark m ∷ entries) i l h n = absurd h
none_nearest law cells tops id below [] (Binding z scope u ∷ entries) i l h n = absurd h
none_nearest law cells tops id below (saved.Mark f ∷ saves) [] i l h n = absurd h
none_nearest law cells tops id below (saved.Mark f ∷ saves) (Binding z scope u ∷ entries) i l h n = absurd h
none_nearest law cells tops id below (saved.Binding y local hid levels ∷ saves) [] i l h n = absurd h
none_nearest law cells tops id below (saved.Binding y local hid levels ∷ saves) (Mark m ∷ entries) i l h n = absurd h

pub top_unbound : (law : IdentifiersAreNumbered) (w x : World) (stack : StackState) (id v : Tagged) → IsStackLive w.cells.cells stack → is_id w.cells.cells id ≡ true → NoneBinds id stack.saved → SetsCell w x id (Some v) → WorldGrows w x
    → (s : State) → ShowsStack w stack s → ShowsStack x stack (with_top (number_in w.cells.cells id) (value_of w.cells.cells v) s)
top_unbound law w x stack id v l i n sets g s h = all_topped law w x stack id v l i sets g s (none_nearest law w.cells.cells (tops_of s) id false stack.saved s.bindings i l.saved h.entries n) h

-- ---- a variable that is bound

-- what it has above its oldest binding is not the value below all
bound_below : (cells : List Cell) (tops : ℕ → Option Value) (id : Tagged) (k : ℕ) (a b : Option Value) (saves : List stacked.Saved) (entries : List Entry) → ShowsEntries cells tops saves entries → IsOldestOf id k saves → value_below (number_in cells id) a entries ≡ value_below (number_in cells id) b entries
bound_below cells tops id k a b [] entries h o = absurd o
bound_below cells tops id zero a b (saved.Mark f ∷ saves) (Mark m ∷ entries) h o = absurd o.0
bound_below cells tops id zero a b (saved.Binding y local hid levels ∷ saves) (Binding z scope u ∷ entries) h o =
    let e : number_in cells id ≡ z = ap (number_in cells) (sym o.0) ∙ h.0.variable in
    let t : (number_in cells id == z) ≡ true = ap (λ n. n == z) e ∙ eqb-refl z in
    rw t refl
bound_below cells tops id (suc k) a b (saved.Mark f ∷ saves) (Mark m ∷ entries) h o = bound_below cells tops id k a b saves entries h.1 o
bound_below cells tops id (suc k) a b (saved.Binding y local hid levels ∷ saves) (Binding z scope u ∷ entries) h o = go (number_in cells id == z) refl (bound_below cells tops id k a b saves entries h.1 o)
  where
    go : (t : Bool) → (number_in cells id == z) ≡ t → value_below (number_in cells id) a entries ≡ value_below (number_in cells id) b entries → value_below (number_in cells id) a (Binding z scope u ∷ entries) ≡ value_below (number_in cells id) b (Binding z scope u ∷ entries)
    go true t r = rw t refl
    go false t r = rw t r
bound_below cells tops id k a b (saved.Mark f ∷ saves) [] h o = absurd h
bound_below cells tops id k a b (saved.Mark f ∷ saves) (Binding z scope u ∷ entries) h o = absurd h
bound_below cells tops id k a b (saved.Binding y local hid levels ∷ saves) [] h o = absurd h
bound_below cells tops id k a b (saved.Binding y local hid levels ∷ saves) (Mark m ∷ entries) h o = absurd h

-- where none binds it, it has the value below all
none_below : (law : IdentifiersAreNumbered) (cells : List Cell) (tops : ℕ → Option Value) (id : Tagged) (top : Option Value) (saves : List stacked.Saved) (entries : List Entry) → is_id cells id ≡ true → AreSavedLive cells saves → ShowsEntries cells tops saves entries → NoneBinds id saves → value_below (number_in cells id) top entries ≡ top
none_below law cells tops id top saves entries i l h n = sym (seen_below false (number_in cells id) top entries) ∙ ap (λ o. seen_of o top) (none_nearest law cells tops id false saves entries i l h n)

-- the values below all but that of one variable stay
pub record SetsTop (i : ℕ) (v : Value) (tops new : ℕ → Option Value) : Type 0 where
  pub here : new i ≡ Some v
  pub others : (j : ℕ) → j ≢ i → new j ≡ tops j

-- below the oldest binding the variable is not bound
none_entries : (law : IdentifiersAreNumbered) (cells : List Cell) (tops new : ℕ → Option Value) (id : Tagged) (v : Value) (saves : List stacked.Saved) (entries : List Entry) → SetsTop (number_in cells id) v tops new → is_id cells id ≡ true → AreSavedLive cells saves → NoneBinds id saves → ShowsEntries cells tops saves entries → ShowsEntries cells new saves entries
none_entries law cells tops new id v [] [] t i l n h = tt
none_entries law cells tops new id v (saved.Mark f ∷ saves) (Mark m ∷ entries) t i l n h = (h.0, none_entries law cells tops new id v saves entries t i l.1 n.1 h.1)
none_entries law cells tops new id v (saved.Binding y local hid levels ∷ saves) (Binding z scope u ∷ entries) t i l n h =
    let other : z ≢ number_in cells id = λ e. n.0 (same_number law cells y id l.0.is_id i (h.0.variable ∙ e)) in
    (record { variable = h.0.variable; made = h.0.made; hidden = h.0.hidden ∙ ap (λ o. value_below z o entries) (sym (t.others z other)) }, none_entries law cells tops new id v saves entries t i l.2 n.1 h.1)
none_entries law cells tops new id v [] (Mark m ∷ entries) t i l n h = absurd h
none_entries law cells tops new id v [] (Binding z scope u ∷ entries) t i l n h = absurd h
none_entries law cells tops new id v (saved.Mark f ∷ saves) [] t i l n h = absurd h
none_entries law cells tops new id v (saved.Mark f ∷ saves) (Binding z scope u ∷ entries) t i l n h = absurd h
none_entries law cells tops new id v (saved.Binding y local hid levels ∷ saves) [] t i l n h = absurd h
none_entries law cells tops new id v (saved.Binding y local hid levels ∷ saves) (Mark m ∷ entries) t i l n h = absurd h

bound_entries : (law : IdentifiersAreNumbered) (cells : List Cell) (tops new : ℕ → Option Value) (id v : Tagged) (k : ℕ) (saves : List stacked.Saved) (entries : List Entry) → SetsTop (number_in cells id) (value_of cells v) tops new → is_id cells id ≡ true → AreSavedLive cells saves → IsOldestOf id k saves → ShowsEntries cells tops saves entries
    → ShowsEntries cells new (with_hid k (Some v) saves) entries
bound_entries law cells tops new id v k [] entries t i l o h = absurd o
bound_entries law cells tops new id v zero (saved.Mark f ∷ saves) (Mark m ∷ entries) t i l o h = absurd o.0
bound_entries law cells tops new id v zero (saved.Binding y local hid levels ∷ saves) (Binding z scope u ∷ entries) t i l o h =
    let e : number_in cells id ≡ z = ap (number_in cells) (sym o.0) ∙ h.0.variable in
    let below : value_below z (new z) entries ≡ new z = ap (λ j. value_below j (new j) entries) (sym e) ∙ none_below law cells tops id (new (number_in cells id)) saves entries i l.2 h.1 o.1 ∙ ap new e in
    (record { variable = h.0.variable; made = h.0.made; hidden = sym t.here ∙ ap new e ∙ sym below }, none_entries law cells tops new id (value_of cells v) saves entries t i l.2 o.1 h.1)
bound_entries law cells tops new id v (suc k) (saved.Mark f ∷ saves) (Mark m ∷ entries) t i l o h = (h.0, bound_entries law cells tops new id v k saves entries t i l.1 o h.1)
bound_entries law cells tops new id v (suc k) (saved.Binding y local hid levels ∷ saves) (Binding z scope u ∷ entries) t i l o h =
    (record { variable = h.0.variable; made = h.0.made; hidden = h.0.hidden ∙ go (z == number_in cells id) refl }, bound_entries law cells tops new id v k saves entries t i l.2 o h.1)
  where
    go : (b : Bool) → (z == number_in cells id) ≡ b → value_below z (tops z) entries ≡ value_below z (new z) entries
    go true e =
        let at : z ≡ number_in cells id = eqb-true z (number_in cells id) e in
        ap (λ j. value_below j (tops z) entries) at ∙ bound_below cells tops id k (tops z) (new z) saves entries h.1 o ∙ ap (λ j. value_below j (new z) entries) (sym at)
    go false e = ap (λ o. value_below z o entries) (sym (t.others z (eqb-false z (number_in cells id) e)))
bound_entries law cells tops new id v k (saved.Mark f ∷ saves) [] t i l o h = absurd h
bound_entries law cells tops new id v k (saved.Mark f ∷ saves) (Binding z scope u ∷ entries) t i l o h = absurd h
bound_entries law cells tops new id v k (saved.Binding y local hid levels ∷ saves) [] t i l o h = absurd h
bound_entries law cells tops new id v k (saved.Binding y local hid levels ∷ saves) (Mark m ∷ entries) t i l o h = absurd h

-- the state with another value below all, where the variable is bound, is seen as it was
alike_topped : (law : IdentifiersAreNumbered) (w : World) (stack : StackState) (id : Tagged) (v : Value) (k : ℕ) (s : State) → is_id w.cells.cells id ≡ true → IsOldestOf id k stack.saved → ShowsStack w stack s → SeenAlike s (with_top (number_in w.cells.cells id) v s)
alike_topped law w stack id v k s i o h = record {
  store = refl;
  many = length-set s.symbols n _;
  symbols = λ j. with_top_at s n j v (within law w id s i h.world);
  counts = refl;
  gensyms = refl;
  outside = refl;
  seen = λ j. seen_below false j (tops_of (with_top n v s) j) s.bindings ∙ go j (j == n) refl ∙ sym (seen_below false j (tops_of s j) s.bindings);
  free = h.world.free;
  bound = λ j l. h.world.bound j (let m : length (with_top n v s).symbols ≡ length s.symbols = length-set s.symbols n _ in omega (arith, m, l));
}
  where
    n : ℕ
    n = number_in w.cells.cells id

    go : (j : ℕ) (b : Bool) → (j == n) ≡ b → value_below j (tops_of (with_top n v s) j) s.bindings ≡ value_below j (tops_of s j) s.bindings
    go j true e =
        let at : j ≡ n = eqb-true j n e in
        ap (λ i. value_below i (tops_of (with_top n v s) j) s.bindings) at ∙ bound_below w.cells.cells (tops_of s) id k (tops_of (with_top n v s) j) (tops_of s j) stack.saved s.bindings h.entries o ∙ ap (λ i. value_below i (tops_of s j) s.bindings) (sym at)
    go j false e = ap (λ (y : Symbol). value_below j y.top s.bindings) (top_else s n j v (eqb-false j n e))

pub top_bound : (law : IdentifiersAreNumbered) (w : World) (old new : StackState) (id v : Tagged) (k : ℕ) → new ≡ record old { saved = with_hid k (Some v) old.saved } → IsStackLive w.cells.cells old → is_id w.cells.cells id ≡ true → IsOldestOf id k old.saved
    → (s : State) → ShowsStack w old s → ShowsStack w new (with_top (number_in w.cells.cells id) (value_of w.cells.cells v) s)
top_bound law w old new id v k e l i o s h =
    let n = number_in w.cells.cells id in
    let u = value_of w.cells.cells v in
    subst (λ stack. ShowsStack w stack (with_top n u s)) (sym e) (record {
      world = shows_alike w s (with_top n u s) h.world (alike_topped law w old id u k s i o h);
      entries = bound_entries law w.cells.cells (tops_of s) (tops_of (with_top n u s)) id v k old.saved s.bindings
          (record { here = ap (λ (y : Symbol). y.top) (top_at s n u (within law w id s i h.world)); others = λ j ne. ap (λ (y : Symbol). y.top) (top_else s n j u ne) })
          i l.saved o h.entries;
    })

-- ---- what stays

hid_long : (k : ℕ) (hid : Option Tagged) (saves : List stacked.Saved) → length (with_hid k hid saves) ≡ length saves
hid_long k hid [] = refl
hid_long zero hid (saved.Mark f ∷ saves) = refl
hid_long zero hid (saved.Binding y local old levels ∷ saves) = refl
hid_long (suc k) hid (x ∷ saves) = ap suc (hid_long k hid saves)

hid_levels : (k n : ℕ) (hid : Option Tagged) (saves : List stacked.Saved) → levels_of_saved (take n (with_hid k hid saves)) ≡ levels_of_saved (take n saves)
hid_levels k n hid [] = refl
hid_levels zero n hid (saved.Mark f ∷ saves) = refl
hid_levels zero zero hid (saved.Binding y local old levels ∷ saves) = refl
hid_levels zero (suc n) hid (saved.Binding y local old levels ∷ saves) = refl
hid_levels (suc k) zero hid (x ∷ saves) = refl
hid_levels (suc k) (suc n) hid (x ∷ saves) = ap (λ m. levels_of_one x + m) (hid_levels k n hid saves)

pub sets_hidden : (old new : StackState) (k : ℕ) (hid : Option Tagged) → new ≡ record old { saved = with_hid k hid old.saved } → SetsHidden old new
sets_hidden old new k hid e = subst (SetsHidden old) (sym e) (record { rest = refl; long = hid_long k hid old.saved; levels = λ n. hid_levels k n hid old.saved })

pub sets_nothing : (old : StackState) → SetsHidden old old
sets_nothing old = record { rest = refl; long = refl; levels = λ n. refl }

hid_live : (cells : List Cell) (k : ℕ) (v : Tagged) (saves : List stacked.Saved) → is_live cells v ≡ true → AreSavedLive cells saves → AreSavedLive cells (with_hid k (Some v) saves)
hid_live cells k v [] h l = tt
hid_live cells zero v (saved.Mark f ∷ saves) h l = l
hid_live cells zero v (saved.Binding y local old levels ∷ saves) h l = (l.0, (λ u e. let s : v ≡ u = cc in subst (λ z. is_live cells z ≡ true) s h), l.2)
hid_live cells (suc k) v (saved.Mark f ∷ saves) h l = (l.0, hid_live cells k v saves h l.1)
hid_live cells (suc k) v (saved.Binding y local old levels ∷ saves) h l = (l.0, l.1, hid_live cells k v saves h l.2)

pub top_live : (cells : List Cell) (old new : StackState) (k : ℕ) (v : Tagged) → new ≡ record old { saved = with_hid k (Some v) old.saved } → is_live cells v ≡ true → IsStackLive cells old → IsStackLive cells new
top_live cells old new k v e h l = subst (IsStackLive cells) (sym e) (record { frames = l.frames; unframed = l.unframed; saved = hid_live cells k v old.saved h l.saved; registers = l.registers })

levels_whole : (saves : List stacked.Saved) → take (length saves) saves ≡ saves
levels_whole [] = refl
levels_whole (x ∷ saves) = ap (λ xs. x ∷ xs) (levels_whole saves)

pub top_stands : (w : World) (old new : StackState) (k : ℕ) (hid : Option Tagged) → new ≡ record old { saved = with_hid k hid old.saved } → StandsIn w old → StandsIn w new
top_stands w old new k hid e h =
    let n : levels_of_saved (with_hid k hid old.saved) ≡ levels_of_saved old.saved =
    ap levels_of_saved (sym (levels_whole (with_hid k hid old.saved)) ∙ ap (λ m. take m (with_hid k hid old.saved)) (hid_long k hid old.saved)) ∙ hid_levels k (length old.saved) hid old.saved ∙ ap levels_of_saved (levels_whole old.saved) in
    subst (StandsIn w) (sym e) (record { nest = h.nest; levels = omega (arith, n, h.levels) })

pub oldest_inside : (id : Tagged) (k : ℕ) (saves : List stacked.Saved) → IsOldestOf id k saves → k < length saves
oldest_inside id k [] o = absurd o
oldest_inside id zero (x ∷ saves) o = omega (arith)
oldest_inside id (suc k) (x ∷ saves) o = let r = oldest_inside id k saves o in omega (arith, r)
