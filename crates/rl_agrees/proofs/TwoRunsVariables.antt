-- Variables of two runs side by side: where the right run finds a binding that the left one lacks, it records that the use strays.
use Rattle.std.proofs.Common.{◌≡◌, ◌⊎◌, inl, inr, ◌==◌, ◌∙◌, if◌then◌else◌, ℕ, Bool, true, false, List, ◌∷◌, take, Option, Some, None, refl, sym, subst}
use Rattle.rl_tree.specs.Value.{Value, Id}
use Rattle.rl_meaning.specs.State.{State, Pointer, Symbol, Entry, Binding, Mark, Scope, Local, Stray, Event, Recorded}
use Rattle.rl_meaning.specs.Outcome.{Outcome, Done, choose}
use Rattle.rl_meaning.specs.Symbols.{symbol_at, is_constant}
use Rattle.rl_meaning.specs.Errors.{fail, not_bindable, unbound}
use Rattle.rl_meaning.specs.Events.{first_event}
use Rattle.rl_meaning.specs.Opening.{state_of}
use Rattle.rl_meaning.specs.Variables.{Nearest, nearest_from, is_local, strays, use_strays, top_value, variable_used, variable, with_nearest, with_value, stray_of, assigned, assigned_by_name}
use Rattle.rl_meaning.specs.TwoRunsValues.{Names, Maybe, nothing, just, SameValue, same_id, SameSymbol, same_symbol, SamePointer}
use Rattle.rl_meaning.specs.TwoRunsStates.{Bounds, EntryPlace, Both, BothMark, Hidden, HiddenMark, Aligned, bottom, both, both_mark, hidden, hidden_mark, Shown, Like}
use Rattle.rl_meaning.specs.TwoRunsEnds.{HasShown, Parted, by_event, done, parted, EndsAgree}
use Rattle.rl_agrees.proofs.TwoRunsGrowth.{grows_refl}
use Rattle.rl_agrees.proofs.TwoRunsWays.{watched_like}
use Rattle.rl_agrees.proofs.TwoRunsObjects.{symbol_same, with_top_like}
use Rattle.rl_agrees.proofs.TwoRunsQuiet.{HasOutside, begins_taken, fail_outside, fail_ends}

-- ---- events

record SomeEvent (o : Option Recorded) (event : Event) (t : State) : Type 0 where
  pub recorded : Recorded
  pub is : first_event o event t ≡ Some recorded

some_event : (o : Option Recorded) (event : Event) (t : State) → SomeEvent o event t
some_event (Some r) event t = record { recorded = r; is = refl }
some_event None event t = record { recorded = _; is = refl }

module _ {bounds : Bounds} where
  -- the right run has an event, and both had printed the same
  event_parts : {A : Type 0} (event : Event) (t : State) (o p : Outcome A) → HasOutside t.outside o → HasOutside t.outside p → (state_of p).watched.event ≡ first_event t.watched.event event t → Parted bounds o p
  event_parts event t o p e f g =
      let r : SomeEvent t.watched.event event t = some_event t.watched.event event t in
      by_event o p r.recorded (g ∙ r.is)
      (subst (λ y. HasShown (take r.recorded.printed y.output) (take r.recorded.noted y.notes) (state_of o).outside) (sym f)
      (subst (λ y. HasShown (take r.recorded.printed t.outside.output) (take r.recorded.noted t.outside.notes) y) (sym e)
      (record { output = begins_taken r.recorded.printed t.outside.output; notes = begins_taken r.recorded.noted t.outside.notes })))

  strays_like : (n : Names) (ps : List EntryPlace) (b c : Bool) (x : ℕ) (s t : State) → Like bounds n ps s t → Like bounds n ps (strays b x s) (strays c x t)
  strays_like n ps true true x s t l = watched_like n ps s t _ _ l
  strays_like n ps true false x s t l = watched_like n ps s t _ t.watched l
  strays_like n ps false true x s t l = watched_like n ps s t s.watched _ l
  strays_like n ps false false x s t l = l

strays_outside : (b : Bool) (x : ℕ) (s : State) → (strays b x s).outside ≡ s.outside
strays_outside true x s = refl
strays_outside false x s = refl

-- ---- the nearest binding

abbrev local_at : Value → Bool → Nearest
local_at w below = record { scope = Local; value = w; below = below }

-- both sides find the same one and can set it; or the right one finds a local one that the left one lacks, and a use of it strays by this test
data SameNearest (test : Nearest → Bool) (n : Names) (x : ℕ) (ps : List EntryPlace) (xs ys : List Entry) : Option Nearest → Option Nearest → Type 0 where
  nowhere : SameNearest test n x ps xs ys None None
  found : (scope : Scope) (v w : Value) (below below' : Bool) → SameValue n v w → ((a b : Value) → SameValue n a b → Aligned n ps (with_nearest x a xs) (with_nearest x b ys))
      → SameNearest test n x ps xs ys (Some (record { scope = scope; value = v; below = below })) (Some (record { scope = scope; value = w; below = below' }))
  missed : (o : Option Nearest) (w : Value) (below : Bool) → test (local_at w below) ≡ true → SameNearest test n x ps xs ys o (Some (local_at w below))

-- a use of a local binding strays below the newest mark
abbrev Deep : (Nearest → Bool) → Type 0
Deep test = (w : Value) → test (local_at w true) ≡ true

-- above it a use strays too, or nothing is hidden
abbrev Covered : (Nearest → Bool) → Bool → List EntryPlace → Type 0
Covered test true ps = Unit {0}
Covered test false ps = ((w : Value) → test (local_at w false) ≡ true) ⊎ Shown ps

module _ (test : Nearest → Bool) where
  covered_behind : (c : Bool) (ps : List EntryPlace) → Covered test c (Both ∷ ps) → Covered test c ps
  covered_behind true ps w = tt
  covered_behind false ps (inl h) = inl h
  covered_behind false ps (inr h) = inr h

  covered_hidden : (c : Bool) (y : ℕ) (v : Value) (ps : List EntryPlace) → Covered test c (Hidden y v ∷ ps) → Covered test c ps
  covered_hidden true y v ps w = tt
  covered_hidden false y v ps (inl h) = inl h
  covered_hidden false y v ps (inr h) = absurd h

  hidden_strays : Deep test → (c : Bool) (y : ℕ) (v : Value) (ps : List EntryPlace) → Covered test c (Hidden y v ∷ ps) → test (local_at v c) ≡ true
  hidden_strays deep true y v ps w = deep v
  hidden_strays deep false y v ps (inl h) = h v
  hidden_strays deep false y v ps (inr h) = absurd h

module _ (test : Nearest → Bool) (deep : Deep test) (n : Names) (x : ℕ) where
  -- one more entry on top: a binding of another variable, or a mark
  binding_over : (c : Bool) → c ≡ false → (y : ℕ) → (x == y) ≡ c → (scope : Scope) (v w : Value) (ps : List EntryPlace) (xs ys : List Entry) (o p : Option Nearest) → SameValue n v w → SameNearest test n x ps xs ys o p
      → SameNearest test n x (Both ∷ ps) (Binding y scope v ∷ xs) (Binding y scope w ∷ ys) o p
  binding_over c e y f scope v w ps xs ys _ _ h nowhere = nowhere
  binding_over c e y f scope v w ps xs ys _ _ h (missed o u below i) = missed o u below i
  binding_over c e y f scope v w ps xs ys _ _ h (found s a b below below' i k) = found s a b below below' i (λ a b r. rw (f, e) (both y scope v w ps _ _ h (k a b r)))

  mark_over : (f g : Option Pointer) (ps : List EntryPlace) (xs ys : List Entry) (o p : Option Nearest) → Maybe (SamePointer n) f g → SameNearest test n x ps xs ys o p → SameNearest test n x (BothMark ∷ ps) (Mark f ∷ xs) (Mark g ∷ ys) o p
  mark_over f g ps xs ys _ _ h nowhere = nowhere
  mark_over f g ps xs ys _ _ h (missed o u below i) = missed o u below i
  mark_over f g ps xs ys _ _ h (found s a b below below' i k) = found s a b below below' i (λ a b r. both_mark f g ps _ _ h (k a b r))

  hidden_over : (y : ℕ) → (x == y) ≡ false → (v : Value) (ps : List EntryPlace) (xs ys : List Entry) (o p : Option Nearest) → SameNearest test n x ps xs ys o p → SameNearest test n x (Hidden y v ∷ ps) xs (Binding y Local v ∷ ys) o p
  hidden_over y f v ps xs ys _ _ nowhere = nowhere
  hidden_over y f v ps xs ys _ _ (missed o u below i) = missed o u below i
  hidden_over y f v ps xs ys _ _ (found s a b below below' i k) = found s a b below below' i (λ a b r. rw f (hidden y v ps _ _ (k a b r)))

  hidden_mark_over : (g : Option Pointer) (ps : List EntryPlace) (xs ys : List Entry) (o p : Option Nearest) → SameNearest test n x ps xs ys o p → SameNearest test n x (HiddenMark g ∷ ps) xs (Mark g ∷ ys) o p
  hidden_mark_over g ps xs ys _ _ nowhere = nowhere
  hidden_mark_over g ps xs ys _ _ (missed o u below i) = missed o u below i
  hidden_mark_over g ps xs ys _ _ (found s a b below below' i k) = found s a b below below' i (λ a b r. hidden_mark g ps _ _ (k a b r))

  binding_found : (b b' : Bool) (y : ℕ) (scope : Scope) (v w : Value) (ps : List EntryPlace) (xs ys : List Entry) (o p : Option Nearest) → SameValue n v w → Aligned n ps xs ys → SameNearest test n x ps xs ys o p → (c : Bool) → (x == y) ≡ c
      → SameNearest test n x (Both ∷ ps) (Binding y scope v ∷ xs) (Binding y scope w ∷ ys) (if c then Some (record { scope = scope; value = v; below = b }) else o) (if c then Some (record { scope = scope; value = w; below = b' }) else p)
  binding_found b b' y scope v w ps xs ys o p h k r true e = found scope v w b b' h (λ a c r. rw e (both y scope a c ps xs ys r k))
  binding_found b b' y scope v w ps xs ys o p h k r false e = binding_over false refl y e scope v w ps xs ys o p h r

  hidden_found : (b : Bool) (y : ℕ) (v : Value) (ps : List EntryPlace) (xs ys : List Entry) (o p : Option Nearest) → test (local_at v b) ≡ true → SameNearest test n x ps xs ys o p → (c : Bool) → (x == y) ≡ c
      → SameNearest test n x (Hidden y v ∷ ps) xs (Binding y Local v ∷ ys) o (if c then Some (local_at v b) else p)
  hidden_found b y v ps xs ys o p h r true e = missed o v b h
  hidden_found b y v ps xs ys o p h r false e = hidden_over y e v ps xs ys o p r

  nearest_same : (b c : Bool) (ps : List EntryPlace) (xs ys : List Entry) → Covered test c ps → Aligned n ps xs ys → SameNearest test n x ps xs ys (nearest_from b x xs) (nearest_from c x ys)
  nearest_same b c _ _ _ w bottom = nowhere
  nearest_same b c _ _ _ w (both y scope v u ps xs ys h k) = binding_found b c y scope v u ps xs ys _ _ h k (nearest_same b c ps xs ys (covered_behind test c ps w) k) (x == y) refl
  nearest_same b c _ _ _ w (both_mark f g ps xs ys h k) = mark_over f g ps xs ys _ _ h (nearest_same true true ps xs ys tt k)
  nearest_same b c _ _ _ w (hidden_mark g ps xs ys k) = hidden_mark_over g ps xs ys _ _ (nearest_same b true ps xs ys tt k)
  nearest_same b c _ _ _ w (hidden y v ps xs ys k) =
      hidden_found c y v ps xs ys _ _ (hidden_strays test deep c y v ps w) (nearest_same b c ps xs ys (covered_hidden test c y v ps w) k) (x == y) refl

-- ---- use

top_same : (n : Names) (x y : Symbol) → SameSymbol n x y → Maybe (SameValue n) x.top y.top
top_same n _ _ (same_symbol name interned kind a b p q d e h k l) = h

module _ {bounds : Bounds} where
  top_ends : (n : Names) (ps : List EntryPlace) (o p : Option Value) (x : ℕ) (s t : State) → Maybe (SameValue n) o p → Like bounds n ps s t → EndsAgree bounds n ps (top_value o x s) (top_value p x t)
  top_ends n ps _ _ x s t nothing l = fail_ends n ps unbound (Id x) (Id x) s t (same_id x) l
  top_ends n ps _ _ x s t (just v w h) l = done n v w s t (grows_refl n) h l

top_outside : (o : Option Value) (x : ℕ) (s : State) → HasOutside s.outside (top_value o x s)
top_outside (Some v) x s = refl
top_outside None x s = fail_outside Value unbound (Id x) s

used_outside : (o : Option Nearest) (x : ℕ) (s : State) → HasOutside s.outside (variable_used o x s)
used_outside None x s = top_outside (symbol_at s x).top x s
used_outside (Some b) x s = strays_outside (use_strays b) x s

module _ {bounds : Bounds} where
  used_ends : (n : Names) (ps : List EntryPlace) (x : ℕ) (xs ys : List Entry) (o p : Option Nearest) (s t : State) → SameNearest use_strays n x ps xs ys o p → Like bounds n ps s t → EndsAgree bounds n ps (variable_used o x s) (variable_used p x t)
  used_ends n ps x xs ys _ _ s t nowhere l = top_ends n ps _ _ x s t (top_same n _ _ (symbol_same n ps s t x l)) l
  used_ends n ps x xs ys _ _ s t (found scope v w below below' h k) l = done n v w _ _ (grows_refl n) h (strays_like n ps _ _ x s t l)
  used_ends n ps x xs ys _ _ s t (missed o w below h) l =
      parted _ _ (subst (λ b. Parted bounds (variable_used o x s) (Done w (strays b x t))) (sym h) (event_parts (Stray x) t (variable_used o x s) (Done w (strays true x t)) (used_outside o x s ∙ l.outside) refl refl))

  pub variable_related : (n : Names) (ps : List EntryPlace) (x : ℕ) (s t : State) → Shown ps → Like bounds n ps s t → EndsAgree bounds n ps (variable x s) (variable x t)
  variable_related n ps x s t w l = used_ends n ps x _ _ _ _ s t (nearest_same use_strays (λ w. refl) n x false false ps s.bindings t.bindings (inr w) l.bindings) l

  -- ---- setting

  pub bindings_like : (n : Names) (ps qs : List EntryPlace) (s t : State) (xs ys : List Entry) → Like bounds n ps s t → Aligned n qs xs ys → Like bounds n qs (record s { bindings = xs }) (record t { bindings = ys })
  bindings_like n ps qs s t xs ys l h = record { store = l.store; functions = l.functions; symbols = l.symbols; bindings = h; counts = l.counts; outside = l.outside; gensyms = l.gensyms; compilation = l.compilation }

set_outside : (test : Nearest → Bool) (o : Option Nearest) (x : ℕ) (v : Value) (s : State) → (with_value o x v (strays (stray_of test o) x s)).outside ≡ s.outside
set_outside test None x v s = refl
set_outside test (Some b) x v s = strays_outside (test b) x s

module _ {bounds : Bounds} where
  set_ends : (test : Nearest → Bool) (n : Names) (ps : List EntryPlace) (x : ℕ) (v w : Value) (s t : State) (o p : Option Nearest) → SameNearest test n x ps s.bindings t.bindings o p → SameValue n v w → Like bounds n ps s t
      → EndsAgree bounds n ps (Done v (with_value o x v (strays (stray_of test o) x s))) (Done w (with_value p x w (strays (stray_of test p) x t)))
  set_ends test n ps x v w s t _ _ nowhere r l = done n v w _ _ (grows_refl n) r (with_top_like n ps x v w s t l r)
  set_ends test n ps x v w s t _ _ (found scope a b below below' i j) r l =
      done n v w _ _ (grows_refl n) r (set (test (record { scope = scope; value = a; below = below })) (test (record { scope = scope; value = b; below = below' })))
    where
      set : (c d : Bool) → Like bounds n ps (with_value (Some (record { scope = scope; value = a; below = below })) x v (strays c x s)) (with_value (Some (record { scope = scope; value = b; below = below' })) x w (strays d x t))
      set true true = bindings_like n ps ps _ _ _ _ (strays_like n ps true true x s t l) (j v w r)
      set true false = bindings_like n ps ps _ _ _ _ (strays_like n ps true false x s t l) (j v w r)
      set false true = bindings_like n ps ps _ _ _ _ (strays_like n ps false true x s t l) (j v w r)
      set false false = bindings_like n ps ps _ _ _ _ l (j v w r)
  set_ends test n ps x v w s t _ _ (missed o u below h) r l =
      parted _ _ (subst (λ b. Parted bounds (Done v (with_value o x v (strays (stray_of test o) x s))) (Done w (with_value (Some (local_at u below)) x w (strays b x t)))) (sym h)
      (event_parts (Stray x) t (Done v (with_value o x v (strays (stray_of test o) x s))) (Done w (with_value (Some (local_at u below)) x w (strays true x t))) (set_outside test o x v s ∙ l.outside) refl refl))

  constant_ends : (n : Names) (ps : List EntryPlace) (x : ℕ) (b : Bool) (s t : State) (f g : State → Outcome Value) → Like bounds n ps s t → EndsAgree bounds n ps (f s) (g t) → EndsAgree bounds n ps (choose b s (λ s. fail not_bindable (Id x) s) f) (choose b t (λ s. fail not_bindable (Id x) s) g)
  constant_ends n ps x true s t f g l h = fail_ends n ps not_bindable (Id x) (Id x) s t (same_id x) l
  constant_ends n ps x false s t f g l h = h

  pub assigned_related : (n : Names) (ps : List EntryPlace) (x : ℕ) (v w : Value) (s t : State) → SameValue n v w → Shown ps → Like bounds n ps s t → EndsAgree bounds n ps (assigned x v s) (assigned x w t)
  assigned_related n ps x v w s t r h l =
      constant_ends n ps x (is_constant x) s t _ _ l (set_ends use_strays n ps x v w s t _ _ (nearest_same use_strays (λ w. refl) n x false false ps s.bindings t.bindings (inr h) l.bindings) r l)

  -- a SET strays wherever the binding is local
  pub by_name_related : (n : Names) (ps : List EntryPlace) (x : ℕ) (v w : Value) (s t : State) → SameValue n v w → Like bounds n ps s t → EndsAgree bounds n ps (assigned_by_name x v s) (assigned_by_name x w t)
  by_name_related n ps x v w s t r l =
      constant_ends n ps x (is_constant x) s t _ _ l (set_ends (λ b. is_local b.scope) n ps x v w s t _ _ (nearest_same (λ b. is_local b.scope) (λ w. refl) n x false false ps s.bindings t.bindings (inl (λ w. refl)) l.bindings) r l)
