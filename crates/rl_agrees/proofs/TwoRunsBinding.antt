-- Bindings and marks of two runs side by side, and the ways back to former bindings.
use Rattle.std.proofs.Common.{◌≡◌, ◌≤◌, ◌+◌, ◌∙◌, ℕ, zero, suc, Bool, true, false, List, [], ◌∷◌, length, drop, take, Option, refl, sym, ap, subst, arith}
use Rattle.rl_tree.specs.Value.{Value, Id}
use Rattle.rl_tree.specs.declared.held.VarKind.{VarKind}
use Rattle.rl_tree.specs.declared.held.VarKind.TheVariants as kind
use Rattle.rl_meaning.specs.State.{State, Outside, Pointer, Entry, Scope, Local, Fluid, Kept}
use Rattle.rl_meaning.specs.Outcome.{Outcome, Done, Failed, Went, Returned, Stopped, then_do, choose, Levels}
use Rattle.rl_meaning.specs.Symbols.{nil_value_of_state, nil_number, is_constant}
use Rattle.rl_meaning.specs.Errors.{fail, not_bindable}
use Rattle.rl_meaning.specs.Holding.{kept_kind}
use Rattle.rl_meaning.specs.Opening.{state_of}
use Rattle.rl_meaning.specs.Variables.{with_binding, with_mark, bound_as, bind_all, binding_levels, with_oldest, restored, binding}
use Rattle.rl_meaning.specs.TwoRunsValues.{Names, Grows, Maybe, Each, end, more, SameValue, same_id, SamePointer}
use Rattle.rl_meaning.specs.TwoRunsStates.{Bounds, EntryPlace, Both, BothMark, Hidden, HiddenMark, Aligned, bottom, both, both_mark, hidden, hidden_mark, Shown, Like, Roomier}
use Rattle.rl_meaning.specs.TwoRunsEnds.{HasShown, OneBegins, Parted, by_event, right_short, left_short, short_by_event, both_short, Related, done, failed, went, returned, stopped, parted}
use Rattle.rl_agrees.proofs.TwoRunsGrowth.{grows_refl}
use Rattle.rl_agrees.proofs.TwoRunsWays.{then_related}
use Rattle.rl_agrees.proofs.TwoRunsObjects.{fail_related}
use Rattle.rl_agrees.proofs.TwoRunsQuiet.{Shows, Prints, Leaves, Quits, quits_outside, quits_leaves, then_leaves, leaves_shows, fail_quits, quiet_ends, deeper_ends}
use Rattle.rl_agrees.proofs.TwoRunsVariables.{bindings_like}

-- ---- places above others

pub data Above (ps : List EntryPlace) : List EntryPlace → Type 0 where
  level : Above ps ps
  over : (p : EntryPlace) (qs : List EntryPlace) → Above ps qs → Above ps (p ∷ qs)

-- how many entries the left run has
lefts_in : List EntryPlace → ℕ
lefts_in [] = 0
lefts_in (Both ∷ ps) = suc (lefts_in ps)
lefts_in (BothMark ∷ ps) = suc (lefts_in ps)
lefts_in (Hidden x v ∷ ps) = lefts_in ps
lefts_in (HiddenMark g ∷ ps) = lefts_in ps

lefts : (n : Names) (ps : List EntryPlace) (xs ys : List Entry) → Aligned n ps xs ys → length xs ≡ lefts_in ps
unfolding lefts_in
lefts n _ _ _ bottom = refl
lefts n _ _ _ (both x scope v w ps xs ys h k) = ap suc (lefts n ps xs ys k)
lefts n _ _ _ (both_mark f g ps xs ys h k) = ap suc (lefts n ps xs ys k)
lefts n _ _ _ (hidden x v ps xs ys k) = lefts n ps xs ys k
lefts n _ _ _ (hidden_mark g ps xs ys k) = lefts n ps xs ys k

rights : (n : Names) (ps : List EntryPlace) (xs ys : List Entry) → Aligned n ps xs ys → length ys ≡ length ps
rights n _ _ _ bottom = refl
rights n _ _ _ (both x scope v w ps xs ys h k) = ap suc (rights n ps xs ys k)
rights n _ _ _ (both_mark f g ps xs ys h k) = ap suc (rights n ps xs ys k)
rights n _ _ _ (hidden x v ps xs ys k) = ap suc (rights n ps xs ys k)
rights n _ _ _ (hidden_mark g ps xs ys k) = ap suc (rights n ps xs ys k)

above_left : (ps qs : List EntryPlace) → Above ps qs → lefts_in ps ≤ lefts_in qs
unfolding lefts_in
above_left ps _ level = omega arith
above_left ps _ (over Both qs o) = let e = above_left ps qs o in omega (arith, e)
above_left ps _ (over BothMark qs o) = let e = above_left ps qs o in omega (arith, e)
above_left ps _ (over (Hidden x v) qs o) = above_left ps qs o
above_left ps _ (over (HiddenMark g) qs o) = above_left ps qs o

above_right : (ps qs : List EntryPlace) → Above ps qs → length ps ≤ length qs
above_right ps _ level = omega arith
above_right ps _ (over p qs o) = let e = above_right ps qs o in omega (arith, e)

-- the oldest entries lie as they lay
oldest : (n : Names) (ps qs : List EntryPlace) (xs ys : List Entry) → Above ps qs → Aligned n qs xs ys → (i j : ℕ) → i + lefts_in ps ≡ lefts_in qs → j + length ps ≡ length qs → Aligned n ps (drop i xs) (drop j ys)
unfolding lefts_in
oldest n ps _ xs ys level k i j a b = let e : i ≡ 0 = omega (arith, a) in let f : j ≡ 0 = omega (arith, b) in rw (e, f) k
oldest n ps _ _ _ (over Both qs o) (both x scope v w _ xs ys h k) zero j a b = absurd (omega (arith, a, above_left ps qs o))
oldest n ps _ _ _ (over Both qs o) (both x scope v w _ xs ys h k) (suc i) zero a b = absurd (omega (arith, b, above_right ps qs o))
oldest n ps _ _ _ (over Both qs o) (both x scope v w _ xs ys h k) (suc i) (suc j) a b = oldest n ps qs xs ys o k i j (omega (arith, a)) (omega (arith, b))
oldest n ps _ _ _ (over BothMark qs o) (both_mark f g _ xs ys h k) zero j a b = absurd (omega (arith, a, above_left ps qs o))
oldest n ps _ _ _ (over BothMark qs o) (both_mark f g _ xs ys h k) (suc i) zero a b = absurd (omega (arith, b, above_right ps qs o))
oldest n ps _ _ _ (over BothMark qs o) (both_mark f g _ xs ys h k) (suc i) (suc j) a b = oldest n ps qs xs ys o k i j (omega (arith, a)) (omega (arith, b))
oldest n ps _ _ _ (over (Hidden x v) qs o) (hidden _ _ _ xs ys k) i zero a b = absurd (omega (arith, b, above_right ps qs o))
oldest n ps _ _ _ (over (Hidden x v) qs o) (hidden _ _ _ xs ys k) i (suc j) a b = oldest n ps qs xs ys o k i j a (omega (arith, b))
oldest n ps _ _ _ (over (HiddenMark g) qs o) (hidden_mark _ _ xs ys k) i zero a b = absurd (omega (arith, b, above_right ps qs o))
oldest n ps _ _ _ (over (HiddenMark g) qs o) (hidden_mark _ _ xs ys k) i (suc j) a b = oldest n ps qs xs ys o k i j a (omega (arith, b))

-- ---- former bindings

restored_outside : {A : Type 0} (i : ℕ) (o : Outcome A) → (state_of (restored i o)).outside ≡ (state_of o).outside
restored_outside i (Done a s) = refl
restored_outside i (Failed z m s) = refl
restored_outside i (Went l s) = refl
restored_outside i (Returned v s) = refl
restored_outside i (Stopped why s) = refl

restored_watched : {A : Type 0} (i : ℕ) (o : Outcome A) → (state_of (restored i o)).watched ≡ (state_of o).watched
restored_watched i (Done a s) = refl
restored_watched i (Failed z m s) = refl
restored_watched i (Went l s) = refl
restored_watched i (Returned v s) = refl
restored_watched i (Stopped why s) = refl

pub restored_shows : {A : Type 0} (x : Outside) (i : ℕ) (o : Outcome A) → Shows x o → Shows x (restored i o)
restored_shows x i o h = subst (λ y. HasShown x.output x.notes y) (sym (restored_outside i o)) h

module _ {bounds : Bounds} where
  -- the evidence of outcomes that are apart is not touched
  pub restored_parted : {A : Type 0} (i j : ℕ) (o p : Outcome A) → Parted bounds o p → Parted bounds (restored i o) (restored j p)
  restored_parted i j o p (by_event _ _ r e h) =
      by_event (restored i o) (restored j p) r (ap (λ w. w.event) (restored_watched j p) ∙ e)
      (subst (λ y. HasShown (take r.printed y.output) (take r.noted y.notes) (state_of (restored i o)).outside) (sym (restored_outside j p))
      (subst (λ y. HasShown (take r.printed (state_of p).outside.output) (take r.noted (state_of p).outside.notes) y) (sym (restored_outside i o)) h))
  restored_parted i j o _ (right_short _ why t e h) = right_short (restored i o) why t e (subst (λ y. HasShown t.outside.output t.outside.notes y) (sym (restored_outside i o)) h)
  restored_parted i j _ p (left_short why s _ e h) = left_short why s (restored j p) e (subst (λ y. HasShown s.outside.output s.outside.notes y) (sym (restored_outside j p)) h)
  restored_parted i j _ p (short_by_event why s _ r e f h k) =
      short_by_event why s (restored j p) r e (ap (λ w. w.event) (restored_watched j p) ∙ f) (subst (λ y. OneBegins (take r.printed y.output) s.outside.output) (sym (restored_outside j p)) h)
      (subst (λ y. OneBegins (take r.noted y.notes) s.outside.notes) (sym (restored_outside j p)) k)
  restored_parted i j _ _ (both_short why other s t e f h k) = both_short why other s t e f h k

module _ {bounds : Bounds} (n : Names) (ps : List EntryPlace) (s t : State) (l : Like bounds n ps s t) where
  oldest_like : (m : Names) (qs : List EntryPlace) (a b : State) → Above ps qs → Like bounds m qs a b → Like bounds m ps (with_oldest (length s.bindings) a) (with_oldest (length t.bindings) b)
  oldest_like m qs a b o k =
      bindings_like m qs ps a b _ _ k (oldest m ps qs _ _ o k.bindings _ _
      (omega (arith, lefts n ps _ _ l.bindings, lefts m qs _ _ k.bindings, above_left ps qs o)) (omega (arith, rights n ps _ _ l.bindings, rights m qs _ _ k.bindings, above_right ps qs o)))

  -- what ran behind more entries, with the former bindings again
  pub restored_related : {A : Type 0} {R : Names → A → A → Type 0} (m : Names) (qs : List EntryPlace) (o p : Outcome A) → Above ps qs → Related bounds (Parted bounds) R m qs o p → Related bounds (Parted bounds) R m ps (restored (length s.bindings) o) (restored (length t.bindings) p)
  restored_related m qs o p i (done k a b u v g r x) = done k a b _ _ g r (oldest_like k qs u v i x)
  restored_related m qs o p i (failed k z a b u v g r x) = failed k z a b _ _ g r (oldest_like k qs u v i x)
  restored_related m qs o p i (went k x u v g y) = went k x _ _ g (oldest_like k qs u v i y)
  restored_related m qs o p i (returned k a b u v g r x) = returned k a b _ _ g r (oldest_like k qs u v i x)
  restored_related m qs o p i (stopped why u v h) = stopped why u v h
  restored_related m qs o p i (parted _ _ a) = parted _ _ (restored_parted (length s.bindings) (length t.bindings) o p a)

-- ---- marks

module _ {bounds : Bounds} where
  pub mark_like : (n : Names) (ps : List EntryPlace) (f g : Option Pointer) (s t : State) → Maybe (SamePointer n) f g → Like bounds n ps s t → Like bounds n (BothMark ∷ ps) (with_mark f s) (with_mark g t)
  mark_like n ps f g s t h l = bindings_like n ps (BothMark ∷ ps) s t _ _ l (both_mark f g ps _ _ h l.bindings)

-- ---- binding

-- the places behind so many new bindings
abbrev pub bound_places : List ℕ → List EntryPlace → List EntryPlace
bound_places [] ps = ps
bound_places (x ∷ xs) ps = bound_places xs (Both ∷ ps)

-- only the bindings are others
pub record Rebound (s a : State) : Type 0 where
  pub is : a ≡ record s { bindings = a.bindings }

module _ {bounds : Bounds} where
  pub bound_like : (n : Names) (ps : List EntryPlace) (x : ℕ) (scope : Scope) (v w : Value) (s t : State) → SameValue n v w → Like bounds n ps s t → Like bounds n (Both ∷ ps) (with_binding x scope v s) (with_binding x scope w t)
  bound_like n ps x scope v w s t r l = bindings_like n ps (Both ∷ ps) s t _ _ l (both x scope v w ps _ _ r l.bindings)

-- ---- what a binding prints: nothing

bound_leaves : (x : ℕ) (k : VarKind) (v : Value) (y : Outside) (s : State) → s.outside ≡ y → Leaves y (λ s. s.outside ≡ y) (bound_as k x v s)
bound_leaves x kind.Plain v y s e = e
bound_leaves x kind.Fluid v y s e = e
bound_leaves x kind.Global v y s e = quits_leaves y _ _ (fail_quits (Unit {0}) not_bindable (Id x) y s e)

bind_leaves : (x : ℕ) (b : Bool) (k : VarKind) (v : Value) (y : Outside) (s : State) → s.outside ≡ y → Leaves y (λ s. s.outside ≡ y) (choose b s (λ s. fail not_bindable (Id x) s) (λ s. bound_as k x v s))
bind_leaves x true k v y s e = quits_leaves y _ _ (fail_quits (Unit {0}) not_bindable (Id x) y s e)
bind_leaves x false k v y s e = bound_leaves x k v y s e

all_leave : (kept : List Kept) (xs : List ℕ) (vs : List Value) (y : Outside) (s : State) → s.outside ≡ y → Leaves y (λ s. s.outside ≡ y) (bind_all kept xs vs s)
all_leave kept [] vs y s e = e
all_leave kept (x ∷ xs) (v ∷ vs) y s e = then_leaves y (λ s. s.outside ≡ y) _ _ _ (bind_leaves x (is_constant x) (kept_kind kept x) v y s e) (λ a s e. all_leave kept xs vs y s e)
all_leave kept (x ∷ xs) [] y s e = then_leaves y (λ s. s.outside ≡ y) _ _ _ (bind_leaves x (is_constant x) (kept_kind kept x) nil_value_of_state y s e) (λ a s e. all_leave kept xs [] y s e)

all_show : {A : Type 0} (kept : List Kept) (xs : List ℕ) (vs : List Value) (s : State) (f : State → Outcome A) → Prints f → Shows s.outside (restored (length s.bindings) (then_do (bind_all kept xs vs s) (λ done s. f s)))
all_show kept xs vs s f h =
    restored_shows s.outside (length s.bindings) (then_do (bind_all kept xs vs s) (λ done s. f s)) (leaves_shows s.outside (λ t. t.outside ≡ s.outside) (bind_all kept xs vs s) (λ done s. f s) (all_leave kept xs vs s.outside s refl) (λ a t e. subst (λ y. Shows y (f t)) e (h t)))

-- ---- binding on both sides

-- nothing has this
Never : Names → Unit {0} → Unit {0} → Type 0
Never n a b = ⊥

module _ {bounds : Bounds} {A : Type 0} {R : Names → A → A → Type 0} (n : Names) (ps : List EntryPlace) (s t : State) (l : Like bounds n ps s t) where
  -- the variable may not be bound: the bindings before it are undone
  refused : (m : Names) (qs : List EntryPlace) (x : ℕ) (u v : State) (f g : Unit {0} → State → Outcome (Unit {0})) (f' g' : Unit {0} → State → Outcome A) → Above ps qs → Like bounds m qs u v
      → Related bounds (Parted bounds) R m ps (restored (length s.bindings) (then_do (then_do (fail not_bindable (Id x) u) f) f')) (restored (length t.bindings) (then_do (then_do (fail not_bindable (Id x) v) g) g'))
  unfolding Never
  refused m qs x u v f g f' g' o k =
      restored_related n ps s t l m qs _ _ o
      (quiet_ends m qs u.outside _ _ (quits_outside u.outside _ (quits_then u f f' refl)) (quits_outside u.outside _ (quits_then v g g' (sym k.outside)))
      (then_related {R = Never} m qs _ _ _ _ (then_related {R = Never} {S = Never} m qs _ _ _ _ (fail_related {R = Never} m qs not_bindable (Id x) (Id x) u v k (same_id x)) (λ m a b s t g r l. absurd r)) (λ m a b s t g r l. absurd r)))
    where
      quits_then : (w : State) (h : Unit {0} → State → Outcome (Unit {0})) (h' : Unit {0} → State → Outcome A) → w.outside ≡ u.outside → Quits u.outside (then_do (then_do (fail not_bindable (Id x) w) h) h')
      quits_then w h h' e = then_leaves u.outside (λ s. ⊥) (λ s. ⊥) _ _ (then_leaves u.outside (λ s. ⊥) (λ s. ⊥) _ _ (fail_quits (Unit {0}) not_bindable (Id x) u.outside w e) (λ a s e. absurd e)) (λ a s e. absurd e)

  -- a binding of both, with what goes on behind it
  bound_step : (m : Names) (qs : List EntryPlace) (x : ℕ) (a b : Value) (u v : State) (f g : State → Outcome (Unit {0})) (f' g' : State → Outcome A) → Above ps qs → SameValue m a b → Like bounds m qs u v
      → ((scope : Scope) → Related bounds (Parted bounds) R m ps (restored (length s.bindings) (then_do (f (with_binding x scope a u)) (λ done s. f' s))) (restored (length t.bindings) (then_do (g (with_binding x scope b v)) (λ done s. g' s))))
      → (k : VarKind) (c : Bool)
      → Related bounds (Parted bounds) R m ps (restored (length s.bindings) (then_do (then_do (choose c u (λ s. fail not_bindable (Id x) s) (λ s. bound_as k x a s)) (λ done s. f s)) (λ done s. f' s)))
      (restored (length t.bindings) (then_do (then_do (choose c v (λ s. fail not_bindable (Id x) s) (λ s. bound_as k x b s)) (λ done s. g s)) (λ done s. g' s)))
  bound_step m qs x a b u v f g f' g' o r k h kind true = refused m qs x u v (λ done s. f s) (λ done s. g s) (λ done s. f' s) (λ done s. g' s) o k
  bound_step m qs x a b u v f g f' g' o r k h kind.Plain false = h Local
  bound_step m qs x a b u v f g f' g' o r k h kind.Fluid false = h Fluid
  bound_step m qs x a b u v f g f' g' o r k h kind.Global false = refused m qs x u v (λ done s. f s) (λ done s. g s) (λ done s. f' s) (λ done s. g' s) o k

  bound_all : (kept : List Kept) (xs : List ℕ) (vs ws : List Value) (m : Names) (qs : List EntryPlace) (u v : State) (f g : State → Outcome A) → Above ps qs → Each (SameValue m) vs ws → Like bounds m qs u v
      → ((k : Names) (a b : State) → Grows m k → Like bounds k (bound_places xs qs) a b → Rebound u a → Rebound v b → (Shown qs → Shown (bound_places xs qs)) → Related bounds (Parted bounds) R k (bound_places xs qs) (f a) (g b))
      → Related bounds (Parted bounds) R m ps (restored (length s.bindings) (then_do (bind_all kept xs vs u) (λ done s. f s))) (restored (length t.bindings) (then_do (bind_all kept xs ws v) (λ done s. g s)))
  bound_all kept [] vs ws m qs u v f g o e k h = restored_related n ps s t l m qs _ _ o (h m u v (grows_refl m) k (record { is = refl }) (record { is = refl }) (λ w. w))
  bound_all kept (x ∷ xs) _ _ m qs u v f g o (more a b vs ws r e) k h =
      bound_step m qs x a b u v (λ s. bind_all kept xs vs s) (λ s. bind_all kept xs ws s) f g o r k (λ scope. bound_all kept xs vs ws m (Both ∷ qs) _ _ f g (over Both qs o) e (bound_like m qs x scope a b u v r k) (λ i c d w y left right z. h i c d w y (record { is = left.is }) (record { is = right.is }) z)) (kept_kind kept x) (is_constant x)
  bound_all kept (x ∷ xs) _ _ m qs u v f g o end k h =
      bound_step m qs x nil_value_of_state nil_value_of_state u v (λ s. bind_all kept xs [] s) (λ s. bind_all kept xs [] s) f g o (same_id nil_number) k (λ scope. bound_all kept xs [] [] m (Both ∷ qs) _ _ f g (over Both qs o) end (bound_like m qs x scope nil_value_of_state nil_value_of_state u v (same_id nil_number) k) (λ i c d w y left right z. h i c d w y (record { is = left.is }) (record { is = right.is }) z)) (kept_kind kept x) (is_constant x)

module _ {bounds : Bounds} where
  -- what goes on behind the bindings has them in both runs, at their places, and leaves what was printed before, on either side: of a stop for lack of levels no more is known
  pub binding_related : {A : Type 0} {R : Names → A → A → Type 0} (n : Names) (ps : List EntryPlace) (l m : Levels) (kept : List Kept) (xs : List ℕ) (vs ws : List Value) (s t : State) (f g : Levels → State → Outcome A) → Roomier bounds l m → Each (SameValue n) vs ws → Like bounds n ps s t
      → ((l : Levels) → Prints (λ s. f l s)) → ((m : Levels) → Prints (λ t. g m t))
      → ((k : Names) (l m : Levels) (a b : State) → Grows n k → Roomier bounds l m → Like bounds k (bound_places xs ps) a b → Rebound s a → Rebound t b → (Shown ps → Shown (bound_places xs ps)) → Related bounds (Parted bounds) R k (bound_places xs ps) (f l a) (g m b))
      → Related bounds (Parted bounds) R n ps (binding l kept xs vs s f) (binding m kept xs ws t g)
  binding_related n ps l m kept xs vs ws s t f g r e k left right h =
      deeper_ends n ps s t _ _ k.outside (λ l. all_show kept xs vs s (λ s. f l s) (left l)) (λ m. all_show kept xs ws t (λ s. g m s) (right m)) (binding_levels (length xs)) l m r (λ l m r.
      bound_all n ps s t k kept xs vs ws n ps s t (λ s. f l s) (λ s. g m s) level e k (λ i a b w z left right y. h i l m a b w r z left right y))
