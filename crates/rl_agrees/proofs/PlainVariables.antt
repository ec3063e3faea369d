-- The bindings of a running plain function: its own variables stand above its mark, and what stands from the mark down stays.
use Rattle.std.proofs.Common.{◌≡◌, ◌+◌, ◌-◌, ◌==◌, ◌||◌, if◌then◌else◌, ℕ, suc, Bool, true, false, List, [], ◌∷◌, ◌++◌, length, drop, Option, Some, None, refl, sym, ◌∙◌, subst, arith, length-append}
use Rattle.std.proofs.lemmas.List.{append_assoc}
use Rattle.rl_tree.specs.Value.{Value, Id}
use Rattle.rl_tree.specs.declared.held.VarKind.{VarKind}
use Rattle.rl_tree.specs.declared.held.VarKind.TheVariants as kind
use Rattle.rl_meaning.specs.State.{State, Entry, Binding, Mark, Scope, Local, Fluid, Kept, Pointer}
use Rattle.rl_meaning.specs.Outcome.{Outcome, Done, Failed, Went, Returned, Stopped, then_do, choose, Levels}
use Rattle.rl_meaning.specs.Symbols.{nil_value_of_state, is_constant}
use Rattle.rl_meaning.specs.Errors.{fail, not_bindable}
use Rattle.rl_meaning.specs.Constants.{is_among}
use Rattle.rl_meaning.specs.Holding.{kept_kind}
use Rattle.rl_meaning.specs.Variables.{Nearest, nearest_from, nearest, strays, top_value, variable_used, variable, with_nearest, with_value, stray_of, use_strays, assigned, bound_as, bind, bind_all, with_mark, restored, binding}
use Rattle.rl_meaning.specs.Plain.{in_scope}
use Rattle.rl_agrees.proofs.PlainWays.{Ends, then_ends, Stays, Leaves, with_bindings_stays, watched_stays, deeper_ends}
use Rattle.rl_agrees.proofs.PlainObjects.{fail_ends, choose_stays, staying}

-- ---- frames

-- above these entries stand bindings of these variables, the newest first
pub data Framed (base : List Entry) : List ℕ → List Entry → Type 0 where
  framed : Framed base [] base
  frame : (x : ℕ) (scope : Scope) (v : Value) (xs : List ℕ) (es : List Entry) → Framed base xs es → Framed base (x ∷ xs) (Binding x scope v ∷ es)

framed_length : (base : List Entry) (xs : List ℕ) (es : List Entry) → Framed base xs es → length es ≡ length xs + length base
framed_length base xs es framed = omega arith
framed_length base xs es (frame x scope v ys ds h) = omega (arith, framed_length base ys ds h)

unframed : (base : List Entry) (front scope : List ℕ) (es : List Entry) → Framed base (front ++ scope) es → Framed base scope (drop (length front) es)
unframed base [] scope es h = h
unframed base (x ∷ front) scope es (frame _ _ _ _ ds h) = unframed base front scope ds h

-- the variables that are bound stand in front of those in scope
record Front (xs scope : List ℕ) : Type 0 where
  front : List ℕ
  is : in_scope xs scope ≡ front ++ scope

front_of : (xs scope : List ℕ) → Front xs scope
front_of [] scope = record { front = []; is = refl }
front_of (x ∷ xs) scope = let r : Front xs (x ∷ scope) = front_of xs (x ∷ scope) in record { front = r.front ++ x ∷ []; is = r.is ∙ sym (append_assoc r.front (x ∷ []) scope) }

-- as many entries as there were are what there was
frame_dropped : (base : List Entry) (xs scope : List ℕ) (old es : List Entry) → Framed base scope old → Framed base (in_scope xs scope) es → Framed base scope (drop (length es - length old) es)
frame_dropped base xs scope old es h k =
    let r : Front xs scope = front_of xs scope in
    let g : Framed base (r.front ++ scope) es = subst (λ ys. Framed base ys es) r.is k in
    let e : length r.front ≡ length es - length old = omega (arith, framed_length base scope old h, framed_length base (r.front ++ scope) es g, length-append r.front scope) in
    subst (λ n. Framed base scope (drop n es)) e (unframed base r.front scope es g)

mark_dropped : (f : Option Pointer) (old es : List Entry) → Framed (Mark f ∷ old) [] es → drop (length es - length old) es ≡ old
mark_dropped f old _ framed = let e : 1 ≡ suc (length old) - length old = omega arith in subst (λ n. drop n (Mark f ∷ old) ≡ old) e refl

-- ---- a variable in scope has a binding in the frame

set_either : (base : List Entry) (x y : ℕ) (scope : Scope) (v w : Value) (ys : List ℕ) (ds : List Entry) (c : Bool) → (c || is_among x ys) ≡ true → Framed base ys ds → (is_among x ys ≡ true → Framed base ys (with_nearest x v ds))
    → Framed base (y ∷ ys) (if c then Binding y scope v ∷ ds else Binding y scope w ∷ with_nearest x v ds)
set_either base x y scope v w ys ds true a h k = frame y scope v ys ds h
set_either base x y scope v w ys ds false a h k = frame y scope w ys _ (k a)

set_frame : (base : List Entry) (x : ℕ) (v : Value) (xs : List ℕ) (es : List Entry) → is_among x xs ≡ true → Framed base xs es → Framed base xs (with_nearest x v es)
set_frame base x v xs es a framed = absurd (let f : false ≡ true = a in cc)
set_frame base x v xs es a (frame y scope w ys ds h) = set_either base x y scope v w ys ds (x == y) a h (λ a. set_frame base x v ys ds a h)

abbrev IsNear : Option Nearest → Type 0
IsNear None = ⊥
IsNear (Some n) = Unit {0}

near_either : (x : ℕ) (ys : List ℕ) (n : Nearest) (o : Option Nearest) (c : Bool) → (c || is_among x ys) ≡ true → (is_among x ys ≡ true → IsNear o) → IsNear (if c then Some n else o)
near_either x ys n o true a h = tt
near_either x ys n o false a h = h a

near : (base : List Entry) (x : ℕ) (xs : List ℕ) (es : List Entry) → is_among x xs ≡ true → Framed base xs es → IsNear (nearest_from false x es)
near base x xs es a framed = absurd (let f : false ≡ true = a in cc)
near base x xs es a (frame y scope w ys ds h) = near_either x ys _ (nearest_from false x ds) (x == y) a (λ a. near base x ys ds a h)

-- ---- use and setting

strays_stays : (b : State) (B : List Entry → Type 0) (c : Bool) (x : ℕ) (s : State) → Stays b B s → Stays b B (strays c x s)
strays_stays b B true x s k = watched_stays b B s _ k
strays_stays b B false x s k = k

strays_bindings : (c : Bool) (x : ℕ) (s : State) → (strays c x s).bindings ≡ s.bindings
strays_bindings true x s = refl
strays_bindings false x s = refl

top_stays : (b : State) (B : List Entry → Type 0) (Q : State → Type 0) (o : Option Value) (x : ℕ) (s : State) → Stays b B s → Leaves b B Q (top_value o x s)
top_stays b B Q (Some v) x s k = search staying
top_stays b B Q None x s k = search staying

used_stays : (b : State) (B : List Entry → Type 0) (Q : State → Type 0) (o : Option Nearest) (x : ℕ) (s : State) → Stays b B s → Leaves b B Q (variable_used o x s)
used_stays b B Q None x s k = top_stays b B Q _ x s k
used_stays b B Q (Some n) x s k = record { ends = strays_stays b B (use_strays n) x s k }

pub variable_stays : (b : State) (B : List Entry → Type 0) (Q : State → Type 0) (x : ℕ) (s : State) → Stays b B s → Leaves b B Q (variable x s)
variable_stays b B Q x s k = used_stays b B Q (nearest x s) x s k

value_stays : (b : State) (base : List Entry) (xs : List ℕ) (o : Option Nearest) (x : ℕ) (v : Value) (s : State) → IsNear o → is_among x xs ≡ true → Stays b (Framed base xs) s → Stays b (Framed base xs) (with_value o x v s)
value_stays b base xs None x v s n a k = absurd n
value_stays b base xs (Some m) x v s n a k = with_bindings_stays b _ (Framed base xs) s _ (set_frame base x v xs s.bindings a k.bindings) k

-- SETQ of a variable in scope
pub assigned_stays : (b : State) (base : List Entry) (xs : List ℕ) (Q : State → Type 0) (x : ℕ) (v : Value) (s : State) → is_among x xs ≡ true → Stays b (Framed base xs) s → Leaves b (Framed base xs) Q (assigned x v s)
assigned_stays b base xs Q x v s a k =
    choose_stays b (Framed base xs) Q (is_constant x) s _ _ (search staying)
    (record { ends = value_stays b base xs (nearest x s) x v _ (near base x xs s.bindings a k.bindings) a (strays_stays b _ (stray_of use_strays (nearest x s)) x s k) })

-- ---- binding

bound_then : {A : Type 0} (b : State) (base : List Entry) (scope : List ℕ) (P : A → State → Type 0) (Q : State → Type 0) (k : VarKind) (x : ℕ) (v : Value) (s : State) (next : Unit {0} → State → Outcome A) → Stays b (Framed base scope) s
    → ((t : State) → Stays b (Framed base (x ∷ scope)) t → Ends P Q (next tt t)) → Ends P Q (then_do (bound_as k x v s) next)
bound_then b base scope P Q kind.Plain x v s next k h = h _ (with_bindings_stays b _ _ s _ (frame x Local v scope s.bindings k.bindings) k)
bound_then b base scope P Q kind.Fluid x v s next k h = h _ (with_bindings_stays b _ _ s _ (frame x Fluid v scope s.bindings k.bindings) k)
bound_then b base scope P Q kind.Global x v s next k h = then_ends _ P Q _ next (fail_ends b _ (λ a t. ⊥) Q not_bindable (Id x) s k) (λ a t f. absurd f)

bind_then : {A : Type 0} (b : State) (base : List Entry) (scope : List ℕ) (P : A → State → Type 0) (Q : State → Type 0) (kept : List Kept) (x : ℕ) (v : Value) (s : State) (next : Unit {0} → State → Outcome A) → Stays b (Framed base scope) s
    → ((t : State) → Stays b (Framed base (x ∷ scope)) t → Ends P Q (next tt t)) → Ends P Q (then_do (bind kept x v s) next)
bind_then b base scope P Q kept x v s next k h = at (is_constant x)
  where
    at : (c : Bool) → Ends P Q (then_do (choose c s (λ s. fail not_bindable (Id x) s) (λ s. bound_as (kept_kind kept x) x v s)) next)
    at true = then_ends _ P Q _ next (fail_ends b _ (λ a t. ⊥) Q not_bindable (Id x) s k) (λ a t f. absurd f)
    at false = bound_then b base scope P Q _ x v s next k h

bind_all_ends : (b : State) (base : List Entry) (Q : State → Type 0) (kept : List Kept) (xs scope : List ℕ) (vs : List Value) (s : State) → Stays b (Framed base scope) s → Leaves b (Framed base (in_scope xs scope)) Q (bind_all kept xs vs s)
bind_all_ends b base Q kept [] scope vs s k = record { ends = k }
bind_all_ends b base Q kept (x ∷ xs) scope (v ∷ vs) s k = bind_then b base scope _ Q kept x v s _ k (λ t k. bind_all_ends b base Q kept xs (x ∷ scope) vs t k)
bind_all_ends b base Q kept (x ∷ xs) scope [] s k = bind_then b base scope _ Q kept x nil_value_of_state s _ k (λ t k. bind_all_ends b base Q kept xs (x ∷ scope) [] t k)

-- former bindings are back
restored_stays : (b : State) (B C : List Entry → Type 0) (n : ℕ) (o : Outcome Value) → ((es : List Entry) → B es → C (drop (length es - n) es)) → Leaves b B (λ t. Stays b B t) o → Leaves b C (λ t. Stays b C t) (restored n o)
restored_stays b B C n (Done a t) h k = record { ends = with_bindings_stays b B C t _ (h t.bindings k.ends.bindings) k.ends }
restored_stays b B C n (Failed m v t) h k = record { ends = tt }
restored_stays b B C n (Went l t) h k = record { ends = with_bindings_stays b B C t _ (h t.bindings k.ends.bindings) k.ends }
restored_stays b B C n (Returned v t) h k = record { ends = with_bindings_stays b B C t _ (h t.bindings k.ends.bindings) k.ends }
restored_stays b B C n (Stopped why t) h k = record { ends = tt }

-- what is said in a frame
abbrev pub InFrame : {A : Type 0} → State → List Entry → List ℕ → Outcome A → Type 0
InFrame {A} b base scope o = Leaves {A = A} b (Framed base scope) (λ t. Stays b (Framed base scope) t) o

pub binding_stays : (b : State) (base : List Entry) (levels : Levels) (kept : List Kept) (xs scope : List ℕ) (vs : List Value) (s : State) (next : Levels → State → Outcome Value) → Stays b (Framed base scope) s
    → ((l : Levels) (t : State) → Stays b (Framed base (in_scope xs scope)) t → InFrame b base (in_scope xs scope) (next l t)) → InFrame b base scope (binding levels kept xs vs s next)
binding_stays b base levels kept xs scope vs s next k h =
    deeper_ends b (Framed base scope) _ _ _ levels s _ (λ l.
    restored_stays b (Framed base (in_scope xs scope)) (Framed base scope) (length s.bindings) _ (λ es f. frame_dropped base xs scope s.bindings es k.bindings f)
    (then_ends _ _ _ _ _ (bind_all_ends b base _ kept xs scope vs s k) (λ done t k. h l t k)))

-- the bindings are these
abbrev pub Same : List Entry → List Entry → Type 0
Same old es = es ≡ old

-- a function with its mark and parameters
pub marked_stays : (b : State) (levels : Levels) (f : Option Pointer) (kept : List Kept) (xs : List ℕ) (vs : List Value) (s : State) (next : Levels → State → Outcome Value) → Stays b (Same s.bindings) s
    → ((l : Levels) (t : State) → Stays b (Framed (Mark f ∷ s.bindings) (in_scope xs [])) t → InFrame b (Mark f ∷ s.bindings) (in_scope xs []) (next l t))
    → Leaves b (Same s.bindings) (λ t. Stays b (Same s.bindings) t) (restored (length s.bindings) (binding levels kept xs vs (with_mark f s) next))
marked_stays b levels f kept xs vs s next k h =
    restored_stays b (Framed (Mark f ∷ s.bindings) []) (Same s.bindings) (length s.bindings) _ (λ es g. mark_dropped f s.bindings es g)
    (binding_stays b (Mark f ∷ s.bindings) levels kept xs [] vs (with_mark f s) next (with_bindings_stays b _ _ s _ framed k) h)
