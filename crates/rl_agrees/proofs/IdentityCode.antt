-- The code of the identity is right: the walk binds the parameter and looks it up, and the code leaves it where it came.
use Rattle.std.proofs.Common.{◌≡◌, ◌-◌, ◌∙◌, ◌==◌, ℕ, zero, suc, true, false, if◌then◌else◌, List, [], ◌∷◌, length, drop, Some, None, nat_le, is_some, append-nil, refl, sym, ap, subst, arith}
use Rattle.std.proofs.lemmas.Bool.Decides.{nat_tests}
use Rattle.rl_tree.specs.Value.{Value, Id}
use Rattle.rl_meaning.specs.State.{State, Kept, Held, Pointer, Entry, Binding, Mark, Local}
use Rattle.rl_meaning.specs.Outcome.{Outcome, Done, Stopped, Depth, then_do, choose, Levels, in_levels}
use Rattle.rl_meaning.specs.Errors.{fail, not_bindable}
use Rattle.rl_meaning.specs.Holding.{kept_kind}
use Rattle.rl_meaning.specs.Variables.{Nearest, nearest_from, variable_used, variable, with_binding, with_mark, bound_as, bind, bind_all, with_oldest, restored}
use Rattle.rl_meaning.specs.Compiling.{Compiler}
use Rattle.rl_meaning.specs.Evaluation.{walked}
use Rattle.rl_meaning.specs.Machine.{run_code}
use Rattle.rl_meaning.specs.Jobs.{jobs}
use Rattle.rl_meaning.specs.TwoRunsValues.{Names, Each, more, SameValue}
use Rattle.rl_meaning.specs.TwoRunsStates.{Bounds, Like, all_both}
use Rattle.rl_meaning.specs.TwoRunsEnds.{IsBegunBy, meets_levels, done, parted}
use Rattle.rl_meaning.specs.Right.{at_bound, as_event, AgreesWith, Right}
use Rattle.rl_agrees.specs.Identity.{identity_of, identity_code, identity_coded, IsPlainVariable}
use Rattle.rl_agrees.proofs.TwoRunsGrowth.{grows_refl}

-- ---- former bindings

-- an entry over others is gone when these are the oldest
over_gone : (e : Entry) (es : List Entry) → drop (length (e ∷ es) - length es) (e ∷ es) ≡ es
over_gone e es = let one : length (e ∷ es) - length es ≡ 1 = omega arith in ap (λ n. drop n (e ∷ es)) one

mark_gone : (s : State) (p : Pointer) → with_oldest (length s.bindings) (with_mark (Some p) s) ≡ s
mark_gone s p = ap (λ es. record s { bindings = es }) (over_gone (Mark (Some p)) s.bindings)

binding_gone : (s : State) (x : ℕ) (v : Value) → with_oldest (length s.bindings) (with_binding x Local v s) ≡ s
binding_gone s x v = ap (λ es. record s { bindings = es }) (over_gone (Binding x Local v) s.bindings)

-- ---- the walk

bind_free : (kept : List Kept) (x : ℕ) (v : Value) (s : State) → IsPlainVariable kept x → bind kept x v s ≡ Done tt (with_binding x Local v s)
bind_free kept x v s free = ap (λ b. choose b s (λ s. fail not_bindable (Id x) s) (λ s. bound_as (kept_kind kept x) x v s)) free.constant ∙ ap (λ kind. bound_as kind x v s) free.plain

pub itself_equal : (x : ℕ) → (x == x) ≡ true
itself_equal x = grind (arith, nat_tests)

newest_found : (x : ℕ) (v : Value) (s : State) → variable x (with_binding x Local v s) ≡ Done v (with_binding x Local v s)
newest_found x v s =
    let t : State = with_binding x Local v s in
    let found : Nearest = record { scope = Local; value = v; below = false } in
    ap (λ b. variable_used (if b then Some found else nearest_from false x s.bindings) x t) (itself_equal x)

-- what is walked where the level is there
walk_inside : Value → List Kept → ℕ → Pointer → State → Outcome Value
walk_inside v kept x p s = restored (length s.bindings) (restored (suc (length s.bindings)) (then_do (bind_all kept (x ∷ []) (v ∷ []) (with_mark (Some p) s)) (λ done t. variable x t)))

inside_done : (v : Value) (kept : List Kept) (x : ℕ) (p : Pointer) (s : State) → IsPlainVariable kept x → walk_inside v kept x p s ≡ Done v s
unfolding walk_inside
inside_done v kept x p s free =
    let t : State = with_mark (Some p) s in
    let all : Outcome Value → Outcome Value = λ o. restored (length s.bindings) (restored (suc (length s.bindings)) o) in
    ap (λ o. all (then_do (then_do o (λ done u. Done tt u)) (λ done u. variable x u))) (bind_free kept x v t free)
    ∙ ap all (newest_found x v t)
    ∙ ap (λ u. Done v (with_oldest (length s.bindings) u)) (binding_gone t x v)
    ∙ ap (λ u. Done v u) (mark_gone s p)

-- with no bound the walk has the argument for its value
pub walk_unbounded : (c : Compiler) (kept : List Kept) (x : ℕ) (p : Pointer) (v : Value) (s : State) → IsPlainVariable kept x → walked (jobs c) None p.function (Some p) (identity_of x kept) (v ∷ []) s ≡ Done v s
unfolding walk_inside
walk_unbounded c kept x p v s free = inside_done v kept x p s free

module _ (c : Compiler) (i x : ℕ) (p : Pointer) (kept : List Kept) (free : IsPlainVariable kept x) where
  abbrev held : Held
  held = identity_of x kept

  abbrev walk : Levels → Value → State → Outcome Value
  walk levels v s = walked (jobs c) levels p.function (Some p) held (v ∷ []) s

  abbrev code_run : Levels → Value → State → Outcome Value
  code_run levels v s = run_code (jobs c) levels (Some p) held (identity_code i) (v ∷ []) s

  -- ---- both

  code_done : (levels : Levels) (v : Value) (s : State) → code_run levels v s ≡ Done v s
  code_done levels v s = ap (λ u. Done v u) (mark_gone s p)

  -- the walk has a value where it has the level, or stops, with a bound on levels, before it has done anything
  data WalkEnds (levels : Levels) (v : Value) (s : State) (o : Outcome Value) : Type 0 where
    has_level : o ≡ Done v s → WalkEnds levels v s o
    no_level : is_some levels ≡ true → o ≡ Stopped Depth (with_mark (Some p) s) → WalkEnds levels v s o

  one_there : (l : ℕ) → nat_le 1 (suc l) ≡ true
  one_there l = grind (arith, nat_tests)

  abbrev inner : Value → State → Outcome Value
  inner v s = restored (suc (length s.bindings)) (then_do (bind_all kept (x ∷ []) (v ∷ []) (with_mark (Some p) s)) (λ done t. variable x t))

  walk_ends : (levels : Levels) (v : Value) (s : State) → WalkEnds levels v s (walk levels v s)
  unfolding walk_inside
  walk_ends None v s = has_level (inside_done v kept x p s free)
  walk_ends (Some zero) v s = no_level refl refl
  walk_ends (Some (suc l)) v s = has_level (ap (λ b. restored (length s.bindings) (in_levels b (suc l - 1) (with_mark (Some p) s) (λ levels. inner v s))) (one_there l) ∙ inside_done v kept x p s free)

  nothing_more : (xs : List ℕ) → IsBegunBy xs xs
  nothing_more xs = record { rest = []; is = sym (append-nil xs) }

  module _ {bounds : Bounds} where
    agree_done : (known : Names) (v : Value) (s : State) → Like bounds known (all_both s.bindings) s s → SameValue known v v → AgreesWith bounds known s.bindings (Done v s) (Done v s)
    agree_done known v s l r = record {
      ends = done known v v s s (grows_refl known) r l;
      events = λ e is. as_event (Done v s) e is (omega arith) (omega arith);
    }

    agree_stopped : (known : Names) (v : Value) (s : State) → bounds.levels ≡ true → AgreesWith bounds known s.bindings (Done v s) (Stopped Depth (with_mark (Some p) s))
    agree_stopped known v s b = record {
      ends = parted _ _ (at_bound (Done v s) Depth (with_mark (Some p) s) (meets_levels b) (record { output = nothing_more s.outside.output; notes = nothing_more s.outside.notes }));
      events = λ e is. as_event (Stopped Depth (with_mark (Some p) s)) e is (omega arith) (omega arith);
    }

    agree_by : (known : Names) (v : Value) (s : State) (levels : Levels) (o p : Outcome Value) → is_some levels ≡ bounds.levels → Like bounds known (all_both s.bindings) s s → SameValue known v v → o ≡ Done v s → WalkEnds levels v s p → AgreesWith bounds known s.bindings o p
    agree_by known v s levels o q w l r e (has_level f) = subst (λ o. AgreesWith bounds known s.bindings o q) (sym e) (subst (λ q. AgreesWith bounds known s.bindings (Done v s) q) (sym f) (agree_done known v s l r))
    agree_by known v s levels o q w l r e (no_level b f) = subst (λ o. AgreesWith bounds known s.bindings o q) (sym e) (subst (λ q. AgreesWith bounds known s.bindings (Done v s) q) (sym f) (agree_stopped known v s (sym w ∙ b)))

  each_first : {A : Type 0} (R : A → A → Type 0) (a b : A) (xs ys : List A) → Each R (a ∷ xs) (b ∷ ys) → R a b
  each_first R a b xs ys (more _ _ _ _ r rs) = r

  module _ {bounds : Bounds} where
    agree : (known : Names) (levels : Levels) (vs : List Value) (s : State) → is_some levels ≡ bounds.levels → Like bounds known (all_both s.bindings) s s → Each (SameValue known) vs vs → length vs ≡ 1
        → AgreesWith bounds known s.bindings (run_code (jobs c) levels (Some p) held (identity_code i) vs s) (walked (jobs c) levels p.function (Some p) held vs s)
    agree known levels [] s w l r e = absurd (omega (arith, e))
    agree known levels (v ∷ []) s w l r e = agree_by known v s levels _ _ w l (each_first _ v v [] [] r) (code_done levels v s) (walk_ends levels v s)
    agree known levels (v ∷ u ∷ vs) s w l r e = absurd (omega (arith, e))

  pub identity_right : (lowered : State) → Right c lowered (identity_coded i p) held []
  identity_right lowered = record {
    agrees = λ bounds known levels vs s knows bound count is walks none stands stood. agree known levels vs s bound knows.state knows.values count;
    binds = refl;
    links = refl;
    constants = refl;
  }
