-- Code that leaves NIL is not right for the identity: on T it leaves another value than the walk, which has no event and meets no bound.
use Rattle.std.proofs.Common.{◌≡◌, ℕ, false, List, [], ◌∷◌, Some, None, refl, ap}
use Rattle.rl_tree.specs.Value.{Value, Id}
use Rattle.rl_meaning.specs.CMacros.{Constant, Entry, Exit}
use Rattle.rl_meaning.specs.State.{State, Pointer, HeldFunction}
use Rattle.rl_meaning.specs.Outcome.{Outcome, Done}
use Rattle.rl_meaning.specs.Symbols.{nil_value_of_state, nil_number, t_number, is_constant}
use Rattle.rl_meaning.specs.Compiling.{Compiler}
use Rattle.rl_meaning.specs.Holding.{function_at}
use Rattle.rl_meaning.specs.Evaluation.{walked}
use Rattle.rl_meaning.specs.Machine.{run_code}
use Rattle.rl_meaning.specs.Jobs.{jobs}
use Rattle.rl_meaning.specs.Opening.{bare_state, state_of}
use Rattle.rl_meaning.specs.TwoRunsValues.{Names, end, more, SameValue, same_int, same_id, same_str, same_ref, same_fun, SameCode, same_load, same_macro, same_constant}
use Rattle.rl_meaning.specs.TwoRunsStates.{Bounds, bounds_of, EntryPlace, all_both}
use Rattle.rl_meaning.specs.TwoRunsEnds.{Related, done, failed, went, returned, stopped, parted}
use Rattle.rl_meaning.specs.Right.{Leaves, at_event, at_bound, AgreesWith, Knows, Right}
use Rattle.rl_agrees.specs.TwoRunsRuns.{names_of, with_running_code, walking}
use Rattle.rl_agrees.specs.Identity.{identity_of, identity_pointer, identity_name, identity_kept, nil_coded}
use Rattle.rl_agrees.proofs.TwoRunsKnown.{names_on_right, knows, all_both_whole}
use Rattle.rl_agrees.proofs.TwoRunsLoop.{begins_like}
use Rattle.rl_agrees.proofs.IdentityCode.{walk_unbounded}
use Rattle.rl_agrees.proofs.IdentitySound.{before, before_function, before_sound, kept_plain}

-- ---- two ends that are not alike

abbrev truth_value : Value
truth_value = Id t_number

values_differ : (m : Names) (a b : Value) → SameValue m a b → a ≡ nil_value_of_state → b ≡ truth_value → ⊥
values_differ m _ _ (same_int z) e f = absurd (cc)
values_differ m _ _ (same_id i) e f = absurd (cc)
values_differ m _ _ (same_str bytes) e f = absurd (cc)
values_differ m _ _ (same_ref r q h) e f = absurd (cc)
values_differ m _ _ (same_fun g h place l) e f = absurd (cc)

leaves_nowhere : {bounds : Bounds} (o p : Outcome Value) (t : State) → Leaves bounds o p → p ≡ Done truth_value t → t.watched.event ≡ None → ⊥
leaves_nowhere _ _ t (at_event o p r e h) f none = let g : (state_of p).watched.event ≡ t.watched.event = ap (λ q. (state_of q).watched.event) f in absurd (cc)
leaves_nowhere _ _ t (at_bound o why u h k) f none = absurd (cc)

ends_differ : {bounds : Bounds} (n : Names) (ps : List EntryPlace) (o p : Outcome Value) (s t : State) → Related bounds (Leaves bounds) SameValue n ps o p → o ≡ Done nil_value_of_state s → p ≡ Done truth_value t → t.watched.event ≡ None → ⊥
ends_differ n ps _ _ s t (done m a b u v g r l) e f none = values_differ m a b r (cc) (cc)
ends_differ n ps _ _ s t (failed m z v w a b g r l) e f none = absurd (cc)
ends_differ n ps _ _ s t (went m l a b g k) e f none = absurd (cc)
ends_differ n ps _ _ s t (returned m v w a b g r l) e f none = absurd (cc)
ends_differ n ps _ _ s t (stopped why a b h) e f none = absurd (cc)
ends_differ n ps _ _ s t (parted o p h) e f none = leaves_nowhere o p t h f none

-- ---- a state in which both run

nil_code_same : (n : Names) (i : ℕ) (p : Pointer) → SameCode n (nil_coded i p).code (nil_coded i p).code
nil_code_same n i p = more _ _ _ _ (same_macro (Entry i 1) refl) (more _ _ _ _ (same_load 1 (Constant nil_value_of_state) (Constant nil_value_of_state) (same_constant nil_value_of_state nil_value_of_state (same_id nil_number))) (more _ _ _ _ (same_macro Exit refl) end))

-- on T, with no bound
here : ℕ → State
here x = walking None (before x)

here_known : (x : ℕ) → Knows (bounds_of None None) (names_on_right (names_of (before x))) (truth_value ∷ []) (nil_coded identity_name identity_pointer).code (here x)
unfolding here before bare_state
here_known x =
    let n : Names = names_of (before x) in
    knows n (all_both (before x).bindings) (with_running_code (before x)) (here x) (truth_value ∷ []) (truth_value ∷ []) _ _ (all_both_whole (before x).bindings)
    (begins_like (before x) None (before_sound x) tt refl) (more _ _ _ _ (same_id t_number) end) (nil_code_same n identity_name identity_pointer)

here_function : (x : ℕ) → function_at (here x) identity_pointer ≡ HeldFunction (identity_of x (identity_kept x))
unfolding here
here_function x = before_function x

-- what is asked of right code there
here_agrees : (c : Compiler) (lowered : State) (x : ℕ) → Right c lowered (nil_coded identity_name identity_pointer) (identity_of x (identity_kept x)) []
    → AgreesWith (bounds_of None None) (names_on_right (names_of (before x))) (here x).bindings (run_code (jobs c) None (Some identity_pointer) (identity_of x (identity_kept x)) (nil_coded identity_name identity_pointer).code (truth_value ∷ []) (here x))
    (walked (jobs c) None identity_pointer.function (Some identity_pointer) (identity_of x (identity_kept x)) (truth_value ∷ []) (here x))
unfolding here before bare_state
here_agrees c lowered x right = right.agrees (bounds_of None None) (names_on_right (names_of (before x))) None (truth_value ∷ []) (here x) (here_known x) refl refl (here_function x) refl refl refl tt

pub nil_wrong : (c : Compiler) (lowered : State) (x : ℕ) → is_constant x ≡ false → Right c lowered (nil_coded identity_name identity_pointer) (identity_of x (identity_kept x)) [] → ⊥
unfolding here before bare_state
nil_wrong c lowered x e right =
    ends_differ _ _ _ _ _ (here x) (here_agrees c lowered x right).ends refl (walk_unbounded c (identity_kept x) x identity_pointer truth_value (here x) (record { constant = e; plain = kept_plain x })) refl
