-- Variables, numbers and lists keep a law on one run.
use Rattle.std.proofs.Common.{ℤ, pos, negsuc, ℕ, Bool, true, false, List, [], ◌∷◌, length, Option, Some, None}
use Rattle.rl_tree.specs.Value.{Value, Int}
use Rattle.rl_tree.specs.declared.held.VarKind.{VarKind}
use Rattle.rl_tree.specs.declared.held.VarKind.TheVariants as kind
use Rattle.rl_meaning.specs.Names.{Operation}
use Rattle.rl_meaning.specs.Constants.{reading_object}
use Rattle.rl_meaning.specs.Names as names
use Rattle.rl_meaning.specs.State.{State, Kept, Scope, Pointer, Binding, Mark}
use Rattle.rl_meaning.specs.Outcome.{Outcome, Done, Failed, Went, Returned, Stopped, Levels}
use Rattle.rl_meaning.specs.Symbols.{nil_value_of_state, pair_at}
use Rattle.rl_meaning.specs.Variables.{Nearest, strays, top_value, variable_used, nearest, variable, with_value, set_by, assigned, assigned_by_name, with_binding, with_mark, bound_as, bind, bind_all, binding_levels, with_oldest, restored, binding}
use Rattle.rl_meaning.specs.Numbers.{integer, power_within, raised_to, of_two, of_one, with_integer, operated}
use Rattle.rl_meaning.specs.Lists.{with_pair, part, with_car, with_cdr, Chain, append, reversed, list_length, first_pair, member, memq, associated, assoc, joined, nconc, and_goes}
use Rattle.rl_meaning.specs.Walks.{Goes, Walked}
use Rattle.rl_meaning.specs.Evaluation.{Position}
use Rattle.rl_agrees.proofs.OneRun.{StepsAt, IsBehind, LeadsAt, Makes, follows_then, done_leads, failed_leads, went_leads, returned_leads, done_makes, then_leads, then_makes, then_with, deeper_leads}
use Rattle.rl_agrees.proofs.OneRunObjects.{leading, Chained, chained_none, extended_makes, ended_leads, top_follows, event_follows, changed_follows, cdr_changed_follows, reading_follows}
use Rattle.rl_agrees.proofs.OneRunWalks.{FurtherIs, walk_makes, walk_leads, equal_leads}

-- ---- variables and bindings

module _ {freely : Bool} {P : State → State → Type 0} (steps : StepsAt freely P) {r : State} where
  pub binding_follows : (x : ℕ) (scope : Scope) (v : Value) (s : State) → IsBehind P r s → IsBehind P r (with_binding x scope v s)
  binding_follows x scope v s h = follows_then steps r s _ h (steps.pushed (Binding x scope v) s)

  pub mark_follows : (f : Option Pointer) (s : State) → IsBehind P r s → IsBehind P r (with_mark f s)
  mark_follows f s h = follows_then steps r s _ h (steps.pushed (Mark f) s)

  -- back to as many entries as there were
  pub oldest_follows : (s t : State) → IsBehind P r s → IsBehind P r t → IsBehind P r (with_oldest (length s.bindings) t)
  oldest_follows s t h k = record { is = steps.oldest r s t h.is k.is }

  pub strays_follows : (b : Bool) (x : ℕ) (s : State) → IsBehind P r s → IsBehind P r (strays b x s)
  strays_follows true x s h = event_follows steps _ s h
  strays_follows false x s h = h

  pub with_value_follows : (o : Option Nearest) (x : ℕ) (v : Value) (s : State) → IsBehind P r s → IsBehind P r (with_value o x v s)
  with_value_follows None x v s h = top_follows steps x v s h
  with_value_follows (Some b) x v s h = follows_then steps r s _ h (steps.valued x v s)

module _ {freely : Bool} {P : State → State → Type 0} (steps : StepsAt freely P) {position : Position} {r : State} where
  pub top_value_leads : (o : Option Value) (x : ℕ) (s : State) → IsBehind P r s → LeadsAt P position r (top_value o x s)
  top_value_leads (Some v) x s h = search leading
  top_value_leads None x s h = search leading

  pub used_leads : (o : Option Nearest) (x : ℕ) (s : State) → IsBehind P r s → LeadsAt P position r (variable_used o x s)
  used_leads None x s h = search top_value_leads
  used_leads (Some b) x s h = search (leading, strays_follows)

  pub variable_leads : (x : ℕ) (s : State) → IsBehind P r s → LeadsAt P position r (variable x s)
  variable_leads x s h = used_leads (nearest x s) x s h

  pub set_by_leads : (test : Nearest → Bool) (x : ℕ) (v : Value) (s : State) → IsBehind P r s → LeadsAt P position r (set_by test x v s)
  set_by_leads test x v s h = search (leading, with_value_follows, strays_follows)

  pub assigned_leads : (x : ℕ) (v : Value) (s : State) → IsBehind P r s → LeadsAt P position r (assigned x v s)
  assigned_leads x v s h = search set_by_leads

  pub by_name_leads : (x : ℕ) (v : Value) (s : State) → IsBehind P r s → LeadsAt P position r (assigned_by_name x v s)
  by_name_leads x v s h = search set_by_leads

  pub bound_as_leads : (k : VarKind) (x : ℕ) (v : Value) (s : State) → IsBehind P r s → LeadsAt P position r (bound_as k x v s)
  bound_as_leads kind.Plain x v s h = search (leading, binding_follows)
  bound_as_leads kind.Fluid x v s h = search (leading, binding_follows)
  bound_as_leads kind.Global x v s h = search leading

  pub bind_leads : (kept : List Kept) (x : ℕ) (v : Value) (s : State) → IsBehind P r s → LeadsAt P position r (bind kept x v s)
  bind_leads kept x v s h = search (leading, bound_as_leads)

  pub bind_all_leads : (kept : List Kept) (xs : List ℕ) (vs : List Value) (s : State) → IsBehind P r s → LeadsAt P position r (bind_all kept xs vs s)
  bind_all_leads kept [] vs s h = search leading
  bind_all_leads kept (x ∷ xs) (v ∷ vs) s h = then_leads _ _ (bind_leads kept x v s h) (λ done t f. bind_all_leads kept xs vs t f)
  bind_all_leads kept (x ∷ xs) [] s h = then_leads _ _ (bind_leads kept x nil_value_of_state s h) (λ done t f. bind_all_leads kept xs [] t f)

  pub restored_leads : {A : Type 0} (s : State) (o : Outcome A) → IsBehind P r s → LeadsAt P position r o → LeadsAt P position r (restored (length s.bindings) o)
  restored_leads s (Done a t) f h = done_leads a _ (oldest_follows steps s t f (record { is = h.moves }))
  restored_leads s (Failed e m t) f h = failed_leads e m _ (oldest_follows steps s t f (record { is = h.moves }))
  restored_leads s (Went l t) f h = went_leads l t _ h (oldest_follows steps s t f (record { is = h.moves }))
  restored_leads s (Returned v t) f h = returned_leads v t _ h (oldest_follows steps s t f (record { is = h.moves }))
  restored_leads s (Stopped why t) f h = h

  pub binding_leads : {A : Type 0} (levels : Levels) (kept : List Kept) (xs : List ℕ) (vs : List Value) (s : State) (next : Levels → State → Outcome A) → IsBehind P r s → ((l : Levels) (t : State) → IsBehind P r t → LeadsAt P position r (next l t)) → LeadsAt P position r (binding levels kept xs vs s next)
  binding_leads levels kept xs vs s next h k =
      deeper_leads steps (binding_levels (length xs)) levels s _ h (λ l. restored_leads s _ h (then_leads _ _ (bind_all_leads kept xs vs s h) (λ done t f. k l t f)))

  -- ---- numbers

  pub integer_leads : (o : Operation) (z : ℤ) (s : State) → IsBehind P r s → LeadsAt P position r (integer o z s)
  integer_leads o z s h = search leading

  pub power_leads : (o : Operation) (u : ℤ) (n : ℕ) (s : State) → IsBehind P r s → LeadsAt P position r (power_within o u n s)
  power_leads o u n s h = search (leading, integer_leads)

  pub raised_to_leads : (o : Operation) (u z : ℤ) (s : State) → IsBehind P r s → LeadsAt P position r (raised_to o u z s)
  raised_to_leads o u (pos n) s h = power_leads o u n s h
  raised_to_leads o u (negsuc n) s h = search leading

  pub of_two_leads : (o : Operation) (u z : ℤ) (s : State) → IsBehind P r s → LeadsAt P position r (of_two o u z s)
  of_two_leads names.Difference u z s h = search (leading, integer_leads)
  of_two_leads names.Plus2 u z s h = search (leading, integer_leads)
  of_two_leads names.Times2 u z s h = search (leading, integer_leads)
  of_two_leads names.Max2 u z s h = search (leading, integer_leads)
  of_two_leads names.Min2 u z s h = search (leading, integer_leads)
  of_two_leads names.Quotient u z s h = search (leading, integer_leads)
  of_two_leads names.Remainder u z s h = search leading
  of_two_leads names.Divide u z s h = search (leading, integer_leads)
  of_two_leads names.Expt u z s h = raised_to_leads names.Expt u z s h
  of_two_leads names.Greaterp u z s h = search leading
  of_two_leads names.Lessp u z s h = search leading
  of_two_leads o u z s h = search leading

  pub of_one_leads : (o : Operation) (u : ℤ) (s : State) → IsBehind P r s → LeadsAt P position r (of_one o u s)
  of_one_leads names.Abs (pos n) s h = search leading
  of_one_leads names.Abs (negsuc n) s h = search (leading, integer_leads)
  of_one_leads names.Add1 u s h = search (leading, integer_leads)
  of_one_leads names.Sub1 u s h = search (leading, integer_leads)
  of_one_leads names.Minus u s h = search (leading, integer_leads)
  of_one_leads o u s h = search leading

  pub with_integer_leads : {A : Type 0} (v : Value) (s : State) (next : ℤ → State → Outcome A) → IsBehind P r s → ((z : ℤ) (t : State) → IsBehind P r t → LeadsAt P position r (next z t)) → LeadsAt P position r (with_integer v s next)
  with_integer_leads (Int z) s next h k = k z s h
  with_integer_leads v s next h k = search leading

  pub operated_leads : (o : Operation) (vs : List Value) (s : State) → IsBehind P r s → LeadsAt P position r (operated o vs s)
  operated_leads o (u ∷ []) s h = search (with_integer_leads, of_one_leads)
  operated_leads o (u ∷ v ∷ vs) s h = search (with_integer_leads, of_two_leads)
  operated_leads o [] s h = search leading

  -- ---- lists

  pub with_pair_leads : {A : Type 0} (o : Option (Value × Value)) (v : Value) (s : State) (next : Value × Value → State → Outcome A) → IsBehind P r s → ((p : Value × Value) (t : State) → IsBehind P r t → LeadsAt P position r (next p t)) → LeadsAt P position r (with_pair o v s next)
  with_pair_leads (Some p) v s next h k = k p s h
  with_pair_leads None v s next h k = search leading

  pub part_leads : (path : List Bool) (v : Value) (s : State) → IsBehind P r s → LeadsAt P position r (part path v s)
  part_leads [] v s h = search leading
  part_leads (first ∷ path) v s h = with_pair_leads (pair_at s v) v s _ h (λ p t f. part_leads path _ (reading_object v t) (reading_follows steps v t f))

  pub with_car_leads : (u v : Value) (s : State) → IsBehind P r s → LeadsAt P position r (with_car u v s)
  with_car_leads u v s h = search (leading, with_pair_leads, changed_follows)

  pub with_cdr_leads : (u v : Value) (s : State) → IsBehind P r s → LeadsAt P position r (with_cdr u v s)
  with_cdr_leads u v s h = search (leading, with_pair_leads, changed_follows)

  pub and_goes_makes : {A : Type 0} (Good : A → Type 0) (o : Outcome A) → Makes P position r (λ a t. Good a) o → Makes P position r (FurtherIs Good) (and_goes o)
  and_goes_makes Good o h = then_makes (λ a t. Good a) (FurtherIs Good) _ _ h (λ a t f good. done_makes (FurtherIs Good) (Goes a) t f good)

  pub append_leads : (u v : Value) (s : State) → IsBehind P r s → LeadsAt P position r (append u v s)
  append_leads u v s h =
      then_with (λ (w : Walked Chain) t. Chained r w.result) _ _
      (walk_makes steps (λ (c : Chain). Chained r c) _ (λ c p x s h good. and_goes_makes (λ (c : Chain). Chained r c) _ (extended_makes steps c x s good h)) None u s h (chained_none r))
      (λ walked t f good. ended_leads steps walked.result v t good f)

  pub reversed_leads : (u : Value) (s : State) → IsBehind P r s → LeadsAt P position r (reversed u s)
  reversed_leads u s h = search (leading, walk_leads)

  pub list_length_leads : (u : Value) (s : State) → IsBehind P r s → LeadsAt P position r (list_length u s)
  list_length_leads u s h = search (leading, walk_leads)

  pub first_pair_leads : (test : Value → Value → State → Outcome Bool) → ((p x : Value) (s : State) → IsBehind P r s → LeadsAt P position r (test p x s)) → (l : Value) (s : State) → IsBehind P r s → LeadsAt P position r (first_pair test l s)
  first_pair_leads test k l s h = search (leading, walk_leads, k)

  pub member_leads : (levels : Levels) (x l : Value) (s : State) → IsBehind P r s → LeadsAt P position r (member levels x l s)
  member_leads levels x l s h = search (first_pair_leads, equal_leads)

  pub memq_leads : (x l : Value) (s : State) → IsBehind P r s → LeadsAt P position r (memq x l s)
  memq_leads x l s h = search (leading, first_pair_leads)

  pub associated_leads : (levels : Levels) (x l y : Value) (o : Option (Value × Value)) (s : State) → IsBehind P r s → LeadsAt P position r (associated levels x l y o s)
  associated_leads levels x l y (Some parts) s h = search (leading, equal_leads)
  associated_leads levels x l y None s h = search leading

  pub assoc_leads : (levels : Levels) (x l : Value) (s : State) → IsBehind P r s → LeadsAt P position r (assoc levels x l s)
  assoc_leads levels x l s h = search (leading, walk_leads, associated_leads)

  pub joined_leads : (u : Value) (o : Option Value) (v : Value) (s : State) → IsBehind P r s → LeadsAt P position r (joined u o v s)
  joined_leads u None v s h = search leading
  joined_leads u (Some last) v s h = search (leading, cdr_changed_follows)

  pub nconc_leads : (u v : Value) (s : State) → IsBehind P r s → LeadsAt P position r (nconc u v s)
  nconc_leads u v s h = search (leading, walk_leads, joined_leads)
