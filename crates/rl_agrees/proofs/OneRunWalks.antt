-- Walks keep a law on one run, where their visits do.
use Rattle.std.proofs.Common.{◌==◌, ℕ, zero, suc, Bool, true, false, List, [], ◌∷◌, length, Option, Some, None}
use Rattle.rl_tree.specs.Value.{Value}
use Rattle.rl_meaning.specs.State.{State}
use Rattle.rl_meaning.specs.Outcome.{Outcome, Done, Failed, Went, Returned, Stopped, turns_left, Levels}
use Rattle.rl_meaning.specs.Symbols.{pair_at, vector_at}
use Rattle.rl_meaning.specs.Walks.{Further, Goes, Ends, Walked, walk_on, walk_pair, walk_within, walk, Comparison, both, reading_both, places_equal, vectors_equal, objects_equal, equal_at, equal_within, equal}
use Rattle.rl_meaning.specs.Constants.{reading_object}
use Rattle.rl_meaning.specs.Evaluation.{Position}
use Rattle.rl_agrees.proofs.OneRun.{StepsAt, IsBehind, LeadsAt, Makes, done_makes, then_makes, turn_makes, then_leads, choose_leads, turn_leads, descends_leads, pair_turn_leads}
use Rattle.rl_agrees.proofs.OneRunObjects.{leading, reading_follows}

-- ---- along a list

-- what a visit goes on or ends with has this
abbrev pub FurtherIs : {A : Type 0} → (A → Type 0) → Further A → State → Type 0
FurtherIs Good (Goes a) s = Good a
FurtherIs Good (Ends a) s = Good a

module _ {freely : Bool} {P : State → State → Type 0} (steps : StepsAt freely P) {position : Position} {r : State} {A : Type 0} (Good : A → Type 0) (visit : A → Value → Value → State → Outcome (Further A))
    (visits : (a : A) (v x : Value) (s : State) → IsBehind P r s → Good a → Makes P position r (FurtherIs Good) (visit a v x s)) where
  abbrev pub Comes : Outcome (Walked A) → Type 0
  Comes o = Makes P position r (λ w t. Good w.result) o

  pub walk_on_makes : (further : A → Value → State → Outcome (Walked A)) → ((a : A) (v : Value) (s : State) → IsBehind P r s → Good a → Comes (further a v s)) → (rest : Value) (next : Further A) (s : State) → IsBehind P r s → FurtherIs Good next s → Comes (walk_on visit further rest next s)
  walk_on_makes further k rest (Goes a) s h good = k a rest s h good
  walk_on_makes further k rest (Ends a) s h good = done_makes _ _ s h good

  pub walk_pair_makes : (further : A → Value → State → Outcome (Walked A)) → ((a : A) (v : Value) (s : State) → IsBehind P r s → Good a → Comes (further a v s)) → (o : Option (Value × Value)) (a : A) (v : Value) (s : State) → IsBehind P r s → Good a → Comes (walk_pair visit further o a v s)
  walk_pair_makes further k None a v s h good = done_makes _ _ s h good
  walk_pair_makes further k (Some parts) a v s h good =
      turn_makes steps _ s _ h (λ t f. then_makes (FurtherIs Good) _ _ _ (visits a v parts.0 (reading_object v t) (reading_follows steps v t f) good) (λ next u f good. walk_on_makes further k parts.1 next u f good))

  pub walk_within_makes : (n : ℕ) (a : A) (v : Value) (s : State) → IsBehind P r s → Good a → Comes (walk_within visit n a v s)
  walk_within_makes zero a v s h good = record { leads = search leading; good = tt }
  walk_within_makes (suc n) a v s h good = walk_pair_makes (λ a rest s. walk_within visit n a rest s) (λ a rest s h good. walk_within_makes n a rest s h good) (pair_at s v) a v s h good

  -- a walk over what has something, where the visits keep it
  pub walk_makes : (a : A) (v : Value) (s : State) → IsBehind P r s → Good a → Comes (walk visit a v s)
  walk_makes a v s h good = walk_within_makes (suc (turns_left s)) a v s h good

module _ {freely : Bool} {P : State → State → Type 0} (steps : StepsAt freely P) {position : Position} {r : State} {A : Type 0} (visit : A → Value → Value → State → Outcome (Further A))
    (visits : (a : A) (v x : Value) (s : State) → IsBehind P r s → LeadsAt P position r (visit a v x s)) where
  pub any_further : (o : Outcome (Further A)) → LeadsAt P position r o → Makes P position r (FurtherIs (λ (a : A). Unit {0})) o
  any_further (Done (Goes a) s) h = record { leads = h; good = tt }
  any_further (Done (Ends a) s) h = record { leads = h; good = tt }
  any_further (Failed n m s) h = record { leads = h; good = tt }
  any_further (Went l s) h = record { leads = h; good = tt }
  any_further (Returned v s) h = record { leads = h; good = tt }
  any_further (Stopped why s) h = record { leads = h; good = tt }

  -- any walk
  pub walk_leads : (a : A) (v : Value) (s : State) → IsBehind P r s → LeadsAt P position r (walk visit a v s)
  walk_leads a v s h = (walk_makes steps (λ (a : A). Unit {0}) visit (λ a v x s f good. any_further (visit a v x s) (visits a v x s f)) a v s h tt).leads

-- ---- EQUAL

pub reading_both_follows : {freely : Bool} {P : State → State → Type 0} (steps : StepsAt freely P) {r : State} (u v : Value) (s : State) → IsBehind P r s → IsBehind P r (reading_both u v s)
reading_both_follows steps u v s h = search reading_follows

module _ {freely : Bool} {P : State → State → Type 0} (steps : StepsAt freely P) {position : Position} {r : State} where
  pub both_leads : (first : Outcome Bool) (second : State → Outcome Bool) → LeadsAt P position r first → ((t : State) → IsBehind P r t → LeadsAt P position r (second t)) → LeadsAt P position r (both first second)
  both_leads first second h k = then_leads _ _ h (λ b t f. choose_leads b t _ _ (k t f) (search leading))

  module _ (compare : Comparison) (compares : (descent : Bool) (levels : Levels) (u v : Value) (s : State) → IsBehind P r s → LeadsAt P position r (compare descent levels u v s)) where
    pub places_lead : (levels : Levels) (u v : Value) (xs ys : List Value) (s : State) → IsBehind P r s → LeadsAt P position r (places_equal compare levels u v xs ys s)
    places_lead levels u v (x ∷ xs) (y ∷ ys) s h = turn_leads steps s _ h (λ t f. both_leads _ _ (compares true levels x y (reading_both u v t) (reading_both_follows steps u v t f)) (λ w f. places_lead levels u v xs ys w f))
    places_lead levels u v (x ∷ xs) [] s h = search leading
    places_lead levels u v [] ys s h = search leading

    pub vectors_lead : (descent : Bool) (levels : Levels) (xs ys : Option (List Value)) (u v : Value) (s : State) → IsBehind P r s → LeadsAt P position r (vectors_equal compare descent levels xs ys u v s)
    vectors_lead descent levels (Some xs) (Some ys) u v s h = choose_leads (length xs == length ys) s _ _ (descends_leads steps descent levels s _ h (λ l. places_lead l u v xs ys s h)) (search leading)
    vectors_lead descent levels (Some xs) None u v s h = search leading
    vectors_lead descent levels None ys u v s h = search leading

    pub objects_lead : (descent : Bool) (levels : Levels) (p q : Option (Value × Value)) (u v : Value) (s : State) → IsBehind P r s → LeadsAt P position r (objects_equal compare descent levels p q u v s)
    objects_lead descent levels (Some p) (Some q) u v s h = pair_turn_leads steps descent levels s _ h (λ l t f. both_leads _ _ (compares true l p.0 q.0 (reading_both u v t) (reading_both_follows steps u v t f)) (λ t f. compares false l p.1 q.1 t f))
    objects_lead descent levels (Some p) None u v s h = vectors_lead descent levels (vector_at s u) (vector_at s v) u v s h
    objects_lead descent levels None q u v s h = vectors_lead descent levels (vector_at s u) (vector_at s v) u v s h

    pub equal_at_leads : (descent : Bool) (levels : Levels) (u v : Value) (s : State) → IsBehind P r s → LeadsAt P position r (equal_at compare descent levels u v s)
    equal_at_leads descent levels u v s h = search (leading, objects_lead)

  pub equal_within_leads : (n : ℕ) (descent : Bool) (levels : Levels) (u v : Value) (s : State) → IsBehind P r s → LeadsAt P position r (equal_within n descent levels u v s)
  equal_within_leads zero descent levels u v s h = search leading
  equal_within_leads (suc n) descent levels u v s h =
      equal_at_leads (λ descent l u v s. equal_within n descent l u v s) (λ descent l u v s h. equal_within_leads n descent l u v s h) descent levels u v s h

  pub equal_leads : (levels : Levels) (u v : Value) (s : State) → IsBehind P r s → LeadsAt P position r (equal levels u v s)
  equal_leads levels u v s h = equal_within_leads (suc (suc (turns_left s))) false levels u v s h
