-- More turns than are left bound no walk and no comparison: where visits give none back, each pair that is reached has its turn.
use Rattle.std.proofs.Common.{◌≡◌, ◌≤◌, ◌<◌, ◌==◌, ℕ, zero, suc, Bool, true, false, List, [], ◌∷◌, length, Option, Some, None, refl, ap, ◌∙◌, arith}
use Rattle.rl_tree.specs.Value.{Value}
use Rattle.rl_meaning.specs.State.{State, Expansion}
use Rattle.rl_meaning.specs.Outcome.{Outcome, Done, Failed, Went, Returned, Stopped, then_do, choose, run_turn, expansion_turn, turn_of, turn, turns_of, turns_left, Levels, in_levels, descends}
use Rattle.rl_meaning.specs.Symbols.{same, pair_at, vector_at}
use Rattle.rl_meaning.specs.Constants.{reading_object}
use Rattle.rl_meaning.specs.Walks.{Further, Goes, Ends, Walked, walk_on, walk_pair, walk_within, walk, Comparison, both, reading_both, places_equal, vectors_equal, objects_equal, equal_at, equal_within}
use Rattle.rl_meaning.specs.WalkLaws.{LeavesAtMost, GivesNoTurnsBack, no_turn, AreWalksUnbounded, equal_parts, IsEqualUnbounded}
use Rattle.rl_meaning.proofs.CountsFall.{IsNoMoreInside, AreNoMore, LeavesNoMore}
use Rattle.rl_meaning.proofs.CountsFallInWalks.{equal_within_spends, equal_spends}

-- ---- what takes from the counts gives no turns back

left_falls : (d c : Option Expansion) (m n : ℕ) → IsNoMoreInside d c → m ≤ n → turns_of d m ≤ turns_of c n
left_falls None None m n h le = le
left_falls (Some d) (Some c) m n h le = h.0
left_falls None (Some c) m n h le = absurd h
left_falls (Some d) None m n h le = absurd h

leaves_at_most : {A : Type 0} (s : State) (o : Outcome A) → LeavesNoMore s.counts o → LeavesAtMost (turns_left s) o
leaves_at_most s (Done a t) h = let f : AreNoMore t.counts s.counts = h.leaves in left_falls t.counts.expansion s.counts.expansion t.counts.turns s.counts.turns f.inner f.run
leaves_at_most s (Failed n m t) h = tt
leaves_at_most s (Went l t) h = tt
leaves_at_most s (Returned v t) h = tt
leaves_at_most s (Stopped why t) h = tt

-- ---- two ways to go on that are one where fewer turns are left

turn_same : {A : Type 0} (s : State) (f g : State → Outcome A) → ((t : State) → turns_left t < turns_left s → f t ≡ g t) → turn s f ≡ turn s g
turn_same {A} s f g h = go s.counts.expansion refl
  where
    run : (n : ℕ) → n ≡ s.counts.turns → None ≡ s.counts.expansion → run_turn n s f ≡ run_turn n s g
    run zero e is = refl
    run (suc n) e is =
        let a : n ≡ turns_of s.counts.expansion n = ap (λ e. turns_of e n) is in
        let b : suc n ≡ turns_left s = e ∙ ap (λ e. turns_of e s.counts.turns) is in
        h (record s { counts = record s.counts { turns = n } }) (omega (arith, a, b))

    expanding : (n : ℕ) (e : Expansion) → n ≡ e.turns → Some e ≡ s.counts.expansion → expansion_turn n e s f ≡ expansion_turn n e s g
    expanding zero e x is = refl
    expanding (suc n) e x is =
        let b : suc n ≡ turns_left s = x ∙ ap (λ e. turns_of e s.counts.turns) is in
        h (record s { counts = record s.counts { expansion = Some (record e { turns = n }) } }) (omega (arith, b))

    go : (e : Option Expansion) → e ≡ s.counts.expansion → turn_of e s f ≡ turn_of e s g
    go None is = run s.counts.turns refl is
    go (Some e) is = expanding e.turns e refl is

then_same : {A B : Type 0} (n : ℕ) (o : Outcome A) (f g : A → State → Outcome B) → LeavesAtMost n o → ((a : A) (t : State) → turns_left t ≤ n → f a t ≡ g a t) → then_do o f ≡ then_do o g
then_same n (Done a t) f g le h = h a t le
then_same n (Failed m v t) f g le h = refl
then_same n (Went l t) f g le h = refl
then_same n (Returned v t) f g le h = refl
then_same n (Stopped why t) f g le h = refl

choose_same : {A : Type 0} (b : Bool) (s : State) (f f' g : State → Outcome A) → f s ≡ f' s → choose b s f g ≡ choose b s f' g
choose_same true s f f' g h = h
choose_same false s f f' g h = refl

otherwise_same : {A : Type 0} (b : Bool) (s : State) (f g g' : State → Outcome A) → g s ≡ g' s → choose b s f g ≡ choose b s f g'
otherwise_same true s f g g' h = refl
otherwise_same false s f g g' h = h

entered_same : {A : Type 0} (b : Bool) (l : ℕ) (s : State) (f g : Levels → Outcome A) → ((l : Levels) → f l ≡ g l) → in_levels b l s f ≡ in_levels b l s g
entered_same true l s f g h = h (Some l)
entered_same false l s f g h = refl

descends_same : {A : Type 0} (descent : Bool) (levels : Levels) (s : State) (f g : Levels → Outcome A) → ((l : Levels) → f l ≡ g l) → descends descent levels s f ≡ descends descent levels s g
descends_same true None s f g h = h None
descends_same true (Some l) s f g h = entered_same _ _ s f g h
descends_same false levels s f g h = h levels

-- ---- along a list

module _ {A : Type 0} (visit : A → Value → Value → State → Outcome (Further A)) where
  on_same : (f g : A → Value → State → Outcome (Walked A)) (rest : Value) (next : Further A) (t : State) → ((a : A) → f a rest t ≡ g a rest t) → walk_on visit f rest next t ≡ walk_on visit g rest next t
  on_same f g rest (Goes a) t h = h a
  on_same f g rest (Ends a) t h = refl

  -- what stands behind a pair is reached with fewer turns
  pair_same : GivesNoTurnsBack visit → (f g : A → Value → State → Outcome (Walked A)) (o : Option (Value × Value)) (a : A) (v : Value) (s : State) → ((b : A) (rest : Value) (t : State) → turns_left t < turns_left s → f b rest t ≡ g b rest t)
      → walk_pair visit f o a v s ≡ walk_pair visit g o a v s
  pair_same visits f g None a v s h = refl
  pair_same visits f g (Some parts) a v s h =
      turn_same s _ _ (λ t less. then_same (turns_left t) (visit a v parts.0 (reading_object v t)) _ _ (visits.leaves a v parts.0 (reading_object v t)) (λ next u le. on_same f g parts.1 next u (λ b. h b parts.1 u (omega (arith, less, le)))))

  bounds_same : GivesNoTurnsBack visit → (m n : ℕ) (a : A) (v : Value) (s : State) → turns_left s < m → turns_left s < n → walk_within visit m a v s ≡ walk_within visit n a v s
  bounds_same visits zero n a v s l k = absurd (omega (arith, l))
  bounds_same visits (suc m) zero a v s l k = absurd (omega (arith, k))
  bounds_same visits (suc m) (suc n) a v s l k =
      pair_same visits (λ b rest t. walk_within visit m b rest t) (λ b rest t. walk_within visit n b rest t) (pair_at s v) a v s (λ b rest t less. bounds_same visits m n b rest t (omega (arith, less, l)) (omega (arith, less, k)))

  -- a walk is one step and the walk behind it
  step_is : GivesNoTurnsBack visit → (a : A) (v : Value) (s : State) → walk visit a v s ≡ walk_pair visit (λ b rest t. walk visit b rest t) (pair_at s v) a v s
  step_is visits a v s =
      pair_same visits (λ b rest t. walk_within visit (turns_left s) b rest t) (λ b rest t. walk visit b rest t) (pair_at s v) a v s (λ b rest t less. bounds_same visits (turns_left s) (suc (turns_left t)) b rest t less (omega arith))

  stops : (s : State) (next : State → Outcome (Walked A)) → turns_left s ≡ 0 → turn s next ≡ Stopped (no_turn s.counts.expansion) s
  stops s next none = at s.counts.expansion none
    where
      run_at : (n : ℕ) → n ≡ 0 → run_turn n s next ≡ Stopped (no_turn None) s
      run_at zero e = refl
      run_at (suc n) e = absurd (omega (arith, e))

      expansion_at : (n : ℕ) (e : Expansion) → n ≡ 0 → expansion_turn n e s next ≡ Stopped (no_turn (Some e)) s
      expansion_at zero e none = refl
      expansion_at (suc n) e none = absurd (omega (arith, none))

      at : (o : Option Expansion) → turns_of o s.counts.turns ≡ 0 → turn_of o s next ≡ Stopped (no_turn o) s
      at None none = run_at s.counts.turns none
      at (Some e) none = expansion_at e.turns e none

pub walks_unbounded : (A : Type 0) → AreWalksUnbounded A
walks_unbounded A = record {
  atom = λ visit a v s is. ap (λ o. walk_pair visit (λ b rest t. walk_within visit (turns_left s) b rest t) o a v s) is;
  pair = λ visit visits a v s parts is. step_is visit visits a v s ∙ ap (λ o. walk_pair visit (λ b rest t. walk visit b rest t) o a v s) is;
  stop = λ visit a v s parts is none. ap (λ o. walk_pair visit (λ b rest t. walk_within visit (turns_left s) b rest t) o a v s) is ∙ stops visit s _ none;
  bound = λ visit visits n a v s less. bounds_same visit visits n (suc (turns_left s)) a v s less (omega arith);
}

-- ---- EQUAL

both_same : (n : ℕ) (o p : Outcome Bool) (f g : State → Outcome Bool) → LeavesAtMost n o → o ≡ p → ((t : State) → turns_left t ≤ n → f t ≡ g t) → both o f ≡ both p g
both_same n o p f g le e h = then_same n o _ _ le (λ b t le. choose_same b t f g _ (h t le)) ∙ ap (λ o. both o g) e

-- two comparisons that are one where fewer turns are left than these
module _ (f g : Comparison) (m : ℕ) (leaves : (descent : Bool) (levels : Levels) (u v : Value) (t : State) → LeavesAtMost (turns_left t) (f descent levels u v t))
    (agree : (descent : Bool) (levels : Levels) (u v : Value) (t : State) → turns_left t < m → f descent levels u v t ≡ g descent levels u v t) where
  places_same : (levels : Levels) (u v : Value) (xs ys : List Value) (s : State) → turns_left s ≤ m → places_equal f levels u v xs ys s ≡ places_equal g levels u v xs ys s
  places_same levels u v (x ∷ xs) (y ∷ ys) s le =
      turn_same s _ _ (λ t less. both_same (turns_left t) _ _ _ _ (leaves true levels x y (reading_both u v t)) (agree true levels x y (reading_both u v t) (omega (arith, less, le))) (λ w fewer. places_same levels u v xs ys w (omega (arith, less, le, fewer))))
  places_same levels u v (x ∷ xs) [] s le = refl
  places_same levels u v [] ys s le = refl

  vectors_same : (descent : Bool) (levels : Levels) (xs ys : Option (List Value)) (u v : Value) (s : State) → turns_left s ≤ m → vectors_equal f descent levels xs ys u v s ≡ vectors_equal g descent levels xs ys u v s
  vectors_same descent levels (Some xs) (Some ys) u v s le = choose_same (length xs == length ys) s _ _ _ (descends_same descent levels s _ _ (λ l. places_same l u v xs ys s le))
  vectors_same descent levels (Some xs) None u v s le = refl
  vectors_same descent levels None ys u v s le = refl

  objects_same : (descent : Bool) (levels : Levels) (p q : Option (Value × Value)) (u v : Value) (s : State) → turns_left s ≤ m → objects_equal f descent levels p q u v s ≡ objects_equal g descent levels p q u v s
  objects_same descent levels (Some p) (Some q) u v s le =
      turn_same s _ _ (λ t less. descends_same descent levels t _ _ (λ l. both_same (turns_left t) _ _ _ _ (leaves true l p.0 q.0 (reading_both u v t)) (agree true l p.0 q.0 (reading_both u v t) (omega (arith, less, le))) (λ w fewer. agree false l p.1 q.1 w (omega (arith, less, le, fewer)))))
  objects_same descent levels (Some p) None u v s le = vectors_same descent levels (vector_at s u) (vector_at s v) u v s le
  objects_same descent levels None q u v s le = vectors_same descent levels (vector_at s u) (vector_at s v) u v s le

  equal_same : (descent : Bool) (levels : Levels) (u v : Value) (s : State) → turns_left s ≤ m → equal_at f descent levels u v s ≡ equal_at g descent levels u v s
  equal_same descent levels u v s le = otherwise_same (same u v) s _ _ _ (objects_same descent levels (pair_at s u) (pair_at s v) u v s le)

within_leaves : (n : ℕ) (descent : Bool) (levels : Levels) (u v : Value) (t : State) → LeavesAtMost (turns_left t) (equal_within n descent levels u v t)
within_leaves n descent levels u v t = leaves_at_most t _ (equal_within_spends n descent levels u v t)

equal_bounds : (m n : ℕ) (descent : Bool) (levels : Levels) (u v : Value) (s : State) → turns_left s < m → turns_left s < n → equal_within m descent levels u v s ≡ equal_within n descent levels u v s
equal_bounds zero n descent levels u v s l k = absurd (omega (arith, l))
equal_bounds (suc m) zero descent levels u v s l k = absurd (omega (arith, k))
equal_bounds (suc m) (suc n) descent levels u v s l k =
    equal_same (λ b l u v t. equal_within m b l u v t) (λ b l u v t. equal_within n b l u v t) (turns_left s) (within_leaves m) (λ b levels u v t less. equal_bounds m n b levels u v t (omega (arith, less, l)) (omega (arith, less, k))) descent levels u v s (omega arith)

pub equal_unbounded : IsEqualUnbounded
equal_unbounded = record {
  parts = λ descent levels u v s.
      equal_same (λ b l u v t. equal_within (suc (turns_left s)) b l u v t) (λ b l u v t. equal_parts b l u v t) (turns_left s) (within_leaves (suc (turns_left s))) (λ b levels u v t less. equal_bounds (suc (turns_left s)) (suc (suc (turns_left t))) b levels u v t (omega (arith, less)) (omega arith)) descent levels u v s (omega arith);
  leaves = λ levels u v s. leaves_at_most s _ (equal_spends levels u v s);
}
