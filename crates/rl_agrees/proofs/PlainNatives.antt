-- Pure natives only make objects.
use Rattle.std.proofs.Common.{◌≡◌, ◌==◌, ℤ, pos, negsuc, ℕ, zero, suc, Bool, true, false, List, [], ◌∷◌, length, Option, Some, None}
use Rattle.rl_tree.specs.Value.{Value, Int, Id, Str, Ref, Fun, Object}
use Rattle.rl_meaning.specs.Names.{Test, Operation, Native, Tests, Eq, Equal, Part, Cons, Append, Reverse, Length, Member, Memq, Assoc, Number, Error}
use Rattle.rl_meaning.specs.Names as names
use Rattle.rl_meaning.specs.State.{State, Entry}
use Rattle.rl_meaning.specs.Outcome.{Outcome, turns_left, Levels}
use Rattle.rl_meaning.specs.Symbols.{nil_value_of_state, same, pair_at, vector_at}
use Rattle.rl_meaning.specs.Constants.{reading_object}
use Rattle.rl_meaning.specs.Walks.{Further, Goes, Walked, walk_on, walk_pair, walk_within, walk, Comparison, both, reading_both, places_equal, vectors_equal, objects_equal, equal_at, equal_within, equal}
use Rattle.rl_meaning.specs.Walks as walks
use Rattle.rl_meaning.specs.Numbers.{integer, power_within, of_two, of_one, with_integer, operated}
use Rattle.rl_meaning.specs.Lists.{with_pair, part, cdr_set, Chain, pair_hung, list_extended, list_ended, append, reversed, list_length, first_pair, associated, assoc, and_goes}
use Rattle.rl_meaning.specs.Natives.{argument}
use Rattle.rl_meaning.specs.Evaluation.{Rec, native_applied}
use Rattle.rl_meaning.specs.Plain.{is_pure}
use Rattle.rl_agrees.proofs.PlainWays.{Ends, then_ends, ends_weaken, Stays, Leaves, then_stays, watched_stays, turn_ends, descends_ends, pair_turn_ends}
use Rattle.rl_agrees.proofs.PlainObjects.{IsNew, object_stays, pair_new, staying, choose_stays, reading_stays}

module _ (b : State) (B : List Entry → Type 0) (Q : State → Type 0) where
  -- ---- along a list: what is come to has this property

  module _ {A : Type 0} (visit : A → Value → Value → State → Outcome (Further A)) (I : A → Type 0) where
    abbrev Next : Further A → Type 0
    Next (Goes a) = I a
    Next (walks.Ends a) = I a

    abbrev Visits : Type 0
    Visits = (a : A) (v x : Value) (s : State) → I a → Stays b B s → Ends (λ next t. Next next × Stays b B t) Q (visit a v x s)

    abbrev Comes : Outcome (Walked A) → Type 0
    Comes o = Ends (λ w t. I w.result × Stays b B t) Q o

    walk_on_ends : (further : A → Value → State → Outcome (Walked A)) → ((a : A) (v : Value) (s : State) → I a → Stays b B s → Comes (further a v s)) → (rest : Value) (next : Further A) (s : State) → Next next → Stays b B s → Comes (walk_on visit further rest next s)
    walk_on_ends further h rest (Goes a) s i k = h a rest s i k
    walk_on_ends further h rest (walks.Ends a) s i k = record { ends = (i, k) }

    walk_pair_ends : Visits → (further : A → Value → State → Outcome (Walked A)) → ((a : A) (v : Value) (s : State) → I a → Stays b B s → Comes (further a v s)) → (o : Option (Value × Value)) (a : A) (v : Value) (s : State) → I a → Stays b B s → Comes (walk_pair visit further o a v s)
    walk_pair_ends h further f None a v s i k = record { ends = (i, k) }
    walk_pair_ends h further f (Some parts) a v s i k =
        turn_ends b B _ Q s _ k (λ t k.
        then_ends _ _ Q _ _ (h a v parts.0 (reading_object v t) i (watched_stays b B t _ k)) (λ next u r. walk_on_ends further f parts.1 next u r.0 r.1))

    walk_within_ends : Visits → (n : ℕ) (a : A) (v : Value) (s : State) → I a → Stays b B s → Comes (walk_within visit n a v s)
    walk_within_ends h zero a v s i k = record { ends = tt }
    walk_within_ends h (suc n) a v s i k = walk_pair_ends h (λ a rest s. walk_within visit n a rest s) (λ a rest s i k. walk_within_ends h n a rest s i k) (pair_at s v) a v s i k

    walk_ends : Visits → (a : A) (v : Value) (s : State) → I a → Stays b B s → Comes (walk visit a v s)
    walk_ends h a v s i k = walk_within_ends h (suc (turns_left s)) a v s i k

  -- ---- EQUAL

  both_stays : (s : State) (first : Outcome Bool) (second : State → Outcome Bool) → Leaves b B Q first → ((t : State) → Stays b B t → Leaves b B Q (second t)) → Leaves b B Q (both first second)
  both_stays s first second h k = then_stays b B Q _ _ h (λ c t i. choose_stays b B Q c t _ _ (k t i) (record { ends = i }))

  abbrev Compares : Comparison → Type 0
  Compares compare = (descent : Bool) (levels : Levels) (u v : Value) (s : State) → Stays b B s → Leaves b B Q (compare descent levels u v s)

  places_stay : (compare : Comparison) → Compares compare → (levels : Levels) (u v : Value) (xs ys : List Value) (s : State) → Stays b B s → Leaves b B Q (places_equal compare levels u v xs ys s)
  places_stay compare h levels u v (x ∷ xs) (y ∷ ys) s k = turn_ends b B _ Q s _ k (λ t k. both_stays t _ _ (h true levels x y (reading_both u v t) (watched_stays b B t _ k)) (λ t k. places_stay compare h levels u v xs ys t k))
  places_stay compare h levels u v (x ∷ xs) [] s k = record { ends = k }
  places_stay compare h levels u v [] ys s k = record { ends = k }

  vectors_stay : (compare : Comparison) → Compares compare → (descent : Bool) (levels : Levels) (xs ys : Option (List Value)) (u v : Value) (s : State) → Stays b B s → Leaves b B Q (vectors_equal compare descent levels xs ys u v s)
  vectors_stay compare h descent levels (Some xs) (Some ys) u v s k = choose_stays b B Q (length xs == length ys) s _ _ (descends_ends b B _ Q descent levels s _ (λ l. places_stay compare h l u v xs ys s k)) (record { ends = k })
  vectors_stay compare h descent levels (Some xs) None u v s k = record { ends = k }
  vectors_stay compare h descent levels None ys u v s k = record { ends = k }

  objects_equal_stay : (compare : Comparison) → Compares compare → (descent : Bool) (levels : Levels) (p q : Option (Value × Value)) (u v : Value) (s : State) → Stays b B s → Leaves b B Q (objects_equal compare descent levels p q u v s)
  objects_equal_stay compare h descent levels (Some p) (Some q) u v s k =
      pair_turn_ends b B _ Q descent levels s _ k (λ l t k. both_stays t _ _ (h true l p.0 q.0 (reading_both u v t) (watched_stays b B t _ k)) (λ t k. h false l p.1 q.1 t k))
  objects_equal_stay compare h descent levels (Some p) None u v s k = vectors_stay compare h descent levels (vector_at s u) (vector_at s v) u v s k
  objects_equal_stay compare h descent levels None q u v s k = vectors_stay compare h descent levels (vector_at s u) (vector_at s v) u v s k

  equal_within_stays : (n : ℕ) → Compares (equal_within n)
  equal_within_stays zero descent levels u v s k = record { ends = tt }
  equal_within_stays (suc n) descent levels u v s k =
      choose_stays b B Q (same u v) s _ _ (record { ends = k }) (objects_equal_stay (λ descent levels u v s. equal_within n descent levels u v s) (λ descent levels u v s k. equal_within_stays n descent levels u v s k) descent levels (pair_at s u) (pair_at s v) u v s k)

  equal_stays : (levels : Levels) (u v : Value) (s : State) → Stays b B s → Leaves b B Q (equal levels u v s)
  equal_stays levels u v s k = equal_within_stays (suc (suc (turns_left s))) false levels u v s k

  -- ---- parts

  with_pair_stays : (o : Option (Value × Value)) (v : Value) (s : State) (next : Value × Value → State → Outcome Value) → Stays b B s → ((p : Value × Value) (t : State) → Stays b B t → Leaves b B Q (next p t)) → Leaves b B Q (with_pair o v s next)
  with_pair_stays (Some parts) v s next k h = h parts s k
  with_pair_stays None v s next k h = search staying

  part_stays : (path : List Bool) (v : Value) (s : State) → Stays b B s → Leaves b B Q (part path v s)
  part_stays [] v s k = search staying
  part_stays (first ∷ path) v s k = with_pair_stays (pair_at s v) v s _ k (λ parts t k. part_stays path _ _ (reading_stays b B v t k))

  -- ---- new lists: the last pair of a list that is not whole is new

  abbrev NewChain : Chain → Type 0
  NewChain None = Unit {0}
  NewChain (Some c) = IsNew b c.1

  cdr_set_stays : (p v : Value) (s : State) → IsNew b p → Stays b B s → Stays b B (cdr_set p v s)
  cdr_set_stays p v s new k = elim (pair_at s p) as (λ o. Stays b B (elim o [ None ↦ s | Some parts ↦ Rattle.rl_meaning.specs.Copying.with_object p (Rattle.rl_tree.specs.Value.Pair parts.0 v) s ])) [
    | None ↦ k
    | Some parts ↦ object_stays b B p _ s new k
  ]

  hung_stays : (chain : Chain) (p : Value) (s : State) → NewChain chain → IsNew b p → Stays b B s → NewChain (pair_hung chain p s).0 × Stays b B (pair_hung chain p s).1
  hung_stays None p s c new k = (new, k)
  hung_stays (Some c) p s last new k = (new, cdr_set_stays c.1 p s last k)

  extended_ends : (chain : Chain) (v : Value) (s : State) → NewChain chain → Stays b B s → Ends (λ c t. NewChain c × Stays b B t) Q (list_extended chain v s)
  extended_ends chain v s c k = then_ends _ _ Q _ _ (pair_new b B Q v nil_value_of_state s k) (λ p t r. record { ends = hung_stays chain p t c r.0 r.1 })

  ended_stays : (chain : Chain) (v : Value) (s : State) → NewChain chain → Stays b B s → Leaves b B Q (list_ended chain v s)
  ended_stays None v s c k = record { ends = k }
  ended_stays (Some c) v s last k = record { ends = cdr_set_stays c.1 v s last k }

  append_stays : (u v : Value) (s : State) → Stays b B s → Leaves b B Q (append u v s)
  append_stays u v s k =
      then_ends _ _ Q _ _ (walk_ends (λ chain pair x s. and_goes (list_extended chain x s)) NewChain (λ chain pair x s c k. then_ends _ _ Q _ _ (extended_ends chain x s c k) (λ a t r. record { ends = r })) None u s tt k)
      (λ walked t r. ended_stays walked.result v t r.0 r.1)

  -- ---- walks that make no such list

  abbrev Any : {A : Type 0} → A → Type 0
  Any a = Unit {0}

  simple_walk : {A : Type 0} (visit : A → Value → Value → State → Outcome (Further A)) → ((a : A) (v x : Value) (s : State) → Stays b B s → Leaves b B Q (visit a v x s)) → (a : A) (v : Value) (s : State) → Stays b B s → Leaves b B Q (walk visit a v s)
  simple_walk {A = A} visit h a v s k =
      ends_weaken _ _ Q Q _ (λ w t r. r.1) (λ t q. q)
      (walk_ends visit Any (λ a v x s i k. ends_weaken _ _ Q Q _ (λ next t k. (any next, k)) (λ t q. q) (h a v x s k)) a v s tt k)
    where
      any : (next : Further A) → Next visit Any next
      any (Goes a) = tt
      any (walks.Ends a) = tt

  reversed_stays : (u : Value) (s : State) → Stays b B s → Leaves b B Q (reversed u s)
  reversed_stays u s k = search (staying, simple_walk)

  list_length_stays : (u : Value) (s : State) → Stays b B s → Leaves b B Q (list_length u s)
  list_length_stays u s k = search (staying, simple_walk)

  first_pair_stays : (test : Value → Value → State → Outcome Bool) → ((p x : Value) (s : State) → Stays b B s → Leaves b B Q (test p x s)) → (l : Value) (s : State) → Stays b B s → Leaves b B Q (first_pair test l s)
  first_pair_stays test h l s k = search (staying, simple_walk, h)

  associated_stays : (levels : Levels) (x l y : Value) (o : Option (Value × Value)) (s : State) → Stays b B s → Leaves b B Q (associated levels x l y o s)
  associated_stays levels x l y (Some parts) s k = search (staying, equal_stays)
  associated_stays levels x l y None s k = search staying

  assoc_stays : (levels : Levels) (x l : Value) (s : State) → Stays b B s → Leaves b B Q (assoc levels x l s)
  assoc_stays levels x l s k = search (staying, simple_walk, associated_stays)

  -- ---- numbers

  integer_stays : (o : Operation) (z : ℤ) (s : State) → Stays b B s → Leaves b B Q (integer o z s)
  integer_stays o z s k = search staying

  power_stays : (o : Operation) (u : ℤ) (n : ℕ) (s : State) → Stays b B s → Leaves b B Q (power_within o u n s)
  power_stays o u n s k = search (staying, integer_stays)

  of_two_stays : (o : Operation) (u z : ℤ) (s : State) → Stays b B s → Leaves b B Q (of_two o u z s)
  of_two_stays names.Difference u z s k = search integer_stays
  of_two_stays names.Plus2 u z s k = search integer_stays
  of_two_stays names.Times2 u z s k = search integer_stays
  of_two_stays names.Max2 u z s k = search integer_stays
  of_two_stays names.Min2 u z s k = search integer_stays
  of_two_stays names.Quotient u z s k = search (staying, integer_stays)
  of_two_stays names.Remainder u z s k = search staying
  of_two_stays names.Divide u z s k = search (staying, integer_stays)
  of_two_stays names.Expt u (pos n) s k = search power_stays
  of_two_stays names.Expt u (negsuc n) s k = search staying
  of_two_stays names.Greaterp u z s k = search staying
  of_two_stays names.Lessp u z s k = search staying
  of_two_stays o u z s k = search staying

  of_one_stays : (o : Operation) (u : ℤ) (s : State) → Stays b B s → Leaves b B Q (of_one o u s)
  of_one_stays names.Abs (pos n) s k = search staying
  of_one_stays names.Abs (negsuc n) s k = search integer_stays
  of_one_stays names.Add1 u s k = search integer_stays
  of_one_stays names.Sub1 u s k = search integer_stays
  of_one_stays names.Minus u s k = search integer_stays
  of_one_stays o u s k = search staying

  with_integer_stays : (v : Value) (s : State) (next : ℤ → State → Outcome Value) → Stays b B s → ((z : ℤ) (t : State) → Stays b B t → Leaves b B Q (next z t)) → Leaves b B Q (with_integer v s next)
  with_integer_stays (Int z) s next k h = h z s k
  with_integer_stays v s next k h = search staying

  pub operated_stays : (o : Operation) (vs : List Value) (s : State) → Stays b B s → Leaves b B Q (operated o vs s)
  operated_stays o (u ∷ []) s k = search (with_integer_stays, of_one_stays)
  operated_stays o (u ∷ v ∷ vs) s k = search (with_integer_stays, of_two_stays)
  operated_stays o [] s k = record { ends = k }

  -- ---- all of them

  pub native_stays : (rec : Rec) (n : Native) (levels : Levels) (vs : List Value) (s : State) → is_pure n ≡ true → Stays b B s → Leaves b B Q (native_applied rec n levels vs s)
  native_stays rec (Tests t) levels vs s p k = search staying
  native_stays rec Eq levels vs s p k = search staying
  native_stays rec Equal levels vs s p k = search (staying, equal_stays)
  native_stays rec (Part path) levels vs s p k = search part_stays
  native_stays rec Cons levels vs s p k = search staying
  native_stays rec Append levels vs s p k = search append_stays
  native_stays rec Reverse levels vs s p k = search reversed_stays
  native_stays rec Length levels vs s p k = search list_length_stays
  native_stays rec Member levels vs s p k = search (first_pair_stays, equal_stays)
  native_stays rec Memq levels vs s p k = search (staying, first_pair_stays)
  native_stays rec Assoc levels vs s p k = search assoc_stays
  native_stays rec (Number o) levels vs s p k = search operated_stays
  native_stays rec Error levels vs s p k = with_integer_stays (argument vs 0) s _ k (λ n t k. record { ends = tt })
  native_stays rec n levels vs s p k = absurd (let f : false ≡ true = p in cc)
