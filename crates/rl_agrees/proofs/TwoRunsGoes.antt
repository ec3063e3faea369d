-- What goes on from a state, and what goes on from there; and what two runs side by side show as each goes on.
use Rattle.std.proofs.Common.{◌≡◌, ◌∙◌, inl, inr, ◌≤◌, ℕ, Bool, true, false, is_some, List, [], ◌++◌, length, take, Some, None, refl, sym, ap, subst, append-nil, append_assoc, arith}
use Rattle.std.proofs.Common.{length-append}
use Rattle.std.proofs.lemmas.List.{take-append-le}
use Rattle.rl_meaning.specs.State.{State, Counts, Entry}
use Rattle.rl_meaning.specs.Outcome.{Outcome, Done, Failed, Went, Returned, Stopped, Stop, then_do, choose, in_levels, deeper, Levels}
use Rattle.rl_meaning.specs.Opening.{state_of}
use Rattle.rl_meaning.specs.Variables.{restored}
use Rattle.rl_meaning.specs.Evaluation.{closed}
use Rattle.rl_meaning.specs.TwoRunsEnds.{IsBegunBy, HasShown, OneBegins, Parted, by_event, right_short, left_short, short_by_event, both_short}
use Rattle.rl_meaning.specs.TwoRunsStates.{Bounds}
use Rattle.rl_agrees.specs.Later.{IsMore, IsNoted, StaysOrNoted, NotedBefore, Later}
use Rattle.rl_agrees.specs.TwoRunsJobs.{EventWithin}
use Rattle.rl_agrees.proofs.TwoRunsKept.{Goes}
use Rattle.rl_agrees.proofs.TwoRunsJoined.{begins_trans}
use Rattle.rl_agrees.proofs.TwoRunsFacts.{GoesOn}

-- ---- a preorder

more_refl : {A : Type 0} (xs : List A) → IsMore xs xs
more_refl xs = record { rest = []; is = sym (append-nil xs) }

more_trans : {A : Type 0} (xs ys zs : List A) → IsMore xs ys → IsMore ys zs → IsMore xs zs
more_trans xs ys zs h g = record { rest = h.rest ++ g.rest; is = g.is ∙ (ap (λ w. w ++ g.rest) h.is ∙ append_assoc xs h.rest g.rest) }

pub more_length : {A : Type 0} (xs ys : List A) → IsMore xs ys → length xs ≤ length ys
more_length xs ys h = let x : length ys ≡ length (xs ++ h.rest) = ap (λ fs. length fs) h.is in omega (arith, x, length-append xs h.rest)

noted_lower : (t : State) (r n m : ℕ) → m ≤ n → IsNoted t r n → IsNoted t r m
noted_lower t r n m le h = record { functions = h.functions; last = h.last; late = omega (arith, le, h.late) }

noted_on : (t u : State) (r n : ℕ) → n ≤ length t.functions → IsNoted t r n → NotedBefore t u r → IsNoted u r n
noted_on t u r n le h (inl e) = record { functions = h.functions; last = e ∙ h.last; late = h.late }
noted_on t u r n le h (inr k) = noted_lower u r _ n le k

stay_on : (s t u : State) (r : ℕ) → length s.functions ≤ length t.functions → StaysOrNoted s t r → StaysOrNoted t u r → NotedBefore t u r → StaysOrNoted s u r
stay_on s t u r le (inl a) (inl b) k = inl (b ∙ a)
stay_on s t u r le (inl a) (inr b) k = inr (noted_lower u r _ _ le b)
stay_on s t u r le (inr a) b k = inr (noted_on t u r _ le a k)

noted_before_on : (s t u : State) (r : ℕ) → length s.functions ≤ length t.functions → NotedBefore s t r → NotedBefore t u r → NotedBefore s u r
noted_before_on s t u r le (inl a) (inl b) = inl (b ∙ a)
noted_before_on s t u r le (inl a) (inr b) = inr (noted_lower u r _ _ le b)
noted_before_on s t u r le (inr a) k = inr (noted_on t u r _ le a k)

later_trans : (s t u : State) → Later s t → Later t u → Later s u
later_trans s t u h g = record {
  output = more_trans _ _ _ h.output g.output;
  notes = more_trans _ _ _ h.notes g.notes;
  event = λ r e. g.event r (h.event r e);
  functions = more_trans _ _ _ h.functions g.functions;
  objects = omega (arith, h.objects, g.objects);
  stay = λ r lt. stay_on s t u r (more_length _ _ h.functions) (h.stay r lt) (g.stay r (omega (arith, lt, h.objects))) (g.noted r);
  noted = λ r. noted_before_on s t u r (more_length _ _ h.functions) (h.noted r) (g.noted r);
  fewer = λ c i. h.fewer c (g.fewer c i);
  stand = λ k. g.stand (h.stand k);
}

pub goes_trans : (s t u : State) → Goes s t → Goes t u → Goes s u
goes_trans s t u h g = record { later = later_trans s t u h.later g.later; within = λ w. g.within (h.within w); bounded = h.bounded ∙ g.bounded; runs_code = h.runs_code ∙ g.runs_code }

-- other counts and bindings change nothing of this
pub goes_with : (s : State) (counts : Counts) (bindings : List Entry) → is_some s.counts.cells ≡ is_some counts.cells → Goes s (record s { counts = counts; bindings = bindings })
goes_with s counts bindings e = record {
  later = record {
    output = more_refl s.outside.output;
    notes = more_refl s.outside.notes;
    event = λ r e. e;
    functions = more_refl s.functions;
    objects = omega arith;
    stay = λ r lt. inl refl;
    noted = λ r. inl refl;
    fewer = λ c i. i;
    stand = λ k. k;
  };
  within = λ w. record { printed = w.printed; noted = w.noted };
  bounded = e;
  runs_code = refl;
}

pub goes_refl : (s : State) → Goes s s
goes_refl s = goes_with s s.counts s.bindings refl

-- ---- ways of outcomes

pub then_goes : {A B : Type 0} (s : State) (o : Outcome A) (f : A → State → Outcome B) → GoesOn s o → ((a : A) (t : State) → GoesOn t (f a t)) → GoesOn s (then_do o f)
then_goes s (Done a t) f h k = record { goes = goes_trans s t (state_of (f a t)) h.goes (k a t).goes }
then_goes s (Failed n m t) f h k = record { goes = h.goes }
then_goes s (Went l t) f h k = record { goes = h.goes }
then_goes s (Returned v t) f h k = record { goes = h.goes }
then_goes s (Stopped why t) f h k = record { goes = h.goes }

pub choose_goes : {A : Type 0} (b : Bool) (s : State) (f g : State → Outcome A) → GoesOn s (f s) → GoesOn s (g s) → GoesOn s (choose b s f g)
choose_goes true s f g h k = h
choose_goes false s f g h k = k

entered_goes : {A : Type 0} (b : Bool) (l : ℕ) (s : State) (f : Levels → Outcome A) → ((l : Levels) → GoesOn s (f l)) → GoesOn s (in_levels b l s f)
entered_goes true l s f h = h (Some l)
entered_goes false l s f h = record { goes = goes_refl s }

pub deeper_goes : {A : Type 0} (n : ℕ) (l : Levels) (s : State) (f : Levels → Outcome A) → ((l : Levels) → GoesOn s (f l)) → GoesOn s (deeper n l s f)
deeper_goes n None s f h = h None
deeper_goes n (Some l) s f h = entered_goes _ _ s f h

pub done_goes : {A : Type 0} (a : A) (s : State) → GoesOn s (Done a s)
done_goes a s = record { goes = goes_refl s }

-- from a state to which this one went
pub goes_from : {A : Type 0} (r s : State) (o : Outcome A) → Goes r s → GoesOn s o → GoesOn r o
goes_from r s o h g = record { goes = goes_trans r s (state_of o) h g.goes }

pub goes_to : {A B : Type 0} (s : State) (o : Outcome A) (p : Outcome B) → GoesOn s o → Goes (state_of o) (state_of p) → GoesOn s p
goes_to s o p h g = record { goes = goes_trans s (state_of o) (state_of p) h.goes g }

-- ---- apart, in what goes on

-- what is made of an outcome, which goes on from it, and hands on a stop
pub record Context {A B : Type 0} (C : Outcome A → Outcome B) : Type 0 where
  pub stops : (why : Stop) (s : State) → C (Stopped why s) ≡ Stopped why s
  pub goes : (o : Outcome A) → Goes (state_of o) (state_of (C o))

begins_more : (x y z : List ℕ) → IsBegunBy x y → IsMore y z → IsBegunBy x z
begins_more x y z h g = begins_trans x y z h (record { rest = g.rest; is = g.is })

shown_more : (x y : List ℕ) (s t : State) → HasShown x y s.outside → Goes s t → HasShown x y t.outside
shown_more x y s t h g = record { output = begins_more x _ _ h.output g.later.output; notes = begins_more y _ _ h.notes g.later.notes }

take_same : (n : ℕ) (xs ys : List ℕ) → n ≤ length xs → IsMore xs ys → take n ys ≡ take n xs
take_same n xs ys le h = ap (λ w. take n w) h.is ∙ take-append-le n xs h.rest le

module _ {bounds : Bounds} where
  pub parted_in : {A B : Type 0} (C D : Outcome A → Outcome B) (o p : Outcome A) → Context C → Context D → EventWithin (state_of p) → Parted bounds o p → Parted bounds (C o) (D p)
  parted_in {A} {B} C D o p c d w (by_event _ _ r e h) =
      let g : Goes (state_of p) (state_of (D p)) = d.goes p in
      let k : HasShown (take r.printed (state_of p).outside.output) (take r.noted (state_of p).outside.notes) (state_of (C o)).outside = shown_more _ _ _ _ h (c.goes o) in
      by_event (C o) (D p) r (g.later.event r e)
      (subst (λ x. HasShown x (take r.noted (state_of (D p)).outside.notes) (state_of (C o)).outside) (sym (take_same _ _ _ (w.printed r e) g.later.output))
      (subst (λ x. HasShown (take r.printed (state_of p).outside.output) x (state_of (C o)).outside) (sym (take_same _ _ _ (w.noted r e) g.later.notes)) k))
  parted_in {A} {B} C D o p c d w (right_short _ why t x h) = subst (λ q. Parted bounds (C o) q) (sym (d.stops why t)) (right_short (C o) why t x (shown_more _ _ _ _ h (c.goes o)))
  parted_in {A} {B} C D o p c d w (left_short why s _ x h) = subst (λ q. Parted bounds q (D p)) (sym (c.stops why s)) (left_short why s (D p) x (shown_more _ _ _ _ h (d.goes p)))
  parted_in {A} {B} C D o p c d w (short_by_event why s _ r x e a b) =
      let g : Goes (state_of p) (state_of (D p)) = d.goes p in
      subst (λ q. Parted bounds q (D p)) (sym (c.stops why s)) (short_by_event why s (D p) r x (g.later.event r e)
      (subst (λ y. OneBegins y s.outside.output) (sym (take_same _ _ _ (w.printed r e) g.later.output)) a)
      (subst (λ y. OneBegins y s.outside.notes) (sym (take_same _ _ _ (w.noted r e) g.later.notes)) b))
  parted_in {A} {B} C D o p c d w (both_short why other s t x y a b) = subst (λ q. Parted bounds q (D (Stopped other t))) (sym (c.stops why s)) (subst (λ q. Parted bounds (Stopped why s) q) (sym (d.stops other t)) (both_short why other s t x y a b))

pub then_context : {A B : Type 0} (f : A → State → Outcome B) → ((a : A) (t : State) → GoesOn t (f a t)) → Context (λ (o : Outcome A). then_do o f)
then_context f h = record { stops = λ why s. refl; goes = λ o. (then_goes (state_of o) o f (record { goes = goes_refl (state_of o) }) h).goes }

pub restored_context : {A : Type 0} (n : ℕ) → Context (λ (o : Outcome A). restored n o)
restored_context {A} n = record { stops = λ why s. refl; goes = goes }
  where
    goes : (o : Outcome A) → Goes (state_of o) (state_of (restored n o))
    goes (Done a s) = goes_with s s.counts _ refl
    goes (Failed e m s) = goes_with s s.counts _ refl
    goes (Went l s) = goes_with s s.counts _ refl
    goes (Returned v s) = goes_with s s.counts _ refl
    goes (Stopped why s) = goes_refl s

pub closed_context : {A : Type 0} → Context (λ (o : Outcome A). closed o)
closed_context {A} = record { stops = λ why s. refl; goes = goes }
  where
    goes : (o : Outcome A) → Goes (state_of o) (state_of (closed o))
    goes (Done a s) = goes_with s _ s.bindings refl
    goes (Failed e m s) = goes_with s _ s.bindings refl
    goes (Went l s) = goes_with s _ s.bindings refl
    goes (Returned v s) = goes_with s _ s.bindings refl
    goes (Stopped why s) = goes_refl s
