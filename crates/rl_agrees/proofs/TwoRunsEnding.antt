-- The ways in which outcomes of two runs side by side are made, where the left one may run code: those that are apart stay so, as each run goes on.
use Rattle.std.proofs.Common.{◌≡◌, ◌∙◌, ◌≤◌, ◌-◌, ℕ, zero, suc, Bool, true, false, nat_le, is_some, List, [], ◌∷◌, length, Option, Some, None, refl, sym, ap, subst, arith}
use Rattle.std.proofs.lemmas.Bool.Decides.{nat_tests}
use Rattle.rl_tree.specs.Value.{Value, Id, Str}
use Rattle.rl_tree.specs.declared.held.VarKind.{VarKind}
use Rattle.rl_tree.specs.declared.held.VarKind.TheVariants as kind
use Rattle.rl_meaning.specs.State.{State, Counts, Expansion, Binding, Mark, Local, Fluid, Kept, Pointer, Outside, Scope}
use Rattle.rl_meaning.specs.Outcome.{Outcome, Done, Failed, Went, Returned, Stopped, Stop, Turns, Depth, Expands, then_do, choose, turn, Levels, in_levels, deeper, cells_within, run_room, expansion_within, expansion_room, made_pair, run_turn, expansion_turn, turn_of}
use Rattle.rl_meaning.specs.Opening.{state_of}
use Rattle.rl_meaning.specs.Symbols.{nil_value_of_state, is_constant}
use Rattle.rl_tree.specs.ErrorTexts.{error_text}
use Rattle.rl_meaning.specs.Errors.{fail, not_bindable}
use Rattle.rl_meaning.specs.Holding.{kept_kind}
use Rattle.rl_meaning.specs.Variables.{with_binding, with_mark, bound_as, bind_all, binding_levels, restored, binding}
use Rattle.rl_meaning.specs.Evaluation.{closed, without_expansion}
use Rattle.rl_meaning.specs.TwoRunsValues.{Names, Grows, Maybe, Each, end, more, SameValue, same_id, SamePointer}
use Rattle.rl_meaning.specs.TwoRunsStates.{Bounds, EntryPlace, Both, BothMark, SameExpansion, same_none, same_open, SameCounts, Like, Roomier}
use Rattle.rl_meaning.specs.TwoRunsEnds.{IsBegunBy, HasShown, lacks_levels, meets_levels, MayStop, Parted, Related, done, failed, went, returned, stopped, parted, EndsAgree}
use Rattle.rl_meaning.specs.TwoRunsEnds as ends
use Rattle.rl_agrees.specs.TwoRunsJobs.{EventWithin}
use Rattle.rl_agrees.proofs.TwoRunsKept.{Goes}
use Rattle.rl_agrees.proofs.TwoRunsGrowth.{grows_refl, grows_trans}
use Rattle.rl_agrees.proofs.TwoRunsWays.{Beside, Short, right_short, left_short, with_counts_like}
use Rattle.rl_agrees.proofs.TwoRunsObjects.{fail_related}
use Rattle.rl_agrees.proofs.TwoRunsBinding.{Above, level, over, bound_like, mark_like, restored_related}
use Rattle.rl_agrees.proofs.TwoRunsJoined.{shown_refl}
use Rattle.rl_agrees.proofs.TwoRunsFacts.{GoesOn, OneRunFacts, Quiet}
use Rattle.rl_agrees.proofs.TwoRunsGoes.{goes_with, goes_to, then_goes, parted_in, then_context, restored_context, closed_context}
use Rattle.rl_agrees.proofs.TwoRunsCompared.{Comparison, Sides, BelowSides, CleanSides}

-- the ends of two runs of which the left one may run code
abbrev pub EndTogether : Bounds → {A : Type 0} → (Names → A → A → Type 0) → Names → List EntryPlace → Outcome A → Outcome A → Type 0
EndTogether bounds {A} R n ps o p = Related bounds {A = A} (Parted bounds) R n ps o p

module _ {bounds : Bounds} where
  pub further_ends : {A : Type 0} {R : Names → A → A → Type 0} (n m : Names) (ps : List EntryPlace) (o p : Outcome A) → Grows n m → EndTogether bounds R m ps o p → EndTogether bounds R n ps o p
  further_ends n m ps o p g (done k a b s t h r l) = done k a b s t (grows_trans n m k g h) r l
  further_ends n m ps o p g (failed k z v w s t h r l) = failed k z v w s t (grows_trans n m k g h) r l
  further_ends n m ps o p g (went k x s t h l) = went k x s t (grows_trans n m k g h) l
  further_ends n m ps o p g (returned k v w s t h r l) = returned k v w s t (grows_trans n m k g h) r l
  further_ends n m ps o p g (stopped why s t e) = stopped why s t e
  further_ends n m ps o p g (parted _ _ a) = parted _ _ a

  pub done_here : {A : Type 0} {R : Names → A → A → Type 0} {P : List EntryPlace → Type 0} (c : Comparison) (n : Names) (ps : List EntryPlace) (a b : A) (s t : State) → R n a b → Sides bounds c P n ps s t → EndTogether bounds R n ps (Done a s) (Done b t)
  done_here c n ps a b s t r i = done n a b s t (grows_refl n) r i.like

  pub stopped_here : {A : Type 0} {R : Names → A → A → Type 0} {P : List EntryPlace → Type 0} (c : Comparison) (n : Names) (ps : List EntryPlace) (why : Stop) (s t : State) → MayStop bounds why → Sides bounds c P n ps s t → EndTogether bounds {A = A} R n ps (Stopped why s) (Stopped why t)
  stopped_here c n ps why s t may i = stopped why s t (record { outside = i.like.outside; turns = i.like.counts.turns; may = may })

module _ (c : Comparison) where
  module _ {bounds : Bounds} where
    pub sides_on : {P : List EntryPlace → Type 0} (n m : Names) (ps : List EntryPlace) (s t u v : State) → Sides bounds c P n ps s t → Goes s u → Goes t v → Like bounds m ps u v → Sides bounds c P m ps u v
    sides_on n m ps s t u v i h g l = record { like = l; places = i.places; ready = c.stay s t u v h g i.ready }

    -- ---- and then

    pub then_ends : {A B : Type 0} {R : Names → A → A → Type 0} {S : Names → B → B → Type 0} {P : List EntryPlace → Type 0} (n : Names) (ps : List EntryPlace) (s t : State) (o p : Outcome A) (f g : A → State → Outcome B)
        → Sides bounds c P n ps s t → GoesOn s o → GoesOn t p → ((a : A) (s : State) → GoesOn s (f a s)) → ((a : A) (s : State) → GoesOn s (g a s)) → EndTogether bounds R n ps o p
        → ((m : Names) (a b : A) (u v : State) → Grows n m → R m a b → Sides bounds c P m ps u v → EndTogether bounds S m ps (f a u) (g b v)) → EndTogether bounds S n ps (then_do o f) (then_do p g)
    then_ends n ps s t o p f g i d w x y (done m a b u v k r l) h = further_ends n m ps _ _ k (h m a b u v k r (sides_on n m ps s t u v i d.goes w.goes l))
    then_ends n ps s t o p f g i d w x y (failed m z a b u v k r l) h = failed m z a b u v k r l
    then_ends n ps s t o p f g i d w x y (went m z u v k l) h = went m z u v k l
    then_ends n ps s t o p f g i d w x y (returned m a b u v k r l) h = returned m a b u v k r l
    then_ends n ps s t o p f g i d w x y (stopped why u v e) h = stopped why u v e
    then_ends n ps s t o p f g i d w x y (parted _ _ a) h = parted _ _ (parted_in (λ o. then_do o f) (λ o. then_do o g) o p (then_context f x) (then_context g y) (w.goes.within (c.event s t i.ready)) a)

    pub closed_ends : {A : Type 0} {R : Names → A → A → Type 0} (n : Names) (ps : List EntryPlace) (o p : Outcome A) → ((m : Names) (u v : State) → Like bounds m ps u v → Like bounds m ps (without_expansion u) (without_expansion v)) → EventWithin (state_of p) → EndTogether bounds R n ps o p → EndTogether bounds R n ps (closed o) (closed p)
    closed_ends n ps o p h w (done m a b u v k r l) = done m a b _ _ k r (h m u v l)
    closed_ends n ps o p h w (failed m z a b u v k r l) = failed m z a b _ _ k r (h m u v l)
    closed_ends n ps o p h w (went m z u v k l) = went m z _ _ k (h m u v l)
    closed_ends n ps o p h w (returned m a b u v k r l) = returned m a b _ _ k r (h m u v l)
    closed_ends n ps o p h w (stopped why u v e) = stopped why u v e
    closed_ends n ps o p h w (parted _ _ a) = parted _ _ (parted_in (λ o. closed o) (λ o. closed o) o p closed_context closed_context w a)

    pub choose_ends : {A : Type 0} {R : Names → A → A → Type 0} (n : Names) (ps : List EntryPlace) (b d : Bool) (s t : State) (f g f' g' : State → Outcome A) → b ≡ d → EndTogether bounds R n ps (f s) (f' t) → EndTogether bounds R n ps (g s) (g' t) → EndTogether bounds R n ps (choose b s f g) (choose d t f' g')
    choose_ends {R = R} n ps b d s t f g f' g' e h k = subst (λ x. EndTogether bounds R n ps (choose b s f g) (choose x t f' g')) e (at b)
      where
        at : (b : Bool) → EndTogether bounds R n ps (choose b s f g) (choose b t f' g')
        at true = h
        at false = k

    -- ---- turns and levels

    pub counts_sides : {P : List EntryPlace → Type 0} (n : Names) (ps : List EntryPlace) (s t : State) (a b : Counts) → is_some s.counts.cells ≡ is_some a.cells → is_some t.counts.cells ≡ is_some b.cells → SameCounts bounds a b → Sides bounds c P n ps s t → Sides bounds c P n ps (record s { counts = a }) (record t { counts = b })
    counts_sides n ps s t a b d e h i = record { like = with_counts_like n ps s t a b h i.like; places = i.places; ready = c.stay s t _ _ (goes_with s a s.bindings d) (goes_with t b t.bindings e) i.ready }

  -- E: how outcomes end, where a stop of both, and what is apart, is an end
  module _ {bounds : Bounds} {A : Type 0} {P : List EntryPlace → Type 0} (E : Outcome A → Outcome A → Type 0) (n : Names) (ps : List EntryPlace) (s t : State) (i : Sides bounds c P n ps s t) (stops : (why : Stop) → MayStop bounds why → E (Stopped why s) (Stopped why t)) where
    pub turn_by : (f g : State → Outcome A) → ((u v : State) → Goes s u → Goes t v → Sides bounds c P n ps u v → E (f u) (g v)) → E (turn s f) (turn t g)
    turn_by f g h = at s.counts.expansion t.counts.expansion i.like.counts.expansion
      where
        on : (a b : Counts) → is_some s.counts.cells ≡ is_some a.cells → is_some t.counts.cells ≡ is_some b.cells → SameCounts bounds a b → E (f (record s { counts = a })) (g (record t { counts = b }))
        on a b x y z = h _ _ (goes_with s a s.bindings x) (goes_with t b t.bindings y) (counts_sides n ps s t a b x y z i)

        run_at : (j k : ℕ) → j ≡ k → E (run_turn j s f) (run_turn k t g)
        run_at zero zero e = stops Turns tt
        run_at (suc j) (suc k) e = on _ _ refl refl (record { given = i.like.counts.given; turns = omega (arith, e); cells = i.like.counts.cells; expansion = i.like.counts.expansion })
        run_at zero (suc k) e = absurd (omega (arith, e))
        run_at (suc j) zero e = absurd (omega (arith, e))

        expansion_at : (j : ℕ) (e : Expansion) → E (expansion_turn j e s f) (expansion_turn j e t g)
        expansion_at zero e = stops (Expands e.macro) tt
        expansion_at (suc j) e = on _ _ refl refl (record { given = i.like.counts.given; turns = i.like.counts.turns; cells = i.like.counts.cells; expansion = same_open _ })

        at : (e x : Option Expansion) → SameExpansion e x → E (turn_of e s f) (turn_of x t g)
        at _ _ same_none = run_at s.counts.turns t.counts.turns i.like.counts.turns
        at _ _ (same_open e) = expansion_at e.turns e

    shown_on : (s t : State) → s.outside ≡ t.outside → (u : State) → Goes s u → HasShown t.outside.output t.outside.notes u.outside
    shown_on s t e u g = subst (λ (x : Outside). HasShown x.output x.notes u.outside) e (record { output = record { rest = g.later.output.rest; is = g.later.output.is }; notes = record { rest = g.later.notes.rest; is = g.later.notes.is } })

    test_wider : (n l m : ℕ) → m ≤ l → nat_le n m ≡ true → nat_le n l ≡ true
    test_wider n l m le e = grind (arith, nat_tests)

    module _ (parts : (o p : Outcome A) → Parted bounds o p → E o p) (f g : Levels → Outcome A) (x : (l : Levels) → GoesOn s (f l)) (y : (l : Levels) → GoesOn t (g l)) (h : (l m : Levels) → Roomier bounds l m → E (f l) (g m)) where
      right_stops : (l : Levels) → true ≡ bounds.levels → E (f l) (Stopped Depth t)
      right_stops l w = parts _ _ (ends.right_short (f l) Depth t (meets_levels (sym w)) (shown_on s t i.like.outside _ (x l).goes))

      left_stops : (m : Levels) → bounds.levels ≡ false → E (Stopped Depth s) (g m)
      left_stops m b = parts _ _ (ends.left_short Depth s (g m) (lacks_levels b) (shown_on t s (sym i.like.outside) _ (y m).goes))

      entered_by : (b d : Bool) (l m : ℕ) → (d ≡ true → b ≡ true) → m ≤ l → true ≡ bounds.levels → E (in_levels b l s f) (in_levels d m t g)
      entered_by true true l m e le w = h (Some l) (Some m) (record { is = le; bound = w })
      entered_by false true l m e le w = absurd (let z : false ≡ true = e refl in cc)
      entered_by true false l m e le w = right_stops (Some l) w
      entered_by false false l m e le w = stops Depth (sym w)

      left_entered : (b : Bool) (l : ℕ) → false ≡ bounds.levels → E (in_levels b l s f) (g None)
      left_entered true l w = h (Some l) None (record { is = tt; bound = w })
      left_entered false l w = left_stops None (sym w)

      right_entered : (d : Bool) (m : ℕ) → true ≡ bounds.levels → E (f None) (in_levels d m t g)
      right_entered true m w = h None (Some m) (record { is = tt; bound = w })
      right_entered false m w = right_stops None w

      pub deeper_by : (k : ℕ) (l m : Levels) → Roomier bounds l m → E (deeper k l s f) (deeper k m t g)
      deeper_by k None None r = h None None r
      deeper_by k (Some l) None r = left_entered (nat_le k l) (l - k) r.bound
      deeper_by k None (Some m) r = right_entered (nat_le k m) (m - k) r.bound
      deeper_by k (Some l) (Some m) r = let le : m ≤ l = r.is in entered_by (nat_le k l) (nat_le k m) (l - k) (m - k) (test_wider k l m le) (omega (arith, le)) r.bound

  module _ {bounds : Bounds} where
    pub turn_ends : {A : Type 0} {R : Names → A → A → Type 0} {P : List EntryPlace → Type 0} (n : Names) (ps : List EntryPlace) (s t : State) (f g : State → Outcome A) → Sides bounds c P n ps s t
        → ((u v : State) → Goes s u → Goes t v → Sides bounds c P n ps u v → EndTogether bounds R n ps (f u) (g v)) → EndTogether bounds R n ps (turn s f) (turn t g)
    turn_ends {R = R} n ps s t f g i h = turn_by (EndTogether bounds R n ps) n ps s t i (λ why may. stopped_here c n ps why s t may i) f g h

    pub deeper_ends : {A : Type 0} {R : Names → A → A → Type 0} {P : List EntryPlace → Type 0} (n : Names) (ps : List EntryPlace) (s t : State) (f g : Levels → Outcome A) → Sides bounds c P n ps s t → ((l : Levels) → GoesOn s (f l)) → ((l : Levels) → GoesOn t (g l)) → ((l m : Levels) → Roomier bounds l m → EndTogether bounds R n ps (f l) (g m))
        → (k : ℕ) (l m : Levels) → Roomier bounds l m → EndTogether bounds R n ps (deeper k l s f) (deeper k m t g)
    deeper_ends {R = R} n ps s t f g i x y h = deeper_by (EndTogether bounds R n ps) n ps s t i (λ why may. stopped_here c n ps why s t may i) (λ o p a. parted o p a) f g x y h

-- ---- what prints nothing

quiet_shown : {A B : Type 0} (s t : State) (o : Outcome A) (p : Outcome B) → s.outside ≡ t.outside → Quiet s o → Quiet t p → HasShown (state_of p).outside.output (state_of p).outside.notes (state_of o).outside
quiet_shown s t o p e h k =
    let x : (state_of o).outside.output ≡ (state_of p).outside.output = h.output ∙ (ap (λ (w : Outside). w.output) e ∙ sym k.output) in
    let y : (state_of o).outside.notes ≡ (state_of p).outside.notes = h.notes ∙ (ap (λ (w : Outside). w.notes) e ∙ sym k.notes) in
    subst (λ z. HasShown z (state_of p).outside.notes (state_of o).outside) x (subst (λ z. HasShown (state_of o).outside.output z (state_of o).outside) y (shown_refl (state_of o).outside))

module _ {bounds : Bounds} where
  quiet_short : {A : Type 0} (s t : State) (o p : Outcome A) → s.outside ≡ t.outside → Quiet s o → Quiet t p → Short bounds o p → Parted bounds o p
  quiet_short s t o p e h k (right_short _ why v x) = ends.right_short o why v x (quiet_shown s t o p e h k)
  quiet_short s t o p e h k (left_short why u _ x) = ends.left_short why u p x (quiet_shown t s p o (sym e) k h)

  -- outcomes that are alike, or of which one stops short, where neither prints
  pub quiet_ends : {A : Type 0} {R : Names → A → A → Type 0} (n : Names) (ps : List EntryPlace) (s t : State) (o p : Outcome A) → Like bounds n ps s t → Quiet s o → Quiet t p → Beside bounds R n ps o p → EndTogether bounds R n ps o p
  quiet_ends n ps s t o p i h k (done m a b u v g r l) = done m a b u v g r l
  quiet_ends n ps s t o p i h k (failed m z a b u v g r l) = failed m z a b u v g r l
  quiet_ends n ps s t o p i h k (went m z u v g l) = went m z u v g l
  quiet_ends n ps s t o p i h k (returned m a b u v g r l) = returned m a b u v g r l
  quiet_ends n ps s t o p i h k (stopped why u v e) = stopped why u v e
  quiet_ends n ps s t o p i h k (parted _ _ a) = parted _ _ (quiet_short s t o p i.outside h k a)

pub quiet_then : {A B : Type 0} (s : State) (o : Outcome A) (f : A → State → Outcome B) → Quiet s o → ((a : A) (t : State) → t.outside.output ≡ s.outside.output → t.outside.notes ≡ s.outside.notes → Quiet s (f a t)) → Quiet s (then_do o f)
quiet_then s (Done a t) f h k = k a t h.output h.notes
quiet_then s (Failed n m t) f h k = record { output = h.output; notes = h.notes }
quiet_then s (Went l t) f h k = record { output = h.output; notes = h.notes }
quiet_then s (Returned v t) f h k = record { output = h.output; notes = h.notes }
quiet_then s (Stopped why t) f h k = record { output = h.output; notes = h.notes }

module _ {A : Type 0} (r : State) (f : State → Outcome A) (h : (t : State) → t.outside.output ≡ r.outside.output → t.outside.notes ≡ r.outside.notes → Quiet r (f t)) where
  cells_quiet : (b : Bool) (k : ℕ) (s : State) → s.outside.output ≡ r.outside.output → s.outside.notes ≡ r.outside.notes → Quiet r (cells_within b k s f)
  cells_quiet true k s x y = h _ x y
  cells_quiet false k s x y = record { output = x; notes = y }

  run_room_quiet : (o : Option ℕ) (cost : ℕ) (s : State) → s.outside.output ≡ r.outside.output → s.outside.notes ≡ r.outside.notes → Quiet r (run_room o cost s f)
  run_room_quiet None cost s x y = h s x y
  run_room_quiet (Some k) cost s x y = cells_quiet _ _ s x y

  expansion_quiet : (b : Bool) (e : Expansion) (cost : ℕ) (s : State) → s.outside.output ≡ r.outside.output → s.outside.notes ≡ r.outside.notes → Quiet r (expansion_within b e cost s (λ s. run_room s.counts.cells cost s f))
  expansion_quiet true e cost s x y = run_room_quiet s.counts.cells cost _ x y
  expansion_quiet false e cost s x y = record { output = x; notes = y }

  pub room_quiet : (o : Option Expansion) (cost : ℕ) (s : State) → s.outside.output ≡ r.outside.output → s.outside.notes ≡ r.outside.notes → Quiet r (expansion_room o cost s (λ s. run_room s.counts.cells cost s f))
  room_quiet None cost s x y = run_room_quiet s.counts.cells cost s x y
  room_quiet (Some e) cost s x y = expansion_quiet (nat_le cost e.cells) e cost s x y

pair_quiet_from : (r : State) (a d : Value) (s : State) → s.outside.output ≡ r.outside.output → s.outside.notes ≡ r.outside.notes → Quiet r (made_pair a d s)
pair_quiet_from r a d s x y = room_quiet r _ (λ t x y. record { output = x; notes = y }) s.counts.expansion 1 s x y

pub pair_quiet : (a d : Value) (s : State) → Quiet s (made_pair a d s)
pair_quiet a d s = pair_quiet_from s a d s refl refl

pub fail_quiet : {A : Type 0} (n : ℕ) (v : Value) (s : State) → Quiet {A = A} s (fail n v s)
fail_quiet n v s = quiet_then s _ _ (pair_quiet (Str (error_text n)) nil_value_of_state s) (λ a t x y. quiet_then s _ _ (pair_quiet_from s v a t x y) (λ b u x y. record { output = x; notes = y }))

module _ {bounds : Bounds} where
  pub fail_ends : {A : Type 0} {R : Names → A → A → Type 0} {P : List EntryPlace → Type 0} (c : Comparison) (n : Names) (ps : List EntryPlace) (k : ℕ) (v w : Value) (s t : State) → Sides bounds c P n ps s t → SameValue n v w → EndTogether bounds {A = A} R n ps (fail k v s) (fail k w t)
  fail_ends {A} c n ps k v w s t i r = quiet_ends n ps s t _ _ i.like (fail_quiet {A = A} k v s) (fail_quiet {A = A} k w t) (fail_related n ps k v w s t i.like r)

module _ (facts : OneRunFacts) where
  pub fail_goes : (A : Type 0) (n : ℕ) (v : Value) (s : State) → GoesOn {A = A} s (fail n v s)
  fail_goes A n v s = then_goes s _ _ (facts.pair_goes (Str (error_text n)) nil_value_of_state s) (λ a t. then_goes t _ _ (facts.pair_goes v a t) (λ b u. record { goes = facts.top_goes _ b u }))

-- ---- bindings

-- outcomes behind more entries than those of these places
pub record EndsIn (bounds : Bounds) {A : Type 0} (base : List EntryPlace) (R : Names → A → A → Type 0) (n : Names) (o p : Outcome A) : Type 0 where
  pub places : List EntryPlace
  pub above : Above base places
  pub ends : EndTogether bounds R n places o p

module _ {bounds : Bounds} where
  pub further_in : {A : Type 0} {R : Names → A → A → Type 0} (base : List EntryPlace) (n m : Names) (o p : Outcome A) → Grows n m → EndsIn bounds base R m o p → EndsIn bounds base R n o p
  further_in base n m o p g e = record { places = e.places; above = e.above; ends = further_ends n m e.places o p g e.ends }

  -- former bindings are back
  pub restored_ends : {A : Type 0} {R : Names → A → A → Type 0} (n : Names) (ps : List EntryPlace) (s t : State) (o p : Outcome A) → Like bounds n ps s t → EndsIn bounds ps R n o p → EndTogether bounds R n ps (restored (length s.bindings) o) (restored (length t.bindings) p)
  restored_ends n ps s t o p l e = restored_related n ps s t l n e.places o p e.above e.ends

module _ (c : Comparison) where
  module _ {bounds : Bounds} where
    bound_sides : (n : Names) (ps : List EntryPlace) (x : ℕ) (scope : Scope) (v w : Value) (s t : State) → SameValue n v w → CleanSides bounds c n ps s t → CleanSides bounds c n (Both ∷ ps) (with_binding x scope v s) (with_binding x scope w t)
    bound_sides n ps x scope v w s t r i = record {
      like = bound_like n ps x scope v w s t r i.like;
      places = c.bound ps i.places;
      ready = c.stay s t _ _ (goes_with s s.counts (Binding x scope v ∷ s.bindings) refl) (goes_with t t.counts (Binding x scope w ∷ t.bindings) refl) i.ready;
    }

    pub mark_sides : (n : Names) (ps : List EntryPlace) (f g : Option Pointer) (s t : State) → Maybe (SamePointer n) f g → BelowSides bounds c n ps s t → CleanSides bounds c n (BothMark ∷ ps) (with_mark f s) (with_mark g t)
    mark_sides n ps f g s t r i = record {
      like = mark_like n ps f g s t r i.like;
      places = c.marked ps i.places;
      ready = c.stay s t _ _ (goes_with s s.counts (Mark f ∷ s.bindings) refl) (goes_with t t.counts (Mark g ∷ t.bindings) refl) i.ready;
    }

    pub then_in : {A B : Type 0} {R : Names → A → A → Type 0} {S : Names → B → B → Type 0} (base : List EntryPlace) (n : Names) (ps : List EntryPlace) (s t : State) (o p : Outcome A) (f g : A → State → Outcome B)
        → CleanSides bounds c n ps s t → Above base ps → GoesOn s o → GoesOn t p → ((a : A) (s : State) → GoesOn s (f a s)) → ((a : A) (s : State) → GoesOn s (g a s)) → EndTogether bounds R n ps o p
        → ((m : Names) (a b : A) (u v : State) → Grows n m → R m a b → CleanSides bounds c m ps u v → EndsIn bounds base S m (f a u) (g b v)) → EndsIn bounds base S n (then_do o f) (then_do p g)
    then_in base n ps s t o p f g i le d w x y (done m a b u v j r l) h = further_in base n m _ _ j (h m a b u v j r (sides_on c n m ps s t u v i d.goes w.goes l))
    then_in base n ps s t o p f g i le d w x y (failed m z a b u v j r l) h = record { places = ps; above = le; ends = failed m z a b u v j r l }
    then_in base n ps s t o p f g i le d w x y (went m z u v j l) h = record { places = ps; above = le; ends = went m z u v j l }
    then_in base n ps s t o p f g i le d w x y (returned m a b u v j r l) h = record { places = ps; above = le; ends = returned m a b u v j r l }
    then_in base n ps s t o p f g i le d w x y (stopped why u v e) h = record { places = ps; above = le; ends = stopped why u v e }
    then_in base n ps s t o p f g i le d w x y (parted _ _ a) h = record { places = ps; above = le; ends = parted _ _ (parted_in (λ o. then_do o f) (λ o. then_do o g) o p (then_context f x) (then_context g y) (w.goes.within (c.event s t i.ready)) a) }

  module _ (facts : OneRunFacts) where
    then_assoc : {A B D : Type 0} (o : Outcome A) (f : A → State → Outcome B) (g : B → State → Outcome D) → then_do o (λ a s. then_do (f a s) g) ≡ then_do (then_do o f) g
    then_assoc (Done a s) f g = refl
    then_assoc (Failed n m s) f g = refl
    then_assoc (Went l s) f g = refl
    then_assoc (Returned v s) f g = refl
    then_assoc (Stopped why s) f g = refl

    data Never {A : Type 0} (n : Names) (a b : A) : Type 0 where

    module _ {bounds : Bounds} where
      fail_then : {A B : Type 0} {S : Names → B → B → Type 0} (base : List EntryPlace) (n : Names) (ps : List EntryPlace) (e : ℕ) (v w : Value) (s t : State) (f g : A → State → Outcome B) → CleanSides bounds c n ps s t → Above base ps → SameValue n v w
          → ((a : A) (s : State) → GoesOn s (f a s)) → ((a : A) (s : State) → GoesOn s (g a s)) → EndsIn bounds base S n (then_do (fail e v s) f) (then_do (fail e w t) g)
      fail_then {A} base n ps e v w s t f g i le r x y = then_in base n ps s t (fail e v s) (fail e w t) f g i le (fail_goes facts A e v s) (fail_goes facts A e w t) x y (fail_ends {A = A} {R = Never} c n ps e v w s t i r) (λ m a b u v j r h. elim r [ ])

    module _ {bounds : Bounds} {A : Type 0} {R : Names → A → A → Type 0} (base : List EntryPlace) (kept : List Kept) (f g : State → Outcome A) (x : (s : State) → GoesOn s (f s)) (y : (s : State) → GoesOn s (g s)) where
      fail_twice : (n : Names) (ps : List EntryPlace) (i : ℕ) (xs : List ℕ) (vs ws : List Value) (s t : State) → Above base ps → CleanSides bounds c n ps s t
          → EndsIn bounds base R n (then_do (then_do (fail not_bindable (Id i) s) (λ (done : Unit {0}) s. bind_all kept xs vs s)) (λ done s. f s)) (then_do (then_do (fail not_bindable (Id i) t) (λ (done : Unit {0}) t. bind_all kept xs ws t)) (λ done t. g t))
      fail_twice n ps i xs vs ws s t le side =
          let o : Outcome (Unit {0}) = fail not_bindable (Id i) s in
          let p : Outcome (Unit {0}) = fail not_bindable (Id i) t in
          subst (λ z. EndsIn bounds base R n z (then_do (then_do p (λ done t. bind_all kept xs ws t)) (λ done t. g t))) (then_assoc o (λ done s. bind_all kept xs vs s) (λ done s. f s))
          (subst (λ z. EndsIn bounds base R n (then_do o (λ done s. then_do (bind_all kept xs vs s) (λ done s. f s))) z) (then_assoc p (λ done s. bind_all kept xs ws s) (λ done s. g s))
          (fail_then base n ps not_bindable (Id i) (Id i) s t (λ done s. then_do (bind_all kept xs vs s) (λ done s. f s)) (λ done t. then_do (bind_all kept xs ws t) (λ done t. g t)) side le (same_id i)
          (λ done s. then_goes s _ _ (facts.bind_all_goes kept xs vs s) (λ done s. x s)) (λ done s. then_goes s _ _ (facts.bind_all_goes kept xs ws s) (λ done s. y s))))

      bound_ends : (n : Names) (ps : List EntryPlace) (kind' : VarKind) (i : ℕ) (xs : List ℕ) (v w : Value) (vs ws : List Value) (s t : State) → SameValue n v w → Above base ps → CleanSides bounds c n ps s t
          → ((ps : List EntryPlace) (s t : State) → Above base ps → CleanSides bounds c n ps s t → EndsIn bounds base R n (then_do (bind_all kept xs vs s) (λ done s. f s)) (then_do (bind_all kept xs ws t) (λ done t. g t)))
          → EndsIn bounds base R n (then_do (then_do (bound_as kind' i v s) (λ done s. bind_all kept xs vs s)) (λ done s. f s)) (then_do (then_do (bound_as kind' i w t) (λ done t. bind_all kept xs ws t)) (λ done t. g t))
      bound_ends n ps kind.Plain i xs v w vs ws s t r le side next = next (Both ∷ ps) _ _ (over Both ps le) (bound_sides n ps i Local v w s t r side)
      bound_ends n ps kind.Fluid i xs v w vs ws s t r le side next = next (Both ∷ ps) _ _ (over Both ps le) (bound_sides n ps i Fluid v w s t r side)
      bound_ends n ps kind.Global i xs v w vs ws s t r le side next = fail_twice n ps i xs vs ws s t le side

      one_bound : (n : Names) (ps : List EntryPlace) (b : Bool) (i : ℕ) (xs : List ℕ) (v w : Value) (vs ws : List Value) (s t : State) → SameValue n v w → Above base ps → CleanSides bounds c n ps s t
          → ((ps : List EntryPlace) (s t : State) → Above base ps → CleanSides bounds c n ps s t → EndsIn bounds base R n (then_do (bind_all kept xs vs s) (λ done s. f s)) (then_do (bind_all kept xs ws t) (λ done t. g t)))
          → EndsIn bounds base R n (then_do (then_do (choose b s (λ s. fail not_bindable (Id i) s) (λ s. bound_as (kept_kind kept i) i v s)) (λ done s. bind_all kept xs vs s)) (λ done s. f s))
          (then_do (then_do (choose b t (λ t. fail not_bindable (Id i) t) (λ t. bound_as (kept_kind kept i) i w t)) (λ done t. bind_all kept xs ws t)) (λ done t. g t))
      one_bound n ps true i xs v w vs ws s t r le side next = fail_twice n ps i xs vs ws s t le side
      one_bound n ps false i xs v w vs ws s t r le side next = bound_ends n ps (kept_kind kept i) i xs v w vs ws s t r le side next

      pub bind_ends : (xs : List ℕ) (n : Names) (ps : List EntryPlace) (vs ws : List Value) (s t : State) → Each (SameValue n) vs ws → ((m : Names) (ps : List EntryPlace) (s t : State) → Grows n m → Above base ps → CleanSides bounds c m ps s t → EndsIn bounds base R m (f s) (g t)) → Above base ps → CleanSides bounds c n ps s t → EndsIn bounds base R n (then_do (bind_all kept xs vs s) (λ done s. f s)) (then_do (bind_all kept xs ws t) (λ done t. g t))
      bind_ends [] n ps vs ws s t r next le side = next n ps s t (grows_refl n) le side
      bind_ends (i ∷ xs) n ps vs ws s t (more v w as' bs h r) next le side = one_bound n ps (is_constant i) i xs v w as' bs s t h le side (λ ps s t le side. bind_ends xs n ps as' bs s t r next le side)
      bind_ends (i ∷ xs) n ps vs ws s t end next le side = one_bound n ps (is_constant i) i xs nil_value_of_state nil_value_of_state [] [] s t (same_id 0) le side (λ ps s t le side. bind_ends xs n ps [] [] s t end next le side)

    module _ {bounds : Bounds} where
      -- variables are bound on both sides, and former bindings come back
      pub binding_ends : {A : Type 0} {R : Names → A → A → Type 0} (n : Names) (ps : List EntryPlace) (l m : Levels) (kept : List Kept) (xs : List ℕ) (vs ws : List Value) (s t : State) (f g : Levels → State → Outcome A) → Roomier bounds l m → Each (SameValue n) vs ws → CleanSides bounds c n ps s t
          → ((l : Levels) (s : State) → GoesOn s (f l s)) → ((l : Levels) (s : State) → GoesOn s (g l s))
          → ((k : Names) (qs : List EntryPlace) (l m : Levels) (s t : State) → Grows n k → Roomier bounds l m → CleanSides bounds c k qs s t → EndTogether bounds R k qs (f l s) (g m t))
          → EndTogether bounds R n ps (binding l kept xs vs s f) (binding m kept xs ws t g)
      binding_ends {A} {R} n ps l m kept xs vs ws s t f g r h i x y next =
          deeper_ends c n ps s t _ _ i (λ l. left l) (λ l. right l) (λ l m r. restored_ends n ps s t _ _ i.like
          (bind_ends ps kept (f l) (g m) (λ s. x l s) (λ s. y m s) xs n ps vs ws s t h
          (λ k qs s t w le j. record { places = qs; above = le; ends = next k qs l m s t w r j }) level i)) (binding_levels (length xs)) l m r
        where
          inside : (m : Levels) → GoesOn t (then_do (bind_all kept xs ws t) (λ done t. g m t))
          inside m = then_goes t _ _ (facts.bind_all_goes kept xs ws t) (λ done t. y m t)

          left : (l : Levels) → GoesOn s (restored (length s.bindings) (then_do (bind_all kept xs vs s) (λ done s. f l s)))
          left l = let o : Outcome A = then_do (bind_all kept xs vs s) (λ done s. f l s) in goes_to s o _ (then_goes s _ _ (facts.bind_all_goes kept xs vs s) (λ done s. x l s)) ((restored_context (length s.bindings)).goes o)

          right : (m : Levels) → GoesOn t (restored (length t.bindings) (then_do (bind_all kept xs ws t) (λ done t. g m t)))
          right m = let o : Outcome A = then_do (bind_all kept xs ws t) (λ done t. g m t) in goes_to t o _ (inside m) ((restored_context (length t.bindings)).goes o)
