-- A run in which code runs agrees with the walk of the same program, statement by statement, as evaluation does.
use Rattle.std.proofs.Common.{◌≡◌, ◌∙◌, ◌⊎◌, inl, inr, ◌<◌, ◌-◌, ◌&&◌, ◌^◌, ℕ, zero, suc, false, is_some, List, [], ◌∷◌, length, take, slice_get, Option, Some, None, refl, sym, ap, subst, arith}
use Rattle.std.specs.Prelude.{codes, decimal, min}
use Rattle.rl_tree.specs.Value.{Value}
use Rattle.rl_tree.specs.Name.{Name}
use Rattle.rl_tree.specs.Printing.{Page, with_atom}
use Rattle.rl_meaning.specs.State.{State, Tree, Function, SpecialForm, NativeFunction, HeldFunction, Definition, Dependency, Called, Fexpr, Whole, Coded, Expansion, Recorded}
use Rattle.rl_meaning.specs.Outcome.{Outcome, Done, Failed, Went, Returned, Stopped, Stop, Levels}
use Rattle.rl_meaning.specs.Opening.{state_of}
use Rattle.rl_tree.specs.ErrorTexts.{error_text}
use Rattle.rl_meaning.specs.Errors.{unreadable}
use Rattle.rl_meaning.specs.Symbols.{symbol_at}
use Rattle.rl_meaning.specs.Reach.{same_definition}
use Rattle.rl_meaning.specs.CodeInForce.{stands, all_stand}
use Rattle.rl_meaning.specs.Holding.{pointer_to, function_at}
use Rattle.rl_meaning.specs.Printing.{print_error}
use Rattle.rl_meaning.specs.Input.{FormReading, Form, End, Unreadable, read_bytes}
use Rattle.rl_meaning.specs.Evaluation.{In, Inside, Here, longest_chain}
use Rattle.rl_meaning.specs.Jobs.{job, the_compiler, evaluate}
use Rattle.rl_meaning.specs.Laws.{IsFuelEnough}
use Rattle.rl_meaning.specs.Run.{RunEnding, Finished, Stops, Ran, held_evaluated, statement, after_statement, print_atom, print_unreadable, behind_line, run_goes_on, read_and_run, run_within, run_bytes, source_of, run_file}
use Rattle.rl_meaning.specs.TwoRunsLinks.{Linked, OneToOne, Within}
use Rattle.rl_meaning.specs.TwoRunsValues.{Names, Maybe, Each, SameValue, same_id, SameTree, SameFunction, same_special, same_native, same_held_function, same_held, same_pointer, SameNumber}
use Rattle.rl_meaning.specs.TwoRunsStates.{Bounds, bounds_of, EntryPlace, all_both, SameExpansion, same_none, same_open, IsRoomier, Roomier, Like}
use Rattle.rl_meaning.specs.TwoRunsEnds.{IsBegunBy, HasShown, IsShort, short_of_cells, short_of_levels, IsLackingBound, lacks_cells, lacks_levels, IsMeeting, meets_cells, meets_levels, OneBegins, Parted, by_event, right_short, left_short, short_by_event, both_short, Related, done, failed, went, returned, stopped, parted, EndsAgree}
use Rattle.rl_meaning.specs.Right.{Stood, AllAsTheyStood}
use Rattle.rl_agrees.specs.TwoRunsJobs.{SameHere, same_here, same_in, ReadyCode, Ready}
use Rattle.rl_agrees.proofs.TwoRunsKept.{Goes}
use Rattle.rl_agrees.specs.TwoRunsRuns.{StopsLacking, StopsMeeting, MayEnd, RunsAgree, alike, until_event, until_right_stop, until_left_stop, until_either, until_both_stop, HasRoom, HasNoEvent, SameRun, printed_at_event, noted_by, printed_first, noted_first, each_itself, names_of, IsSoundState, with_running_code, walking}
use Rattle.rl_agrees.specs.Laws.{CodeAgrees}
use Rattle.rl_agrees.proofs.TwoRunsLinked.{linked_cases}
use Rattle.rl_agrees.proofs.TwoRunsGrowth.{grows_refl}
use Rattle.rl_agrees.proofs.TwoRunsWays.{Is, is}
use Rattle.rl_agrees.proofs.TwoRunsObjects.{each_get}
use Rattle.rl_agrees.proofs.TwoRunsForms.{function_same}
use Rattle.rl_agrees.proofs.TwoRunsPrinting.{mark_like, fresh_like}
use Rattle.rl_agrees.proofs.TwoRunsKnown.{all_both_whole}
use Rattle.rl_agrees.proofs.TwoRunsJoined.{begins_refl, begins_trans, take_begins, both_begin, shown_refl, meeting}
use Rattle.rl_agrees.proofs.TwoRunsFacts.{AskGoes, GoesOn, OneRunFacts, TwoRunsFacts}
use Rattle.rl_agrees.proofs.TwoRunsReading.{SameReading, same_form, same_end, same_unreadable}
use Rattle.rl_agrees.proofs.TwoRunsAsked.{Respects}
use Rattle.rl_agrees.proofs.TwoRunsGoes.{goes_refl, goes_trans, then_goes, Context, parted_in}
use Rattle.rl_agrees.proofs.TwoRunsEnding.{further_ends, sides_on, then_ends, quiet_ends}
use Rattle.rl_agrees.proofs.TwoRunsCompared.{CleanSides, code_and_walk}

-- ---- an atom is printed, which may break a line

module _ {bounds : Bounds} where
  atom_like : (n : Names) (ps : List EntryPlace) (bytes : List ℕ) (s t : State) → Like bounds n ps s t → Like bounds n ps (print_atom bytes s) (print_atom bytes t)
  atom_like n ps bytes s t l = record { store = l.store; functions = l.functions; symbols = l.symbols; bindings = l.bindings; counts = l.counts; outside = λ k. let page : Page = with_atom (l.outside k).line_length (record { text = (l.outside k).output; column = (l.outside k).column }) bytes in record (l.outside k) { output = page.text; column = page.column }; gensyms = l.gensyms; compilation = l.compilation }

-- ---- runs that are apart

outcome_of : RunEnding → State → Outcome (Unit {0})
outcome_of Finished s = Done tt s
outcome_of (Stops why) s = Stopped why s

abbrev as_outcome : Ran → Outcome (Unit {0})
as_outcome x = outcome_of x.ending x.state

state_is : (e : RunEnding) (s : State) → state_of (outcome_of e s) ≡ s
unfolding outcome_of
state_is Finished s = refl
state_is (Stops why) s = refl

stops_as : (e : RunEnding) (s : State) (why : Stop) (t : State) → Stopped why t ≡ outcome_of e s → (e ≡ Stops why) × (t ≡ s)
unfolding outcome_of
stops_as Finished s why t h = absurd (cc)
stops_as (Stops other) s why t h = (let x : other ≡ why = cc in ap (λ w. Stops w) x, cc)

module _ {bounds : Bounds} where
  ran_agrees : (x y : Ran) (o p : Outcome (Unit {0})) → o ≡ as_outcome x → p ≡ as_outcome y → Parted bounds o p → RunsAgree bounds x y
  ran_agrees x y o p i j h = at o p i j (ap (λ q. state_of q) i ∙ state_is x.ending x.state) (ap (λ q. state_of q) j ∙ state_is y.ending y.state) h
    where
      at : (o p : Outcome (Unit {0})) → o ≡ as_outcome x → p ≡ as_outcome y → state_of o ≡ x.state → state_of p ≡ y.state → Parted bounds o p → RunsAgree bounds x y
      at o p i j a b (by_event _ _ r e h) =
          until_event x y r (subst (λ w. w.watched.event ≡ Some r) b e)
          (subst (λ w. HasShown (take r.printed w.outside.output) (take r.noted w.outside.notes) x.state.outside) b
          (subst (λ w. HasShown (take r.printed (state_of p).outside.output) (take r.noted (state_of p).outside.notes) w.outside) a h))
      at o p i j a b (right_short _ why t k h) =
          let e : (y.ending ≡ Stops why) × (t ≡ y.state) = stops_as y.ending y.state why t j in
          until_right_stop x y why e.0 k (subst (λ w. HasShown w.outside.output w.outside.notes x.state.outside) b (subst (λ w. HasShown t.outside.output t.outside.notes w.outside) a h))
      at o p i j a b (left_short why s _ k h) =
          let e : (x.ending ≡ Stops why) × (s ≡ x.state) = stops_as x.ending x.state why s i in
          until_left_stop x y why e.0 k (subst (λ w. HasShown w.outside.output w.outside.notes y.state.outside) a (subst (λ w. HasShown s.outside.output s.outside.notes w.outside) b h))
      at o p i j a b (short_by_event why s _ r k e h g) =
          let z : (x.ending ≡ Stops why) × (s ≡ x.state) = stops_as x.ending x.state why s i in
          until_either x y why r z.0 k (subst (λ w. w.watched.event ≡ Some r) b e)
          (subst (λ w. OneBegins (take r.printed w.outside.output) x.state.outside.output) b (subst (λ w. OneBegins (take r.printed (state_of p).outside.output) w.outside.output) a h))
          (subst (λ w. OneBegins (take r.noted w.outside.notes) x.state.outside.notes) b (subst (λ w. OneBegins (take r.noted (state_of p).outside.notes) w.outside.notes) a g))
      at o p i j a b (both_short why other s t k l h g) =
          let e : (x.ending ≡ Stops why) × (s ≡ x.state) = stops_as x.ending x.state why s i in
          let f : (y.ending ≡ Stops other) × (t ≡ y.state) = stops_as y.ending y.state other t j in
          until_both_stop x y why other e.0 f.0 k l
          (subst (λ w. OneBegins w.outside.output x.state.outside.output) b (subst (λ w. OneBegins t.outside.output w.outside.output) a h))
          (subst (λ w. OneBegins w.outside.notes x.state.outside.notes) b (subst (λ w. OneBegins t.outside.notes w.outside.notes) a g))

-- ---- and then, in a run

goes_on_goes : {A : Type 0} (s : State) (o : Outcome A) (f : A → State → Ran) → Goes s (state_of o) → ((a : A) (t : State) → Goes t (f a t).state) → Goes s (run_goes_on o f).state
goes_on_goes s (Done a t) f h k = goes_trans s t (f a t).state h (k a t)
goes_on_goes s (Failed n m t) f h k = h
goes_on_goes s (Went l t) f h k = h
goes_on_goes s (Returned v t) f h k = h
goes_on_goes s (Stopped why t) f h k = h

goes_on_context : {A : Type 0} (f : A → State → Ran) → ((a : A) (t : State) → Goes t (f a t).state) → Context (λ (o : Outcome A). as_outcome (run_goes_on o f))
unfolding outcome_of
goes_on_context {A} f h = record { stops = λ why s. refl; goes = λ o. subst (λ u. Goes (state_of o) u) (sym (state_is (run_goes_on o f).ending (run_goes_on o f).state)) (goes_on_goes (state_of o) o f (goes_refl (state_of o)) h) }

module _ {bounds : Bounds} where
  goes_on_agrees : {A : Type 0} {R : Names → A → A → Type 0} (n : Names) (ps : List EntryPlace) (s t : State) (o p : Outcome A) (f g : A → State → Ran)
      → CleanSides bounds code_and_walk n ps s t → Goes s (state_of o) → Goes t (state_of p) → ((a : A) (t : State) → Goes t (f a t).state) → ((a : A) (t : State) → Goes t (g a t).state) → Related bounds {A = A} (Parted bounds) R n ps o p
      → ((m : Names) (a b : A) (u v : State) → R m a b → CleanSides bounds code_and_walk m ps u v → RunsAgree bounds (f a u) (g b v)) → RunsAgree bounds (run_goes_on o f) (run_goes_on p g)
  goes_on_agrees n ps s t o p f g i d w x y (done m a b u v k r l) h = h m a b u v r (sides_on code_and_walk n m ps s t u v i d w l)
  goes_on_agrees n ps s t o p f g i d w x y (failed m z a b u v k r l) h = alike _ _ refl l.outside l.counts.turns tt
  goes_on_agrees n ps s t o p f g i d w x y (went m z u v k l) h = alike _ _ refl l.outside l.counts.turns tt
  goes_on_agrees n ps s t o p f g i d w x y (returned m a b u v k r l) h = alike _ _ refl l.outside l.counts.turns tt
  goes_on_agrees n ps s t o p f g i d w x y (stopped why u v e) h = alike _ _ refl e.outside e.turns e.may
  goes_on_agrees n ps s t o p f g i d w x y (parted _ _ a) h =
      ran_agrees (run_goes_on o f) (run_goes_on p g) _ _ refl refl (parted_in (λ o. as_outcome (run_goes_on o f)) (λ o. as_outcome (run_goes_on o g)) o p (goes_on_context f x) (goes_on_context g y) (w.within i.ready.event) a)

-- evaluation respects the relation; and what is taken of one run, and of two
pub record LoopFacts (bounds : Bounds) : Type 0 where
  pub fuel : IsFuelEnough
  pub composed : Respects bounds code_and_walk (job the_compiler) (job the_compiler)
  pub job_goes : AskGoes (job the_compiler)
  pub one : OneRunFacts
  pub two : TwoRunsFacts bounds

module _ {bounds : Bounds} (facts : LoopFacts bounds) where
  -- ---- a statement

  evaluate_is : (h : Here) (a : Tree) (s : State) → job the_compiler (In h Inside a) s ≡ evaluate h a s
  evaluate_is h a s = facts.fuel.done (In h Inside a) s

  evaluate_ends : (n : Names) (ps : List EntryPlace) (h g : Here) (a b : Tree) (s t : State) → SameHere bounds n h g → SameTree n a b → CleanSides bounds code_and_walk n ps s t → EndsAgree bounds n ps (evaluate h a s) (evaluate g b t)
  evaluate_ends n ps h g a b s t x y i =
      subst (λ o. EndsAgree bounds n ps o (evaluate g b t)) (evaluate_is h a s) (subst (λ o. EndsAgree bounds n ps (job the_compiler (In h Inside a) s) o) (evaluate_is g b t)
      (facts.composed n ps (In h Inside a) s (In g Inside b) t (record { same = same_in h g Inside a b x y; like = i.like; places = i.places; asked = tt; ready = i.ready })))

  held_goes : (l : Levels) (f : ℕ) (function : Function) (s : State) → GoesOn s (held_evaluated l f function s)
  held_goes l f (HeldFunction held) s = subst (λ o. GoesOn s o) (evaluate_is _ held.body s) (facts.job_goes.goes _ s)
  held_goes l f (SpecialForm form) s = record { goes = goes_refl s }
  held_goes l f (NativeFunction native) s = record { goes = goes_refl s }

  held_ends : (n : Names) (ps : List EntryPlace) (l m : Levels) (f g : ℕ) (a b : Function) (s t : State) → Roomier bounds l m → Linked n.functions f g → SameFunction n a b → CleanSides bounds code_and_walk n ps s t → EndsAgree bounds n ps (held_evaluated l f a s) (held_evaluated m g b t)
  held_ends n ps l m f g _ _ s t r h (same_special form) i = done n _ _ s t (grows_refl n) (same_id _) i.like
  held_ends n ps l m f g _ _ s t r h (same_native native) i = done n _ _ s t (grows_refl n) (same_id _) i.like
  held_ends n ps l m f g _ _ s t r h (same_held_function _ _ (same_held kind parameters kept a b k)) i = evaluate_ends n ps _ _ a b s t (same_here longest_chain kept l m f g r h) k i

  statement_goes : (l : Levels) (v : Value) (s : State) → GoesOn s (statement l v s)
  statement_goes l v s = then_goes s _ _ (facts.one.hold_form_goes l v s) (λ f t. held_goes l f (function_at t (pointer_to f)) t)

  pub statement_ends : (n : Names) (ps : List EntryPlace) (l m : Levels) (v w : Value) (s t : State) → Roomier bounds l m → SameValue n v w → CleanSides bounds code_and_walk n ps s t → EndsAgree bounds n ps (statement l v s) (statement m w t)
  statement_ends n ps l m v w s t r x i =
      then_ends code_and_walk {R = SameNumber} n ps s t _ _ _ _ i (facts.one.hold_form_goes l v s) (facts.one.hold_form_goes m w t) (λ f u. held_goes l f (function_at u (pointer_to f)) u) (λ f u. held_goes m f (function_at u (pointer_to f)) u)
      (quiet_ends n ps s t _ _ i.like (facts.two.hold_form_quiet l v s) (facts.two.hold_form_quiet m w t) (facts.two.hold_form_ n ps l m v w s t r x i.like))
      (λ k f g u y z h j. held_ends k ps l m f g _ _ u y r h.linked (function_same k ps u y (pointer_to f) (pointer_to g) j.like (same_pointer f g 0 h.linked)) j)

  statement_on : (l : Levels) (v : Value) (s : State) → Goes s (state_of (statement l v s))
  statement_on l v s = let g : GoesOn s (statement l v s) = statement_goes l v s in g.goes

  after_context : (l : Levels) → Context (λ (o : Outcome Value). after_statement l o)
  after_context l = record { stops = λ why s. refl; goes = goes }
    where
      goes : (o : Outcome Value) → Goes (state_of o) (state_of (after_statement l o))
      goes (Done v s) = goes_refl s
      goes (Failed n v s) = let g : GoesOn s (print_error l v s) = facts.one.print_error_goes l v s in g.goes
      goes (Went x s) = goes_refl s
      goes (Returned v s) = goes_refl s
      goes (Stopped why s) = goes_refl s

  pub after_ends : (n : Names) (ps : List EntryPlace) (l m : Levels) (s t : State) (o p : Outcome Value) → Roomier bounds l m → CleanSides bounds code_and_walk n ps s t → Goes t (state_of p) → EndsAgree bounds n ps o p → Related bounds {A = Unit {0}} (Parted bounds) Is n ps (after_statement l o) (after_statement m p)
  after_ends n ps l m s t o p q i w (done k a b u v g r x) = done k tt tt u v g (is tt) x
  after_ends n ps l m s t o p q i w (failed k z a b u v g r x) = further_ends n k ps _ _ g (facts.two.print_error_ k ps l m a b u v q r x)
  after_ends n ps l m s t o p q i w (went k z u v g x) = done k tt tt u v g (is tt) x
  after_ends n ps l m s t o p q i w (returned k a b u v g r x) = done k tt tt u v g (is tt) x
  after_ends n ps l m s t o p q i w (stopped why u v e) = stopped why u v e
  after_ends n ps l m s t o p q i w (parted _ _ a) = parted _ _ (parted_in (λ o. after_statement l o) (λ o. after_statement m o) o p (after_context l) (after_context m) (w.within i.ready.event) a)

  after_goes : (l : Levels) (v : Value) (s : State) → Goes s (state_of (after_statement l (statement l v s)))
  after_goes l v s = let c : Context (λ (o : Outcome Value). after_statement l o) = after_context l in goes_trans s _ _ (statement_on l v s) (c.goes (statement l v s))

  -- ---- all statements

  read_goes : (l : Levels) (bytes : List ℕ) (s : State) → Goes s (state_of (read_bytes false l bytes s))
  read_goes l bytes s = let g : GoesOn s (read_bytes false l bytes s) = facts.one.read_goes false l bytes s in g.goes

  reading_goes : (l : Levels) (size : ℕ) (f : List ℕ → State → Ran) → ((bytes : List ℕ) (s : State) → Goes s (f bytes s).state) → (reading : FormReading) (s : State) → Goes s (read_and_run l size f reading s).state
  reading_goes l size f h (Form v rest) s = goes_on_goes {A = Unit {0}} s (after_statement l (statement l v s)) (λ x t. f rest t) (after_goes l v s) (λ x t. h rest t)
  reading_goes l size f h End s = goes_refl s
  reading_goes l size f h (Unreadable k from) s = goes_trans s _ _ (facts.one.unreadable_goes (size - length from) s) (h (behind_line from) _)

  run_goes : (n : ℕ) (l : Levels) (size : ℕ) (bytes : List ℕ) (s : State) → Goes s (run_within n l size bytes s).state
  run_goes zero l size bytes s = goes_refl s
  run_goes (suc n) l size bytes s = goes_on_goes {A = FormReading} s (read_bytes false l bytes s) (λ reading t. read_and_run l size (λ rest s. run_within n l size rest s) reading t) (read_goes l bytes s) (λ reading t. reading_goes l size (λ rest s. run_within n l size rest s) (λ rest s. run_goes n l size rest s) reading t)

  unreadable_like : (n : Names) (ps : List EntryPlace) (k : ℕ) (s t : State) → Like bounds n ps s t → Like bounds n ps (print_unreadable k s) (print_unreadable k t)
  unreadable_like n ps k s t l =
      mark_like n ps (10 ∷ []) _ _ (atom_like n ps (error_text unreadable) _ _ (mark_like n ps (32 ∷ []) _ _ (atom_like n ps (decimal (min k (2 ^ 59 - 1))) _ _ (mark_like n ps (codes "***** ") _ _ (fresh_like n ps s t l)))))

  reading_agrees : (n : Names) (ps : List EntryPlace) (l m : Levels) (size : ℕ) (f g : List ℕ → State → Ran) (x y : FormReading) (s t : State) → Roomier bounds l m
      → ((bytes : List ℕ) (s : State) → Goes s (f bytes s).state) → ((bytes : List ℕ) (s : State) → Goes s (g bytes s).state)
      → ((m : Names) (bytes : List ℕ) (u v : State) → CleanSides bounds code_and_walk m ps u v → RunsAgree bounds (f bytes u) (g bytes v)) → SameReading n x y → CleanSides bounds code_and_walk n ps s t → RunsAgree bounds (read_and_run l size f x s) (read_and_run m size g y t)
  reading_agrees n ps l m size f g _ _ s t r d e h (same_form v w rest x) i =
      goes_on_agrees {R = Is} n ps s t _ _ _ _ i (after_goes l v s) (after_goes m w t) (λ z u. d rest u) (λ z u. e rest u)
      (after_ends n ps l m s t _ _ r i (statement_on m w t) (statement_ends n ps l m v w s t r x i)) (λ k a b u v z j. h k rest u v j)
  reading_agrees n ps l m size f g _ _ s t r d e h same_end i = alike _ _ refl i.like.outside i.like.counts.turns tt
  reading_agrees n ps l m size f g _ _ s t r d e h (same_unreadable k from) i = h n (behind_line from) _ _ (sides_on code_and_walk n n ps s t _ _ i (facts.one.unreadable_goes (size - length from) s) (facts.one.unreadable_goes (size - length from) t) (unreadable_like n ps (size - length from) s t i.like))

  run_agrees : (i : ℕ) (n : Names) (ps : List EntryPlace) (l m : Levels) (size : ℕ) (bytes : List ℕ) (s t : State) → Roomier bounds l m → CleanSides bounds code_and_walk n ps s t → RunsAgree bounds (run_within i l size bytes s) (run_within i m size bytes t)
  run_agrees zero n ps l m size bytes s t r i = alike _ _ refl i.like.outside i.like.counts.turns tt
  run_agrees (suc i) n ps l m size bytes s t r x =
      goes_on_agrees {R = SameReading} n ps s t _ _ _ _ x (read_goes l bytes s) (read_goes m bytes t)
      (λ reading u. reading_goes l size (λ rest s. run_within i l size rest s) (λ rest s. run_goes i l size rest s) reading u)
      (λ reading u. reading_goes m size (λ rest s. run_within i m size rest s) (λ rest s. run_goes i m size rest s) reading u)
      (quiet_ends n ps s t _ _ x.like (facts.two.read_quiet false l bytes s) (facts.two.read_quiet false m bytes t) (facts.two.read_ n ps false l m bytes s t r x.like))
      (λ k a b u v z j. reading_agrees k ps l m size (λ rest s. run_within i l size rest s) (λ rest s. run_within i m size rest s) a b u v r (λ rest s. run_goes i l size rest s) (λ rest s. run_goes i m size rest s)
      (λ o rest u v j. run_agrees i o ps l m size rest u v r j) z j)

  pub bytes_agree : (n : Names) (ps : List EntryPlace) (l m : Levels) (bytes : List ℕ) (s t : State) → Roomier bounds l m → CleanSides bounds code_and_walk n ps s t → RunsAgree bounds (run_bytes l bytes s) (run_bytes m bytes t)
  bytes_agree n ps l m bytes s t r i = run_agrees (suc (length bytes)) n ps l m (length bytes) bytes s t r i

  pub file_agrees : (n : Names) (ps : List EntryPlace) (l m : Levels) (name : Name) (file : Option (List ℕ)) (s t : State) → Roomier bounds l m → CleanSides bounds code_and_walk n ps s t → RunsAgree bounds (run_file l name file s) (run_file m name file t)
  file_agrees n ps l m name None s t r i = alike _ _ refl i.like.outside i.like.counts.turns tt
  file_agrees n ps l m name (Some file) s t r i = bytes_agree n ps l m (source_of file) s t r i

-- ---- the state in which both begin

itself_at : (n r q : ℕ) → (Linked (each_itself n) r q → (r ≡ q) × (r < n)) → ((r ≡ n) × (q ≡ n)) ⊎ Linked (each_itself n) r q → (r ≡ q) × (r < suc n)
itself_at n r q next (inl e) = (omega (arith, e.0, e.1), omega (arith, e.0))
itself_at n r q next (inr k) = let e : (r ≡ q) × (r < n) = next k in (e.0, omega (arith, e.1))

itself : (n r q : ℕ) → Linked (each_itself n) r q → (r ≡ q) × (r < n)
itself zero r q h = absurd (elim h [ ])
itself (suc n) r q h = itself_at n r q (λ k. itself n r q k) (linked_cases n n r q (each_itself n) h)

itself_once : (n : ℕ) → OneToOne (each_itself n)
itself_once n = record {
  right = λ r q p h k. let x : (r ≡ q) × (r < n) = itself n r q h in let y : (r ≡ p) × (r < n) = itself n r p k in sym x.0 ∙ y.0;
  left = λ r p q h k. let x : (r ≡ q) × (r < n) = itself n r q h in let y : (p ≡ q) × (p < n) = itself n p q k in x.0 ∙ sym y.0;
}

itself_within : (n : ℕ) → Within (each_itself n) n n
itself_within n = record {
  left = λ r q h. let x : (r ≡ q) × (r < n) = itself n r q h in x.1;
  right = λ r q h. let x : (r ≡ q) × (r < n) = itself n r q h in omega (arith, x.0, x.1);
}

itself_gets : {A : Type 0} (R : A → A → Type 0) (n : ℕ) (xs : List A) → Each R xs xs → (r q : ℕ) → Linked (each_itself n) r q → Maybe R (slice_get xs r) (slice_get xs q)
itself_gets R n xs h r q k = let x : (r ≡ q) × (r < n) = itself n r q k in subst (λ p. Maybe R (slice_get xs r) (slice_get xs p)) x.0 (each_get R xs xs r h)

same_expansion : (e : Option Expansion) → SameExpansion e e
same_expansion None = same_none
same_expansion (Some e) = same_open e

module _ {bounds : Bounds} where
  pub begins_like : (s : State) (cells : Option ℕ) → IsSoundState s → IsRoomier s.counts.cells cells → is_some cells ≡ bounds.cells → Like bounds (names_of s) (all_both s.bindings) (with_running_code s) (walking cells s)
  begins_like s cells h r b = record {
    store = record { once = itself_once (length s.store); within = itself_within (length s.store); is = itself_gets _ (length s.store) s.store h.objects };
    functions = record { once = itself_once (length s.functions); within = itself_within (length s.functions); is = itself_gets _ (length s.functions) s.functions h.functions };
    symbols = h.symbols;
    bindings = h.bindings;
    counts = record { given = refl; turns = refl; cells = record { is = r; bound = b }; expansion = same_expansion s.counts.expansion };
    outside = refl;
    gensyms = refl;
    compilation = record { walks = refl; coded = h.codes; answers = refl; levels = refl; requests = refl; compiles_all = refl };
  }

-- ---- a walk begins ready where its state is

definition_walking : (s : State) (cells : Option ℕ) (x y : Option Definition) → same_definition (walking cells s) x y ≡ same_definition s x y
definition_walking s cells None None = refl
definition_walking s cells None (Some e) = refl
definition_walking s cells (Some d) None = refl
definition_walking s cells (Some d) (Some e) = refl

stands_walking : (s : State) (cells : Option ℕ) (d : Dependency) → stands (walking cells s) d ≡ stands s d
stands_walking s cells (Called i) = refl
stands_walking s cells (Fexpr i) = refl
stands_walking s cells (Whole i kind p) = definition_walking s cells (Some (record { kind = kind; function = p })) (symbol_at s i).definition

all_stand_walking : (s : State) (cells : Option ℕ) (ds : List Dependency) → all_stand (walking cells s) ds ≡ all_stand s ds
all_stand_walking s cells [] = refl
all_stand_walking s cells (d ∷ ds) = ap (λ b. b && all_stand (walking cells s) ds) (stands_walking s cells d) ∙ ap (λ b. stands s d && b) (all_stand_walking s cells ds)

stood_walking : (s : State) (cells : Option ℕ) (cs : List Stood) → AllAsTheyStood s cs → AllAsTheyStood (walking cells s) cs
stood_walking s cells [] h = tt
stood_walking s cells (c ∷ cs) h = (h.0, stood_walking s cells cs h.1)

code_walking : (s : State) (cells : Option ℕ) (c : Coded) → ReadyCode the_compiler s c → ReadyCode the_compiler (walking cells s) c
code_walking s cells c r = record {
  lowered = r.lowered;
  held = r.held;
  stood = r.stood;
  right = r.right;
  is = r.is;
  stands = all_stand_walking s cells c.dependencies ∙ r.stands;
  constants = stood_walking s cells r.stood r.constants;
  older = r.older;
}

ready_walking : (s : State) (cells : Option ℕ) → Ready the_compiler s → Ready the_compiler (walking cells s)
ready_walking s cells r = record { codes = λ c i. code_walking s cells c (r.codes c i); event = record { printed = r.event.printed; noted = r.event.noted } }

-- ---- what it is that runs agree

stops_is : (o : Ran) (why other : Stop) → o.ending ≡ Stops why → o.ending ≡ Stops other → other ≡ why
stops_is o why other e h = let x : Stops other ≡ Stops why = sym h ∙ e in cc

module _ {bounds : Bounds} where
  -- a run that lacks room stops short
  lacking_short : (why : Stop) → IsLackingBound bounds why → IsShort why
  lacking_short _ (lacks_cells e) = short_of_cells
  lacking_short _ (lacks_levels e) = short_of_levels

  -- so does one that stops for a bound that it has
  meeting_short : (why : Stop) → IsMeeting bounds why → IsShort why
  meeting_short _ (meets_cells e) = short_of_cells
  meeting_short _ (meets_levels e) = short_of_levels

  same_run : (o p : Ran) → RunsAgree bounds o p → HasNoEvent p → HasRoom o → HasRoom p → SameRun o p
  same_run _ _ (alike o p e x y may) n a b = record { ending = e; outside = x; turns = y }
  same_run _ _ (until_event o p r e h) n a b = absurd (cc)
  same_run _ _ (until_right_stop o p why e i h) n a b = absurd (b (record { why = why; is = e; short = meeting_short why i }))
  same_run _ _ (until_left_stop o p why e i h) n a b = absurd (a (record { why = why; is = e; short = lacking_short why i }))
  same_run _ _ (until_either o p why r e i x h k) n a b = absurd (cc)
  same_run _ _ (until_both_stop o p why other e x i j h k) n a b = absurd (a (record { why = why; is = e; short = lacking_short why i }))

  front_of : (o p : Ran) → RunsAgree bounds o p → HasNoEvent p → HasRoom p → HasShown o.state.outside.output o.state.outside.notes p.state.outside
  front_of _ _ (alike o p e x y may) n b = subst (λ z. HasShown o.state.outside.output o.state.outside.notes z) x (shown_refl o.state.outside)
  front_of _ _ (until_event o p r e h) n b = absurd (cc)
  front_of _ _ (until_right_stop o p why e i h) n b = absurd (b (record { why = why; is = e; short = meeting_short why i }))
  front_of _ _ (until_left_stop o p why e i h) n b = h
  front_of _ _ (until_either o p why r e i x h k) n b = absurd (cc)
  front_of _ _ (until_both_stop o p why other e x i j h k) n b = absurd (b (record { why = other; is = x; short = meeting_short other j }))

  bound_met : (o p : Ran) (why : Stop) → RunsAgree bounds o p → HasNoEvent p → o.ending ≡ Stops why → IsShort why → IsLackingBound bounds why ⊎ StopsMeeting bounds p
  bound_met _ _ why (alike o p e x y may) n w short = let f : p.ending ≡ Stops why = sym e ∙ w in inr (record { why = why; is = f; meets = meeting why short (subst (λ z. MayEnd bounds z) f may) })
  bound_met _ _ why (until_event o p r e h) n w short = absurd (cc)
  bound_met _ _ why (until_right_stop o p other e i h) n w short = inr (record { why = other; is = e; meets = i })
  bound_met _ _ why (until_left_stop o p other e i h) n w short = inl (subst (λ w. IsLackingBound bounds w) (stops_is o why other w e) i)
  bound_met _ _ why (until_either o p other r e i x h k) n w short = absurd (cc)
  bound_met _ _ why (until_both_stop o p other last e x i j h k) n w short = inr (record { why = last; is = x; meets = j })

printed_begins : (r : Option Recorded) (xs : List ℕ) → IsBegunBy (printed_at_event r xs) xs
printed_begins None xs = begins_refl xs
printed_begins (Some r) xs = take_begins r.printed xs

noted_begins : (r : Option Recorded) (xs : List ℕ) → IsBegunBy (noted_by r xs) xs
noted_begins None xs = begins_refl xs
noted_begins (Some r) xs = take_begins r.noted xs

-- what shows all that a run shows shows what it does first
first_shown : (o p : Ran) → HasShown p.state.outside.output p.state.outside.notes o.state.outside → HasShown (printed_first p) (noted_first p) o.state.outside
first_shown o p h = record { output = begins_trans _ _ _ (printed_begins p.state.watched.event p.state.outside.output) h.output; notes = begins_trans _ _ _ (noted_begins p.state.watched.event p.state.outside.notes) h.notes }

shown_at_event : (o p : Ran) (r : Recorded) → p.state.watched.event ≡ Some r → HasShown (take r.printed p.state.outside.output) (take r.noted p.state.outside.notes) o.state.outside → HasShown (printed_first p) (noted_first p) o.state.outside
shown_at_event o p r e h = subst (λ w. HasShown (printed_at_event w p.state.outside.output) (noted_by w p.state.outside.notes) o.state.outside) (sym e) h

module _ {bounds : Bounds} where
  event_shown : (o p : Ran) → RunsAgree bounds o p → (StopsLacking bounds o → ⊥) → HasShown (printed_first p) (noted_first p) o.state.outside
  event_shown _ _ (alike o p e x y may) a = first_shown o p (subst (λ z. HasShown z.output z.notes o.state.outside) x (shown_refl o.state.outside))
  event_shown _ _ (until_event o p r e h) a = shown_at_event o p r e h
  event_shown _ _ (until_right_stop o p why e i h) a = first_shown o p h
  event_shown _ _ (until_left_stop o p why e i h) a = absurd (a (record { why = why; is = e; lacks = i }))
  event_shown _ _ (until_either o p why r e i x h k) a = absurd (a (record { why = why; is = e; lacks = i }))
  event_shown _ _ (until_both_stop o p why other e x i j h k) a = absurd (a (record { why = why; is = e; lacks = i }))

-- two lists of which one begins with the other, and a front of the first
front_begins : (x y z : List ℕ) → IsBegunBy x y → OneBegins y z → OneBegins x z
front_begins x y z h (inl k) = inl (begins_trans x y z h k)
front_begins x y z h (inr k) = both_begin x z y h k

module _ {bounds : Bounds} where
  either_shown : (o p : Ran) → RunsAgree bounds o p → OneBegins (printed_first p) o.state.outside.output × OneBegins (noted_first p) o.state.outside.notes
  either_shown _ _ (alike o p e x y may) = let h : HasShown (printed_first p) (noted_first p) o.state.outside = first_shown o p (subst (λ z. HasShown z.output z.notes o.state.outside) x (shown_refl o.state.outside)) in (inl h.output, inl h.notes)
  either_shown _ _ (until_event o p r e h) = let k : HasShown (printed_first p) (noted_first p) o.state.outside = shown_at_event o p r e h in (inl k.output, inl k.notes)
  either_shown _ _ (until_right_stop o p why e i h) = let k : HasShown (printed_first p) (noted_first p) o.state.outside = first_shown o p h in (inl k.output, inl k.notes)
  either_shown _ _ (until_left_stop o p why e i h) =
      (both_begin _ _ p.state.outside.output (printed_begins p.state.watched.event p.state.outside.output) h.output, both_begin _ _ p.state.outside.notes (noted_begins p.state.watched.event p.state.outside.notes) h.notes)
  either_shown _ _ (until_either o p why r e i x h k) =
      (subst (λ w. OneBegins (printed_at_event w p.state.outside.output) o.state.outside.output) (sym x) h, subst (λ w. OneBegins (noted_by w p.state.outside.notes) o.state.outside.notes) (sym x) k)
  either_shown _ _ (until_both_stop o p why other e x i j h k) =
      (front_begins _ _ _ (printed_begins p.state.watched.event p.state.outside.output) h, front_begins _ _ _ (noted_begins p.state.watched.event p.state.outside.notes) k)

-- ---- the law

pub code_agrees : ((bounds : Bounds) → LoopFacts bounds) → CodeAgrees
code_agrees facts = record {
  runs = λ s l m cells source sound ready r e. bytes_agree (facts (bounds_of m cells)) (names_of s) (all_both s.bindings) l m source (with_running_code s) (walking cells s) (record { is = r; bound = refl }) (record { like = begins_like s cells sound e refl; places = all_both_whole s.bindings; ready = ready_walking s cells ready });
  same = λ bounds. same_run;
  event = λ bounds. event_shown;
  front = λ bounds. front_of;
  either = λ bounds. either_shown;
  bound = λ bounds. bound_met;
}
