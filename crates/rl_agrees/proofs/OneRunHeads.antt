-- Where no code runs and nothing turns, what running bodies rest on stays: an instance of the law on one run.
use Rattle.std.proofs.Common.{◌≡◌, ◌∙◌, ◌⊎◌, inl, inr, if◌then◌else◌, ℕ, zero, suc, Bool, true, false, List, [], ◌∷◌, ◌++◌, length, Option, Some, None, refl, sym, ap, subst}
use Rattle.std.specs.Prelude.{slice_set, slice_index_or}
use Rattle.rl_tree.specs.Value.{Value, Int, Id, Str, Ref, Fun, Object}
use Rattle.rl_meaning.specs.State.{State, Symbol, Pointer, Definition, Entry, Binding, Mark, Expansion, Event, Recorded, Turned}
use Rattle.rl_meaning.specs.Symbols.{new_symbol, symbol_at}
use Rattle.rl_meaning.specs.Events.{first_event, with_event}
use Rattle.rl_meaning.specs.Constants.{changing}
use Rattle.rl_meaning.specs.Copying.{with_object}
use Rattle.rl_meaning.specs.Holding.{function_at}
use Rattle.rl_meaning.specs.Reach.{running, turns}
use Rattle.rl_meaning.specs.Variables.{with_oldest}
use Rattle.rl_meaning.specs.Definitions.{with_definition}
use Rattle.rl_meaning.specs.Printing.{turns_taken}
use Rattle.rl_meaning.specs.Evaluation.{Job, with_expansion, without_expansion}
use Rattle.rl_meaning.specs.Jobs.{job, the_compiler}
use Rattle.rl_meaning.specs.Opening.{state_of}
use Rattle.rl_agrees.specs.Later.{IsMore, IsMemberOf, further, Later}
use Rattle.rl_agrees.specs.Heads.{IsWalk, shape, IsBelow, RestsOn, Stays, HeadsStayIn}
use Rattle.rl_agrees.proofs.OneRun.{StepsAt, Prints, ReadsLead}
use Rattle.rl_agrees.proofs.OneRunLater.{later_steps, later_prints}
use Rattle.rl_agrees.proofs.OneRunPrinting.{more_same}
use Rattle.rl_agrees.proofs.LaterLists.{set_definition, appended_definition}
use Rattle.rl_agrees.proofs.OneRunWalking.{Idles, walk_leads}
use Rattle.rl_agrees.proofs.OneRunMarks.{Marks, marks_steps, marks_prints, marks_idle}
use Rattle.rl_agrees.proofs.HeadsRests.{unturned_stays}
use Rattle.rl_agrees.proofs.HeadsStays.{AllStay, stays_same, stays_then, NotedStill, noted_still, rests_before, rests_more, stays_kind, stays_head}

-- ---- functions that run

running_behind : (p : Pointer) (xs ys : List Entry) → IsMemberOf p (running ys) → IsMemberOf p (running (xs ++ ys))
running_behind p [] ys h = h
running_behind p (Mark (Some f) ∷ xs) ys h = further f (running (xs ++ ys)) (running_behind p xs ys h)
running_behind p (Mark None ∷ xs) ys h = running_behind p xs ys h
running_behind p (Binding x scope v ∷ xs) ys h = running_behind p xs ys h

running_shape : (entries : List Entry) → running (shape entries) ≡ running entries
running_shape [] = refl
running_shape (Mark (Some f) ∷ entries) = ap (λ (ps : List Pointer). f ∷ ps) (running_shape entries)
running_shape (Mark None ∷ entries) = running_shape entries
running_shape (Binding x scope v ∷ entries) = running_shape entries

-- what ran below runs still
runs_below : (s t : State) → IsBelow s t → (p : Pointer) → IsMemberOf p (running s.bindings) → IsMemberOf p (running t.bindings)
runs_below s t below p h =
    let shapes : IsMemberOf p (running (below.more ++ shape s.bindings)) = running_behind p below.more (shape s.bindings) (subst (λ (ps : List Pointer). IsMemberOf p ps) (sym (running_shape s.bindings)) h) in
    subst (λ (ps : List Pointer). IsMemberOf p ps) (running_shape t.bindings) (subst (λ (es : List Entry). IsMemberOf p (running es)) (sym below.is) shapes)

-- ---- the instance

pub record Heads (s t : State) : Type 0 where
  pub marks : Marks s t
  pub later : Later s t
  pub stays : s.compilation.runs_code ≡ false → t.watched.event ≡ None → (p : Pointer) → IsMemberOf p (running s.bindings) → (i : ℕ) (through : Bool) → RestsOn s t (function_at s p) i through → Stays t through (symbol_at s i).definition (symbol_at t i).definition

-- where definitions are as they were
untold : (s t : State) → Marks s t → Later s t → ((i : ℕ) → (symbol_at t i).definition ≡ (symbol_at s i).definition) → Heads s t
untold s t marks later same = record { marks = marks; later = later; stays = λ walks none p run i through r. stays_same t through _ _ (same i) }

-- an event stays
none_before : (t u : State) → Later t u → u.watched.event ≡ None → t.watched.event ≡ None
none_before t u later none = at t.watched.event refl
  where
    at : (o : Option Recorded) → t.watched.event ≡ o → t.watched.event ≡ None
    at None e = e
    at (Some r) e = let some : u.watched.event ≡ Some r = later.event r e in absurd (cc)

heads_then : (s t u : State) → Heads s t → Heads t u → Heads s u
heads_then s t u h k = record {
  marks = marks_steps.and_then s t u h.marks k.marks;
  later = later_steps.and_then s t u h.later k.later;
  stays = λ walks none p run i through r.
      let before : t.watched.event ≡ None = none_before t u k.later none in
      let walked = h.marks.walked walks in
      let rests : RestsOn t u (function_at t p) i through = rests_more s t u h.later k.later p (h.stays walks before p run) i through r in
      stays_then t u k.later.functions through _ _ _ (h.stays walks before p run i through (rests_before s t u (noted_still s t u h.later k.later) (function_at s p) i through r)) (k.stays walked.walks none p (runs_below s t walked.below p run) i through rests);
}

-- ---- a definition

-- a symbol that is set, or another
set_or : (xs : List Symbol) (i j : ℕ) (symbol d : Symbol) → ((slice_index_or (slice_set xs i symbol) j d).definition ≡ (slice_index_or xs j d).definition) ⊎ ((j ≡ i) × ((slice_index_or (slice_set xs i symbol) j d).definition ≡ symbol.definition))
set_or [] i j symbol d = inl refl
set_or (x ∷ xs) zero zero symbol d = inr (refl, refl)
set_or (x ∷ xs) zero (suc j) symbol d = inl refl
set_or (x ∷ xs) (suc i) zero symbol d = inl refl
set_or (x ∷ xs) (suc i) (suc j) symbol d = elim (set_or xs i j symbol d) [
  | inl e ↦ inl e
  | inr e ↦ inr (ap suc e.0, e.1)
]

some_event : (o : Option Recorded) (e : Event) (s : State) → first_event o e s ≡ None → ⊥
some_event (Some r) e s h = absurd (cc)
some_event None e s h = absurd (cc)

-- with no event behind it, a definition turned nothing
no_turn : (i : ℕ) (s : State) (b : Bool) → (if b then with_event (Turned i) s else s).watched.event ≡ None → b ≡ false
no_turn i s true h = absurd (some_event s.watched.event (Turned i) s h)
no_turn i s false h = refl

same_symbols : (i : ℕ) (s : State) (b : Bool) → (if b then with_event (Turned i) s else s).symbols ≡ s.symbols
same_symbols i s true = refl
same_symbols i s false = refl

-- the definition of a name behind one of a name
defined_or : (i j : ℕ) (d : Option Definition) (s : State) → ((symbol_at (with_definition i d s) j).definition ≡ (symbol_at s j).definition) ⊎ ((j ≡ i) × ((symbol_at (with_definition i d s) j).definition ≡ d))
defined_or i j d s =
    let new : Symbol = record (symbol_at s i) { definition = d } in
    let e : (symbol_at (with_definition i d s) j).definition ≡ (slice_index_or (slice_set s.symbols i new) j (new_symbol [] false)).definition = ap (λ (xs : List Symbol). (slice_index_or (slice_set xs i new) j (new_symbol [] false)).definition) (same_symbols i s (turns i d s)) in
    elim (set_or s.symbols i j new (new_symbol [] false)) [
      | inl same ↦ inl (e ∙ same)
      | inr here ↦ inr (here.0, e ∙ here.1)
    ]

definition_heads : (i : ℕ) (d : Option Definition) (s : State) → Heads s (with_definition i d s)
definition_heads i d s = record { marks = marks_steps.definition i d s; later = later_steps.definition i d s; stays = λ walks none p run j through r. at none p run j through r (defined_or i j d s) }
  where
    u : State
    u = with_definition i d s

    at : (with_definition i d s).watched.event ≡ None → (p : Pointer) → IsMemberOf p (running s.bindings) → (j : ℕ) (through : Bool) → RestsOn s (with_definition i d s) (function_at s p) j through → ((symbol_at (with_definition i d s) j).definition ≡ (symbol_at s j).definition) ⊎ ((j ≡ i) × ((symbol_at (with_definition i d s) j).definition ≡ d)) → Stays (with_definition i d s) through (symbol_at s j).definition (symbol_at (with_definition i d s) j).definition
    at none p run j through r (inl same) = stays_same u through _ _ same
    at none p run j through r (inr here) =
        let rests : RestsOn s u (function_at s p) i through = subst (λ x. RestsOn s u (function_at s p) x through) here.0 r in
        let stay : Stays u through (symbol_at s i).definition d = unturned_stays s u (later_steps.definition i d s).functions i d (no_turn i s (turns i d s) none) p run through rests in
        subst (λ x. Stays u through (symbol_at s j).definition x) (sym here.1) (subst (λ x. Stays u through (symbol_at s x).definition d) (sym here.0) stay)

-- ---- all steps

turns_heads : (o : Option Expansion) (n : ℕ) (s : State) → Marks s (turns_taken o n s) → Later s (turns_taken o n s) → Heads s (turns_taken o n s)
turns_heads None n s m l = untold s _ m l (λ i. refl)
turns_heads (Some e) n s m l = untold s _ m l (λ i. refl)

noted_heads : (v : Value) (s : State) → Marks s (changing v s) → Later s (changing v s) → Heads s (changing v s)
noted_heads (Ref r) s m l = untold s _ m l (λ i. refl)
noted_heads (Int z) s m l = untold s _ m l (λ i. refl)
noted_heads (Id i) s m l = untold s _ m l (λ i. refl)
noted_heads (Str bytes) s m l = untold s _ m l (λ i. refl)
noted_heads (Fun f place) s m l = untold s _ m l (λ i. refl)

changed_heads : (v : Value) (o : Object) (s : State) → Marks s (changing v (with_object v o s)) → Later s (changing v (with_object v o s)) → Heads s (changing v (with_object v o s))
changed_heads (Ref r) o s m l = untold s _ m l (λ i. refl)
changed_heads (Int z) o s m l = untold s _ m l (λ i. refl)
changed_heads (Id i) o s m l = untold s _ m l (λ i. refl)
changed_heads (Str bytes) o s m l = untold s _ m l (λ i. refl)
changed_heads (Fun f place) o s m l = untold s _ m l (λ i. refl)

-- a state with the same functions and definitions as one behind another is behind it too
also_heads : (s t u : State) → Heads s t → Marks s u → Later s u → NotedStill s t u → IsMore t.functions u.functions → t.watched.event ≡ u.watched.event → ((i : ℕ) → (symbol_at u i).definition ≡ (symbol_at t i).definition) → Heads s u
also_heads s t u h m l still more event same = record {
  marks = m;
  later = l;
  stays = λ walks none p run i through r. stays_then t u more through _ _ _ (h.stays walks (event ∙ none) p run i through (rests_before s t u still (function_at s p) i through r)) (stays_same u through _ _ (same i));
}

pub heads_steps : StepsAt false Heads
heads_steps = record {
  same = λ s. untold s s (marks_steps.same s) (later_steps.same s) (λ i. refl);
  and_then = heads_then;
  turns = λ n s. turns_heads s.counts.expansion n s (marks_steps.turns n s) (later_steps.turns n s);
  cells = λ n m s h. untold s _ (marks_steps.cells n m s h) (later_steps.cells n m s h) (λ i. refl);
  expansion_cells = λ n e s h. untold s _ (marks_steps.expansion_cells n e s h) (later_steps.expansion_cells n e s h) (λ i. refl);
  opened = opened;
  closed = λ f s t h. also_heads s t (without_expansion t) (heads_then s (with_expansion f s) t (opened f s) h) (marks_steps.closed f s t h.marks) (later_steps.closed f s t h.later) (λ r noted. record { functions = noted.functions; last = noted.last; late = noted.late }) (more_same t.functions) refl (λ i. refl);
  made = λ o s. untold s _ (marks_steps.made o s) (later_steps.made o s) (λ i. refl);
  fresh = λ r o s t h le. also_heads s t (with_object (Ref r) o t) h (marks_steps.fresh r o s t h.marks le) (later_steps.fresh r o s t h.later le) (λ r noted. record { functions = noted.functions; last = noted.last; late = noted.late }) (more_same t.functions) refl (λ i. refl);
  noted = λ v s. noted_heads v s (marks_steps.noted v s) (later_steps.noted v s);
  changed = λ v o s. changed_heads v o s (marks_steps.changed v o s) (later_steps.changed v o s);
  grows = λ s t h. h.later.objects;
  named = λ name interned s. untold s _ (marks_steps.named name interned s) (later_steps.named name interned s) (λ j. appended_definition s.symbols j (new_symbol name interned) (new_symbol [] false) refl);
  symbol = λ i symbol s e. untold s _ (marks_steps.symbol i symbol s e) (later_steps.symbol i symbol s e) (λ j. set_definition s.symbols i j symbol (new_symbol [] false) e);
  definition = definition_heads;
  function = λ f s. untold s _ (marks_steps.function f s) (later_steps.function f s) (λ i. refl);
  pushed = λ e s. untold s _ (marks_steps.pushed e s) (later_steps.pushed e s) (λ i. refl);
  valued = λ x v s. untold s _ (marks_steps.valued x v s) (later_steps.valued x v s) (λ i. refl);
  oldest = λ r s t h k. also_heads r t (with_oldest (length s.bindings) t) k (marks_steps.oldest r s t h.marks k.marks) (later_steps.oldest r s t h.later k.later) (λ r noted. record { functions = noted.functions; last = noted.last; late = noted.late }) (more_same t.functions) refl (λ i. refl);
  freed = λ may entries s. absurd may;
  gensyms = λ n s. untold s _ (marks_steps.gensyms n s) (later_steps.gensyms n s) (λ i. refl);
  event = λ e s. untold s _ (marks_steps.event e s) (later_steps.event e s) (λ i. refl);
  input = λ rest s. untold s _ (marks_steps.input rest s) (later_steps.input rest s) (λ i. refl);
  line_length = λ n s. untold s _ (marks_steps.line_length n s) (later_steps.line_length n s) (λ i. refl);
}
  where
    opened : (f : ℕ) (s : State) → Heads s (with_expansion f s)
    opened f s = untold s _ (marks_steps.opened f s) (later_steps.opened f s) (λ i. refl)

heads_prints : Prints Heads
heads_prints = record {
  printed = λ page s more. untold s _ (marks_prints.printed page s more) (later_prints.printed page s more) (λ i. refl);
  note_ = λ line s. untold s _ (marks_prints.note_ line s) (later_prints.note_ line s) (λ i. refl);
}

heads_idle : Idles Heads
heads_idle = record { idle = λ s t e l. record { marks = marks_idle.idle s t e l; later = l; stays = λ walks none p run i through r. absurd (both (sym e ∙ walks)) } }
  where
    both : true ≡ false → ⊥
    both e = absurd (cc)

-- ---- what it says

heads_in : (s t : State) → Later s t → ((p : Pointer) → IsMemberOf p (running s.bindings) → IsMemberOf p (running t.bindings)) → ((p : Pointer) → IsMemberOf p (running s.bindings) → AllStay s t (function_at s p)) → HeadsStayIn s t
heads_in s t later runs stays = record {
  stays = stays;
  runs = runs;
  rests = λ p run i through r. rests_more s t t later (later_steps.same t) p (stays p run) i through r;
  kinds = λ p run i through r. stays_kind t through _ _ (stays p run i through r);
  heads = λ p run i through r there e. stays_head s t later.functions i through _ _ there e (stays p run i through r);
}

pub heads_on : (s t u : State) → Later s t → Later t u → HeadsStayIn s t → HeadsStayIn t u → HeadsStayIn s u
heads_on s t u h k a b = heads_in s u (later_steps.and_then s t u h k) (λ p run. b.runs p (a.runs p run)) (λ p run i through r.
    stays_then t u k.functions through _ _ _ (a.stays p run i through (rests_before s t u (noted_still s t u h k) (function_at s p) i through r)) (b.stays p (a.runs p run) i through (rests_more s t u h k p (a.stays p run) i through r)))

pub job_heads : ReadsLead Heads → ReadsLead Later → (j : Job) (s : State) → IsWalk j → s.compilation.runs_code ≡ false → (state_of (job the_compiler j s)).watched.event ≡ None → HeadsStayIn s (state_of (job the_compiler j s))
job_heads reads later j s w walks none = stay (walk_leads heads_steps heads_prints reads heads_idle later j s w).moves
  where
    t : State
    t = state_of (job the_compiler j s)

    stay : Heads s (state_of (job the_compiler j s)) → HeadsStayIn s (state_of (job the_compiler j s))
    stay h = heads_in s t h.later (runs_below s t (h.marks.walked walks).below) (h.stays walks none)
