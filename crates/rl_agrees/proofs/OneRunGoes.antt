-- What a run does, whatever it does, is a law on one run: a later state, with an event no later than what was printed, cells bounded as before, and code run or not as before.
use Rattle.std.proofs.Common.{◌≡◌, ◌∙◌, ◌≤◌, ℕ, length, is_some, Option, Some, None, refl, sym, ap, subst, arith, if◌then◌else◌, Bool, true, false}
use Rattle.rl_tree.specs.Value.{Value, Int, Id, Str, Ref, Fun, Object}
use Rattle.rl_meaning.specs.State.{State, Expansion, Definition, Event, Recorded, Turned}
use Rattle.rl_meaning.specs.Constants.{changing}
use Rattle.rl_meaning.specs.Copying.{with_object}
use Rattle.rl_meaning.specs.Events.{first_event, with_event}
use Rattle.rl_meaning.specs.Reach.{turns}
use Rattle.rl_meaning.specs.Definitions.{with_definition}
use Rattle.rl_meaning.specs.Printing.{turns_taken, note}
use Rattle.rl_agrees.specs.Later.{Later}
use Rattle.rl_agrees.specs.TwoRunsJobs.{EventWithin}
use Rattle.rl_agrees.proofs.TwoRunsKept.{Goes}
use Rattle.rl_agrees.proofs.OneRun.{Steps, Prints}
use Rattle.rl_agrees.proofs.OneRunLater.{later_steps, later_prints}
use Rattle.rl_agrees.proofs.TwoRunsGoes.{goes_trans, more_length}

-- what prints nothing, records no event, takes no bound away, and runs code or not as before
untold : (s t : State) → Later s t → t.outside.output ≡ s.outside.output → t.outside.notes ≡ s.outside.notes → t.watched.event ≡ s.watched.event → is_some s.counts.cells ≡ is_some t.counts.cells → s.compilation.runs_code ≡ t.compilation.runs_code → Goes s t
untold s t l output notes event cells code = record {
  later = l;
  within = λ w. record {
    printed = λ r e. subst (λ x. r.printed ≤ length x) (sym output) (w.printed r (sym event ∙ e));
    noted = λ r e. subst (λ x. r.noted ≤ length x) (sym notes) (w.noted r (sym event ∙ e));
  };
  bounded = cells;
  runs_code = code;
}

taken : (o : Option Expansion) (n : ℕ) (s : State) → Later s (turns_taken o n s) → Goes s (turns_taken o n s)
taken None n s l = untold s _ l refl refl refl refl refl
taken (Some e) n s l = untold s _ l refl refl refl refl refl

noted_goes : (v : Value) (s : State) → Later s (changing v s) → Goes s (changing v s)
noted_goes (Ref r) s l = untold s _ l refl refl refl refl refl
noted_goes (Int z) s l = untold s _ l refl refl refl refl refl
noted_goes (Id i) s l = untold s _ l refl refl refl refl refl
noted_goes (Str bytes) s l = untold s _ l refl refl refl refl refl
noted_goes (Fun f place) s l = untold s _ l refl refl refl refl refl

changed_goes : (v : Value) (o : Object) (s : State) → Later s (changing v (with_object v o s)) → Goes s (changing v (with_object v o s))
changed_goes (Ref r) o s l = untold s _ l refl refl refl refl refl
changed_goes (Int z) o s l = untold s _ l refl refl refl refl refl
changed_goes (Id i) o s l = untold s _ l refl refl refl refl refl
changed_goes (Str bytes) o s l = untold s _ l refl refl refl refl refl
changed_goes (Fun f place) o s l = untold s _ l refl refl refl refl refl

-- an event within this much that is printed, and this much that is noted
abbrev IsWithin : ℕ → ℕ → Option Recorded → Type 0
IsWithin printed noted None = Unit {0}
IsWithin printed noted (Some r) = (r.printed ≤ printed) × (r.noted ≤ noted)

event_within : (o : Option Recorded) (e : Event) (s : State) → s.watched.event ≡ o → EventWithin s → IsWithin (length s.outside.output) (length s.outside.notes) (first_event o e s)
event_within (Some r) e s h w = (w.printed r h, w.noted r h)
event_within None e s h w = (omega arith, omega arith)

first_within : (e : Event) (s : State) (r : Recorded) → EventWithin s → first_event s.watched.event e s ≡ Some r → (r.printed ≤ length s.outside.output) × (r.noted ≤ length s.outside.notes)
first_within e s r w k = subst (λ (o : Option Recorded). IsWithin (length s.outside.output) (length s.outside.notes) o) k (event_within s.watched.event e s refl w)

event_goes : (e : Event) (s : State) → Goes s (with_event e s)
event_goes e s = record {
  later = later_steps.event e s;
  within = λ w. record { printed = λ r k. (first_within e s r w k).0; noted = λ r k. (first_within e s r w k).1 };
  bounded = refl;
  runs_code = refl;
}

definition_goes : (i : ℕ) (d : Option Definition) (s : State) → Goes s (with_definition i d s)
definition_goes i d s = record {
  later = later_steps.definition i d s;
  within = λ w. let k = (at (turns i d s)).within w in record { printed = k.printed; noted = k.noted };
  bounded = (at (turns i d s)).bounded;
  runs_code = (at (turns i d s)).runs_code;
}
  where
    at : (b : Bool) → Goes s (if b then with_event (Turned i) s else s)
    at true = event_goes (Turned i) s
    at false = untold s s (later_steps.same s) refl refl refl refl refl

pub goes_steps : Steps Goes
goes_steps = record {
  same = λ s. untold s s (later_steps.same s) refl refl refl refl refl;
  and_then = goes_trans;
  turns = λ n s. taken s.counts.expansion n s (later_steps.turns n s);
  cells = λ n m s h. untold s _ (later_steps.cells n m s h) refl refl refl (ap is_some h) refl;
  expansion_cells = λ n e s h. untold s _ (later_steps.expansion_cells n e s h) refl refl refl refl refl;
  opened = λ f s. untold s _ (later_steps.opened f s) refl refl refl refl refl;
  closed = λ f s t h. record {
    later = later_steps.closed f s t h.later;
    within = λ w. let k = h.within (record { printed = w.printed; noted = w.noted }) in record { printed = k.printed; noted = k.noted };
    bounded = h.bounded;
    runs_code = h.runs_code;
  };
  made = λ o s. untold s _ (later_steps.made o s) refl refl refl refl refl;
  fresh = λ r o s t h le. record {
    later = later_steps.fresh r o s t h.later le;
    within = λ w. let k = h.within w in record { printed = k.printed; noted = k.noted };
    bounded = h.bounded;
    runs_code = h.runs_code;
  };
  noted = λ v s. noted_goes v s (later_steps.noted v s);
  changed = λ v o s. changed_goes v o s (later_steps.changed v o s);
  grows = λ s t h. h.later.objects;
  named = λ name interned s. untold s _ (later_steps.named name interned s) refl refl refl refl refl;
  symbol = λ i symbol s e. untold s _ (later_steps.symbol i symbol s e) refl refl refl refl refl;
  definition = definition_goes;
  function = λ f s. untold s _ (later_steps.function f s) refl refl refl refl refl;
  pushed = λ e s. untold s _ (later_steps.pushed e s) refl refl refl refl refl;
  valued = λ x v s. untold s _ (later_steps.valued x v s) refl refl refl refl refl;
  oldest = λ r s t h k. goes_trans r t _ k (untold t _ (later_steps.freed tt _ t) refl refl refl refl refl);
  freed = λ may entries s. untold s _ (later_steps.freed may entries s) refl refl refl refl refl;
  gensyms = λ n s. untold s _ (later_steps.gensyms n s) refl refl refl refl refl;
  event = event_goes;
  input = λ rest s. untold s _ (later_steps.input rest s) refl refl refl refl refl;
  line_length = λ n s. untold s _ (later_steps.line_length n s) refl refl refl refl refl;
}

pub goes_prints : Prints Goes
goes_prints = record {
  printed = λ page s more. let le : length s.outside.output ≤ length page.text = more_length _ _ more in record {
    later = later_prints.printed page s more;
    within = λ w. record { printed = λ r e. omega (arith, le, w.printed r e); noted = w.noted };
    bounded = refl;
    runs_code = refl;
  };
  note_ = λ line s. let l : Later s (note line s) = later_prints.note_ line s in let le : length s.outside.notes ≤ length (note line s).outside.notes = more_length _ _ l.notes in record {
    later = l;
    within = λ w. record { printed = w.printed; noted = λ r e. omega (arith, le, w.noted r e) };
    bounded = refl;
    runs_code = refl;
  };
}
