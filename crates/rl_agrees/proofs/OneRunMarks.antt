-- Where no code runs, bindings and marks stay: an instance of the law on one run.
use Rattle.std.proofs.Common.{◌≡◌, ◌∙◌, ◌≤◌, ◌+◌, ◌-◌, ◌==◌, if◌then◌else◌, ℕ, Bool, true, false, List, [], ◌∷◌, ◌++◌, length, drop, Option, Some, None, refl, sym, ap, arith, append_assoc, length-append, length-set}
use Rattle.std.proofs.lemmas.List.{drop-append-le, drop-map, length-map}
use Rattle.rl_tree.specs.Value.{Value, Int, Id, Str, Ref, Fun, Object}
use Rattle.rl_meaning.specs.State.{State, Entry, Binding, Mark, Scope, Expansion, Definition, Turned}
use Rattle.rl_meaning.specs.Constants.{changing}
use Rattle.rl_meaning.specs.Copying.{with_object}
use Rattle.rl_meaning.specs.Events.{with_event}
use Rattle.rl_meaning.specs.Reach.{turns}
use Rattle.rl_meaning.specs.Variables.{with_nearest, with_oldest}
use Rattle.rl_meaning.specs.Definitions.{with_definition}
use Rattle.rl_meaning.specs.Printing.{turns_taken}
use Rattle.rl_meaning.specs.Evaluation.{Job}
use Rattle.rl_meaning.specs.Jobs.{job, the_compiler}
use Rattle.rl_meaning.specs.Opening.{state_of}
use Rattle.rl_agrees.specs.Later.{Later}
use Rattle.rl_agrees.specs.Heads.{IsWalk, outline, shape, IsBelow}
use Rattle.rl_agrees.proofs.OneRun.{StepsAt, Prints, ReadsLead}
use Rattle.rl_agrees.proofs.OneRunLater.{later_steps, later_prints}
use Rattle.rl_agrees.proofs.OneRunWalking.{Idles, walk_leads}

-- ---- entries below

below_same : (s t : State) → t.bindings ≡ s.bindings → IsBelow s t
below_same s t e = record { more = []; is = ap shape e }

below_then : (s t u : State) → IsBelow s t → IsBelow t u → IsBelow s u
below_then s t u h k = record { more = k.more ++ h.more; is = k.is ∙ (ap (λ (es : List Entry). k.more ++ es) h.is ∙ sym (append_assoc k.more h.more (shape s.bindings))) }

below_pushed : (e : Entry) (s : State) → IsBelow s (record s { bindings = e ∷ s.bindings })
below_pushed e s = record { more = outline e ∷ []; is = refl }

-- another value of a binding leaves its outline
same_outline : (b : Bool) (y : ℕ) (scope : Scope) (v w : Value) (entries others : List Entry) → shape others ≡ shape entries → shape (if b then Binding y scope v ∷ entries else Binding y scope w ∷ others) ≡ shape (Binding y scope w ∷ entries)
same_outline true y scope v w entries others h = refl
same_outline false y scope v w entries others h = ap (λ (es : List Entry). outline (Binding y scope w) ∷ es) h

valued_shape : (x : ℕ) (v : Value) (entries : List Entry) → shape (with_nearest x v entries) ≡ shape entries
valued_shape x v [] = refl
valued_shape x v (Mark f ∷ entries) = ap (λ (es : List Entry). Mark f ∷ es) (valued_shape x v entries)
valued_shape x v (Binding y scope w ∷ entries) = same_outline (x == y) y scope v w entries (with_nearest x v entries) (valued_shape x v entries)

-- a state has as many entries as one that it is behind, or more
pub below_length : (s t : State) → (h : IsBelow s t) → length t.bindings ≡ length h.more + length s.bindings
below_length s t h = omega (arith, ap length h.is, length-map t.bindings outline, length-map s.bindings outline, length-append h.more (shape s.bindings))

-- going back to no fewer entries than there were
below_oldest : (n : ℕ) (s t : State) → IsBelow s t → length s.bindings ≤ n → IsBelow s (with_oldest n t)
below_oldest n s t h le =
    let k : ℕ = length t.bindings - n in
    let short : k ≤ length h.more = omega (arith, below_length s t h, le) in
    record { more = drop k h.more; is = sym (drop-map outline k t.bindings) ∙ (ap (λ (es : List Entry). drop k es) h.is ∙ drop-append-le k h.more (shape s.bindings) short) }

-- ---- the instance

-- still no code runs, and the entries are below
pub record Walked (s t : State) : Type 0 where
  pub walks : t.compilation.runs_code ≡ false
  pub below : IsBelow s t

-- the store does not shrink, and where no code runs the entries stay
pub record Marks (s t : State) : Type 0 where
  pub objects : length s.store ≤ length t.store
  pub walked : s.compilation.runs_code ≡ false → Walked s t

-- where only these may change
untold : (s t : State) → Later s t → t.compilation.runs_code ≡ s.compilation.runs_code → t.bindings ≡ s.bindings → Marks s t
untold s t l e b = record { objects = l.objects; walked = λ w. record { walks = e ∙ w; below = below_same s t b } }

marks_then : (s t u : State) → Marks s t → Marks t u → Marks s u
marks_then s t u h k = record { objects = omega (arith, h.objects, k.objects); walked = λ w. let a : Walked s t = h.walked w in let b : Walked t u = k.walked a.walks in record { walks = b.walks; below = below_then s t u a.below b.below } }

marks_oldest : (r s t : State) → Marks r s → Marks r t → Marks r (with_oldest (length s.bindings) t)
marks_oldest r s t h k = record {
  objects = k.objects;
  walked = λ w. let a : Walked r s = h.walked w in let b : Walked r t = k.walked w in record {
    walks = b.walks;
    below = below_oldest (length s.bindings) r t b.below (omega (arith, below_length r s a.below));
  };
}

turns_marks : (o : Option Expansion) (n : ℕ) (s : State) → Later s (turns_taken o n s) → Marks s (turns_taken o n s)
turns_marks None n s l = untold s _ l refl refl
turns_marks (Some e) n s l = untold s _ l refl refl

noted_marks : (v : Value) (s : State) → Later s (changing v s) → Marks s (changing v s)
noted_marks (Ref r) s l = untold s _ l refl refl
noted_marks (Int z) s l = untold s _ l refl refl
noted_marks (Id i) s l = untold s _ l refl refl
noted_marks (Str bytes) s l = untold s _ l refl refl
noted_marks (Fun f place) s l = untold s _ l refl refl

changed_marks : (v : Value) (o : Object) (s : State) → Later s (changing v (with_object v o s)) → Marks s (changing v (with_object v o s))
changed_marks (Ref r) o s l = untold s _ l refl refl
changed_marks (Int z) o s l = untold s _ l refl refl
changed_marks (Id i) o s l = untold s _ l refl refl
changed_marks (Str bytes) o s l = untold s _ l refl refl
changed_marks (Fun f place) o s l = untold s _ l refl refl

-- what is as it was whether or not a definition turns
record Unturned (s t : State) : Type 0 where
  pub code : t.compilation.runs_code ≡ s.compilation.runs_code
  pub bindings : t.bindings ≡ s.bindings

definition_marks : (i : ℕ) (d : Option Definition) (s : State) → Later s (with_definition i d s) → Marks s (with_definition i d s)
definition_marks i d s l = untold s _ l (at (turns i d s)).code (at (turns i d s)).bindings
  where
    at : (b : Bool) → Unturned s (if b then with_event (Turned i) s else s)
    at true = record { code = refl; bindings = refl }
    at false = record { code = refl; bindings = refl }

pub marks_steps : StepsAt false Marks
marks_steps = record {
  same = λ s. untold s s (later_steps.same s) refl refl;
  and_then = marks_then;
  turns = λ n s. turns_marks s.counts.expansion n s (later_steps.turns n s);
  cells = λ n m s h. untold s _ (later_steps.cells n m s h) refl refl;
  expansion_cells = λ n e s h. untold s _ (later_steps.expansion_cells n e s h) refl refl;
  opened = λ f s. untold s _ (later_steps.opened f s) refl refl;
  closed = λ f s t h. record { objects = h.objects; walked = λ w. let a = h.walked w in record { walks = a.walks; below = record { more = a.below.more; is = a.below.is } } };
  made = λ o s. untold s _ (later_steps.made o s) refl refl;
  fresh = λ r o s t h le. marks_then s t (with_object (Ref r) o t) h (object r o t);
  noted = λ v s. noted_marks v s (later_steps.noted v s);
  changed = λ v o s. changed_marks v o s (later_steps.changed v o s);
  grows = λ s t h. h.objects;
  named = λ name interned s. untold s _ (later_steps.named name interned s) refl refl;
  symbol = λ i symbol s e. untold s _ (later_steps.symbol i symbol s e) refl refl;
  definition = λ i d s. definition_marks i d s (later_steps.definition i d s);
  function = λ f s. untold s _ (later_steps.function f s) refl refl;
  pushed = λ e s. record { objects = (later_steps.pushed e s).objects; walked = λ w. record { walks = w; below = below_pushed e s } };
  valued = λ x v s. record { objects = (later_steps.valued x v s).objects; walked = λ w. record { walks = w; below = record { more = []; is = valued_shape x v s.bindings } } };
  oldest = marks_oldest;
  freed = λ may entries s. absurd may;
  gensyms = λ n s. untold s _ (later_steps.gensyms n s) refl refl;
  event = λ e s. untold s _ (later_steps.event e s) refl refl;
  input = λ rest s. untold s _ (later_steps.input rest s) refl refl;
  line_length = λ n s. untold s _ (later_steps.line_length n s) refl refl;
}
  where
    object : (r : ℕ) (o : Object) (t : State) → Marks t (with_object (Ref r) o t)
    object r o t = record { objects = omega (arith, length-set t.store r o); walked = λ w. record { walks = w; below = below_same t _ refl } }

pub marks_prints : Prints Marks
marks_prints = record {
  printed = λ page s more. untold s _ (later_prints.printed page s more) refl refl;
  note_ = λ line s. untold s _ (later_prints.note_ line s) refl refl;
}

pub marks_idle : Idles Marks
marks_idle = record { idle = λ s t e l. record { objects = l.objects; walked = λ w. absurd (both (sym e ∙ w)) } }
  where
    both : true ≡ false → ⊥
    both e = absurd (cc)

pub job_below : ReadsLead Marks → ReadsLead Later → (j : Job) (s : State) → IsWalk j → s.compilation.runs_code ≡ false → IsBelow s (state_of (job the_compiler j s))
job_below reads later j s w e = ((walk_leads marks_steps marks_prints reads marks_idle later j s w).moves.walked e).below
