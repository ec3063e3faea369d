-- What prints nothing leaves what was printed and noted as it was: an instance of the law on one run.
use Rattle.std.proofs.Common.{◌≡◌, ◌∙◌, ◌≤◌, ℕ, Bool, true, false, ◌∷◌, [], length, Option, Some, None, if◌then◌else◌, refl, arith, length-append}
use Rattle.rl_tree.specs.Value.{Value, Int, Id, Str, Ref, Fun, Object}
use Rattle.rl_meaning.specs.State.{State, Expansion, Definition, Turned}
use Rattle.rl_meaning.specs.Constants.{changing}
use Rattle.rl_meaning.specs.Copying.{with_object}
use Rattle.rl_meaning.specs.Events.{with_event}
use Rattle.rl_meaning.specs.Reach.{turns}
use Rattle.rl_meaning.specs.Definitions.{with_definition}
use Rattle.rl_meaning.specs.Printing.{turns_taken}
use Rattle.rl_meaning.specs.Evaluation.{with_expansion}
use Rattle.rl_agrees.proofs.OneRun.{Steps}
use Rattle.rl_agrees.proofs.TwoRunsLinked.{length_set}

-- output and notes are as they were
pub record Quiet (s t : State) : Type 0 where
  pub output : t.outside.output ≡ s.outside.output
  pub notes : t.outside.notes ≡ s.outside.notes
  pub objects : length s.store ≤ length t.store

quiet_then : (s t u : State) → Quiet s t → Quiet t u → Quiet s u
quiet_then s t u h k = record { output = k.output ∙ h.output; notes = k.notes ∙ h.notes; objects = omega (arith, h.objects, k.objects) }

-- where outside and store are the same
untold : (s t : State) → t.outside ≡ s.outside → t.store ≡ s.store → Quiet s t
untold s t e f = record { output = λ i. (e i).output; notes = λ i. (e i).notes; objects = let l : length t.store ≡ length s.store = λ i. length (f i) in omega (arith, l) }

set_quiet : (s : State) (r : ℕ) (o : Object) → Quiet s (with_object (Ref r) o s)
set_quiet s r o = record { output = refl; notes = refl; objects = omega (arith, length_set s.store r o) }

changed_quiet : (v : Value) (o : Object) (s : State) → Quiet s (changing v (with_object v o s))
changed_quiet (Ref r) o s = record { output = refl; notes = refl; objects = omega (arith, length_set s.store r o) }
changed_quiet (Int z) o s = untold s s refl refl
changed_quiet (Id i) o s = untold s s refl refl
changed_quiet (Str bytes) o s = untold s s refl refl
changed_quiet (Fun f place) o s = untold s s refl refl

noted_quiet : (v : Value) (s : State) → Quiet s (changing v s)
noted_quiet (Ref r) s = untold s (changing (Ref r) s) refl refl
noted_quiet (Int z) s = untold s s refl refl
noted_quiet (Id i) s = untold s s refl refl
noted_quiet (Str bytes) s = untold s s refl refl
noted_quiet (Fun f place) s = untold s s refl refl

turns_quiet : (o : Option Expansion) (n : ℕ) (s : State) → Quiet s (turns_taken o n s)
turns_quiet None n s = untold s _ refl refl
turns_quiet (Some e) n s = untold s _ refl refl

definition_quiet : (i : ℕ) (d : Option Definition) (s : State) → Quiet s (with_definition i d s)
definition_quiet i d s = record { output = (at (turns i d s)).output; notes = (at (turns i d s)).notes; objects = (at (turns i d s)).objects }
  where
    at : (b : Bool) → Quiet s (if b then with_event (Turned i) s else s)
    at true = untold s (with_event (Turned i) s) refl refl
    at false = untold s s refl refl

pub quiet_steps : Steps Quiet
quiet_steps = record {
  same = λ s. untold s s refl refl;
  and_then = quiet_then;
  turns = λ n s. turns_quiet s.counts.expansion n s;
  cells = λ n m s h. untold s _ refl refl;
  expansion_cells = λ n e s h. untold s _ refl refl;
  opened = λ f s. untold s (with_expansion f s) refl refl;
  closed = λ f s t h. record { output = h.output; notes = h.notes; objects = h.objects };
  made = λ o s. record { output = refl; notes = refl; objects = omega (arith, length-append s.store (o ∷ [])) };
  fresh = λ r o s t h le. quiet_then s t (with_object (Ref r) o t) h (set_quiet t r o);
  noted = noted_quiet;
  changed = changed_quiet;
  grows = λ s t h. h.objects;
  named = λ name interned s. untold s _ refl refl;
  symbol = λ i symbol s e. untold s _ refl refl;
  definition = definition_quiet;
  function = λ f s. untold s _ refl refl;
  pushed = λ e s. untold s _ refl refl;
  valued = λ x v s. untold s _ refl refl;
  oldest = λ r s t h k. quiet_then r t _ k (untold t _ refl refl);
  freed = λ may entries s. untold s _ refl refl;
  gensyms = λ n s. untold s _ refl refl;
  event = λ e s. untold s (with_event e s) refl refl;
  input = λ rest s. record { output = refl; notes = refl; objects = omega arith };
  line_length = λ n s. record { output = refl; notes = refl; objects = omega arith };
}
