-- A later state is a law on one run.
use Rattle.std.proofs.Common.{◌≡◌, ◌≢◌, inl, inr, ◌≤◌, ◌<◌, ◌==◌, if◌then◌else◌, ℕ, Bool, true, false, List, [], ◌∷◌, ◌++◌, length, slice_get, Option, Some, None, refl, sym, ap, ◌∙◌, subst, arith}
use Rattle.std.specs.Prelude.{slice_set, slice_index_or}
use Rattle.std.proofs.lemmas.Bool.Decides.{eqb_tells}
use Rattle.std.proofs.lemmas.List.{length-set, length-append}
use Rattle.rl_tree.specs.Value.{Value, Int, Id, Str, Ref, Fun, Object}
use Rattle.rl_tree.specs.Printing.{Page}
use Rattle.rl_meaning.specs.State.{State, Symbol, Definition, Function, Expansion, Event, Recorded, Change, Coded, Turned, Watched, Compilation}
use Rattle.rl_meaning.specs.Symbols.{new_symbol, symbol_at, with_symbol}
use Rattle.rl_meaning.specs.Events.{first_event, with_event}
use Rattle.rl_meaning.specs.Constants.{changing, last_change_of}
use Rattle.rl_meaning.specs.Holding.{with_function}
use Rattle.rl_meaning.specs.Copying.{with_object}
use Rattle.rl_meaning.specs.Reach.{turns, with_change}
use Rattle.rl_meaning.specs.CodeInForce.{with_standing_codes}
use Rattle.rl_meaning.specs.Definitions.{with_definition}
use Rattle.rl_meaning.specs.Printing.{with_page, turns_taken, note}
use Rattle.rl_meaning.specs.Evaluation.{with_expansion, without_expansion}
use Rattle.rl_agrees.specs.Later.{IsMore, IsNoted, StaysOrNoted, NotedBefore, IsMemberOf, CodesStand, Later}
use Rattle.rl_agrees.proofs.OneRun.{Steps, Prints}
use Rattle.rl_agrees.proofs.OneRunPrinting.{more_same, more_behind, more_then}
use Rattle.rl_agrees.proofs.LaterLists.{get_appended, get_set_other, set_definition, appended_definition}
use Rattle.rl_agrees.proofs.LaterStands.{standing_fewer, standing_stand, SameDefinitions, all_stand_more}

-- ---- what does not change, or is changed and noted

pub more_length : {A : Type 0} (xs ys : List A) → IsMore xs ys → length xs ≤ length ys
more_length xs ys h = omega (arith, ap length h.is, length-append xs h.rest)

codes_more : (s t : State) → SameDefinitions s t → IsMore s.functions t.functions → t.compilation.coded ≡ s.compilation.coded → CodesStand s → CodesStand t
codes_more s t same more e stand c i = all_stand_more s t same more c.dependencies (stand c (subst (λ (cs : List Coded). IsMemberOf c cs) e i))

-- one state is as another but for what no law speaks of, for functions that are appended and for identifiers whose definitions stay
record IsSameButAppended (s t : State) : Type 0 where
  pub store : t.store ≡ s.store
  pub functions : IsMore s.functions t.functions
  pub definitions : SameDefinitions s t
  pub output : IsMore s.outside.output t.outside.output
  pub notes : IsMore s.outside.notes t.outside.notes
  pub changes : t.watched.changes ≡ s.watched.changes
  pub event : (r : Recorded) → s.watched.event ≡ Some r → t.watched.event ≡ Some r
  pub coded : t.compilation.coded ≡ s.compilation.coded

alike_later : (s t : State) → IsSameButAppended s t → Later s t
alike_later s t a = record {
  output = a.output;
  notes = a.notes;
  event = a.event;
  functions = a.functions;
  objects = omega (arith, ap length a.store);
  stay = λ r h. inl (ap (λ (xs : List Object). slice_get xs r) a.store);
  noted = λ r. inl (ap (λ (cs : List Change). last_change_of r cs) a.changes);
  fewer = λ c i. subst (λ (cs : List Coded). IsMemberOf c cs) a.coded i;
  stand = codes_more s t a.definitions a.functions a.coded;
}

same_later : (s : State) → Later s s
same_later s = alike_later s s (record {
  store = refl;
  functions = more_same s.functions;
  definitions = record { at = λ i. refl };
  output = more_same s.outside.output;
  notes = more_same s.outside.notes;
  changes = refl;
  event = λ r e. e;
  coded = refl;
})

-- of counts, of bindings, of the input and the like no law speaks
untold_later : (s t : State) → t.store ≡ s.store → t.functions ≡ s.functions → t.symbols ≡ s.symbols → t.outside.output ≡ s.outside.output → t.outside.notes ≡ s.outside.notes → t.watched ≡ s.watched → t.compilation ≡ s.compilation → Later s t
untold_later s t store functions symbols output notes watched compilation = alike_later s t (record {
  store = store;
  functions = subst (λ (fs : List Function). IsMore s.functions fs) (sym functions) (more_same s.functions);
  definitions = record { at = λ i. ap (λ (xs : List Symbol). (slice_index_or xs i (new_symbol [] false)).definition) symbols };
  output = subst (λ (bs : List ℕ). IsMore s.outside.output bs) (sym output) (more_same s.outside.output);
  notes = subst (λ (bs : List ℕ). IsMore s.outside.notes bs) (sym notes) (more_same s.outside.notes);
  changes = ap (λ (w : Watched). w.changes) watched;
  event = λ r e. ap (λ (w : Watched). w.event) watched ∙ e;
  coded = ap (λ (c : Compilation). c.coded) compilation;
})

-- ---- a preorder

pub noted_on : (s t u : State) (r : ℕ) → NotedBefore t u r → length s.functions ≤ length t.functions → IsNoted t r (length s.functions) → IsNoted u r (length s.functions)
noted_on s t u r (inl e) le k = record { functions = k.functions; last = e ∙ k.last; late = k.late }
noted_on s t u r (inr n) le k = record { functions = n.functions; last = n.last; late = omega (arith, n.late, le) }

stays_on : (s t u : State) (r : ℕ) → length s.functions ≤ length t.functions → NotedBefore t u r → StaysOrNoted s t r → StaysOrNoted t u r → StaysOrNoted s u r
stays_on s t u r le b (inl e) (inl k) = inl (k ∙ e)
stays_on s t u r le b (inl e) (inr n) = inr (record { functions = n.functions; last = n.last; late = omega (arith, n.late, le) })
stays_on s t u r le b (inr n) k = inr (noted_on s t u r b le n)

noted_before_on : (s t u : State) (r : ℕ) → length s.functions ≤ length t.functions → NotedBefore s t r → NotedBefore t u r → NotedBefore s u r
noted_before_on s t u r le (inl e) (inl k) = inl (k ∙ e)
noted_before_on s t u r le (inl e) (inr n) = inr (record { functions = n.functions; last = n.last; late = omega (arith, n.late, le) })
noted_before_on s t u r le (inr n) k = inr (noted_on s t u r k le n)

later_then : (s t u : State) → Later s t → Later t u → Later s u
later_then s t u h k =
    let le : length s.functions ≤ length t.functions = more_length s.functions t.functions h.functions in record {
      output = more_then _ _ _ h.output k.output;
      notes = more_then _ _ _ h.notes k.notes;
      event = λ r e. k.event r (h.event r e);
      functions = more_then _ _ _ h.functions k.functions;
      objects = omega (arith, h.objects, k.objects);
      stay = λ r l. stays_on s t u r le (k.noted r) (h.stay r l) (k.stay r (omega (arith, l, h.objects)));
      noted = λ r. noted_before_on s t u r le (h.noted r) (k.noted r);
      fewer = λ c i. h.fewer c (k.fewer c i);
      stand = λ stand. k.stand (h.stand stand);
    }

-- ---- objects

made_later : (o : Object) (s : State) → Later s (record s { store = s.store ++ o ∷ [] })
made_later o s = record {
  output = more_same s.outside.output;
  notes = more_same s.outside.notes;
  event = λ r e. e;
  functions = more_same s.functions;
  objects = omega (arith, length-append s.store (o ∷ []));
  stay = λ r h. inl (get_appended s.store (o ∷ []) r h);
  noted = λ r. inl refl;
  fewer = λ c i. i;
  stand = codes_more s (record s { store = s.store ++ o ∷ [] }) (record { at = λ i. refl }) (more_same s.functions) refl;
}

fresh_later : (r : ℕ) (o : Object) (s t : State) → Later s t → length s.store ≤ r → Later s (with_object (Ref r) o t)
fresh_later r o s t h le =
    let u : State = with_object (Ref r) o t in record {
      output = h.output;
      notes = h.notes;
      event = h.event;
      functions = h.functions;
      objects = omega (arith, h.objects, length-set t.store r o);
      stay = λ q l. stays q l (h.stay q l);
      noted = λ q. noted q (h.noted q);
      fewer = h.fewer;
      stand = λ stand. codes_more t u (record { at = λ i. refl }) (more_same t.functions) refl (h.stand stand);
    }
  where
    stays : (q : ℕ) → q < length s.store → StaysOrNoted s t q → StaysOrNoted s (with_object (Ref r) o t) q
    stays q l (inl e) = inl (get_set_other t.store r q o (λ e. absurd (omega (arith, e, l, le))) ∙ e)
    stays q l (inr n) = inr (record { functions = n.functions; last = n.last; late = n.late })

    noted : (q : ℕ) → NotedBefore s t q → NotedBefore s (with_object (Ref r) o t) q
    noted q (inl e) = inl e
    noted q (inr n) = inr (record { functions = n.functions; last = n.last; late = n.late })

-- the object that changes is noted, and the others are as they were
changed_later : (r : ℕ) (xs : List Object) (s : State) → length xs ≡ length s.store → ((q : ℕ) → r ≢ q → slice_get xs q ≡ slice_get s.store q) → Later s (changing (Ref r) (record s { store = xs }))
changed_later r xs s same others =
    let t : State = changing (Ref r) (record s { store = xs }) in record {
      output = more_same s.outside.output;
      notes = more_same s.outside.notes;
      event = λ r e. e;
      functions = more_same s.functions;
      objects = omega (arith, same);
      stay = λ q l. stays q;
      noted = λ q. noted q;
      fewer = λ c i. i;
      stand = codes_more s t (record { at = λ i. refl }) (more_same s.functions) refl;
    }
  where
    here : (q : ℕ) → (r == q) ≡ true → IsNoted (changing (Ref r) (record s { store = xs })) q (length s.functions)
    here q e = record { functions = length s.functions; last = ap (λ (b : Bool). if b then Some (length s.functions) else last_change_of q s.watched.changes) e; late = omega arith }

    stays : (q : ℕ) → StaysOrNoted s (changing (Ref r) (record s { store = xs })) q
    stays q = elim (eqb_tells r q) [
      | inl same ↦ inr (here q same.0)
      | inr other ↦ inl (others q other.1)
    ]

    noted : (q : ℕ) → NotedBefore s (changing (Ref r) (record s { store = xs })) q
    noted q = elim (eqb_tells r q) [
      | inl same ↦ inr (here q same.0)
      | inr other ↦ inl (ap (λ (b : Bool). if b then Some (length s.functions) else last_change_of q s.watched.changes) other.0)
    ]

noted_later : (v : Value) (s : State) → Later s (changing v s)
noted_later (Ref r) s = changed_later r s.store s refl (λ q e. refl)
noted_later (Int z) s = same_later s
noted_later (Id i) s = same_later s
noted_later (Str bytes) s = same_later s
noted_later (Fun f place) s = same_later s

object_later : (v : Value) (o : Object) (s : State) → Later s (changing v (with_object v o s))
object_later (Ref r) o s = changed_later r (slice_set s.store r o) s (length-set s.store r o) (λ q e. get_set_other s.store r q o e)
object_later (Int z) o s = same_later s
object_later (Id i) o s = same_later s
object_later (Str bytes) o s = same_later s
object_later (Fun f place) o s = same_later s

-- ---- events, identifiers and definitions

event_later : (e : Event) (s : State) → Later s (with_event e s)
event_later e s = alike_later s (with_event e s) (record {
  store = refl;
  functions = more_same s.functions;
  definitions = record { at = λ i. refl };
  output = more_same s.outside.output;
  notes = more_same s.outside.notes;
  changes = refl;
  event = λ r h. ap (λ (o : Option Recorded). first_event o e s) h;
  coded = refl;
})

symbols_later : (xs : List Symbol) (s : State) → SameDefinitions s (record s { symbols = xs }) → Later s (record s { symbols = xs })
symbols_later xs s same = alike_later s (record s { symbols = xs }) (record {
  store = refl;
  functions = more_same s.functions;
  definitions = same;
  output = more_same s.outside.output;
  notes = more_same s.outside.notes;
  changes = refl;
  event = λ r e. e;
  coded = refl;
})

function_later : (f : Function) (s : State) → Later s (with_function f s)
function_later f s = alike_later s (with_function f s) (record {
  store = refl;
  functions = more_behind s.functions s.functions (f ∷ []) (more_same s.functions);
  definitions = record { at = λ i. refl };
  output = more_same s.outside.output;
  notes = more_same s.outside.notes;
  changes = refl;
  event = λ r e. e;
  coded = refl;
})

-- behind a new definition of a name the codes that rest on it are gone
standing_later : (i : ℕ) (symbol : Symbol) (s : State) → Later s (with_standing_codes i (with_symbol i symbol s))
standing_later i symbol s =
    let u : State = with_symbol i symbol s in
    let t : State = with_standing_codes i u in record {
      output = more_same s.outside.output;
      notes = more_same s.outside.notes;
      event = λ r e. e;
      functions = more_same s.functions;
      objects = omega arith;
      stay = λ r h. inl refl;
      noted = λ r. inl refl;
      fewer = λ c k. standing_fewer u i s.compilation.coded c k;
      stand = λ stand c k. all_stand_more u t (record { at = λ i. refl }) (more_same s.functions) c.dependencies (standing_stand u i s.compilation.coded c k);
    }

change_later : (i : ℕ) (new : Option Definition) (s : State) → Later s (with_change i new s)
change_later i new s = at (turns i new s)
  where
    at : (b : Bool) → Later s (if b then with_event (Turned i) s else s)
    at true = event_later (Turned i) s
    at false = same_later s

definition_later : (i : ℕ) (d : Option Definition) (s : State) → Later s (with_definition i d s)
definition_later i d s = later_then s (with_change i d s) (with_definition i d s) (change_later i d s) (standing_later i (record (symbol_at s i) { definition = d }) (with_change i d s))

-- ---- the outside

page_later : (page : Page) (s : State) → IsMore s.outside.output page.text → Later s (with_page page s)
page_later page s more = alike_later s (with_page page s) (record {
  store = refl;
  functions = more_same s.functions;
  definitions = record { at = λ i. refl };
  output = more;
  notes = more_same s.outside.notes;
  changes = refl;
  event = λ r e. e;
  coded = refl;
})

note_later : (line : List ℕ) (s : State) → Later s (note line s)
note_later line s = alike_later s (note line s) (record {
  store = refl;
  functions = more_same s.functions;
  definitions = record { at = λ i. refl };
  output = more_same s.outside.output;
  notes = more_behind s.outside.notes s.outside.notes (line ++ 10 ∷ []) (more_same s.outside.notes);
  changes = refl;
  event = λ r e. e;
  coded = refl;
})

-- ---- all steps

turns_later : (n : ℕ) (s : State) (o : Option Expansion) → Later s (turns_taken o n s)
turns_later n s None = untold_later s _ refl refl refl refl refl refl refl
turns_later n s (Some e) = untold_later s _ refl refl refl refl refl refl refl

opened_later : (f : ℕ) (s : State) → Later s (with_expansion f s)
opened_later f s = untold_later s (with_expansion f s) refl refl refl refl refl refl refl

pub later_steps : Steps Later
later_steps = record {
  same = same_later;
  and_then = later_then;
  turns = λ n s. turns_later n s s.counts.expansion;
  cells = λ n m s h. untold_later s _ refl refl refl refl refl refl refl;
  expansion_cells = λ n e s h. untold_later s _ refl refl refl refl refl refl refl;
  opened = opened_later;
  closed = λ f s t h. later_then s t (without_expansion t) (later_then s (with_expansion f s) t (opened_later f s) h) (untold_later t (without_expansion t) refl refl refl refl refl refl refl);
  made = made_later;
  fresh = fresh_later;
  noted = noted_later;
  changed = object_later;
  grows = λ s t h. h.objects;
  named = λ name interned s. symbols_later _ s (record { at = λ j. appended_definition s.symbols j (new_symbol name interned) (new_symbol [] false) refl });
  symbol = λ i symbol s e. symbols_later _ s (record { at = λ j. set_definition s.symbols i j symbol (new_symbol [] false) e });
  definition = definition_later;
  function = function_later;
  pushed = λ e s. untold_later s _ refl refl refl refl refl refl refl;
  valued = λ x v s. untold_later s _ refl refl refl refl refl refl refl;
  oldest = λ r s t h k. later_then r t _ k (untold_later t _ refl refl refl refl refl refl refl);
  freed = λ may entries s. untold_later s _ refl refl refl refl refl refl refl;
  gensyms = λ n s. untold_later s _ refl refl refl refl refl refl refl;
  event = event_later;
  input = λ rest s. untold_later s _ refl refl refl refl refl refl refl;
  line_length = λ n s. untold_later s _ refl refl refl refl refl refl refl;
}

pub later_prints : Prints Later
later_prints = record { printed = page_later; note_ = note_later }
