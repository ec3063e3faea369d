-- Making objects, reading them and raising errors keep a law on one run.
use Rattle.std.proofs.Common.{◌≤◌, ℕ, ℤ, Bool, true, false, List, [], ◌∷◌, ◌++◌, length, Option, Some, None, refl}
use Rattle.std.specs.List.{list_any}
use Rattle.rl_tree.specs.Value.{Value, Int, Id, Str, Ref, Fun, Object}
use Rattle.rl_tree.specs.Value as object
use Rattle.rl_tree.specs.Name.{Name}
use Rattle.rl_meaning.specs.State.{State, Expansion, Event, Turned}
use Rattle.rl_meaning.specs.Outcome.{Done, made_pair, made_string, made_vector, made_symbol}
use Rattle.rl_meaning.specs.Symbols.{nil_value_of_state, new_symbol, with_top, interned_at, interned, pair_at}
use Rattle.rl_meaning.specs.Errors.{raise, fail}
use Rattle.rl_meaning.specs.Events.{with_recorded, with_event}
use Rattle.rl_meaning.specs.Constants.{changing, met, event_read, objects_read, reading_object, reading_pair, reading_whole, is_changed_constant}
use Rattle.rl_meaning.specs.Copying.{with_object}
use Rattle.rl_meaning.specs.Lists.{cdr_set, Chain, pair_hung, list_extended, list_ended, made_list}
use Rattle.rl_meaning.specs.Evaluation.{Position}
use Rattle.rl_agrees.proofs.OneRun.{StepsAt, IsBehind, LeadsAt, Makes, then_makes, then_with, room_makes, follows_then, done_leads, failed_leads, stopped_leads, then_leads, choose_leads, turn_leads, deeper_leads, descends_leads, pair_turn_leads, room_leads}

module _ {freely : Bool} {P : State → State → Type 0} (steps : StepsAt freely P) {r : State} where
  pub made_follows : (o : Object) (s : State) → IsBehind P r s → IsBehind P r (record s { store = s.store ++ o ∷ [] })
  made_follows o s h = follows_then steps r s _ h (steps.made o s)

  pub named_follows : (name : Name) (interned : Bool) (s : State) → IsBehind P r s → IsBehind P r (record s { symbols = s.symbols ++ new_symbol name interned ∷ [] })
  named_follows name interned s h = follows_then steps r s _ h (steps.named name interned s)

  pub top_follows : (i : ℕ) (v : Value) (s : State) → IsBehind P r s → IsBehind P r (with_top i v s)
  top_follows i v s h = follows_then steps r s _ h (steps.symbol i _ s refl)

  pub event_follows : (e : Event) (s : State) → IsBehind P r s → IsBehind P r (with_event e s)
  event_follows e s h = follows_then steps r s _ h (steps.event e s)

  pub met_follows : (b : Bool) (macro : ℕ) (s : State) → IsBehind P r s → IsBehind P r (with_recorded (met b macro s) s)
  met_follows true macro s h = event_follows (Turned macro) s h
  met_follows false macro s h = h

  pub read_follows : (o : Option Expansion) (rs : List ℕ) (s : State) → IsBehind P r s → IsBehind P r (with_recorded (event_read o rs s) s)
  read_follows None rs s h = h
  read_follows (Some e) rs s h = met_follows (list_any (λ r. is_changed_constant s r) rs) e.macro s h

  pub objects_read_follows : (rs : List ℕ) (s : State) → IsBehind P r s → IsBehind P r (objects_read rs s)
  objects_read_follows rs s h = read_follows s.counts.expansion rs s h

  pub reading_follows : (v : Value) (s : State) → IsBehind P r s → IsBehind P r (reading_object v s)
  reading_follows v s h = objects_read_follows _ s h

  pub reading_pair_follows : (v : Value) (s : State) → IsBehind P r s → IsBehind P r (reading_pair v s)
  reading_pair_follows v s h = objects_read_follows _ s h

  pub reading_whole_follows : (v : Value) (s : State) → IsBehind P r s → IsBehind P r (reading_whole v s)
  reading_whole_follows v s h = objects_read_follows _ s h

  pub noted_follows : (v : Value) (s : State) → IsBehind P r s → IsBehind P r (changing v s)
  noted_follows v s h = follows_then steps r s _ h (steps.noted v s)

  pub changed_follows : (v : Value) (o : Object) (s : State) → IsBehind P r s → IsBehind P r (changing v (with_object v o s))
  changed_follows v o s h = follows_then steps r s _ h (steps.changed v o s)

-- what outcomes are made of
pub ruleset ways = (done_leads, failed_leads, stopped_leads, then_leads, choose_leads, turn_leads, deeper_leads, descends_leads, pair_turn_leads, room_leads)

module _ {freely : Bool} {P : State → State → Type 0} (steps : StepsAt freely P) {position : Position} {r : State} where
  pub pair_leads : (a d : Value) (s : State) → IsBehind P r s → LeadsAt P position r (made_pair a d s)
  pair_leads a d s h = search (ways, made_follows)

  pub string_leads : (bytes : List ℕ) (s : State) → IsBehind P r s → LeadsAt P position r (made_string bytes s)
  string_leads bytes s h = search ways

  pub vector_leads : (elements : List Value) (s : State) → IsBehind P r s → LeadsAt P position r (made_vector elements s)
  vector_leads elements s h = search (ways, made_follows)

  pub symbol_leads : (name : Name) (interned : Bool) (s : State) → IsBehind P r s → LeadsAt P position r (made_symbol (new_symbol name interned) s)
  symbol_leads name interned s h = search (ways, named_follows)

  pub interned_at_leads : (o : Option ℕ) (name : Name) (s : State) → IsBehind P r s → LeadsAt P position r (interned_at o name s)
  interned_at_leads (Some i) name s h = search ways
  interned_at_leads None name s h = symbol_leads name true s h

  pub interned_leads : (name : Name) (s : State) → IsBehind P r s → LeadsAt P position r (interned name s)
  interned_leads name s h = interned_at_leads _ name s h

  pub raise_leads : {A : Type 0} (n : ℤ) (message : Value) (s : State) → IsBehind P r s → LeadsAt {A = A} P position r (raise n message s)
  raise_leads n message s h = search (ways, top_follows)

  pub fail_leads : {A : Type 0} (n : ℕ) (culprit : Value) (s : State) → IsBehind P r s → LeadsAt {A = A} P position r (fail n culprit s)
  fail_leads n culprit s h = search (ways, pair_leads, raise_leads)

-- what leads, by how it is made
pub ruleset leading = (ways, pair_leads, string_leads, vector_leads, symbol_leads, interned_leads, raise_leads, fail_leads, reading_follows, reading_pair_follows, reading_whole_follows, objects_read_follows)

-- ---- new pairs, and lists that are not whole yet

-- a new object, seen from a state; what is no object counts as one, since no change of it does anything
abbrev pub NewIs : State → Value → Type 0
NewIs r (Ref k) = length r.store ≤ k
NewIs r (Int z) = Unit {0}
NewIs r (Id i) = Unit {0}
NewIs r (Str bytes) = Unit {0}
NewIs r (Fun f place) = Unit {0}

pub record IsNew (r : State) (v : Value) : Type 0 where
  pub is : NewIs r v

-- the last pair is new
abbrev pub LastIs : State → Chain → Type 0
LastIs r None = Unit {0}
LastIs r (Some c) = IsNew r c.1

pub record Chained (r : State) (chain : Chain) : Type 0 where
  pub last : LastIs r chain

pub chained_none : (r : State) → Chained r None
chained_none r = record { last = tt }

module _ {freely : Bool} {P : State → State → Type 0} (steps : StepsAt freely P) {r : State} where
  pub fresh_follows : (v : Value) (o : Object) (s : State) → IsNew r v → IsBehind P r s → IsBehind P r (with_object v o s)
  fresh_follows (Ref k) o s new h = record { is = steps.fresh k o r s h.is new.is }
  fresh_follows (Int z) o s new h = h
  fresh_follows (Id i) o s new h = h
  fresh_follows (Str bytes) o s new h = h
  fresh_follows (Fun f place) o s new h = h

  pub cdr_set_follows : (p v : Value) (s : State) → IsNew r p → IsBehind P r s → IsBehind P r (cdr_set p v s)
  cdr_set_follows p v s new h = elim (pair_at s p) as (λ o. IsBehind P r (elim o as (λ (o : Option (Value × Value)). State) [ None ↦ s | Some parts ↦ with_object p (object.Pair parts.0 v) s ])) [
    | None ↦ h
    | Some parts ↦ fresh_follows p _ s new h
  ]

  -- and a change that is noted
  pub cdr_changed_follows : (p v : Value) (s : State) → IsBehind P r s → IsBehind P r (changing p (cdr_set p v s))
  cdr_changed_follows p v s h = elim (pair_at s p) as (λ o. IsBehind P r (changing p (elim o as (λ (o : Option (Value × Value)). State) [ None ↦ s | Some parts ↦ with_object p (object.Pair parts.0 v) s ]))) [
    | None ↦ noted_follows steps p s h
    | Some parts ↦ changed_follows steps p _ s h
  ]

module _ {freely : Bool} {P : State → State → Type 0} (steps : StepsAt freely P) {position : Position} {r : State} where
  pub pair_makes : (a d : Value) (s : State) → IsBehind P r s → Makes P position r (λ p t. IsNew r p) (made_pair a d s)
  pair_makes a d s h = room_makes steps _ 1 s _ h (λ t f. record { leads = done_leads _ _ (made_follows steps _ t f); good = record { is = steps.grows r t f.is } })

  pub hung_makes : (chain : Chain) (p : Value) (s : State) → Chained r chain → IsNew r p → IsBehind P r s → Makes P position r (λ c t. Chained r c) (let h = pair_hung chain p s in Done h.0 h.1)
  hung_makes None p s chained new h = record { leads = done_leads _ _ h; good = record { last = new } }
  hung_makes (Some c) p s chained new h = record { leads = done_leads _ _ (cdr_set_follows steps c.1 p s chained.last h); good = record { last = new } }

  pub extended_makes : (chain : Chain) (v : Value) (s : State) → Chained r chain → IsBehind P r s → Makes P position r (λ c t. Chained r c) (list_extended chain v s)
  extended_makes chain v s chained h = then_makes (λ p t. IsNew r p) _ _ _ (pair_makes v nil_value_of_state s h) (λ p t f new. hung_makes chain p t chained new f)

  pub ended_leads : (chain : Chain) (v : Value) (s : State) → Chained r chain → IsBehind P r s → LeadsAt P position r (list_ended chain v s)
  ended_leads None v s chained h = done_leads v s h
  ended_leads (Some c) v s chained h = done_leads c.0 _ (cdr_set_follows steps c.1 v s chained.last h)

  pub made_list_leads : (chain : Chain) (vs : List Value) (s : State) → Chained r chain → IsBehind P r s → LeadsAt P position r (made_list chain vs s)
  made_list_leads chain [] s chained h = ended_leads chain nil_value_of_state s chained h
  made_list_leads chain (v ∷ vs) s chained h = then_with (λ c t. Chained r c) _ _ (extended_makes chain v s chained h) (λ c t f good. made_list_leads c vs t good f)
