-- A walk along a list, pair by pair, whatever each visit does and whatever is known of the states on the way.
use Rattle.std.proofs.Common.{◌≡◌, ℕ, zero, suc, Option, Some, None, refl, ap, ◌∙◌, arith}
use Rattle.std.specs.Prelude.{◌≤◌}
use Rattle.rl_tree.specs.Value.{Value}
use Rattle.rl_meaning.specs.State.{State, Expansion}
use Rattle.rl_meaning.specs.Outcome.{Outcome, Done, Failed, Stop, Stopped, expansion_turn, run_turn, then_do, turn, turn_of, turns_left, turns_of}
use Rattle.rl_meaning.specs.Symbols.{pair_at}
use Rattle.rl_meaning.specs.Constants.{reading_object}
use Rattle.rl_meaning.specs.Walks.{Ends, Further, Goes, Walked, walk, walk_on, walk_pair, walk_within}
use Rattle.rl_meaning.specs.WalkLaws.{AreWalksUnbounded, GivesNoTurnsBack, LeavesAtMost}
use Rattle.rl_state.specs.Ending.{Reaches}

turn_then : {A : Type 0} (s : State) (next : State → Outcome A) → turn s next ≡ then_do (turn s (λ t. Done (tt {0}) t)) (λ u t. next t)
turn_then {A} s next = go s.counts.expansion
  where
    run : (n : ℕ) → run_turn n s next ≡ then_do (run_turn n s (λ t. Done (tt {0}) t)) (λ u t. next t)
    run zero = refl
    run (suc n) = refl

    expanding : (n : ℕ) (e : Expansion) → expansion_turn n e s next ≡ then_do (expansion_turn n e s (λ t. Done (tt {0}) t)) (λ u t. next t)
    expanding zero e = refl
    expanding (suc n) e = refl

    go : (e : Option Expansion) → turn_of e s next ≡ then_do (turn_of e s (λ t. Done (tt {0}) t)) (λ u t. next t)
    go None = run s.counts.turns
    go (Some e) = expanding e.turns e

module _ {A : Type 0} (visit : A → Value → Value → State → Outcome (Further A)) where
  abbrev pub walking_on : Value → Further A → State → Outcome (Walked A)
  walking_on rest next u = walk_on visit (λ b rest u. walk visit b rest u) rest next u

  -- the walk has come to a value with this
  pub record Walking (good : State → Type 0) (o : Outcome (Walked A)) (a : A) (v : Value) : Type 0 where
    pub state : State
    pub holds : good state
    pub goes : o ≡ walk visit a v state

  -- it has taken the turn of a pair, and visits it
  pub record Visiting (good : State → Type 0) (o : Outcome (Walked A)) (a : A) (v : Value) (parts : Value × Value) : Type 0 where
    pub state : State
    pub holds : good state
    pub goes : o ≡ then_do (visit a v parts.0 (reading_object v state)) (walking_on parts.1)

  pub begins_walk : (good : State → Type 0) (s : State) (a : A) (v : Value) → good s → Walking good (walk visit a v s) a v
  begins_walk good s a v h = record { state = s; holds = h; goes = refl }

  pub takes_turn : AreWalksUnbounded A → GivesNoTurnsBack visit → (good mid : State → Type 0) (o : Outcome (Walked A)) (a : A) (v : Value) (parts : Value × Value) → Walking good o a v
      → ((t : State) → good t → pair_at t v ≡ Some parts) → ((t : State) → good t → Reaches mid (turn t (λ t. Done (tt {0}) t)) (λ t. Done (tt {0}) t)) → Visiting mid o a v parts
  takes_turn law gives good mid o a v parts k is takes =
      let t = takes k.state k.holds in
      record {
        state = t.state;
        holds = t.good;
        goes = k.goes ∙ law.pair visit gives a v k.state parts (is k.state k.holds)
            ∙ turn_then k.state (λ t. then_do (visit a v parts.0 (reading_object v t)) (walking_on parts.1))
            ∙ ap (λ (o : Outcome (Unit {0})). then_do o (λ u t. then_do (visit a v parts.0 (reading_object v t)) (walking_on parts.1))) t.is;
      }

  -- a turn is wanting
  pub wants_turn : AreWalksUnbounded A → GivesNoTurnsBack visit → (good end : State → Type 0) (o : Outcome (Walked A)) (a : A) (v : Value) (parts : Value × Value) (why : Stop) → Walking good o a v
      → ((t : State) → good t → pair_at t v ≡ Some parts) → ((t : State) → good t → Reaches end (turn t (λ t. Done (tt {0}) t)) (λ t. Stopped why t)) → Reaches end o (λ t. Stopped why t)
  wants_turn law gives good end o a v parts why k is takes =
      let t = takes k.state k.holds in
      record {
        state = t.state;
        good = t.good;
        is = k.goes ∙ law.pair visit gives a v k.state parts (is k.state k.holds)
            ∙ turn_then k.state (λ t. then_do (visit a v parts.0 (reading_object v t)) (walking_on parts.1))
            ∙ ap (λ (o : Outcome (Unit {0})). then_do o (λ u t. then_do (visit a v parts.0 (reading_object v t)) (walking_on parts.1))) t.is;
      }

  -- the visit goes on, ends the walk, stops, or fails
  pub goes_on : (mid good : State → Type 0) (o : Outcome (Walked A)) (a b : A) (v : Value) (parts : Value × Value) → Visiting mid o a v parts
      → ((t : State) → mid t → Reaches good (visit a v parts.0 (reading_object v t)) (λ u. Done (Goes b) u)) → Walking good o b parts.1
  goes_on mid good o a b v parts k visits =
      let r = visits k.state k.holds in
      record { state = r.state; holds = r.good; goes = k.goes ∙ ap (λ (o : Outcome (Further A)). then_do o (walking_on parts.1)) r.is }

  pub ends_so : (mid good : State → Type 0) (o : Outcome (Walked A)) (a b : A) (v : Value) (parts : Value × Value) → Visiting mid o a v parts
      → ((t : State) → mid t → Reaches good (visit a v parts.0 (reading_object v t)) (λ u. Done (Ends b) u)) → Reaches good o (λ u. Done (record { result = b; end = None }) u)
  ends_so mid good o a b v parts k visits =
      let r = visits k.state k.holds in
      record { state = r.state; good = r.good; is = k.goes ∙ ap (λ (o : Outcome (Further A)). then_do o (walking_on parts.1)) r.is }

  pub stops_so : (mid good : State → Type 0) (o : Outcome (Walked A)) (a : A) (v : Value) (parts : Value × Value) (why : Stop) → Visiting mid o a v parts
      → ((t : State) → mid t → Reaches good (visit a v parts.0 (reading_object v t)) (λ u. Stopped why u)) → Reaches good o (λ u. Stopped why u)
  stops_so mid good o a v parts why k visits =
      let r = visits k.state k.holds in
      record { state = r.state; good = r.good; is = k.goes ∙ ap (λ (o : Outcome (Further A)). then_do o (walking_on parts.1)) r.is }

  -- the end of the list
  pub comes_to_end : AreWalksUnbounded A → (good : State → Type 0) (o : Outcome (Walked A)) (a : A) (v : Value) → Walking good o a v → ((t : State) → good t → pair_at t v ≡ None)
      → Reaches good o (λ t. Done (record { result = a; end = Some v }) t)
  comes_to_end law good o a v k is = record { state = k.state; good = k.holds; is = k.goes ∙ law.atom visit a v k.state (is k.state k.holds) }
