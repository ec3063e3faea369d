-- A walk along a list, pair by pair, whatever each visit does and whatever follows.
use Rattle.std.proofs.Common.{◌≡◌, Option, Some, None, refl, sym, ap, ◌∙◌}
use Rattle.rl_tags.specs.Tagged.{Tagged}
use Rattle.rl_tree.specs.Value.{Value}
use Rattle.rl_world.specs.declared.stop.Stop as stops
use Rattle.rl_world.specs.declared.world.World.{World}
use Rattle.rl_syms.specs.Contents.{value_of}
use Rattle.rl_meaning.specs.State.{State}
use Rattle.rl_meaning.specs.Outcome.{Outcome, Done, Stop, then_do, turn}
use Rattle.rl_meaning.specs.Symbols.{pair_at}
use Rattle.rl_meaning.specs.Constants.{reading_object}
use Rattle.rl_meaning.specs.Walks.{Further, Goes, Ends, Walked, walk, walk_on}
use Rattle.rl_meaning.specs.WalkLaws.{AreWalksUnbounded, GivesNoTurnsBack}
use Rattle.rl_state.specs.ShownState.{ShowsState}
use Rattle.rl_state.specs.Ending.{EndsShown, StopsWith, parts_in, stop_in}
use Rattle.rl_state.specs.StepLaws.{StepsFollow}
use Rattle.rl_std.proofs.Coming.{goes_on, retold, stops_on, stops_then}
use Rattle.rl_std.proofs.Turning.{TakesTurn, WantsTurn, after_turn, no_turn_left, then_turned}

-- what the clause of `parts` says
abbrev pub HasParts : World → Tagged → Option (Tagged × Tagged) → Type 0
HasParts w at p = (t : State) → ShowsState w t → pair_at t (value_of w.cells.cells at) ≡ parts_in w.cells.cells p

module _ {A B : Type 0} (visit : A → Value → Value → State → Outcome (Further A)) (next : Walked A → State → Outcome B) where
  -- what is left where the walk has come to a value with this
  abbrev pub walking : A → Value → State → Outcome B
  walking a v t = then_do (walk visit a v t) next

  -- and where it visits a pair
  abbrev pub visiting : A → Value → Value → Value → State → Outcome B
  visiting a v x d t = then_do (then_do (visit a v x t) (λ f u. walk_on visit (λ b rest u. walk visit b rest u) d f u)) next

  pair_walked : AreWalksUnbounded A → GivesNoTurnsBack visit → (a : A) (v x d : Value) (t : State) → pair_at t v ≡ Some (x, d) → walking a v t ≡ turn t (λ t. visiting a v x d (reading_object v t))
  pair_walked law gives a v x d t e =
      ap (λ o. then_do o next) (law.pair visit gives a v t (x, d) e)
      ∙ then_turned t (λ t. then_do (visit a v x (reading_object v t)) (λ f u. walk_on visit (λ b rest u. walk visit b rest u) d f u)) next

  -- a pair takes a turn
  pub reaches_pair : StepsFollow → AreWalksUnbounded A → GivesNoTurnsBack visit → (s : State) (o : Outcome B) (w x : World) (a : A) (at : Tagged) (p : Tagged × Tagged) → EndsShown s o (walking a (value_of w.cells.cells at)) w
      → HasParts w at (Some p) → TakesTurn w x → EndsShown s o (visiting a (value_of w.cells.cells at) (value_of w.cells.cells p.0) (value_of w.cells.cells p.1)) x
  reaches_pair follow law gives s o w x a at p k parts takes =
      let v = value_of w.cells.cells at in
      let e = value_of w.cells.cells p.0 in
      let d = value_of w.cells.cells p.1 in
      let read : State → Outcome B = λ t. visiting a v e d (reading_object v t) in
      goes_on follow s o read (visiting a v e d) x x
      (after_turn follow s o read w x (retold s o (walking a v) (λ t. turn t read) w k (λ t shown. pair_walked law gives a v e d t (parts t shown))) takes)
      (λ t shown. record { state = reading_object v t; is = refl; good = follow.reading x v t shown })

  pub wants_turn : StepsFollow → AreWalksUnbounded A → GivesNoTurnsBack visit → (s : State) (o : Outcome B) (w x : World) (a : A) (at : Tagged) (p : Tagged × Tagged) (why : stops.Stop) → EndsShown s o (walking a (value_of w.cells.cells at)) w
      → HasParts w at (Some p) → WantsTurn w why x → StopsWith s o (stop_in x.cells.cells why)
  wants_turn follow law gives s o w x a at p why k parts wants =
      let v = value_of w.cells.cells at in
      let e = value_of w.cells.cells p.0 in
      let d = value_of w.cells.cells p.1 in
      let read : State → Outcome B = λ t. visiting a v e d (reading_object v t) in
      no_turn_left follow s o read why w x (retold s o (walking a v) (λ t. turn t read) w k (λ t shown. pair_walked law gives a v e d t (parts t shown))) wants

  -- the visit goes on, or ends the walk, or stops
  pub passes_pair : StepsFollow → AreWalksUnbounded A → GivesNoTurnsBack visit → (s : State) (o : Outcome B) (w x y : World) (a b : A) (at : Tagged) (p : Tagged × Tagged) → EndsShown s o (walking a (value_of w.cells.cells at)) w
      → HasParts w at (Some p) → TakesTurn w x
      → ((t : State) → ShowsState x t → EndsShown t (visit a (value_of w.cells.cells at) (value_of w.cells.cells p.0) t) (λ u. Done (Goes b) u) y)
      → value_of y.cells.cells p.1 ≡ value_of w.cells.cells p.1 → EndsShown s o (walking b (value_of y.cells.cells p.1)) y
  passes_pair follow law gives s o w x y a b at p k parts takes visited same =
      let v = value_of w.cells.cells at in
      let e = value_of w.cells.cells p.0 in
      let d = value_of w.cells.cells p.1 in
      goes_on follow s o (visiting a v e d) (walking b (value_of y.cells.cells p.1)) x y (reaches_pair follow law gives s o w x a at p k parts takes) (λ t shown.
      let r = visited t shown in
      record {
        state = r.state;
        is = ap (λ (o : Outcome (Further A)). then_do (then_do o (λ f u. walk_on visit (λ b rest u. walk visit b rest u) d f u)) next) r.is ∙ ap (λ z. walking b z r.state) (sym same);
        good = r.good;
      })

  pub ends_at_pair : StepsFollow → AreWalksUnbounded A → GivesNoTurnsBack visit → (s : State) (o : Outcome B) (w x y : World) (a b : A) (at : Tagged) (p : Tagged × Tagged) → EndsShown s o (walking a (value_of w.cells.cells at)) w
      → HasParts w at (Some p) → TakesTurn w x
      → ((t : State) → ShowsState x t → EndsShown t (visit a (value_of w.cells.cells at) (value_of w.cells.cells p.0) t) (λ u. Done (Ends b) u) y)
      → EndsShown s o (next (record { result = b; end = None })) y
  ends_at_pair follow law gives s o w x y a b at p k parts takes visited =
      let v = value_of w.cells.cells at in
      let e = value_of w.cells.cells p.0 in
      let d = value_of w.cells.cells p.1 in
      goes_on follow s o (visiting a v e d) (next (record { result = b; end = None })) x y (reaches_pair follow law gives s o w x a at p k parts takes) (λ t shown.
      let r = visited t shown in
      record { state = r.state; is = ap (λ (o : Outcome (Further A)). then_do (then_do o (λ f u. walk_on visit (λ b rest u. walk visit b rest u) d f u)) next) r.is; good = r.good })

  pub stops_at_pair : StepsFollow → AreWalksUnbounded A → GivesNoTurnsBack visit → (s : State) (o : Outcome B) (w x : World) (a : A) (at : Tagged) (p : Tagged × Tagged) (why : Stop) → EndsShown s o (walking a (value_of w.cells.cells at)) w
      → HasParts w at (Some p) → TakesTurn w x
      → ((t : State) → ShowsState x t → StopsWith t (visit a (value_of w.cells.cells at) (value_of w.cells.cells p.0) t) why) → StopsWith s o why
  stops_at_pair follow law gives s o w x a at p why k parts takes visited =
      let v = value_of w.cells.cells at in
      let e = value_of w.cells.cells p.0 in
      let d = value_of w.cells.cells p.1 in
      stops_on follow s o (visiting a v e d) why x (reaches_pair follow law gives s o w x a at p k parts takes) (λ t shown.
      stops_then t (then_do (visit a v e t) (λ f u. walk_on visit (λ b rest u. walk visit b rest u) d f u)) next why (stops_then t (visit a v e t) _ why (visited t shown)))

  -- the end of the list
  pub walk_is_over : AreWalksUnbounded A → (s : State) (o : Outcome B) (w : World) (a : A) (at : Tagged) → EndsShown s o (walking a (value_of w.cells.cells at)) w
      → HasParts w at None → EndsShown s o (next (record { result = a; end = Some (value_of w.cells.cells at) })) w
  walk_is_over law s o w a at k parts = retold s o (walking a (value_of w.cells.cells at)) (next (record { result = a; end = Some (value_of w.cells.cells at) })) w k
      (λ t shown. ap (λ o. then_do o next) (law.atom visit a (value_of w.cells.cells at) t (parts t shown)))
