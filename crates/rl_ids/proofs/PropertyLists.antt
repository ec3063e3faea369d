-- A search along a property list.
use Rattle.std.proofs.Common.{◌≡◌, Bool, true, false, Option, Some, None, Ok, Err, refl, sym, ap, subst, ◌∙◌, arith}
use Rattle.rl_tags.specs.Tagged.{Tagged}
use Rattle.rl_tree.specs.Value.{Value}
use Rattle.rl_cells.specs.Cell.{CellStore}
use Rattle.rl_syms.specs.Contents.{value_of}
use Rattle.rl_world.specs.declared.stop.Stop as stops
use Rattle.rl_world.specs.declared.world.World.{World}
use Rattle.rl_meaning.specs.State.{State}
use Rattle.rl_meaning.specs.Constants.{reading_object}
use Rattle.rl_meaning.specs.Outcome.{Outcome, Done, then_do, turn}
use Rattle.rl_meaning.specs.Properties.{PropertyPlace, look_for, looked_at, nowhere}
use Rattle.rl_meaning.specs.Symbols.{pair_at}
use Rattle.rl_meaning.specs.Walks.{Further, Walked, walk}
use Rattle.rl_meaning.specs.WalkLaws.{AreWalksUnbounded, GivesNoTurnsBack}
use Rattle.rl_state.specs.Beside.{StaysBeside}
use Rattle.rl_state.specs.Ending.{IsShownBeside, MeansDone, Reaches, parts_in, stop_in}
use Rattle.rl_state.specs.ShownState.{ShowsState, option_value_in}
use Rattle.rl_state.specs.StepLaws.{StepsFollow}
use Rattle.rl_ids.specs.Elements.{MeansPlace, passes, place_shown}
use Rattle.rl_ids.specs.declared.elements.Wanted.{Wanted}
use Rattle.rl_ids.proofs.AlongLists.{Visiting, Walking, begins_walk, comes_to_end, ends_so, goes_on, takes_turn, wants_turn}
use Rattle.rl_ids.proofs.Following.{reach_weaker, shown_on, shown_reading}

abbrev pub looking : (State → Value → Bool) → PropertyPlace → Value → Value → State → Outcome (Further PropertyPlace)
looking test place pair x s = Done (looked_at (test s x) place pair) s

pub looking_gives : (test : State → Value → Bool) → GivesNoTurnsBack (looking test)
looking_gives test = record { leaves = λ place pair x s. omega arith }

abbrev pub so_far : Option Value → PropertyPlace
so_far before = record { before = before; at = None }

abbrev pub result_of : Walked PropertyPlace → State → Outcome PropertyPlace
result_of walked s = Done walked.result s

-- what the element at hand is found to be
looked : (law : StepsFollow) (test : State → Value → Bool) (w : World) (s : State) (place : PropertyPlace) (v x : Value) (b : Bool) → ((t : State) → ShowsState w t → test t x ≡ b)
    → (t : State) → IsShownBeside w s t → Reaches (IsShownBeside w s) (looking test place v x (reading_object v t)) (λ u. Done (looked_at b place v) u)
looked law test w s place v x b is t h =
    let r = shown_reading law w v s t h in
    record { state = reading_object v t; is = ap (λ b. Done (looked_at b place v) (reading_object v t)) (is (reading_object v t) r.shows); good = r }

module _ (w0 : World) (what : Wanted) (p : Tagged) (s : State) where
  abbrev pub test_for : State → Value → Bool
  test_for = passes what (value_of w0.cells.cells p)

  abbrev pub search_of : Tagged → Outcome (Walked PropertyPlace)
  search_of list = walk (looking test_for) nowhere (value_of w0.cells.cells list) s

  -- the search has come to a value behind this pair
  abbrev pub Looking : World → Outcome (Walked PropertyPlace) → Option Tagged → Tagged → Type 0
  Looking w o before at = Walking (looking test_for) (IsShownBeside w s) o (so_far (option_value_in w0.cells.cells before)) (value_of w0.cells.cells at)

  abbrev pub LookingAt : World → Outcome (Walked PropertyPlace) → Option Tagged → Tagged → Tagged × Tagged → Type 0
  LookingAt w o before at here = Visiting (looking test_for) (IsShownBeside w s) o (so_far (option_value_in w0.cells.cells before)) (value_of w0.cells.cells at) (value_of w0.cells.cells here.0, value_of w0.cells.cells here.1)

  parts_known : (w : World) (at : Tagged) (r : Option (Tagged × Tagged)) → w.cells ≡ w0.cells → ((t : State) → ShowsState w t → pair_at t (value_of w.cells.cells at) ≡ parts_in w.cells.cells r)
      → (t : State) → IsShownBeside w s t → pair_at t (value_of w0.cells.cells at) ≡ parts_in w0.cells.cells r
  parts_known w at r same is t h = subst (λ (c : CellStore). pair_at t (value_of c.cells at) ≡ parts_in c.cells r) same (is t h.shows)

  tested : (x : World) (v : Tagged) (b : Bool) → x.cells ≡ w0.cells → ((t : State) → ShowsState x t → passes what (value_of x.cells.cells p) t (value_of x.cells.cells v) ≡ b)
      → (t : State) → ShowsState x t → test_for t (value_of w0.cells.cells v) ≡ b
  tested x v b same is t h = subst (λ (c : CellStore). passes what (value_of c.cells p) t (value_of c.cells v) ≡ b) same (is t h)

  module _ (follow : StepsFollow) where
    pub begins_looking : (list : Tagged) → ShowsState w0 s → Looking w0 (search_of list) None list
    begins_looking list h = begins_walk (looking test_for) (IsShownBeside w0 s) s nowhere (value_of w0.cells.cells list) (follow.still w0 s h)

    pub looks_at : AreWalksUnbounded PropertyPlace → (o : Outcome (Walked PropertyPlace)) (w x : World) (before : Option Tagged) (at : Tagged) (here : Tagged × Tagged) → w.cells ≡ w0.cells → Looking w o before at
        → ((t : State) → ShowsState w t → pair_at t (value_of w.cells.cells at) ≡ parts_in w.cells.cells (Some here))
        → ((t : State) → ShowsState w t → MeansDone t (turn t (λ t. Done (tt {0}) t)) (Ok tt) x) → LookingAt x o before at here
    looks_at law o w x before at here same k is takes =
        takes_turn (looking test_for) law (looking_gives test_for) (IsShownBeside w s) (IsShownBeside x s) o (so_far (option_value_in w0.cells.cells before)) (value_of w0.cells.cells at) (value_of w0.cells.cells here.0, value_of w0.cells.cells here.1) k (parts_known w at (Some here) same is)
        (λ t h. reach_weaker (IsShownBeside x t) (IsShownBeside x s) (turn t (λ t. Done (tt {0}) t)) (λ t. Done (tt {0}) t) (λ u b. shown_on follow w x s t u h b) (takes t h.shows))

    pub looks_to_stop : AreWalksUnbounded PropertyPlace → (w x : World) (before : Option Tagged) (at list : Tagged) (here : Tagged × Tagged) (why : stops.Stop) → w.cells ≡ w0.cells → Looking w (search_of list) before at
        → ((t : State) → ShowsState w t → pair_at t (value_of w.cells.cells at) ≡ parts_in w.cells.cells (Some here))
        → ((t : State) → ShowsState w t → MeansDone t (turn t (λ t. Done (tt {0}) t)) (Err why) x) → MeansPlace s (look_for test_for (value_of w0.cells.cells list) s) (Err why) x
    looks_to_stop law w x before at list here why same k is takes =
        let e = wants_turn (looking test_for) law (looking_gives test_for) (IsShownBeside w s) (StaysBeside s) (search_of list) (so_far (option_value_in w0.cells.cells before)) (value_of w0.cells.cells at) (value_of w0.cells.cells here.0, value_of w0.cells.cells here.1) (stop_in x.cells.cells why) k (parts_known w at (Some here) same is)
        (λ t h. record { state = (takes t h.shows).state; is = (takes t h.shows).is; good = follow.stays s t (takes t h.shows).state h.stays (takes t h.shows).good }) in
        record { state = e.state; is = ap (λ (o : Outcome (Walked PropertyPlace)). then_do o result_of) e.is; good = e.good }

    pub looks_on : (o : Outcome (Walked PropertyPlace)) (x : World) (before : Option Tagged) (at : Tagged) (here : Tagged × Tagged) → x.cells ≡ w0.cells → LookingAt x o before at here
        → ((t : State) → ShowsState x t → passes what (value_of x.cells.cells p) t (value_of x.cells.cells here.0) ≡ false) → Looking x o (Some at) here.1
    looks_on o x before at here same k is =
        goes_on (looking test_for) (IsShownBeside x s) (IsShownBeside x s) o (so_far (option_value_in w0.cells.cells before)) (so_far (Some (value_of w0.cells.cells at))) (value_of w0.cells.cells at) (value_of w0.cells.cells here.0, value_of w0.cells.cells here.1) k
        (looked follow test_for x s (so_far (option_value_in w0.cells.cells before)) (value_of w0.cells.cells at) (value_of w0.cells.cells here.0) false (tested x here.0 false same is))

    pub looks_to_find : (x : World) (before : Option Tagged) (at list : Tagged) (here : Tagged × Tagged) → x.cells ≡ w0.cells → LookingAt x (search_of list) before at here
        → ((t : State) → ShowsState x t → passes what (value_of x.cells.cells p) t (value_of x.cells.cells here.0) ≡ true) → MeansPlace s (look_for test_for (value_of w0.cells.cells list) s) (Ok (record { before = before; at = Some at })) x
    looks_to_find x before at list here same k is =
        let found : PropertyPlace = record { before = option_value_in w0.cells.cells before; at = Some (value_of w0.cells.cells at) } in
        let e = ends_so (looking test_for) (IsShownBeside x s) (IsShownBeside x s) (search_of list) (so_far (option_value_in w0.cells.cells before)) found (value_of w0.cells.cells at) (value_of w0.cells.cells here.0, value_of w0.cells.cells here.1) k
        (looked follow test_for x s (so_far (option_value_in w0.cells.cells before)) (value_of w0.cells.cells at) (value_of w0.cells.cells here.0) true (tested x here.0 true same is)) in
        record { state = e.state; is = ap (λ (o : Outcome (Walked PropertyPlace)). then_do o result_of) e.is ∙ ap (λ (c : CellStore). Done (place_shown c.cells (record { before = before; at = Some at })) e.state) (sym same); good = e.good }

    pub looks_to_end : AreWalksUnbounded PropertyPlace → (w : World) (before : Option Tagged) (at list : Tagged) → w.cells ≡ w0.cells → Looking w (search_of list) before at
        → ((t : State) → ShowsState w t → pair_at t (value_of w.cells.cells at) ≡ None) → MeansPlace s (look_for test_for (value_of w0.cells.cells list) s) (Ok (record { before = before; at = None })) w
    looks_to_end law w before at list same k is =
        let e = comes_to_end (looking test_for) law (IsShownBeside w s) (search_of list) (so_far (option_value_in w0.cells.cells before)) (value_of w0.cells.cells at) k (parts_known w at None same is) in
        record { state = e.state; is = ap (λ (o : Outcome (Walked PropertyPlace)). then_do o result_of) e.is ∙ ap (λ (c : CellStore). Done (place_shown c.cells (record { before = before; at = None })) e.state) (sym same); good = e.good }
