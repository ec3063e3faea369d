-- A turn, and the turns that are left.
use Rattle.std.proofs.Common.{◌≡◌, ◌≤◌, ◌^◌, ◌-◌, ℕ, zero, suc, Bool, true, false, nat_le, Option, Some, None, refl, sym, ap, subst, ◌∙◌, arith, Ok, Err}
use Rattle.rl_cells.specs.Cell.{CellStore}
use Rattle.rl_world.specs.Counts.{TakesTicks, TakesInExpansion, TakesTurnsAndCells, WorldCounts, count_turns_left, turns_left_at}
use Rattle.rl_world.specs.declared.counts.Expansion as counted
use Rattle.rl_world.specs.declared.stop.Stop as stops
use Rattle.rl_world.specs.declared.world.World.{World}
use Rattle.rl_tree.specs.Value.{Value}
use Rattle.rl_meaning.specs.State.{Counts, Expansion, State}
use Rattle.rl_meaning.specs.Outcome.{Done, Failed, Outcome, Returned, Stopped, Went, cells_within, expansion_room, expansion_within, expansion_turn, made_pair, room, run_room, run_turn, then_do, turn, turn_of, turns_left, turns_of}
use Rattle.rl_meaning.specs.WalkLaws.{LeavesAtMost}
use Rattle.rl_state.specs.Ending.{EndsShown, MeansDone, StopsWith, stop_in}
use Rattle.rl_state.specs.ShownState.{ShowsState}
use Rattle.rl_state.specs.StepLaws.{StepsFollow}
use Rattle.rl_state.specs.Worlds.{AreWorldCounts}
use Rattle.rl_std.proofs.Coming.{goes_on, stops_on}

turn_then : {A : Type 0} (s : State) (next : State → Outcome A) → turn s next ≡ then_do (turn s (λ t. Done (tt {0}) t)) (λ u t. next t)
turn_then {A} s next = go s.counts.expansion
  where
    run : (n : ℕ) → run_turn n s next ≡ then_do (run_turn n s (λ t. Done (tt {0}) t)) (λ u t. next t)
    run zero = refl
    run (suc n) = refl

    expanding : (n : ℕ) (e : Expansion) → expansion_turn n e s next ≡ then_do (expansion_turn n e s (λ t. Done (tt {0}) t)) (λ u t. next t)
    expanding zero e = refl
    expanding (suc n) e = refl

    go : (e : Option Expansion) → turn_of e s next ≡ then_do (turn_of e s (λ t. Done (tt {0}) t)) (λ u t. next t)
    go None = run s.counts.turns
    go (Some e) = expanding e.turns e

-- what follows a turn follows in it
pub then_turned : {A B : Type 0} (s : State) (f : State → Outcome A) (next : A → State → Outcome B) → then_do (turn s f) next ≡ turn s (λ t. then_do (f t) next)
then_turned {A} {B} s f next = go s.counts.expansion
  where
    run : (n : ℕ) → then_do (run_turn n s f) next ≡ run_turn n s (λ t. then_do (f t) next)
    run zero = refl
    run (suc n) = refl

    expanding : (n : ℕ) (e : Expansion) → then_do (expansion_turn n e s f) next ≡ expansion_turn n e s (λ t. then_do (f t) next)
    expanding zero e = refl
    expanding (suc n) e = refl

    go : (e : Option Expansion) → then_do (turn_of e s f) next ≡ turn_of e s (λ t. then_do (f t) next)
    go None = run s.counts.turns
    go (Some e) = expanding e.turns e

-- what the clause of a turn says
abbrev pub TakesTurn : World → World → Type 0
TakesTurn w x = (t : State) → ShowsState w t → MeansDone t (turn t (λ t. Done (tt {0}) t)) (Ok tt) x

abbrev pub WantsTurn : World → stops.Stop → World → Type 0
WantsTurn w why x = (t : State) → ShowsState w t → MeansDone t (turn t (λ t. Done (tt {0}) t)) (Err why) x

pub after_turn : {A : Type 0} (law : StepsFollow) (s : State) (o : Outcome A) (next : State → Outcome A) (w x : World) → EndsShown s o (λ t. turn t next) w → TakesTurn w x → EndsShown s o next x
after_turn law s o next w x h takes = goes_on law s o (λ t. turn t next) next w x h (λ t shown.
    let r = takes t shown in
    record { state = r.state; is = turn_then t next ∙ ap (λ (o : Outcome (Unit {0})). then_do o (λ u t. next t)) r.is; good = r.good })

pub no_turn_left : {A : Type 0} (law : StepsFollow) (s : State) (o : Outcome A) (next : State → Outcome A) (why : stops.Stop) (w x : World) → EndsShown s o (λ t. turn t next) w → WantsTurn w why x → StopsWith s o (stop_in x.cells.cells why)
no_turn_left law s o next why w x h wants = stops_on law s o (λ t. turn t next) (stop_in x.cells.cells why) w h (λ t shown.
    let r = wants t shown in
    record { state = r.state; is = turn_then t next ∙ ap (λ (o : Outcome (Unit {0})). then_do o (λ u t. next t)) r.is; good = r.good })

-- ---- turns of the definition

pub then_leaves : {A B : Type 0} (n : ℕ) (o : Outcome A) (next : A → State → Outcome B) → LeavesAtMost n o → ((a : A) (t : State) → turns_left t ≤ n → LeavesAtMost n (next a t)) → LeavesAtMost n (then_do o next)
then_leaves n (Done a t) next h k = k a t h
then_leaves n (Failed z m t) next h k = tt
then_leaves n (Went l t) next h k = tt
then_leaves n (Returned v t) next h k = tt
then_leaves n (Stopped why t) next h k = tt

room_leaves : {A : Type 0} (cost : ℕ) (s : State) (next : State → Outcome A) → ((t : State) → turns_left t ≡ turns_left s → LeavesAtMost (turns_left s) (next t)) → LeavesAtMost (turns_left s) (room cost s next)
room_leaves {A} cost s next k = go s.counts.expansion refl
  where
    within : (s2 : State) → turns_left s2 ≡ turns_left s → (o : Option ℕ) → LeavesAtMost (turns_left s) (run_room o cost s2 next)
    within s2 same None = k s2 same
    within s2 same (Some c) = fits (nat_le cost c)
      where
        fits : (b : Bool) → LeavesAtMost (turns_left s) (cells_within b (c - cost) s2 next)
        fits true = k (record s2 { counts = record s2.counts { cells = Some (c - cost) } }) same
        fits false = tt

    go : (e : Option Expansion) → s.counts.expansion ≡ e → LeavesAtMost (turns_left s) (expansion_room e cost s (λ s. run_room s.counts.cells cost s next))
    go None e = within s refl s.counts.cells
    go (Some x) e = fits (nat_le cost x.cells)
      where
        fits : (b : Bool) → LeavesAtMost (turns_left s) (expansion_within b x cost s (λ s. run_room s.counts.cells cost s next))
        fits true = within (record s { counts = record s.counts { expansion = Some (record x { cells = x.cells - cost }) } }) (sym (ap (λ y. turns_of y s.counts.turns) e)) s.counts.cells
        fits false = tt

pub pair_leaves : (a d : Value) (s : State) → LeavesAtMost (turns_left s) (made_pair a d s)
pair_leaves a d s = room_leaves 1 s _ (λ t e. rw e (omega arith))

-- ---- turns of a world

-- in a run there are no more turns than a small integer tells
pub few_left : (c : CellStore) (k : WorldCounts) → AreWorldCounts c k → count_turns_left k ≤ 2 ^ 59 - 1
few_left c k r = go k.opening k.outermost
  where
    go : (o : Option ℕ) (e : Option counted.Expansion) → turns_left_at o e k.turns k.bound ≤ 2 ^ 59 - 1
    go (Some n) e = omega arith
    go None None = let f = r.few in omega (arith, f)
    go None (Some e) = omega arith

-- what takes turns and cells leaves no more turns
pub taken_leaves : (old new : WorldCounts) → TakesTurnsAndCells old new → count_turns_left new ≤ count_turns_left old
taken_leaves old new h = rw (ap (λ (c : WorldCounts). c.bound) h.same) (go old.opening new.opening old.outermost new.outermost h.opening h.expansion)
  where
    go : (o p : Option ℕ) (e f : Option counted.Expansion) → TakesTicks o p → TakesInExpansion e f → turns_left_at p f new.turns old.bound ≤ turns_left_at o e old.turns old.bound
    go None None None None t x = let l = h.turns in omega (arith, l)
    go None None (Some e) (Some f) t x = let l = x.1 in omega (arith, l)
    go (Some n) (Some m) e f t x = omega (arith, t)
    go None (Some m) e f t x = absurd t
    go (Some n) None e f t x = absurd t
    go None None None (Some f) t x = absurd x
    go None None (Some e) None t x = absurd x
