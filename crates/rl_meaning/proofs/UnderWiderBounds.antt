-- AreWiderCounts bounds: an outcome that is no stop is the same under them, in a state that differs in its counts alone.
use Rattle.std.proofs.Common.{◌≡◌, ◌≤◌, ◌+◌, ◌-◌, ℤ, ℕ, zero, suc, Bool, true, false, Option, Some, None, refl, sym, subst, arith}
use Rattle.std.specs.Prelude.{nat_le}
use Rattle.std.proofs.lemmas.Bool.Decides.{nat_tests}
use Rattle.rl_tree.specs.Value.{Value}
use Rattle.rl_meaning.specs.State.{State, Counts, Expansion}
use Rattle.rl_meaning.specs.Outcome.{Outcome, Done, Failed, Went, Returned, Stopped, Stop, then_do, choose, run_turn, expansion_turn, turn_of, turn, turns_of, turns_left, Levels, in_levels, deeper, descends, pair_turn, cells_within, run_room, expansion_within, expansion_room, room}
use Rattle.rl_meaning.specs.WiderBounds.{IsWiderBound}

-- ---- counts

-- the same expansions are open, with as much at least
abbrev pub IsWiderExpansion : Option Expansion → Option Expansion → Type 0
IsWiderExpansion None None = Unit {0}
IsWiderExpansion (Some e) (Some f) = (e.inner_count ≡ f.inner_count) × (e.turns ≤ f.turns) × (e.cells ≤ f.cells) × (e.macro ≡ f.macro)
IsWiderExpansion None (Some f) = ⊥
IsWiderExpansion (Some e) None = ⊥

abbrev pub with_counts : Counts → State → State
with_counts d s = record s { counts = d }

pub record AreWiderCounts (c d : Counts) : Type 0 where
  pub turns : c.turns ≤ d.turns
  pub cells : IsWiderBound c.cells d.cells
  pub inner : IsWiderExpansion c.expansion d.expansion
  -- as many turns of the run were taken
  pub number : c.given + d.turns ≡ d.given + c.turns

-- so the next turn of the run has the same number
pub number_same : (c d : Counts) → AreWiderCounts c d → d.given - d.turns ≡ c.given - c.turns
number_same c d w = omega (arith, w.number)

-- levels that are as many, or have no bound
pub record AreWiderLevels (l m : Levels) : Type 0 where
  pub is : IsWiderBound l m

-- a state with wider counts
pub data Same : State → State → Type 0 where
  same : (s : State) (d : Counts) → AreWiderCounts s.counts d → Same s (with_counts d s)

-- ---- outcomes

pub data IsSameUnlessStopped {A : Type 0} : Outcome A → Outcome A → Type 0 where
  done : (a : A) (s t : State) → Same s t → IsSameUnlessStopped (Done a s) (Done a t)
  failed : (n : ℤ) (m : Value) (s t : State) → Same s t → IsSameUnlessStopped (Failed n m s) (Failed n m t)
  went : (l : ℕ) (s t : State) → Same s t → IsSameUnlessStopped (Went l s) (Went l t)
  returned : (v : Value) (s t : State) → Same s t → IsSameUnlessStopped (Returned v s) (Returned v t)
  stopped : (why : Stop) (s : State) (o : Outcome A) → IsSameUnlessStopped (Stopped why s) o

-- what widens from a state does so from the same one
pub from_same : {A : Type 0} (f g : State → Outcome A) → ((s : State) (d : Counts) → AreWiderCounts s.counts d → IsSameUnlessStopped (f s) (g (with_counts d s))) → (s t : State) → Same s t → IsSameUnlessStopped (f s) (g t)
from_same f g h a b (same s d w) = h s d w

pub then_widens : {A B : Type 0} (o p : Outcome A) (f g : A → State → Outcome B) → IsSameUnlessStopped o p → ((a : A) (s : State) (d : Counts) → AreWiderCounts s.counts d → IsSameUnlessStopped (f a s) (g a (with_counts d s))) → IsSameUnlessStopped (then_do o f) (then_do p g)
then_widens o p f g (done a s t e) h = from_same (f a) (g a) (h a) s t e
then_widens o p f g (failed n m s t e) h = failed n m s t e
then_widens o p f g (went l s t e) h = went l s t e
then_widens o p f g (returned v s t e) h = returned v s t e
then_widens o p f g (stopped why s q) h = stopped why s _

pub choose_widens : {A : Type 0} (b : Bool) (s : State) (d : Counts) (f g f' g' : State → Outcome A) → IsSameUnlessStopped (f s) (f' (with_counts d s)) → IsSameUnlessStopped (g s) (g' (with_counts d s)) → IsSameUnlessStopped (choose b s f g) (choose b (with_counts d s) f' g')
choose_widens true s d f g f' g' h k = h
choose_widens false s d f g f' g' h k = k

-- ---- turns

turns_wider : (c d : Counts) → AreWiderCounts c d → turns_of c.expansion c.turns ≤ turns_of d.expansion d.turns
turns_wider c d w = at c.expansion d.expansion w.inner
  where
    at : (e f : Option Expansion) → IsWiderExpansion e f → turns_of e c.turns ≤ turns_of f d.turns
    at None None i = w.turns
    at (Some e) (Some f) i = i.1
    at None (Some f) i = absurd i
    at (Some e) None i = absurd i

pub left_wider : (s : State) (d : Counts) → AreWiderCounts s.counts d → turns_left s ≤ turns_left (with_counts d s)
left_wider s d w = turns_wider s.counts d w

pub turn_widens : {A : Type 0} (s : State) (d : Counts) (f g : State → Outcome A) → AreWiderCounts s.counts d → ((s : State) (d : Counts) → AreWiderCounts s.counts d → IsSameUnlessStopped (f s) (g (with_counts d s))) → IsSameUnlessStopped (turn s f) (turn (with_counts d s) g)
turn_widens s d f g w h = at s.counts.expansion d.expansion w.inner
  where
    run_at : (m n : ℕ) → m ≤ n → s.counts.given + n ≡ d.given + m → IsWiderExpansion s.counts.expansion d.expansion → IsSameUnlessStopped (run_turn m s f) (run_turn n (with_counts d s) g)
    run_at zero n le e i = stopped _ s _
    run_at (suc m) zero le e i = absurd (omega (arith, le))
    run_at (suc m) (suc n) le e i = h (record s { counts = record s.counts { turns = m } }) (record d { turns = n }) (record { turns = omega (arith, le); cells = w.cells; inner = i; number = omega (arith, e) })

    expansion_at : (m n : ℕ) (e x : Expansion) → m ≤ n → IsWiderExpansion (Some e) (Some x) → IsSameUnlessStopped (expansion_turn m e s f) (expansion_turn n x (with_counts d s) g)
    expansion_at zero n e x le i = stopped _ s _
    expansion_at (suc m) zero e x le i = absurd (omega (arith, le))
    expansion_at (suc m) (suc n) e x le i =
        h (record s { counts = record s.counts { expansion = Some (record e { turns = m }) } }) (record d { expansion = Some (record x { turns = n }) }) (record { turns = w.turns; cells = w.cells; inner = (i.0, omega (arith, le), i.2, i.3); number = w.number })

    at : (e x : Option Expansion) → IsWiderExpansion e x → IsSameUnlessStopped (turn_of e s f) (turn_of x (with_counts d s) g)
    at None None i = run_at s.counts.turns d.turns w.turns w.number w.inner
    at (Some e) (Some x) i = expansion_at e.turns x.turns e x i.1 i
    at None (Some x) i = absurd i
    at (Some e) None i = absurd i

-- ---- levels

-- a test that is passed is passed by more
pub test_wider : (n l m : ℕ) → l ≤ m → nat_le n l ≡ true → nat_le n m ≡ true
test_wider n l m le e = grind (arith, nat_tests)

entered_widens : {A : Type 0} (b c : Bool) (l m : ℕ) (s : State) (d : Counts) (f g : Levels → Outcome A) → (b ≡ true → c ≡ true) → l ≤ m → ((l m : Levels) → AreWiderLevels l m → IsSameUnlessStopped (f l) (g m)) → IsSameUnlessStopped (in_levels b l s f) (in_levels c m (with_counts d s) g)
entered_widens true true l m s d f g e le h = h (Some l) (Some m) (record { is = le })
entered_widens true false l m s d f g e le h = absurd (let x : false ≡ true = e refl in cc)
entered_widens false c l m s d f g e le h = stopped _ s _

open_widens : {A : Type 0} (b : Bool) (l : ℕ) (s : State) (f : Levels → Outcome A) (o : Outcome A) → IsSameUnlessStopped (f (Some l)) o → IsSameUnlessStopped (in_levels b l s f) o
open_widens true l s f o h = h
open_widens false l s f o h = stopped _ s o

pub deeper_widens : {A : Type 0} (n : ℕ) (l m : Levels) (s : State) (d : Counts) (f g : Levels → Outcome A) → AreWiderLevels l m → ((l m : Levels) → AreWiderLevels l m → IsSameUnlessStopped (f l) (g m)) → IsSameUnlessStopped (deeper n l s f) (deeper n m (with_counts d s) g)
deeper_widens n None None s d f g r h = h None None r
deeper_widens n None (Some m) s d f g r h = absurd r.is
deeper_widens n (Some l) None s d f g r h = open_widens (nat_le n l) (l - n) s f _ (h (Some (l - n)) None (record { is = tt }))
deeper_widens n (Some l) (Some m) s d f g r h = let le : l ≤ m = r.is in entered_widens (nat_le n l) (nat_le n m) (l - n) (m - n) s d f g (test_wider n l m le) (omega (arith, le)) h

pub descends_widens : {A : Type 0} (b : Bool) (l m : Levels) (s : State) (d : Counts) (f g : Levels → Outcome A) → AreWiderLevels l m → ((l m : Levels) → AreWiderLevels l m → IsSameUnlessStopped (f l) (g m)) → IsSameUnlessStopped (descends b l s f) (descends b m (with_counts d s) g)
descends_widens true l m s d f g r h = deeper_widens 1 l m s d f g r h
descends_widens false l m s d f g r h = h l m r

pub pair_turn_widens : {A : Type 0} (descent : Bool) (l m : Levels) (s : State) (d : Counts) (f g : Levels → State → Outcome A) → AreWiderLevels l m → AreWiderCounts s.counts d → ((l m : Levels) → AreWiderLevels l m → (s : State) (d : Counts) → AreWiderCounts s.counts d → IsSameUnlessStopped (f l s) (g m (with_counts d s))) → IsSameUnlessStopped (pair_turn descent l s f) (pair_turn descent m (with_counts d s) g)
pair_turn_widens descent l m s d f g r w h = turn_widens s d _ _ w (λ s d w. descends_widens descent l m s d _ _ r (λ l m r. h l m r s d w))

-- ---- cells

cells_widen : {A : Type 0} (a b : Bool) (m n : ℕ) (s : State) (d : Counts) (f g : State → Outcome A) → (a ≡ true → b ≡ true) → m ≤ n → AreWiderCounts s.counts d → ((s : State) (d : Counts) → AreWiderCounts s.counts d → IsSameUnlessStopped (f s) (g (with_counts d s))) → IsSameUnlessStopped (cells_within a m s f) (cells_within b n (with_counts d s) g)
cells_widen true true m n s d f g e le w h = h (record s { counts = record s.counts { cells = Some m } }) (record d { cells = Some n }) (record { turns = w.turns; cells = le; inner = w.inner; number = w.number })
cells_widen true false m n s d f g e le w h = absurd (let x : false ≡ true = e refl in cc)
cells_widen false b m n s d f g e le w h = stopped _ s _

unbounded_widens : {A : Type 0} (a : Bool) (m : ℕ) (s : State) (d : Counts) (f g : State → Outcome A) → d.cells ≡ None → AreWiderCounts s.counts d → ((s : State) (d : Counts) → AreWiderCounts s.counts d → IsSameUnlessStopped (f s) (g (with_counts d s))) → IsSameUnlessStopped (cells_within a m s f) (g (with_counts d s))
unbounded_widens true m s d f g e w h = h (record s { counts = record s.counts { cells = Some m } }) d (record { turns = w.turns; cells = subst (λ o. IsWiderBound (Some m) o) (sym e) tt; inner = w.inner; number = w.number })
unbounded_widens false m s d f g e w h = stopped _ s _

run_room_widens : {A : Type 0} (cost : ℕ) (s : State) (d : Counts) (f g : State → Outcome A) → AreWiderCounts s.counts d → ((s : State) (d : Counts) → AreWiderCounts s.counts d → IsSameUnlessStopped (f s) (g (with_counts d s))) → IsSameUnlessStopped (run_room s.counts.cells cost s f) (run_room d.cells cost (with_counts d s) g)
run_room_widens cost s d f g w h = at s.counts.cells d.cells refl w.cells
  where
    at : (a b : Option ℕ) → d.cells ≡ b → IsWiderBound a b → IsSameUnlessStopped (run_room a cost s f) (run_room b cost (with_counts d s) g)
    at None None e i = h s d w
    at None (Some n) e i = absurd i
    at (Some m) None e i = unbounded_widens (nat_le cost m) (m - cost) s d f g e w h
    at (Some m) (Some n) e i = cells_widen (nat_le cost m) (nat_le cost n) (m - cost) (n - cost) s d f g (test_wider cost m n i) (omega (arith, i)) w h

pub room_widens : {A : Type 0} (cost : ℕ) (s : State) (d : Counts) (f g : State → Outcome A) → AreWiderCounts s.counts d → ((s : State) (d : Counts) → AreWiderCounts s.counts d → IsSameUnlessStopped (f s) (g (with_counts d s))) → IsSameUnlessStopped (room cost s f) (room cost (with_counts d s) g)
room_widens cost s d f g w h = at s.counts.expansion d.expansion w.inner
  where
    within : (a b : Bool) (e x : Expansion) → (a ≡ true → b ≡ true) → IsWiderExpansion (Some e) (Some x)
        → IsSameUnlessStopped (expansion_within a e cost s (λ s. run_room s.counts.cells cost s f)) (expansion_within b x cost (with_counts d s) (λ s. run_room s.counts.cells cost s g))
    within true true e x p i =
        run_room_widens cost (record s { counts = record s.counts { expansion = Some (record e { cells = e.cells - cost }) } }) (record d { expansion = Some (record x { cells = x.cells - cost }) }) f g
        (record { turns = w.turns; cells = w.cells; inner = (i.0, i.1, omega (arith, i.2), i.3); number = w.number }) h
    within true false e x p i = absurd (let y : false ≡ true = p refl in cc)
    within false b e x p i = stopped _ s _

    at : (e x : Option Expansion) → IsWiderExpansion e x → IsSameUnlessStopped (expansion_room e cost s (λ s. run_room s.counts.cells cost s f)) (expansion_room x cost (with_counts d s) (λ s. run_room s.counts.cells cost s g))
    at None None i = run_room_widens cost s d f g w h
    at (Some e) (Some x) i = within (nat_le cost e.cells) (nat_le cost x.cells) e x (test_wider cost e.cells x.cells i.2) i
    at None (Some x) i = absurd i
    at (Some e) None i = absurd i
