-- How two runs side by side end: alike; or apart, where the right one has an event, or one of the two met its bound on cells or levels, the right one only where it has such a bound, the left one only where the right one has none, and then all that was printed and noted until that moment was so by both (this project's).
use Rattle.std.specs.Prelude.{◌≡◌, ◌⊎◌, ℕ, ℤ, true, false, List, ◌++◌, take, Some}
use Rattle.rl_tree.specs.Value.{Value}
use Rattle.rl_meaning.specs.State.{State, Outside, Recorded}
use Rattle.rl_meaning.specs.Outcome.{Outcome, Done, Failed, Went, Returned, Stopped, Stop, Cells, Depth}
use Rattle.rl_meaning.specs.Opening.{state_of}
use Rattle.rl_meaning.specs.TwoRunsValues.{Names, Grows, SameValue}
use Rattle.rl_meaning.specs.TwoRunsStates.{Bounds, EntryPlace, Like}

-- ---- apart

-- one list begins with another
pub record IsBegunBy (front whole : List ℕ) : Type 0 where
  pub rest : List ℕ
  pub is : whole ≡ front ++ rest

-- what was printed and noted begins with this
pub record HasShown (printed noted : List ℕ) (outside : Outside) : Type 0 where
  pub output : IsBegunBy printed outside.output
  pub notes : IsBegunBy noted outside.notes

-- a stop that comes where a run has fewer cells or levels
pub data IsShort : Stop → Type 0 where
  short_of_cells : IsShort Cells
  short_of_levels : IsShort Depth

-- so stops a left run where the right one has no such bound: this is the only way in which a left run stops so and the right one goes on
pub data IsLackingBound (bounds : Bounds) : Stop → Type 0 where
  lacks_cells : bounds.cells ≡ false → IsLackingBound bounds Cells
  lacks_levels : bounds.levels ≡ false → IsLackingBound bounds Depth

-- so stops a right run, where it has such a bound: it stops for cells or levels in no other way
pub data IsMeeting (bounds : Bounds) : Stop → Type 0 where
  meets_cells : bounds.cells ≡ true → IsMeeting bounds Cells
  meets_levels : bounds.levels ≡ true → IsMeeting bounds Depth

-- both runs may stop for this: for cells or levels only where the right one has such a bound
abbrev pub MayStop : Bounds → Stop → Type 0
MayStop bounds Cells = bounds.cells ≡ true
MayStop bounds Depth = bounds.levels ≡ true
MayStop bounds why = Unit {0}

-- of two lists one begins with the other
abbrev pub OneBegins : List ℕ → List ℕ → Type 0
OneBegins xs ys = IsBegunBy xs ys ⊎ IsBegunBy ys xs

pub data Parted (bounds : Bounds) {A : Type 0} : Outcome A → Outcome A → Type 0 where
  -- the right run has an event
  by_event : (o p : Outcome A) (r : Recorded) → (state_of p).watched.event ≡ Some r → HasShown (take r.printed (state_of p).outside.output) (take r.noted (state_of p).outside.notes) (state_of o).outside → Parted bounds o p
  -- the right run stops for a bound that it has, and the left one may go on; or the other way round, where the right run has no such bound
  right_short : (o : Outcome A) (why : Stop) (t : State) → IsMeeting bounds why → HasShown t.outside.output t.outside.notes (state_of o).outside → Parted bounds o (Stopped why t)
  left_short : (why : Stop) (s : State) (p : Outcome A) → IsLackingBound bounds why → HasShown s.outside.output s.outside.notes (state_of p).outside → Parted bounds (Stopped why s) p
  -- the left run stops so, and the right one has an event: which of the two comes first is not said
  short_by_event : (why : Stop) (s : State) (p : Outcome A) (r : Recorded) → IsLackingBound bounds why → (state_of p).watched.event ≡ Some r
      → OneBegins (take r.printed (state_of p).outside.output) s.outside.output → OneBegins (take r.noted (state_of p).outside.notes) s.outside.notes → Parted bounds (Stopped why s) p
  -- both stop, the left one so, and which of them comes first is not said
  both_short : (why other : Stop) (s t : State) → IsLackingBound bounds why → IsMeeting bounds other → OneBegins t.outside.output s.outside.output → OneBegins t.outside.notes s.outside.notes → Parted bounds (Stopped why s) (Stopped other t)

-- ---- the ends

-- of two runs that stop for the same thing only this is to be seen; and if it is cells or levels, the right one has such a bound
pub record SameStop (bounds : Bounds) (why : Stop) (s t : State) : Type 0 where
  pub outside : s.outside ≡ t.outside
  pub turns : s.counts.turns ≡ t.counts.turns
  pub may : MayStop bounds why

-- Apart: what is said of outcomes that are apart. Results are the same by R; links grow, and the same bindings are hidden as before
pub data Related (bounds : Bounds) {A : Type 0} (Apart : Outcome A → Outcome A → Type 0) (R : Names → A → A → Type 0) (n : Names) (ps : List EntryPlace) : Outcome A → Outcome A → Type 0 where
  done : (m : Names) (a b : A) (s t : State) → Grows n m → R m a b → Like bounds m ps s t → Related bounds Apart R n ps (Done a s) (Done b t)
  failed : (m : Names) (z : ℤ) (v w : Value) (s t : State) → Grows n m → SameValue m v w → Like bounds m ps s t → Related bounds Apart R n ps (Failed z v s) (Failed z w t)
  went : (m : Names) (l : ℕ) (s t : State) → Grows n m → Like bounds m ps s t → Related bounds Apart R n ps (Went l s) (Went l t)
  returned : (m : Names) (v w : Value) (s t : State) → Grows n m → SameValue m v w → Like bounds m ps s t → Related bounds Apart R n ps (Returned v s) (Returned w t)
  stopped : (why : Stop) (s t : State) → SameStop bounds why s t → Related bounds Apart R n ps (Stopped why s) (Stopped why t)
  parted : (o p : Outcome A) → Apart o p → Related bounds Apart R n ps o p

-- the ends of two evaluations
abbrev pub EndsAgree : Bounds → Names → List EntryPlace → Outcome Value → Outcome Value → Type 0
EndsAgree bounds n ps = Related bounds (Parted bounds) SameValue n ps
