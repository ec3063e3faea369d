-- What it is for two whole runs to agree: the left one may run code, the right one walks all functions and has these bounds (this project's).
use Rattle.std.specs.Prelude.{◌≡◌, ℕ, zero, suc, true, false, List, length, take, Option, Some, None}
use Rattle.rl_meaning.specs.State.{State, Recorded}
use Rattle.rl_meaning.specs.Outcome.{Stop}
use Rattle.rl_meaning.specs.Run.{Ran, RunEnding, Finished, Stops}
use Rattle.rl_meaning.specs.TwoRunsLinks.{Links, unlinked, link}
use Rattle.rl_meaning.specs.TwoRunsValues.{Names, Each, SameObject, SameFunction, SameSymbol, SameCoded}
use Rattle.rl_meaning.specs.TwoRunsStates.{Bounds, Aligned, all_both}
use Rattle.rl_meaning.specs.TwoRunsEnds.{HasShown, IsShort, IsLackingBound, IsMeeting, MayStop, OneBegins}

-- an end of both runs: for cells or levels they stop only where the right one has such a bound
abbrev pub MayEnd : Bounds → RunEnding → Type 0
MayEnd bounds Finished = Unit {0}
MayEnd bounds (Stops why) = MayStop bounds why

pub data RunsAgree (bounds : Bounds) : Ran → Ran → Type 0 where
  -- all that is to be seen is the same, and if they stop for cells or levels the right one has such a bound
  alike : (o p : Ran) → o.ending ≡ p.ending → o.state.outside ≡ p.state.outside → o.state.counts.turns ≡ p.state.counts.turns → MayEnd bounds p.ending → RunsAgree bounds o p
  -- what the right run printed and noted until its first event, the left one printed and noted
  until_event : (o p : Ran) (r : Recorded) → p.state.watched.event ≡ Some r → HasShown (take r.printed p.state.outside.output) (take r.noted p.state.outside.notes) o.state.outside → RunsAgree bounds o p
  -- one of the two stopped for cells or levels, and the other printed and noted all that it did: the right one only where it has such a bound, the left one only where the right one has none
  until_right_stop : (o p : Ran) (why : Stop) → p.ending ≡ Stops why → IsMeeting bounds why → HasShown p.state.outside.output p.state.outside.notes o.state.outside → RunsAgree bounds o p
  until_left_stop : (o p : Ran) (why : Stop) → o.ending ≡ Stops why → IsLackingBound bounds why → HasShown o.state.outside.output o.state.outside.notes p.state.outside → RunsAgree bounds o p
  -- the left run stopped so, and the right one has an event: of what each had shown then, one begins with the other
  until_either : (o p : Ran) (why : Stop) (r : Recorded) → o.ending ≡ Stops why → IsLackingBound bounds why → p.state.watched.event ≡ Some r
      → OneBegins (take r.printed p.state.outside.output) o.state.outside.output → OneBegins (take r.noted p.state.outside.notes) o.state.outside.notes → RunsAgree bounds o p
  -- both stopped for cells or levels, the left one so, and the right one for a bound that it has: of what each had shown, one begins with the other
  until_both_stop : (o p : Ran) (why other : Stop) → o.ending ≡ Stops why → p.ending ≡ Stops other → IsLackingBound bounds why → IsMeeting bounds other
      → OneBegins p.state.outside.output o.state.outside.output → OneBegins p.state.outside.notes o.state.outside.notes → RunsAgree bounds o p

-- ---- what is to be seen of a run

-- it stopped for cells or levels
pub record StopsShort (o : Ran) : Type 0 where
  pub why : Stop
  pub is : o.ending ≡ Stops why
  pub short : IsShort why

-- it stopped for a bound that the walk has not
pub record StopsLacking (bounds : Bounds) (o : Ran) : Type 0 where
  pub why : Stop
  pub is : o.ending ≡ Stops why
  pub lacks : IsLackingBound bounds why

-- it stopped for one of these bounds, which are its own
pub record StopsMeeting (bounds : Bounds) (p : Ran) : Type 0 where
  pub why : Stop
  pub is : p.ending ≡ Stops why
  pub meets : IsMeeting bounds why

abbrev pub HasRoom : Ran → Type 0
HasRoom o = StopsShort o → ⊥

abbrev pub HasNoEvent : Ran → Type 0
HasNoEvent o = o.state.watched.event ≡ None

-- the same endings, output, notes, input and turns
pub record SameRun (o p : Ran) : Type 0 where
  pub ending : o.ending ≡ p.ending
  pub outside : o.state.outside ≡ p.state.outside
  pub turns : o.state.counts.turns ≡ p.state.counts.turns

-- of this output, or of these notes, what was there at an event; or all, where there was none
abbrev pub printed_at_event : Option Recorded → List ℕ → List ℕ
printed_at_event None output = output
printed_at_event (Some r) output = take r.printed output

abbrev pub noted_by : Option Recorded → List ℕ → List ℕ
noted_by None notes = notes
noted_by (Some r) notes = take r.noted notes

-- what a run printed and noted until its first event
abbrev pub printed_first : Ran → List ℕ
printed_first o = printed_at_event o.state.watched.event o.state.outside.output

abbrev pub noted_first : Ran → List ℕ
noted_first o = noted_by o.state.watched.event o.state.outside.notes

-- ---- where two runs begin

-- each number below this one is itself
abbrev pub each_itself : ℕ → Links
each_itself zero = unlinked
each_itself (suc n) = link n n (each_itself n)

-- the objects and functions of a state, each of which is itself
abbrev pub names_of : State → Names
names_of s = record { objects = each_itself (length s.store); functions = each_itself (length s.functions) }

-- all that a state names is of the state: no object, function, identifier, binding or code has a number that stands for nothing
pub record IsSoundState (s : State) : Type 0 where
  pub objects : Each (SameObject (names_of s)) s.store s.store
  pub functions : Each (SameFunction (names_of s)) s.functions s.functions
  pub symbols : Each (SameSymbol (names_of s)) s.symbols s.symbols
  pub bindings : Aligned (names_of s) (all_both s.bindings) s.bindings s.bindings
  pub codes : Each (SameCoded (names_of s)) s.compilation.coded s.compilation.coded

-- code runs
abbrev pub with_running_code : State → State
with_running_code s = record s { compilation = record s.compilation { runs_code = true } }

-- all functions are walked, with so many cells
abbrev pub walking : Option ℕ → State → State
walking cells s = record s { counts = record s.counts { cells = cells }; compilation = record s.compilation { runs_code = false } }
