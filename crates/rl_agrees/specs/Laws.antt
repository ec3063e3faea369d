-- Laws of one run: what was there stays, and only a statement of a PROG leaves by GO or RETURN. And the laws of two runs: one in which code runs agrees with the walk of the same program, and so do two walks, of which one may lack local bindings (this project's).
use Rattle.std.specs.Prelude.{◌≡◌, ◌⊎◌, ℕ, false, List, Option, None}
use Rattle.rl_tree.specs.Name.{Name}
use Rattle.rl_tree.specs.Value.{Value}
use Rattle.rl_meaning.specs.State.{State}
use Rattle.rl_meaning.specs.Outcome.{Levels, Stop}
use Rattle.rl_meaning.specs.Evaluation.{Job, called}
use Rattle.rl_meaning.specs.Jobs.{job, jobs, the_compiler}
use Rattle.rl_meaning.specs.Opening.{state_of}
use Rattle.rl_meaning.specs.Run.{Ran, Stops, run_bytes, run_file}
use Rattle.rl_meaning.specs.TwoRunsValues.{Names, Each, SameValue}
use Rattle.rl_meaning.specs.TwoRunsStates.{Bounds, bounds_of, EntryPlace, Like, IsRoomier, Roomier}
use Rattle.rl_meaning.specs.TwoRunsEnds.{HasShown, IsShort, IsLackingBound, OneBegins, EndsAgree}
use Rattle.rl_agrees.specs.Later.{Later}
use Rattle.rl_agrees.specs.Leaving.{IsNoTransfer, is_statement}
use Rattle.rl_agrees.specs.TwoRunsJobs.{EventWithin, SameJob, Ready, MayLack}
use Rattle.rl_agrees.specs.Heads.{IsWalk, IsBelow, HeadsStayIn}
use Rattle.rl_agrees.specs.TwoRunsRuns.{RunsAgree, StopsLacking, StopsMeeting, HasRoom, HasNoEvent, SameRun, printed_first, noted_first, IsSoundState, with_running_code, walking}

-- the state behind a job, and behind a run, is later than the one before
pub record RunsGoOn : Type 0 where
  pub job_ : (j : Job) (s : State) → Later s (state_of (job the_compiler j s))
  pub run : (levels : Levels) (bytes : List ℕ) (s : State) → Later s (run_bytes levels bytes s).state
  pub file : (levels : Levels) (name : Name) (file : Option (List ℕ)) (s : State) → Later s (run_file levels name file s).state

pub record OnlyStatementsLeave : Type 0 where
  pub plain : (j : Job) (s : State) → is_statement j ≡ false → IsNoTransfer (job the_compiler j s)

-- where all functions are walked, bindings and marks stay below what a job binds, whatever it comes to
pub record MarksStay : Type 0 where
  pub below : (j : Job) (s : State) → IsWalk j → s.compilation.runs_code ≡ false → IsBelow s (state_of (job the_compiler j s))

-- and with no event by then, what the bodies of running functions rest on stays
pub record HeadsStay : Type 0 where
  pub heads : (j : Job) (s : State) → IsWalk j → s.compilation.runs_code ≡ false → (state_of (job the_compiler j s)).watched.event ≡ None → HeadsStayIn s (state_of (job the_compiler j s))
  -- so from one job to the next
  pub and_then : (s t u : State) → Later s t → Later t u → HeadsStayIn s t → HeadsStayIn t u → HeadsStayIn s u

pub record CodeAgrees : Type 0 where
  -- from one sound state in which each code is right and rests on what stands, over one source; where both have a bound, that of the walk is no wider. They agree by the bounds that the walk has
  pub runs : (s : State) (l m : Levels) (cells : Option ℕ) (source : List ℕ) → IsSoundState s → Ready the_compiler s → IsRoomier l m → IsRoomier s.counts.cells cells
      → RunsAgree (bounds_of m cells) (run_bytes l source (with_running_code s)) (run_bytes m source (walking cells s))
  -- which is: where the walk has no event, and neither stops for cells or levels, endings, output, notes, input and turns are the same
  pub same : (bounds : Bounds) (o p : Ran) → RunsAgree bounds o p → HasNoEvent p → HasRoom o → HasRoom p → SameRun o p
  -- a run that does not stop for a bound that the walk lacks prints and notes all that the walk does until its first event, wherever the walk stops
  pub event : (bounds : Bounds) (o p : Ran) → RunsAgree bounds o p → (StopsLacking bounds o → ⊥) → HasShown (printed_first p) (noted_first p) o.state.outside
  -- a walk that has no event and does not stop so prints and notes all that the run does, wherever the run stops
  pub front : (bounds : Bounds) (o p : Ran) → RunsAgree bounds o p → HasNoEvent p → HasRoom p → HasShown o.state.outside.output o.state.outside.notes p.state.outside
  -- and in any case, of what the run does and what the walk does until its first event, one begins with the other
  pub either : (bounds : Bounds) (o p : Ran) → RunsAgree bounds o p → OneBegins (printed_first p) o.state.outside.output × OneBegins (noted_first p) o.state.outside.notes
  -- beside a walk with no event, a run stops for cells or levels only where the walk has no such bound, or where the walk stops too, for a bound that it has: so with the same bounds a stop of the run is one of the walk, and a walk with one bound alone stops for that one
  pub bound : (bounds : Bounds) (o p : Ran) (why : Stop) → RunsAgree bounds o p → HasNoEvent p → o.ending ≡ Stops why → IsShort why → IsLackingBound bounds why ⊎ StopsMeeting bounds p

-- two walks from states side by side, of which the left one may lack local bindings that code keeps in slots: they end side by side again, the same bindings lacking; or apart, where the right one has an event, or one of the two stopped for cells or levels, the right one only where it has such a bound, the left one only where the right one has none
pub record WalksAgree : Type 0 where
  pub job_ : (bounds : Bounds) (n : Names) (ps : List EntryPlace) (j : Job) (s : State) (k : Job) (t : State) → SameJob bounds n j k → Like bounds n ps s t → MayLack j ps → s.compilation.runs_code ≡ false → EventWithin t
      → EndsAgree bounds n ps (job the_compiler j s) (job the_compiler k t)
  -- so does a function that is called by its name, which code does too
  pub called_ : (bounds : Bounds) (n : Names) (ps : List EntryPlace) (i : ℕ) (l m : Levels) (vs ws : List Value) (s t : State) → Roomier bounds l m → Each (SameValue n) vs ws → Like bounds n ps s t → s.compilation.runs_code ≡ false → EventWithin t
      → EndsAgree bounds n ps (called (jobs the_compiler) i l vs s) (called (jobs the_compiler) i m ws t)
