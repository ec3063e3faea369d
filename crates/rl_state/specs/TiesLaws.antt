-- How calls that print and take input follow one another.
use Rattle.std.specs.Prelude.{◌≡◌, ℕ, List, [], ◌++◌, Option, None, false}
use Rattle.rl_meaning.specs.State.{State}
use Rattle.rl_state.specs.Ties.{EndsTied, IsPrintedInPart, IsWholeRun, TakesInput, TakesNothing, ThenHolds, Ties, ToldAtStart, WorldAndTold}

-- one call after another; a call that takes nothing after one; and none
pub record TakingsCompose (R : State → State → Type 0) (P : ToldAtStart → List ℕ → State → Type 0) : Type 0 where
  pub after : (a b c : WorldAndTold) → TakesInput a b (EndsTied R b) → TakesInput b c P → TakesInput a c (ThenHolds R P)
  pub kept : (a b c : WorldAndTold) → TakesInput a b (EndsTied R b) → TakesNothing b c → ((at : ToldAtStart) (rest : List ℕ) (s t : State) → R s t → Ties at b rest t → P at rest s) → TakesInput a c P
  pub none : (a : WorldAndTold) → ((at : ToldAtStart) (rest : List ℕ) (s : State) → Ties at a rest s → P at rest s) → TakesInput a a P

-- what a sink has where a write failed is a front of all that is printed, or noted, in the end
abbrev pub OutputGrows : Type 0
OutputGrows = (start now : Option (List ℕ)) (output more : List ℕ) → IsPrintedInPart start now output → IsPrintedInPart start now (output ++ more)

-- nothing waits to be written
pub record NothingWaits (e : WorldAndTold) : Type 0 where
  pub output : e.world.output.waiting ≡ []
  pub notes : e.world.notes ≡ []

-- a run from where nothing waits and nothing was read, to where all is written
abbrev pub RunsAreTied : (State → State → Type 0) → Type 0
RunsAreTied R = (old new : WorldAndTold) → NothingWaits old → old.world.input ≡ record { back = None; given = 0; ended = false } → NothingWaits new
    → TakesInput old new (EndsTied R new) → IsWholeRun R old new
