-- What the proofs keep of two runs: what a run does whatever it does, that no binding is lacking, and how jobs end.
use Rattle.std.proofs.Common.{◌≡◌, is_some, List, [], ◌∷◌, length, Some}
use Rattle.rl_tree.specs.Value.{Value}
use Rattle.rl_meaning.specs.State.{State, HeldFunction}
use Rattle.rl_meaning.specs.Outcome.{Outcome}
use Rattle.rl_meaning.specs.Holding.{function_at}
use Rattle.rl_meaning.specs.Evaluation.{Job, Run, Onward}
use Rattle.rl_meaning.specs.TwoRunsValues.{Names}
use Rattle.rl_meaning.specs.TwoRunsStates.{Bounds, EntryPlace, Both, BothMark}
use Rattle.rl_meaning.specs.TwoRunsEnds.{EndsAgree}
use Rattle.rl_agrees.specs.Later.{Later}
use Rattle.rl_agrees.specs.TwoRunsJobs.{EventWithin}

-- what a run does from one state to another, whatever it does
pub record Goes (s t : State) : Type 0 where
  pub later : Later s t
  pub within : EventWithin s → EventWithin t
  pub bounded : is_some s.counts.cells ≡ is_some t.counts.cells
  pub runs_code : s.compilation.runs_code ≡ t.compilation.runs_code

-- an application of a function that its mark names is that of a function of the state
abbrev pub IsOfState : Job → State → Type 0
IsOfState (Run name l holder (Some p) held vs) t = (function_at t p ≡ HeldFunction held) × (holder ≡ p.function) × (length vs ≡ length held.parameters)
IsOfState j t = Unit {0}

-- no binding is lacking
abbrev pub IsWhole : List EntryPlace → Type 0
IsWhole [] = Unit {0}
IsWhole (Both ∷ ps) = IsWhole ps
IsWhole (BothMark ∷ ps) = IsWhole ps
IsWhole (p ∷ ps) = ⊥

-- code that goes on may leave other bindings, of which all are there on both sides
pub record EndsSomewhere (bounds : Bounds) (n : Names) (o p : Outcome Value) : Type 0 where
  pub places : List EntryPlace
  pub whole : IsWhole places
  pub ends : EndsAgree bounds n places o p

abbrev pub EndsOf : Bounds → Job → Names → List EntryPlace → Outcome Value → Outcome Value → Type 0
EndsOf bounds (Onward f m code) n ps o p = EndsSomewhere bounds n o p
EndsOf bounds j n ps o p = EndsAgree bounds n ps o p
