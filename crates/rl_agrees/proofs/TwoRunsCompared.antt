-- Which two runs are compared: what is asked of the places of their bindings and marks, and of their states, which stays so as both go on. There are two such comparisons: a run in which code runs with the walk, and two walks of which the left one may lack bindings.
use Rattle.std.proofs.Common.{◌≡◌, ◌∙◌, false, List, [], ◌∷◌, sym}
use Rattle.rl_meaning.specs.State.{State}
use Rattle.rl_meaning.specs.Evaluation.{Job, Run, Onward, Call_, From, In}
use Rattle.rl_meaning.specs.Jobs.{the_compiler}
use Rattle.rl_meaning.specs.TwoRunsValues.{Names}
use Rattle.rl_meaning.specs.TwoRunsStates.{Bounds, EntryPlace, Both, BothMark, Hidden, HiddenMark, Shown, Like}
use Rattle.rl_agrees.specs.TwoRunsJobs.{EventWithin, SameJob, Ready}
use Rattle.rl_agrees.proofs.TwoRunsKept.{Goes, IsOfState, IsWhole}
use Rattle.rl_agrees.proofs.TwoRunsReady.{ready_stays}

pub record Comparison : Type 1 where
  -- of the places where a function begins, which pushes a mark over them; where a form is walked; and where code goes on
  pub below : List EntryPlace → Type 0
  pub clean : List EntryPlace → Type 0
  pub coded : List EntryPlace → Type 0
  -- of the states on the left and on the right
  pub states : State → State → Type 0
  -- of a job on the right
  pub asked : Job → State → Type 0
  -- a binding of both leaves places clean, and so does the mark of a function that begins
  pub bound : (ps : List EntryPlace) → clean ps → clean (Both ∷ ps)
  pub marked : (ps : List EntryPlace) → below ps → clean (BothMark ∷ ps)
  -- where a form is walked a function may begin, and variables are the same ones
  pub begun : (ps : List EntryPlace) → clean ps → below ps
  pub shown : (ps : List EntryPlace) → clean ps → Shown ps
  -- code goes on where no binding is lacking
  pub whole : (ps : List EntryPlace) → coded ps → IsWhole ps
  -- both go on, and what is asked of them stays
  pub stay : (s t u v : State) → Goes s u → Goes t v → states s t → states u v
  pub event : (s t : State) → states s t → EventWithin t
  -- jobs that evaluation does are those of functions of the state
  pub asks : (k : Job) (t : State) → IsOfState k t → asked k t

-- ---- two states beside each other, and two jobs

-- P: what is asked of the places
pub record Sides (bounds : Bounds) (c : Comparison) (P : List EntryPlace → Type 0) (n : Names) (ps : List EntryPlace) (s t : State) : Type 0 where
  pub like : Like bounds n ps s t
  pub places : P ps
  pub ready : c.states s t

-- where a function begins
abbrev pub BelowSides : Bounds → Comparison → Names → List EntryPlace → State → State → Type 0
BelowSides bounds c n ps s t = Sides bounds c c.below n ps s t

-- where a form is walked
abbrev pub CleanSides : Bounds → Comparison → Names → List EntryPlace → State → State → Type 0
CleanSides bounds c n ps s t = Sides bounds c c.clean n ps s t

module _ {bounds : Bounds} where
  -- so a function may begin there
  pub begun_sides : (c : Comparison) (n : Names) (ps : List EntryPlace) (s t : State) → CleanSides bounds c n ps s t → BelowSides bounds c n ps s t
  begun_sides c n ps s t i = record { like = i.like; places = c.begun ps i.places; ready = i.ready }

-- what a job asks of the places
abbrev pub PlacesOf : Comparison → Job → List EntryPlace → Type 0
PlacesOf c (Run name l holder f held vs) ps = c.below ps
PlacesOf c (Onward f m code) ps = c.coded ps
PlacesOf c (Call_ name l f vs) ps = c.below ps
PlacesOf c (From here whole rest) ps = c.clean ps
PlacesOf c (In here position body) ps = c.clean ps

pub record Starts (bounds : Bounds) (c : Comparison) (n : Names) (ps : List EntryPlace) (j : Job) (s : State) (k : Job) (t : State) : Type 0 where
  pub same : SameJob bounds n j k
  pub like : Like bounds n ps s t
  pub places : PlacesOf c j ps
  pub asked : c.asked k t
  pub ready : c.states s t

-- ---- a run in which code runs, and the walk: no binding is lacking, and each code is right

pub whole_shown : (ps : List EntryPlace) → IsWhole ps → Shown ps
whole_shown [] w = tt
whole_shown (Both ∷ ps) w = whole_shown ps w
whole_shown (BothMark ∷ ps) w = tt
whole_shown (Hidden x v ∷ ps) w = absurd w
whole_shown (HiddenMark g ∷ ps) w = absurd w

abbrev pub code_and_walk : Comparison
code_and_walk = record {
  below = λ ps. IsWhole ps;
  clean = λ ps. IsWhole ps;
  coded = λ ps. IsWhole ps;
  states = λ s t. Ready the_compiler t;
  asked = λ k t. IsOfState k t;
  bound = λ ps w. w;
  marked = λ ps w. w;
  begun = λ ps w. w;
  shown = whole_shown;
  whole = λ ps w. w;
  stay = λ s t u v g h ready. ready_stays the_compiler t v h ready;
  event = λ s t ready. ready.event;
  asks = λ k t h. h;
}

-- ---- two walks: bindings may be lacking below the newest mark, and no code goes on

abbrev pub two_walks : Comparison
two_walks = record {
  below = λ ps. Unit {0};
  clean = λ ps. Shown ps;
  coded = λ ps. ⊥;
  states = λ s t. (s.compilation.runs_code ≡ false) × EventWithin t;
  asked = λ k t. Unit {0};
  bound = λ ps w. w;
  marked = λ ps w. tt;
  begun = λ ps w. tt;
  shown = λ ps w. w;
  whole = λ ps w. absurd w;
  stay = λ s t u v g h w. (sym g.runs_code ∙ w.0, h.within w.1);
  event = λ s t w. w.1;
  asks = λ k t h. tt;
}
