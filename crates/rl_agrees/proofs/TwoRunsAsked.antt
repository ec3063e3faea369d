-- What is asked of jobs and of the compiler of two runs side by side, and the states between which they stand.
use Rattle.std.proofs.Common.{ℕ, List, Option, Some, None}
use Rattle.rl_tree.specs.Value.{Value}
use Rattle.rl_meaning.specs.State.{State}
use Rattle.rl_meaning.specs.Outcome.{Unbuilt}
use Rattle.rl_meaning.specs.Evaluation.{Job, Run, Onward, Call_, From, In, Rec}
use Rattle.rl_meaning.specs.Compiling.{Compiler, no_compiler}
use Rattle.rl_meaning.specs.TwoRunsValues.{Names, Each, SameValue}
use Rattle.rl_meaning.specs.TwoRunsStates.{Bounds, EntryPlace, Like}
use Rattle.rl_agrees.specs.TwoRunsJobs.{SameJob}
use Rattle.rl_agrees.proofs.TwoRunsKept.{Goes, IsOfState, EndsOf}
use Rattle.rl_agrees.proofs.TwoRunsReady.{function_stays}
use Rattle.rl_agrees.proofs.TwoRunsFacts.{Ask, AskGoes, GoesOn, IsPlainCompiler, RecGoes}
use Rattle.rl_agrees.proofs.TwoRunsGoes.{goes_refl}
use Rattle.rl_agrees.proofs.TwoRunsEnding.{EndTogether, stopped_here}
use Rattle.rl_agrees.proofs.TwoRunsCompared.{Comparison, Sides, BelowSides, PlacesOf, Starts}

abbrev pub by : Compiler → Ask → Rec
by c ask = record { compiler = c; ask = ask }

-- what is asked for respects the relation
abbrev pub Respects : Bounds → Comparison → Ask → Ask → Type 0
Respects bounds c ask ask' = (n : Names) (ps : List EntryPlace) (j : Job) (s : State) (k : Job) (t : State) → Starts bounds c n ps j s k t → EndsOf bounds j n ps (ask j s) (ask' k t)

-- what compilation does keeps two runs side by side, and only goes on
pub record CompilerRespects (bounds : Bounds) (compiler : Compiler) (c : Comparison) : Type 0 where
  pub taken : (n : Names) (ps : List EntryPlace) (name : Option ℕ) (s t : State) → Like bounds n ps s t → Like bounds n ps (compiler.requests_taken name s) (compiler.requests_taken name t)
  pub defined : (n : Names) (ps : List EntryPlace) (v w : Value) (s t : State) → SameValue n v w → Like bounds n ps s t → Like bounds n ps (compiler.defined v s) (compiler.defined w t)
  pub names : (n : Names) (ps : List EntryPlace) (vs ws : List Value) (s t : State) → Each (SameValue n) vs ws → BelowSides bounds c n ps s t → EndTogether bounds SameValue n ps (compiler.compile_names vs s) (compiler.compile_names ws t)
  pub writes : (n : Names) (ps : List EntryPlace) (vs ws : List Value) (s t : State) → Each (SameValue n) vs ws → BelowSides bounds c n ps s t → EndTogether bounds SameValue n ps (compiler.write_file vs s) (compiler.write_file ws t)
  pub loads : (n : Names) (ps : List EntryPlace) (vs ws : List Value) (s t : State) → Each (SameValue n) vs ws → BelowSides bounds c n ps s t → EndTogether bounds SameValue n ps (compiler.load_file vs s) (compiler.load_file ws t)
  pub taken_goes : (name : Option ℕ) (s : State) → Goes s (compiler.requests_taken name s)
  pub defined_goes : (v : Value) (s : State) → Goes s (compiler.defined v s)
  pub names_goes : (vs : List Value) (s : State) → GoesOn s (compiler.compile_names vs s)
  pub writes_goes : (vs : List Value) (s : State) → GoesOn s (compiler.write_file vs s)
  pub loads_goes : (vs : List Value) (s : State) → GoesOn s (compiler.load_file vs s)
  pub plain : IsPlainCompiler compiler

module _ {bounds : Bounds} where
  pub no_compiler_respects : (c : Comparison) → CompilerRespects bounds no_compiler c
  no_compiler_respects c = record {
    taken = λ n ps name s t l. l;
    defined = λ n ps v w s t r l. l;
    names = λ n ps vs ws s t r i. stopped_here c n ps Unbuilt s t tt i;
    writes = λ n ps vs ws s t r i. stopped_here c n ps Unbuilt s t tt i;
    loads = λ n ps vs ws s t r i. stopped_here c n ps Unbuilt s t tt i;
    taken_goes = λ name s. goes_refl s;
    defined_goes = λ v s. goes_refl s;
    names_goes = λ vs s. record { goes = goes_refl s };
    writes_goes = λ vs s. record { goes = goes_refl s };
    loads_goes = λ vs s. record { goes = goes_refl s };
    plain = record { names = λ vs s. tt; writes = λ vs s. tt; loads = λ vs s. tt };
  }

  pub rec_goes : (compiler : Compiler) (c : Comparison) → CompilerRespects bounds compiler c → (ask : Ask) → AskGoes ask → RecGoes (by compiler ask)
  rec_goes compiler c cr ask h = record { ask = h; taken = cr.taken_goes; defined = cr.defined_goes; names = cr.names_goes; writes = cr.writes_goes; loads = cr.loads_goes; plain = cr.plain }

pub of_state_stays : (j : Job) (s t : State) → Goes s t → IsOfState j s → IsOfState j t
of_state_stays (Run name l holder (Some p) held vs) s t g h = (function_stays s t p held g.later.functions h.0, h.1, h.2)
of_state_stays (Run name l holder None held vs) s t g h = tt
of_state_stays (Onward f m code) s t g h = tt
of_state_stays (Call_ name l f vs) s t g h = tt
of_state_stays (From here whole rest) s t g h = tt
of_state_stays (In here position body) s t g h = tt

module _ {bounds : Bounds} (c : Comparison) where
  pub starts : {P : List EntryPlace → Type 0} (n : Names) (ps : List EntryPlace) (j k : Job) (s t : State) → SameJob bounds n j k → Sides bounds c P n ps s t → PlacesOf c j ps → IsOfState k t → Starts bounds c n ps j s k t
  starts n ps j k s t r i w h = record { same = r; like = i.like; places = w; asked = c.asks k t h; ready = i.ready }

  pub taken_sides : {P : List EntryPlace → Type 0} {compiler : Compiler} → CompilerRespects bounds compiler c → (n : Names) (ps : List EntryPlace) (name : Option ℕ) (s t : State) → Sides bounds c P n ps s t → Sides bounds c P n ps (compiler.requests_taken name s) (compiler.requests_taken name t)
  taken_sides cr n ps name s t i = record { like = cr.taken n ps name s t i.like; places = i.places; ready = c.stay s t _ _ (cr.taken_goes name s) (cr.taken_goes name t) i.ready }
