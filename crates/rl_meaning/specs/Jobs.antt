-- Jobs: what is asked for is done with what it asks for in turn, by what is left to do (this project's).
use Rattle.std.specs.Prelude.{ℕ, zero, suc, ◌+◌, ◌*◌, ◌==◌, Bool, true, false, ◌&&◌, if◌then◌else◌, List, [], ◌∷◌, Option, Some, None}
use Rattle.rl_tree.specs.Value.{Value}
use Rattle.rl_meaning.specs.State.{State, Code, Coded, Expansion, Tree, Held, Pointer}
use Rattle.rl_meaning.specs.Holding.{same_pointer}
use Rattle.rl_meaning.specs.Outcome.{Outcome, Stopped, Turns, Levels}
use Rattle.rl_meaning.specs.Compiling.{Compiler, no_compiler}
use Rattle.rl_meaning.specs.Evaluation.{Job, Run, Onward, Call_, From, In, Rec, Here, Inside, longest_chain, expansion_turns, applied, eval, statements, walked}
use Rattle.rl_meaning.specs.Machine.{run, run_code}

-- ---- which code an application runs

abbrev pub names_function : Option Pointer → Pointer → Bool
names_function None q = false
names_function (Some p) q = same_pointer p q

abbrev pub code_among : List Coded → ℕ → Option Pointer → Option Code
code_among [] i f = None
code_among (c ∷ cs) i f = if c.name == i && names_function f c.function then Some c.code else code_among cs i f

abbrev pub code_outside : Option Expansion → Bool → List Coded → ℕ → Option Pointer → Option Code
code_outside None true coded i f = code_among coded i f
code_outside _ _ coded i f = None

-- outside expansions, that of a name whose standing definition has one
abbrev pub code_of : Option ℕ → Option Pointer → State → Option Code
code_of None f s = None
code_of (Some i) f s = code_outside s.counts.expansion s.compilation.runs_code s.compilation.coded i f

module _ (rec : Rec) where
  -- the application of a held function: its code runs, or it is walked
  abbrev pub run_held : Option Code → Levels → ℕ → Option Pointer → Held → List Value → State → Outcome Value
  run_held None levels holder f held vs s = walked rec levels holder f held vs s
  run_held (Some code) levels holder f held vs s = run_code rec levels f held code vs s

  -- a job, with the jobs that it asks for
  abbrev pub job_done : Job → State → Outcome Value
  job_done (Run name levels holder f held vs) s = run_held (code_of name f s) levels holder f held vs s
  job_done (Onward frame machine rest) s = run rec frame rest machine s
  job_done (Call_ name levels f vs) s = applied rec name levels f vs s
  job_done (From here whole rest) s = statements rec here whole rest s
  job_done (In here position body) s = eval rec here position body s

-- ---- jobs, by what is left to do: each job that a job asks for has less

-- each turn may have a whole chain of expansions, and the run an expansion with its turns behind its last one
abbrev pub job_rank : ℕ → Option Expansion → ℕ → ℕ
job_rank chain None turns = turns * (longest_chain + 1) + chain + (expansion_turns + 1) * (longest_chain + 1)
job_rank chain (Some e) turns = e.turns * (longest_chain + 1) + chain

abbrev pub chain_of_job : Job → ℕ
chain_of_job (From here whole rest) = here.chain
chain_of_job (In here position body) = here.chain
chain_of_job other = longest_chain

abbrev pub rank : Job → State → ℕ
rank j s = job_rank (chain_of_job j) s.counts.expansion s.counts.turns

abbrev pub job_at : Compiler → ℕ → Job → State → Outcome Value
job_at compiler zero j s = Stopped Turns s
job_at compiler (suc n) j s = job_done (record { compiler = compiler; ask = λ k s. job_at compiler n k s }) j s

-- a job: its rank is fuel enough
unfoldable pub job : Compiler → Job → State → Outcome Value
job compiler j s = job_at compiler (suc (rank j s)) j s

-- jobs are done, and compilation does this
abbrev pub jobs : Compiler → Rec
jobs compiler = record { compiler = compiler; ask = job compiler }

-- what compilation does
abbrev pub the_compiler : Compiler
the_compiler = no_compiler

-- the value of a held form, at a level
abbrev pub evaluate : Here → Tree → State → Outcome Value
evaluate here form s = eval (jobs the_compiler) here Inside form s
