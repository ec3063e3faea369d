-- The jobs that have less to do than so much: a job asks for no others.
use Rattle.std.specs.Prelude.{ℕ, Bool, true, false, nat_lt}
use Rattle.rl_tree.specs.Value.{Value}
use Rattle.rl_meaning.specs.State.{State}
use Rattle.rl_meaning.specs.Outcome.{Outcome, Stopped, Turns}
use Rattle.rl_meaning.specs.Evaluation.{Job}
use Rattle.rl_meaning.specs.Jobs.{rank, job, the_compiler}

abbrev pub below_by : Bool → Job → State → Outcome Value
below_by true j s = job the_compiler j s
below_by false j s = Stopped Turns s

-- the jobs that have less than so much to do; all others stop
abbrev pub below : ℕ → Job → State → Outcome Value
below n j s = below_by (nat_lt (rank j s) n) j s
