-- The laws of one run, for each job and each run.
use Rattle.std.proofs.Common.{◌≡◌, ℕ, false, List, Option}
use Rattle.rl_tree.specs.Name.{Name}
use Rattle.rl_meaning.specs.State.{State}
use Rattle.rl_meaning.specs.Outcome.{Levels}
use Rattle.rl_meaning.specs.Evaluation.{Job, Run, Onward, Call_, From, In, Statement, Inside}
use Rattle.rl_meaning.specs.Jobs.{job, the_compiler}
use Rattle.rl_meaning.specs.Opening.{state_of}
use Rattle.rl_meaning.specs.Run.{run_bytes, run_file}
use Rattle.rl_agrees.specs.Later.{Later}
use Rattle.rl_agrees.specs.Leaving.{IsNoTransfer, is_statement}
use Rattle.rl_agrees.proofs.OneRun.{LeadsAt, ReadsLead, follows_same}
use Rattle.rl_agrees.proofs.OneRunEvaluation.{position_of, no_compiler_leads}
use Rattle.rl_agrees.proofs.OneRunMachine.{job_leads}
use Rattle.rl_agrees.proofs.OneRunRuns.{run_bytes_follows, run_file_follows}
use Rattle.rl_agrees.proofs.OneRunLater.{later_steps, later_prints}

module _ (reads : ReadsLead Later) where
  job_goes : (j : Job) (s : State) → LeadsAt Later (position_of j) s (job the_compiler j s)
  job_goes j s = job_leads later_steps later_prints the_compiler (no_compiler_leads later_steps reads) j s

  pub job_later : (j : Job) (s : State) → Later s (state_of (job the_compiler j s))
  job_later j s = (job_goes j s).moves

  pub run_later : (levels : Levels) (bytes : List ℕ) (s : State) → Later s (run_bytes levels bytes s).state
  run_later levels bytes s = (run_bytes_follows later_steps later_prints reads levels bytes s (follows_same later_steps s)).is

  pub file_later : (levels : Levels) (name : Name) (file : Option (List ℕ)) (s : State) → Later s (run_file levels name file s).state
  file_later levels name file s = (run_file_follows later_steps later_prints reads levels name file s (follows_same later_steps s)).is

  pub job_plain : (j : Job) (s : State) → is_statement j ≡ false → IsNoTransfer (job the_compiler j s)
  job_plain (Run name levels holder f held vs) s e = (job_goes (Run name levels holder f held vs) s).plain
  job_plain (Onward f m code) s e = (job_goes (Onward f m code) s).plain
  job_plain (Call_ name levels f vs) s e = (job_goes (Call_ name levels f vs) s).plain
  job_plain (From here whole rest) s e = (job_goes (From here whole rest) s).plain
  job_plain (In here Inside body) s e = (job_goes (In here Inside body) s).plain
  job_plain (In here Statement body) s e = absurd (cc)
