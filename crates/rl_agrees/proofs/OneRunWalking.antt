-- The jobs of a walk keep a law on one run that asks nothing of c-macros.
use Rattle.std.proofs.Common.{◌≡◌, ℕ, zero, suc, Bool, true, false, List, Option, Some, None, refl, sym, ap, subst}
use Rattle.rl_tree.specs.Value.{Value}
use Rattle.rl_meaning.specs.State.{State, Code, Expansion, Held, Pointer}
use Rattle.rl_meaning.specs.Outcome.{Levels}
use Rattle.rl_meaning.specs.Evaluation.{Job, Run, Onward, Call_, From, In, Rec, Inside}
use Rattle.rl_meaning.specs.Jobs.{code_of, code_outside, run_held, rank, job_at, job, the_compiler}
use Rattle.rl_agrees.specs.Later.{Later}
use Rattle.rl_agrees.specs.Heads.{IsWalk}
use Rattle.rl_agrees.proofs.OneRun.{StepsAt, Prints, ReadsLead, LeadsAt, follows_same, stopped_leads}
use Rattle.rl_agrees.proofs.OneRunEvaluation.{RecLeadsAt, position_of, no_compiler_leads, applied_leads}
use Rattle.rl_agrees.proofs.OneRunForms.{eval_leads, statements_lead, walked_leads}
use Rattle.rl_agrees.proofs.OneRunMachine.{job_at_leads}
use Rattle.rl_agrees.proofs.OneRunLater.{later_steps, later_prints}

-- where no code runs, an application has none
no_code : (name : Option ℕ) (f : Option Pointer) (s : State) → s.compilation.runs_code ≡ false → code_of name f s ≡ None
no_code None f s e = refl
no_code (Some i) f s e = outside s.counts.expansion
  where
    outside : (o : Option Expansion) → code_outside o s.compilation.runs_code s.compilation.coded i f ≡ None
    outside None = ap (λ (b : Bool). code_outside None b s.compilation.coded i f) e
    outside (Some x) = refl

-- a law on the states in which no code runs: of the others it says no more than that they go on
pub record Idles (P : State → State → Type 0) : Type 0 where
  pub idle : (s t : State) → s.compilation.runs_code ≡ true → Later s t → P s t

module _ {P : State → State → Type 0} (steps : StepsAt false P) (prints : Prints P) (reads : ReadsLead P) (idles : Idles P) (reads_later : ReadsLead Later) where
  -- jobs with one more round, from those that they ask for
  walk_done : (n : ℕ) → ((k : Job) (t : State) → IsWalk k → LeadsAt P (position_of k) t (job_at the_compiler n k t)) → (j : Job) (s : State) → IsWalk j → LeadsAt P (position_of j) s (job_at the_compiler (suc n) j s)
  walk_done n asked j s w = done j w
    where
      rec : Rec
      rec = record { compiler = the_compiler; ask = λ k t. job_at the_compiler n k t }

      keeps : RecLeadsAt false P rec
      keeps = record { steps = steps; prints = prints; compiler = no_compiler_leads steps reads; asks = asked }

      applied : (name : Option ℕ) (levels : Levels) (holder : ℕ) (f : Option Pointer) (held : Held) (vs : List Value) (b : Bool) → s.compilation.runs_code ≡ b → LeadsAt P Inside s (job_at the_compiler (suc n) (Run name levels holder f held vs) s)
      applied name levels holder f held vs true e =
          let l : LeadsAt Later Inside s (job_at the_compiler (suc n) (Run name levels holder f held vs) s) = job_at_leads later_steps later_prints the_compiler (no_compiler_leads later_steps reads_later) (suc n) (Run name levels holder f held vs) s in
          record { moves = idles.idle s _ e l.moves; plain = l.plain }
      applied name levels holder f held vs false e = subst (λ (o : Option Code). LeadsAt P Inside s (run_held rec o levels holder f held vs s)) (sym (no_code name f s e)) (walked_leads keeps levels holder f held vs s (follows_same steps s))

      done : (j : Job) → IsWalk j → LeadsAt P (position_of j) s (job_at the_compiler (suc n) j s)
      done (Run name levels holder f held vs) w = applied name levels holder f held vs s.compilation.runs_code refl
      done (Onward f m code) w = absurd w
      done (Call_ name levels f vs) w = applied_leads keeps name levels f vs s (follows_same steps s)
      done (From here whole rest) w = statements_lead keeps here whole rest s (follows_same steps s)
      done (In here position body) w = eval_leads keeps here position body s (follows_same steps s)

  walk_at_leads : (n : ℕ) (j : Job) (s : State) → IsWalk j → LeadsAt P (position_of j) s (job_at the_compiler n j s)
  walk_at_leads zero j s w = stopped_leads _ s (follows_same steps s)
  walk_at_leads (suc n) j s w = walk_done n (λ k t w. walk_at_leads n k t w) j s w

  -- a job of a walk keeps the law
  pub walk_leads : (j : Job) (s : State) → IsWalk j → LeadsAt P (position_of j) s (job the_compiler j s)
  unfolding job
  walk_leads j s w = walk_at_leads (suc (rank j s)) j s w
