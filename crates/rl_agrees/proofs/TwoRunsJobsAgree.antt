-- Jobs of the run in which code runs agree with those of the walk: evaluation and c-macros respect that, so the whole composes. And so do those of two walks.
use Rattle.std.proofs.Common.{◌≡◌, ℕ, Bool, true, false, nat_lt, List}
use Rattle.rl_tree.specs.Value.{Value}
use Rattle.rl_meaning.specs.State.{State, Tree, Code}
use Rattle.rl_meaning.specs.Outcome.{Levels}
use Rattle.rl_meaning.specs.Evaluation.{Job, From, In, Here, Position, Frame, Machine, Run, Onward, Call_, called}
use Rattle.rl_meaning.specs.Machine.{run}
use Rattle.rl_meaning.specs.Jobs.{rank, job, jobs, the_compiler}
use Rattle.rl_meaning.specs.LesserJobs.{below_by, below}
use Rattle.rl_meaning.specs.Laws.{IsFuelEnough}
use Rattle.rl_meaning.specs.TwoRunsValues.{Names, SameTree, SameCode, Each, SameValue}
use Rattle.rl_meaning.specs.TwoRunsStates.{Bounds, EntryPlace, Like, Roomier}
use Rattle.rl_meaning.specs.TwoRunsEnds.{EndsAgree}
use Rattle.rl_agrees.specs.Laws.{WalksAgree}
use Rattle.rl_agrees.specs.Leaving.{IsNoTransfer, is_statement}
use Rattle.rl_agrees.specs.TwoRunsJobs.{SameHere, same_here, SameJob, same_run, same_onward, same_call, same_from, same_in, SameMachine, SameFrame, EventWithin, MayLack}
use Rattle.rl_agrees.proofs.TwoRunsKept.{EndsOf, EndsSomewhere}
use Rattle.rl_agrees.proofs.TwoRunsGrowth.{grows_refl}
use Rattle.rl_agrees.proofs.TwoRunsFacts.{Ask, AskGoes, GoesOn, OneRunFacts, TwoRunsFacts}
use Rattle.rl_agrees.proofs.TwoRunsGoes.{goes_refl}
use Rattle.rl_agrees.proofs.TwoRunsCompared.{Comparison, Sides, Starts, code_and_walk, CleanSides, PlacesOf, two_walks}
use Rattle.rl_agrees.proofs.TwoRunsAsked.{by, Respects, CompilerRespects, no_compiler_respects, rec_goes}
use Rattle.rl_agrees.proofs.TwoRunsEvaluation.{applied_ends, called_ends}
use Rattle.rl_agrees.proofs.TwoRunsBlock.{eval_ends, statements_ends, walked_ends}
use Rattle.rl_agrees.proofs.TwoRunsMachine.{run_respects, code_respects}
use Rattle.rl_agrees.proofs.TwoRunsComposed.{walk_done, composed, walks_all, walks_composed}

module _ {bounds : Bounds} (one : OneRunFacts) (two : TwoRunsFacts bounds) where
  -- what walks respects the relation, if code that goes on does
  module _ (c : Comparison) (ask ask' : Ask) (ga : AskGoes ask) (gb : AskGoes ask') (respects : Respects bounds c ask ask')
      (onward : (n : Names) (ps : List EntryPlace) (f g : Frame) (m k : Machine) (x y : Code) (s t : State) → SameFrame bounds n f g → SameMachine bounds n m k → SameCode n x y → Sides bounds c c.coded n ps s t
      → EndsSomewhere bounds n (run (by the_compiler ask) f x m s) (run (by the_compiler ask') g y k t))
    where
      cr : CompilerRespects bounds the_compiler c
      cr = no_compiler_respects c

      from_ends : (n : Names) (ps : List EntryPlace) (h g : Here) (a b d e : Tree) (s t : State) → SameHere bounds n h g → SameTree n a b → SameTree n d e → CleanSides bounds c n ps s t → EndsAgree bounds n ps (walk_done (by the_compiler ask) (From h a d) s) (walk_done (by the_compiler ask') (From g b e) t)
      from_ends n ps _ _ a b d e s t (same_here chain kept l m h g r u) x y i = statements_ends c cr one two ask ask' ga gb respects n d e y n ps (record { levels = l; chain = chain; kept = kept; holder = h }) m g a b x s t u (grows_refl n) r i

      in_ends : (n : Names) (ps : List EntryPlace) (h g : Here) (position : Position) (a b : Tree) (s t : State) → SameHere bounds n h g → SameTree n a b → CleanSides bounds c n ps s t → EndsAgree bounds n ps (walk_done (by the_compiler ask) (In h position a) s) (walk_done (by the_compiler ask') (In g position b) t)
      in_ends n ps _ _ position a b s t (same_here chain kept l m h g r u) x i = eval_ends c cr one two ask ask' ga gb respects n a b x n ps (record { levels = l; chain = chain; kept = kept; holder = h }) m g position s t u (grows_refl n) r i

      job_ends : (n : Names) (ps : List EntryPlace) (j k : Job) (s t : State) → SameJob bounds n j k → Sides bounds c (PlacesOf c j) n ps s t → EndsOf bounds j n ps (walk_done (by the_compiler ask) j s) (walk_done (by the_compiler ask') k t)
      job_ends n ps _ _ s t (same_run name l m h g p q a b vs ws r x y z v) i = walked_ends c cr one two ask ask' ga gb respects n ps l m h g p q a b vs ws s t r x y z v (record { like = i.like; places = i.places; ready = i.ready })
      job_ends n ps _ _ s t (same_onward f g m k x y fr h r) i = onward n ps f g m k x y s t fr h r (record { like = i.like; places = i.places; ready = i.ready })
      job_ends n ps _ _ s t (same_call name l m p q vs ws r x v) i = applied_ends c cr one two ask ask' ga gb respects n ps name l m p q vs ws s t r x v (record { like = i.like; places = i.places; ready = i.ready })
      job_ends n ps _ _ s t (same_from h g a b d e x y z) i = from_ends n ps h g a b d e s t x y z (record { like = i.like; places = i.places; ready = i.ready })
      job_ends n ps _ _ s t (same_in h g position a b x y) i = in_ends n ps h g position a b s t x y (record { like = i.like; places = i.places; ready = i.ready })

      walk_respects : (n : Names) (ps : List EntryPlace) (j : Job) (s : State) (k : Job) (t : State) → Starts bounds c n ps j s k t → EndsOf bounds j n ps (walk_done (by the_compiler ask) j s) (walk_done (by the_compiler ask') k t)
      walk_respects n ps j s k t st = job_ends n ps j k s t st.same (record { like = st.like; places = st.places; ready = st.ready })

  code_and_walk_respect : (ask ask' : Ask) → AskGoes ask → AskGoes ask' → Respects bounds code_and_walk ask ask' → (n : Names) (ps : List EntryPlace) (j : Job) (s : State) (k : Job) (t : State) → Starts bounds code_and_walk n ps j s k t → EndsOf bounds j n ps (walk_done (by the_compiler ask) j s) (walk_done (by the_compiler ask') k t)
  code_and_walk_respect ask ask' ga gb respects =
      walk_respects code_and_walk ask ask' ga gb respects (λ n ps f g m k x y s t fr h r i. run_respects one two ask ask' ga gb respects n ps f g m k x y s t fr h r i.like i.places i.ready)

  two_walks_respect : (ask ask' : Ask) → AskGoes ask → AskGoes ask' → Respects bounds two_walks ask ask' → (n : Names) (ps : List EntryPlace) (j : Job) (s : State) (k : Job) (t : State) → Starts bounds two_walks n ps j s k t → EndsOf bounds j n ps (walk_done (by the_compiler ask) j s) (walk_done (by the_compiler ask') k t)
  two_walks_respect ask ask' ga gb respects = walk_respects two_walks ask ask' ga gb respects (λ n ps f g m k x y s t fr h r i. absurd i.places)

  module _ (jobs_go : AskGoes (job the_compiler)) where
    below_goes : (i : ℕ) → AskGoes (below i)
    below_goes i = record { goes = λ j s. goes j s (nat_lt (rank j s) i); plain = λ j s e. plain j s e (nat_lt (rank j s) i) }
      where
        goes : (j : Job) (s : State) (b : Bool) → GoesOn s (below_by b j s)
        goes j s true = jobs_go.goes j s
        goes j s false = record { goes = goes_refl s }

        plain : (j : Job) (s : State) → is_statement j ≡ false → (b : Bool) → IsNoTransfer (below_by b j s)
        plain j s e true = jobs_go.plain j s e
        plain j s e false = tt

    -- a run in which code runs agrees with the walk
    pub jobs_agree : IsFuelEnough → Respects bounds code_and_walk (job the_compiler) (job the_compiler)
    jobs_agree fuel = composed fuel jobs_go (λ l f held code vs s. one.code_goes (jobs the_compiler) (rec_goes {bounds = bounds} the_compiler code_and_walk (no_compiler_respects code_and_walk) (job the_compiler) jobs_go) l f held code vs s) below_goes code_and_walk_respect (code_respects one two)

    -- two walks agree, of which the left one may lack bindings
    two_walks_agree : IsFuelEnough → Respects bounds two_walks (job the_compiler) (job the_compiler)
    two_walks_agree fuel = walks_composed two_walks fuel below_goes two_walks_respect (λ j s t w. walks_all j s w.0)

    start : (n : Names) (ps : List EntryPlace) (j : Job) (s : State) (k : Job) (t : State) → SameJob bounds n j k → Like bounds n ps s t → PlacesOf two_walks j ps → s.compilation.runs_code ≡ false → EventWithin t → Starts bounds two_walks n ps j s k t
    start n ps j s k t same like w code event = record { same = same; like = like; places = w; asked = tt; ready = (code, event) }

    agree : IsFuelEnough → (n : Names) (ps : List EntryPlace) (j : Job) (s : State) (k : Job) (t : State) → SameJob bounds n j k → Like bounds n ps s t → MayLack j ps → s.compilation.runs_code ≡ false → EventWithin t → EndsAgree bounds n ps (job the_compiler j s) (job the_compiler k t)
    agree fuel n ps (Run name l holder f held vs) s k t same like w code event = two_walks_agree fuel n ps _ s k t (start n ps _ s k t same like tt code event)
    agree fuel n ps (Onward f m c) s k t same like w code event = absurd w
    agree fuel n ps (Call_ name l f vs) s k t same like w code event = two_walks_agree fuel n ps _ s k t (start n ps _ s k t same like tt code event)
    agree fuel n ps (From here whole rest) s k t same like w code event = two_walks_agree fuel n ps _ s k t (start n ps _ s k t same like w code event)
    agree fuel n ps (In here position body) s k t same like w code event = two_walks_agree fuel n ps _ s k t (start n ps _ s k t same like w code event)

    calls_agree : IsFuelEnough → (n : Names) (ps : List EntryPlace) (i : ℕ) (l m : Levels) (vs ws : List Value) (s t : State) → Roomier bounds l m → Each (SameValue n) vs ws → Like bounds n ps s t → s.compilation.runs_code ≡ false → EventWithin t → EndsAgree bounds n ps (called (jobs the_compiler) i l vs s) (called (jobs the_compiler) i m ws t)
    calls_agree fuel n ps i l m vs ws s t r e like code event =
        called_ends two_walks (no_compiler_respects two_walks) one two (job the_compiler) (job the_compiler) jobs_go jobs_go (two_walks_agree fuel) n ps i l m vs ws s t r e (record { like = like; places = tt; ready = (code, event) })

pub walks_agree : OneRunFacts → ((bounds : Bounds) → TwoRunsFacts bounds) → AskGoes (job the_compiler) → IsFuelEnough → WalksAgree
walks_agree one two jobs_go fuel = record { job_ = λ bounds. agree one (two bounds) jobs_go fuel; called_ = λ bounds. calls_agree one (two bounds) jobs_go fuel }
