-- C-macros, and jobs, keep a law on one run.
use Rattle.std.proofs.Common.{◌==◌, ℕ, zero, suc, List, [], ◌∷◌, length, Option, Some, None}
use Rattle.rl_tree.specs.Value.{Value, Id, Fun}
use Rattle.rl_meaning.specs.Names.{Special, De, Df, Dm}
use Rattle.rl_meaning.specs.State.{State, Code, Tree, Held, Pointer, Definition, SpecialForm, NativeFunction, HeldFunction}
use Rattle.rl_meaning.specs.State as state
use Rattle.rl_meaning.specs.CMacros.{Operand, Slot, Constant, Variable, Register, Entry, Alloc, Dealloc, Load, Store, SetVar, Move, Copy, Link, LinkE, Self, CallNative, Jump, JumpNil, JumpT, JumpEq, JumpNe, Label, GoTo, Bind, ProgBind, Free, Exit, Raise}
use Rattle.rl_meaning.specs.Outcome.{Outcome, Levels}
use Rattle.rl_meaning.specs.Symbols.{nil_value_of_state, is_nil, same, symbol_at, cdr_at}
use Rattle.rl_meaning.specs.Errors.{wrong_count, wrong_type, badly_formed}
use Rattle.rl_meaning.specs.Holding.{function_at, form_at}
use Rattle.rl_meaning.specs.Variables.{with_mark, binding_levels}
use Rattle.rl_meaning.specs.Forms.{fits}
use Rattle.rl_meaning.specs.Evaluation.{Job, Run, Onward, Call_, From, In, Rec, Machine, Frame, kind_of_definition}
use Rattle.rl_meaning.specs.Machine as machine
use Rattle.rl_meaning.specs.Machine.{as_list, proper_elements, register, with_register, after_link, with_slot, allocated, deallocated, content, bound, freed, undone, one_more, frame_ended, at_entry, is_same, behind, behind_entry, part_linked, list_linked, definition_linked, form_linked, function_linked, linked_to, linked, again, run, seek, run_code}
use Rattle.rl_meaning.specs.Compiling.{Compiler}
use Rattle.rl_meaning.specs.Jobs.{run_held, code_of, job_done, rank, job_at, job, jobs, the_compiler}
use Rattle.rl_agrees.proofs.OneRun.{Steps, Prints, ReadsLead, IsBehind, LeadsAt, Leads, follows_same, follows_then, leads_from, stopped_leads, done_leads, then_leads, choose_leads, turn_leads, deeper_leads}
use Rattle.rl_agrees.proofs.OneRunObjects.{leading, fail_leads}
use Rattle.rl_agrees.proofs.OneRunHolding.{hold_function_leads, copied_leads}
use Rattle.rl_agrees.proofs.OneRunVariables.{mark_follows, variable_leads, assigned_leads, bind_all_leads, restored_leads}
use Rattle.rl_agrees.proofs.OneRunNatives.{own_name_leads}
use Rattle.rl_agrees.proofs.OneRunEvaluation.{CompilerLeads, RecLeads, position_of, no_compiler_leads, taken_follows, called_leads, function_defined_leads, define_function_leads, applied_leads}
use Rattle.rl_agrees.proofs.OneRunForms.{eval_leads, statements_lead, walked_leads}

-- ---- what asks for no job

module _ {P : State → State → Type 0} (steps : Steps P) {r : State} where
  pub bindings_follow : (entries : List state.Entry) (s : State) → IsBehind P r s → IsBehind P r (record s { bindings = entries })
  bindings_follow entries s h = follows_then steps r s _ h (steps.freed tt entries s)

  pub ended_follows : (f : Frame) (s : State) → IsBehind P r s → IsBehind P r (frame_ended f s)
  ended_follows f s h = bindings_follow _ s h

  pub undone_follows : (n : ℕ) (s : State) → IsBehind P r s → IsBehind P r (undone n s)
  undone_follows n s h = bindings_follow _ s h

  pub content_leads : (m : Machine) (o : Operand) (s : State) → IsBehind P r s → Leads P r (content m o s)
  content_leads m (Slot k) s h = search leading
  content_leads m (Constant v) s h = search leading
  content_leads m (Variable x) s h = variable_leads steps x s h
  content_leads m (Register q) s h = search leading

  pub bound_leads : (held : Held) (xs : List ℕ) (vs : List Value) (m : Machine) (s : State) (next : Machine → State → Outcome Value) → IsBehind P r s → ((m : Machine) (t : State) → IsBehind P r t → Leads P r (next m t)) → Leads P r (bound held xs vs m s next)
  bound_leads held xs vs m s next h k = deeper_leads steps (binding_levels (length xs)) m.levels s _ h (λ l. then_leads _ _ (bind_all_leads steps held.kept xs vs s h) (λ done t h. k _ t h))

-- ---- links

module _ {P : State → State → Type 0} {rec : Rec} (keeps : RecLeads P rec) {r : State} where
  pub part_linked_leads : (form : Special) (i : ℕ) (levels : Levels) (args : Tree) (s : State) → IsBehind P r s → Leads P r (part_linked rec form i levels args s)
  part_linked_leads form i levels args s h = choose_leads (fits form args) s _ _ (define_function_leads keeps form levels args s h) (fail_leads keeps.steps badly_formed (Id i) s h)

  pub list_linked_leads : (form : Special) (i : ℕ) (levels : Levels) (list : Value) (o : Option (List Value)) (s : State) → IsBehind P r s → Leads P r (list_linked rec form i levels list o s)
  list_linked_leads form i levels list (Some (Id name ∷ parameters ∷ forms)) s h =
      own_name_leads keeps.steps name s _ h (λ t h. function_defined_leads keeps form name _ (hold_function_leads keeps.steps (kind_of_definition form) levels parameters (cdr_at t (cdr_at t list)) t h))
  list_linked_leads form i levels list other s h = fail_leads keeps.steps badly_formed (Id i) s h

  pub definition_linked_leads : (form : Special) (i : ℕ) (levels : Levels) (vs : List Value) (s : State) → IsBehind P r s → Leads P r (definition_linked rec form i levels vs s)
  definition_linked_leads form i levels (Fun f place ∷ []) s h = part_linked_leads form i levels (as_list (form_at s (Fun f place))) s h
  definition_linked_leads form i levels (list ∷ []) s h = list_linked_leads form i levels list (proper_elements s list) s h
  definition_linked_leads form i levels vs s h = fail_leads keeps.steps wrong_count (Id i) s h

  pub form_linked_leads : (form : Special) (i : ℕ) (levels : Levels) (vs : List Value) (s : State) → IsBehind P r s → Leads P r (form_linked rec form i levels vs s)
  form_linked_leads De i levels vs s h = definition_linked_leads De i levels vs s h
  form_linked_leads Df i levels vs s h = definition_linked_leads Df i levels vs s h
  form_linked_leads Dm i levels vs s h = definition_linked_leads Dm i levels vs s h
  form_linked_leads form i levels vs s h = fail_leads keeps.steps wrong_type (Id i) s h

  pub function_linked_leads : (function : state.Function) (i : ℕ) (levels : Levels) (vs : List Value) (s : State) → IsBehind P r s → Leads P r (function_linked rec function i levels vs s)
  function_linked_leads (SpecialForm form) i levels vs s h = form_linked_leads form i levels vs s h
  function_linked_leads (NativeFunction native) i levels vs s h = called_leads keeps i levels vs s h
  function_linked_leads (HeldFunction held) i levels vs s h = called_leads keeps i levels vs s h

  pub linked_to_leads : (d : Option Definition) (i : ℕ) (levels : Levels) (vs : List Value) (s : State) → IsBehind P r s → Leads P r (linked_to rec d i levels vs s)
  linked_to_leads None i levels vs s h = called_leads keeps i levels vs s h
  linked_to_leads (Some d) i levels vs s h = function_linked_leads (function_at s d.function) i levels vs s h

  pub linked_leads : (i : ℕ) (levels : Levels) (vs : List Value) (s : State) → IsBehind P r s → Leads P r (linked rec i levels vs s)
  linked_leads i levels vs s h = linked_to_leads (symbol_at s i).definition i levels vs s h

  pub onward_leads : (f : Frame) (m : Machine) (code : Code) (s : State) → IsBehind P r s → Leads P r (rec.ask (Onward f m code) s)
  onward_leads f m code s h = leads_from keeps.steps r s _ h (keeps.asks (Onward f m code) s)

  pub again_leads : (f : Frame) (vs : List Value) (s : State) → IsBehind P r s → Leads P r (again rec f vs s)
  again_leads f vs s h =
      turn_leads keeps.steps s _ h (λ t h. let u : State = rec.compiler.requests_taken (Some f.name) t in let k = taken_follows keeps (Some f.name) t h in
      deeper_leads keeps.steps 1 f.outside u _ k (λ l. onward_leads f (at_entry vs l) (behind_entry f.code) (with_mark f.function u) (mark_follows keeps.steps f.function u k)))

  -- ---- code

  mutual
    pub run_leads : (f : Frame) (code : Code) (m : Machine) (s : State) → IsBehind P r s → Leads P r (run rec f code m s)
    run_leads f (Entry i n ∷ rest) m s h = run_leads f rest m s h
    run_leads f (Alloc n ∷ rest) m s h = run_leads f rest (allocated n m) s h
    run_leads f (Dealloc n ∷ rest) m s h = run_leads f rest (deallocated n m) s h
    run_leads f (Load q o ∷ rest) m s h = then_leads _ _ (content_leads keeps.steps m o s h) (λ v t h. run_leads f rest (with_register q v m) t h)
    run_leads f (Store q k ∷ rest) m s h = run_leads f rest (with_slot k (register m q) m) s h
    run_leads f (SetVar x ∷ rest) m s h = then_leads _ _ (assigned_leads keeps.steps x (register m 1) s h) (λ v t h. run_leads f rest m t h)
    run_leads f (Move p q ∷ rest) m s h = run_leads f rest (with_register p (register m q) m) s h
    run_leads f (Copy q c ∷ rest) m s h = then_leads _ _ (copied_leads keeps.steps m.levels (form_at s c) s h) (λ v t h. run_leads f rest (with_register q v m) t h)
    run_leads f (Link i n ∷ rest) m s h = then_leads _ _ (linked_leads i m.levels (machine.arguments n m) s h) (λ v t h. run_leads f rest (after_link v m) t h)
    run_leads f (LinkE i n k ∷ rest) m s h = linked_leads i f.outside (machine.arguments n m) (frame_ended f s) (ended_follows keeps.steps f s h)
    run_leads f (Self n k ∷ rest) m s h =
        choose_leads (is_same f n s) (frame_ended f s) _ _ (again_leads f (machine.arguments n m) (frame_ended f s) (ended_follows keeps.steps f s h)) (linked_leads f.name f.outside (machine.arguments n m) (frame_ended f s) (ended_follows keeps.steps f s h))
    run_leads f (CallNative i n ∷ rest) m s h = then_leads _ _ (called_leads keeps i m.levels (machine.arguments n m) s h) (λ v t h. run_leads f rest (with_register 1 v m) t h)
    run_leads f (Jump l ∷ rest) m s h = seek_leads f l rest m s h
    run_leads f (JumpNil l ∷ rest) m s h = choose_leads (is_nil (register m 1)) s _ _ (seek_leads f l rest m s h) (run_leads f rest m s h)
    run_leads f (JumpT l ∷ rest) m s h = choose_leads (is_nil (register m 1)) s _ _ (run_leads f rest m s h) (seek_leads f l rest m s h)
    run_leads f (JumpEq l o ∷ rest) m s h = then_leads _ _ (content_leads keeps.steps m o s h) (λ v t h. choose_leads (same (register m 1) v) t _ _ (seek_leads f l rest m t h) (run_leads f rest m t h))
    run_leads f (JumpNe l o ∷ rest) m s h = then_leads _ _ (content_leads keeps.steps m o s h) (λ v t h. choose_leads (same (register m 1) v) t _ _ (run_leads f rest m t h) (seek_leads f l rest m t h))
    run_leads f (Label l ∷ rest) m s h = run_leads f rest m s h
    run_leads f (GoTo l ∷ rest) m s h = turn_leads keeps.steps s _ h (λ t h. onward_leads f m (behind l f.code) t h)
    run_leads f (Bind pairs ∷ rest) m s h = bound_leads keeps.steps f.held _ _ m s _ h (λ m t h. run_leads f rest m t h)
    run_leads f (ProgBind xs ∷ rest) m s h = bound_leads keeps.steps f.held xs [] m s _ h (λ m t h. run_leads f rest m t h)
    run_leads f (Free n ∷ rest) m s h = run_leads f rest (freed n m) (undone n s) (undone_follows keeps.steps n s h)
    run_leads f (Exit ∷ rest) m s h = done_leads (register m 1) s h
    run_leads f (Raise e ∷ rest) m s h = fail_leads keeps.steps e (register m 1) s h
    run_leads f [] m s h = done_leads nil_value_of_state s h

    pub seek_leads : (f : Frame) (l : ℕ) (code : Code) (m : Machine) (s : State) → IsBehind P r s → Leads P r (seek rec f l code m s)
    seek_leads f l (Label k ∷ rest) m s h = choose_leads (k == l) s _ _ (run_leads f rest m s h) (seek_leads f l rest m s h)
    seek_leads f l (c ∷ rest) m s h = seek_leads f l rest m s h
    seek_leads f l [] m s h = done_leads nil_value_of_state s h

  pub run_code_leads : (levels : Levels) (f : Option Pointer) (held : Held) (code : Code) (vs : List Value) (s : State) → IsBehind P r s → Leads P r (run_code rec levels f held code vs s)
  run_code_leads levels f held (Entry i n ∷ rest) vs s h = restored_leads keeps.steps s _ h (run_leads _ rest (at_entry vs levels) (with_mark f s) (mark_follows keeps.steps f s h))
  run_code_leads levels f held other vs s h = done_leads nil_value_of_state s h

  -- ---- jobs

  pub run_held_leads : (o : Option Code) (levels : Levels) (holder : ℕ) (f : Option Pointer) (held : Held) (vs : List Value) (s : State) → IsBehind P r s → Leads P r (run_held rec o levels holder f held vs s)
  run_held_leads None levels holder f held vs s h = walked_leads keeps levels holder f held vs s h
  run_held_leads (Some code) levels holder f held vs s h = run_code_leads levels f held code vs s h

  pub job_done_leads : (j : Job) (s : State) → IsBehind P r s → LeadsAt P (position_of j) r (job_done rec j s)
  job_done_leads (Run name levels holder f held vs) s h = run_held_leads (code_of name f s) levels holder f held vs s h
  job_done_leads (Onward f m code) s h = run_leads f code m s h
  job_done_leads (Call_ name levels f vs) s h = applied_leads keeps name levels f vs s h
  job_done_leads (From here whole rest) s h = statements_lead keeps here whole rest s h
  job_done_leads (In here position body) s h = eval_leads keeps here position body s h

module _ {P : State → State → Type 0} (steps : Steps P) (prints : Prints P) (c : Compiler) (compiles : CompilerLeads P c) where
  pub job_at_leads : (n : ℕ) (j : Job) (s : State) → LeadsAt P (position_of j) s (job_at c n j s)
  job_at_leads zero j s = stopped_leads _ s (follows_same steps s)
  job_at_leads (suc n) j s = job_done_leads (record { steps = steps; prints = prints; compiler = compiles; asks = λ k t. job_at_leads n k t }) j s (follows_same steps s)

  -- a job keeps the law
  pub job_leads : (j : Job) (s : State) → LeadsAt P (position_of j) s (job c j s)
  unfolding job
  job_leads j s = job_at_leads (suc (rank j s)) j s

  pub jobs_keep : RecLeads P (jobs c)
  jobs_keep = record { steps = steps; prints = prints; compiler = compiles; asks = job_leads }

pub the_jobs_keep : {P : State → State → Type 0} → Steps P → Prints P → ReadsLead P → RecLeads P (jobs the_compiler)
the_jobs_keep steps prints reads = jobs_keep steps prints the_compiler (no_compiler_leads steps reads)
