-- Runs keep a law on one run.
use Rattle.std.proofs.Common.{ℕ, zero, suc, ◌-◌, min, ◌^◌, decimal, codes, false, List, [], ◌∷◌, length, Option, Some, None}
use Rattle.rl_tree.specs.Value.{Value}
use Rattle.rl_tree.specs.Name.{Name}
use Rattle.rl_meaning.specs.State.{State, Function, SpecialForm, NativeFunction, HeldFunction}
use Rattle.rl_meaning.specs.Outcome.{Outcome, Done, Failed, Went, Returned, Stopped, Levels}
use Rattle.rl_meaning.specs.Symbols.{nil_value_of_state}
use Rattle.rl_tree.specs.ErrorTexts.{error_text}
use Rattle.rl_meaning.specs.Errors.{unreadable}
use Rattle.rl_meaning.specs.Holding.{pointer_to, function_at}
use Rattle.rl_meaning.specs.Printing.{page_of}
use Rattle.rl_meaning.specs.Input.{FormReading, Form, End, Unreadable}
use Rattle.rl_meaning.specs.Evaluation.{longest_chain, Inside}
use Rattle.rl_meaning.specs.Run.{Ran, held_evaluated, statement, after_statement, print_atom, print_unreadable, behind_line, run_goes_on, read_and_run, run_within, run_bytes, source_of, run_file}
use Rattle.rl_agrees.proofs.OneRun.{Steps, Prints, ReadsLead, IsBehind, Leads, done_leads, stopped_leads, then_leads}
use Rattle.rl_agrees.proofs.OneRunHolding.{hold_form_leads}
use Rattle.rl_agrees.proofs.OneRunPrinting.{more_same, atom_more, page_follows, print_mark_follows, end_of_line_follows, fresh_line_follows, print_error_leads}
use Rattle.rl_agrees.proofs.OneRunReading.{read_bytes_leads}
use Rattle.rl_agrees.proofs.OneRunForms.{eval_leads}
use Rattle.rl_agrees.proofs.OneRunMachine.{the_jobs_keep}

module _ {P : State → State → Type 0} (steps : Steps P) (prints : Prints P) (reads : ReadsLead P) {r : State} where
  -- ---- a statement

  pub held_evaluated_leads : (levels : Levels) (f : ℕ) (function : Function) (s : State) → IsBehind P r s → Leads P r (held_evaluated levels f function s)
  held_evaluated_leads levels f (HeldFunction held) s h = eval_leads (the_jobs_keep steps prints reads) (record { levels = levels; chain = longest_chain; kept = held.kept; holder = f }) Inside held.body s h
  held_evaluated_leads levels f (SpecialForm form) s h = done_leads nil_value_of_state s h
  held_evaluated_leads levels f (NativeFunction native) s h = done_leads nil_value_of_state s h

  pub statement_leads : (levels : Levels) (v : Value) (s : State) → IsBehind P r s → Leads P r (statement levels v s)
  statement_leads levels v s h = then_leads _ _ (hold_form_leads steps levels v s h) (λ f t h. held_evaluated_leads levels f (function_at t (pointer_to f)) t h)

  pub after_statement_leads : (levels : Levels) (o : Outcome Value) → Leads P r o → Leads P r (after_statement levels o)
  after_statement_leads levels (Done v s) h = done_leads tt s (record { is = h.moves })
  after_statement_leads levels (Failed n m s) h = print_error_leads steps prints levels m s (record { is = h.moves })
  after_statement_leads levels (Went l s) h = done_leads tt s (record { is = h.moves })
  after_statement_leads levels (Returned v s) h = done_leads tt s (record { is = h.moves })
  after_statement_leads levels (Stopped why s) h = stopped_leads why s (record { is = h.moves })

  -- ---- an unreadable text

  pub print_atom_follows : (bytes : List ℕ) (s : State) → IsBehind P r s → IsBehind P r (print_atom bytes s)
  print_atom_follows bytes s h = page_follows steps prints _ s (atom_more _ s.outside.line_length (page_of s) bytes (more_same _)) h

  pub print_unreadable_follows : (k : ℕ) (s : State) → IsBehind P r s → IsBehind P r (print_unreadable k s)
  print_unreadable_follows k s h =
      end_of_line_follows steps prints _ (print_atom_follows (error_text unreadable) _ (print_mark_follows steps prints (32 ∷ []) _ (print_atom_follows (decimal (min k (2 ^ 59 - 1))) _ (print_mark_follows steps prints (codes "***** ") _ (fresh_line_follows steps prints s h)))))

  -- ---- runs

  pub goes_on_follows : {A : Type 0} (o : Outcome A) (next : A → State → Ran) → Leads P r o → ((a : A) (t : State) → IsBehind P r t → IsBehind P r (next a t).state) → IsBehind P r (run_goes_on o next).state
  goes_on_follows (Done a t) next h k = k a t (record { is = h.moves })
  goes_on_follows (Failed n m t) next h k = record { is = h.moves }
  goes_on_follows (Went l t) next h k = record { is = h.moves }
  goes_on_follows (Returned v t) next h k = record { is = h.moves }
  goes_on_follows (Stopped why t) next h k = record { is = h.moves }

  pub read_and_run_follows : (levels : Levels) (size : ℕ) (further : List ℕ → State → Ran) → ((bytes : List ℕ) (t : State) → IsBehind P r t → IsBehind P r (further bytes t).state) → (reading : FormReading) (s : State) → IsBehind P r s → IsBehind P r (read_and_run levels size further reading s).state
  read_and_run_follows levels size further k (Form v rest) s h = goes_on_follows _ _ (after_statement_leads levels _ (statement_leads levels v s h)) (λ done t h. k rest t h)
  read_and_run_follows levels size further k End s h = h
  read_and_run_follows levels size further k (Unreadable n from) s h = k (behind_line from) _ (print_unreadable_follows (size - length from) s h)

  pub run_within_follows : (n : ℕ) (levels : Levels) (size : ℕ) (bytes : List ℕ) (s : State) → IsBehind P r s → IsBehind P r (run_within n levels size bytes s).state
  run_within_follows zero levels size bytes s h = h
  run_within_follows (suc n) levels size bytes s h =
      goes_on_follows _ _ (read_bytes_leads steps reads false levels bytes s h) (λ reading t h. read_and_run_follows levels size _ (λ rest t h. run_within_follows n levels size rest t h) reading t h)

  pub run_bytes_follows : (levels : Levels) (bytes : List ℕ) (s : State) → IsBehind P r s → IsBehind P r (run_bytes levels bytes s).state
  run_bytes_follows levels bytes s h = run_within_follows (suc (length bytes)) levels (length bytes) bytes s h

  pub run_file_follows : (levels : Levels) (name : Name) (file : Option (List ℕ)) (s : State) → IsBehind P r s → IsBehind P r (run_file levels name file s).state
  run_file_follows levels name (Some file) s h = run_bytes_follows levels (source_of file) s h
  run_file_follows levels name None s h = h
