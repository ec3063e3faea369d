-- What is used of one run and of two, all of it proved; and the law that a run in which code runs agrees with the walk.
use Rattle.std.proofs.Common.{◌≡◌, true, false, List, [], ◌∷◌, ◌++◌, refl}
use Rattle.rl_tree.specs.Value.{Value}
use Rattle.rl_meaning.specs.Names.{Native, Set, Prin1, Prin2, Print, Terpri, Read}
use Rattle.rl_meaning.specs.State.{State, Tree, Pair}
use Rattle.rl_meaning.specs.Outcome.{Outcome, Levels}
use Rattle.rl_meaning.specs.Symbols.{nil_value_of_state, nil_number}
use Rattle.rl_meaning.specs.Natives.{native}
use Rattle.rl_meaning.specs.Evaluation.{Job, Run, Onward, Call_, From, In, Position, Inside, Statement, Here, Rec, arguments}
use Rattle.rl_meaning.specs.Jobs.{job, the_compiler}
use Rattle.rl_meaning.specs.Laws.{IsFuelEnough}
use Rattle.rl_meaning.specs.TwoRunsValues.{Names, Each, SameValue, same_id}
use Rattle.rl_meaning.specs.TwoRunsStates.{Bounds, EntryPlace, Like, Roomier}
use Rattle.rl_meaning.specs.TwoRunsEnds.{EndsAgree, done}
use Rattle.rl_agrees.specs.Laws.{CodeAgrees, WalksAgree}
use Rattle.rl_agrees.proofs.TwoRunsKept.{Goes}
use Rattle.rl_agrees.proofs.OneRun.{IsBehind, follows_same, LeadsAt, Leads}
use Rattle.rl_agrees.proofs.OneRunQuiet as quiet
use Rattle.rl_agrees.proofs.OneRunQuiet.{quiet_steps}
use Rattle.rl_agrees.proofs.OneRunGoes.{goes_steps, goes_prints}
use Rattle.rl_agrees.proofs.OneRunObjects.{pair_leads, top_follows, objects_read_follows}
use Rattle.rl_agrees.proofs.OneRunHolding.{hold_form_leads, hold_expansion_leads, hold_function_leads, hold_part_leads, elements_lead, copied_leads}
use Rattle.rl_agrees.proofs.OneRunVariables.{variable_leads, assigned_leads, bind_all_leads, operated_leads}
use Rattle.rl_agrees.proofs.OneRunNatives.{NeedsOf, any_needs, define_follows, hold_lambda_leads, native_leads}
use Rattle.rl_agrees.proofs.OneRunPrinting.{print_error_leads}
use Rattle.rl_agrees.proofs.OneRunReading.{read_bytes_leads}
use Rattle.rl_agrees.proofs.OneRunRuns.{print_unreadable_follows}
use Rattle.rl_agrees.proofs.OneRunEvaluation.{RecLeads, position_of, no_compiler_leads, form_evaluated_leads, list_applied_leads, applied_to_leads, called_leads, fexpr_called_leads, macro_called_leads, expansion_of_leads, expanded_body_leads, jumped_leads}
use Rattle.rl_agrees.proofs.OneRunForms.{special_form_leads, eval_leads, progn_leads, clauses_lead, conjunction_leads, disjunction_leads, statements_lead, listed_leads, combined_rest_leads}
use Rattle.rl_agrees.proofs.OneRunMachine.{linked_leads, run_leads, seek_leads, run_code_leads, job_leads}
use Rattle.rl_agrees.proofs.OneRunLaws.{job_plain}
use Rattle.rl_agrees.proofs.OneRunTogether.{ReadingKeepsAll, goes_read, quiet_read, later_read}
use Rattle.rl_agrees.proofs.TwoRunsGrowth.{grows_refl}
use Rattle.rl_agrees.proofs.TwoRunsSpine.{list_elements_same}
use Rattle.rl_agrees.proofs.TwoRunsHolding.{hold_form_related, hold_expansion_related, hold_function_related, hold_part_related, elements_related}
use Rattle.rl_agrees.proofs.TwoRunsCopying.{copied_related}
use Rattle.rl_agrees.proofs.TwoRunsNumbers.{operated_related}
use Rattle.rl_agrees.proofs.TwoRunsNatives.{DefinitionsAgree, prints, sets, native_related, set_related, printer_related}
use Rattle.rl_agrees.proofs.TwoRunsVariables.{variable_related, assigned_related}
use Rattle.rl_agrees.proofs.TwoRunsDefinitions as definitions
use Rattle.rl_agrees.proofs.TwoRunsDefinitions.{define_like, hold_lambda_related}
use Rattle.rl_agrees.proofs.TwoRunsPrinting.{mark_like, print_error_related}
use Rattle.rl_agrees.proofs.TwoRunsReading.{ReadsBeside, read_bytes_related}
use Rattle.rl_agrees.proofs.TwoRunsFacts.{GoesOn, AskGoes, RecGoes, OneRunFacts, Quiet, may_part, TwoRunsFacts}
use Rattle.rl_agrees.proofs.TwoRunsGoes.{then_goes}
use Rattle.rl_agrees.proofs.TwoRunsJobsAgree.{jobs_agree}
use Rattle.rl_agrees.proofs.TwoRunsJobsAgree as mixed
use Rattle.rl_agrees.proofs.TwoRunsLoop as loop

-- ---- one run

here : (s : State) → IsBehind Goes s s
here s = follows_same goes_steps s

on : {A : Type 0} {s : State} {o : Outcome A} → Leads Goes s o → GoesOn s o
on h = record { goes = h.moves }

on_at : {A : Type 0} {s : State} {o : Outcome A} (position : Position) → LeadsAt Goes position s o → GoesOn s o
on_at position h = record { goes = h.moves }

-- jobs that go on lead
jobs_lead : (rec : Rec) → RecGoes rec → (j : Job) (s : State) → LeadsAt Goes (position_of j) s (rec.ask j s)
jobs_lead rec g (Run name l holder f held vs) s = record { moves = (g.ask.goes _ s).goes; plain = g.ask.plain _ s refl }
jobs_lead rec g (Onward f m code) s = record { moves = (g.ask.goes _ s).goes; plain = g.ask.plain _ s refl }
jobs_lead rec g (Call_ name l f vs) s = record { moves = (g.ask.goes _ s).goes; plain = g.ask.plain _ s refl }
jobs_lead rec g (From h whole rest) s = record { moves = (g.ask.goes _ s).goes; plain = g.ask.plain _ s refl }
jobs_lead rec g (In h Inside body) s = record { moves = (g.ask.goes _ s).goes; plain = g.ask.plain _ s refl }
jobs_lead rec g (In h Statement body) s = record { moves = (g.ask.goes _ s).goes; plain = tt }

module _ (alone : ReadingKeepsAll) (beside : ReadsBeside) where
  keeps : (rec : Rec) → RecGoes rec → RecLeads Goes rec
  keeps rec g = record {
    steps = goes_steps;
    prints = goes_prints;
    compiler = record {
      taken = g.taken;
      behind = g.defined;
      names = λ vs s. record { moves = (g.names vs s).goes; plain = g.plain.names vs s };
      writes = λ vs s. record { moves = (g.writes vs s).goes; plain = g.plain.writes vs s };
      loads = λ vs s. record { moves = (g.loads vs s).goes; plain = g.plain.loads vs s };
      reads = goes_read alone;
    };
    asks = jobs_lead rec g;
  }

  jobs_go : AskGoes (job the_compiler)
  jobs_go = record { goes = λ j s. on_at (position_of j) (job_leads goes_steps goes_prints the_compiler (no_compiler_leads goes_steps (goes_read alone)) j s); plain = job_plain (later_read alone) }

  arguments_go : (rec : Rec) → RecGoes rec → (h : Here) (vs : List Value) (next : List Value → State → Outcome Value) (e : Tree) (s : State) → ((vs : List Value) (s : State) → GoesOn s (next vs s)) → GoesOn s (arguments rec h vs next e s)
  arguments_go rec g h vs next (Pair e rest) s k = then_goes s _ _ (on (eval_leads (keeps rec g) h Inside e s (here s))) (λ v t. arguments_go rec g h (vs ++ v ∷ []) next rest t k)
  arguments_go rec g h vs next end s k = k vs s

  one : OneRunFacts
  one = record {
    pair_goes = λ a d s. on (pair_leads goes_steps a d s (here s));
    top_goes = λ i v s. (top_follows goes_steps i v s (here s)).is;
    reading_goes = λ rs s. (objects_read_follows goes_steps rs s (here s)).is;
    note_goes = goes_prints.note_;
    define_goes = λ i kind p s. (define_follows goes_steps i kind p s (here s)).is;
    hold_form_goes = λ l v s. on (hold_form_leads goes_steps l v s (here s));
    hold_expansion_goes = λ l kept v s. on (hold_expansion_leads goes_steps l kept v s (here s));
    hold_function_goes = λ kind l u v s. on (hold_function_leads goes_steps kind l u v s (here s));
    hold_part_goes = λ kind l a c s. on (hold_part_leads goes_steps kind l a c s (here s));
    hold_lambda_goes = λ kind l o s. on (hold_lambda_leads goes_steps kind l o s (here s));
    elements_goes = λ v s. on (elements_lead goes_steps v s (here s));
    copied_goes = λ l a s. on (copied_leads goes_steps l a s (here s));
    operated_goes = λ o vs s. on (operated_leads goes_steps o vs s (here s));
    native_goes = λ o l vs s. on (native_leads goes_steps o l vs s (any_needs Goes o goes_prints (goes_read alone)) (here s));
    print_error_goes = λ l v s. on (print_error_leads goes_steps goes_prints l v s (here s));
    variable_goes = λ x s. on (variable_leads goes_steps x s (here s));
    assigned_goes = λ x v s. on (assigned_leads goes_steps x v s (here s));
    bind_all_goes = λ kept xs vs s. on (bind_all_leads goes_steps kept xs vs s (here s));
    form_goes = λ rec g l f function s. on (form_evaluated_leads (keeps rec g) l f function s (here s));
    list_goes = λ rec g l f function vs s. on (list_applied_leads (keeps rec g) l f function vs s (here s));
    applied_to_goes = λ rec g l target vs s. on (applied_to_leads (keeps rec g) l target vs s (here s));
    called_goes = λ rec g i l vs s. on (called_leads (keeps rec g) i l vs s (here s));
    fexpr_goes = λ rec g i h args s. on (fexpr_called_leads (keeps rec g) i h args s (here s));
    macro_goes = λ rec g i h position form s. on_at position (macro_called_leads (keeps rec g) i h position form s (here s));
    special_goes = λ rec g h position args s form. on_at position (special_form_leads (keeps rec g) h position args form s (here s));
    expansion_goes = λ rec g i h form s. on (expansion_of_leads (keeps rec g) i h form s (here s));
    expanded_goes = λ rec g h position f function s. on_at position (expanded_body_leads (keeps rec g) h position f function s (here s));
    jumped_goes = λ rec g h whole l o s. on (jumped_leads (keeps rec g) h whole l o s (here s));
    eval_goes = λ rec g h position e s. on_at position (eval_leads (keeps rec g) h position e s (here s));
    arguments_goes = arguments_go;
    progn_goes = λ rec g h position v e s. on_at position (progn_leads (keeps rec g) h position v e s (here s));
    clauses_goes = λ rec g h position e s. on_at position (clauses_lead (keeps rec g) h position e s (here s));
    conjunction_goes = λ rec g h v e s. on (conjunction_leads (keeps rec g) h v e s (here s));
    disjunction_goes = λ rec g h e s. on (disjunction_leads (keeps rec g) h e s (here s));
    statements_goes = λ rec g h whole e s. on (statements_lead (keeps rec g) h whole e s (here s));
    listed_goes = λ rec g h e s. on (listed_leads (keeps rec g) h e s (here s));
    combined_goes = λ rec g form h v e s. on (combined_rest_leads (keeps rec g) form h v e s (here s));
    linked_goes = λ rec g i l vs s. on (linked_leads (keeps rec g) i l vs s (here s));
    run_goes = λ rec g f code m s. on (run_leads (keeps rec g) f code m s (here s));
    seek_goes = λ rec g f l code m s. on (seek_leads (keeps rec g) f l code m s (here s));
    code_goes = λ rec g l f held code vs s. on (run_code_leads (keeps rec g) l f held code vs s (here s));
    read_goes = λ turns l bytes s. on (read_bytes_leads goes_steps (goes_read alone) turns l bytes s (here s));
    unreadable_goes = λ k s. (print_unreadable_follows goes_steps goes_prints (goes_read alone) k s (here s)).is;
  }

  -- ---- two runs

  silent : (s : State) → IsBehind quiet.Quiet s s
  silent s = follows_same quiet_steps s

  still : {A : Type 0} {s : State} {o : Outcome A} → Leads quiet.Quiet s o → Quiet s o
  still h = record { output = h.moves.output; notes = h.moves.notes }

  -- what neither prints nor sets needs no more than that reading does neither
  needs_nothing : (o : Native) → may_part o ≡ false → NeedsOf quiet.Quiet o
  needs_nothing Set e = tt
  needs_nothing Prin1 e = absurd (cc)
  needs_nothing Prin2 e = absurd (cc)
  needs_nothing Print e = absurd (cc)
  needs_nothing Terpri e = absurd (cc)
  needs_nothing Read e = quiet_read alone
  needs_nothing other e = tt

  prints_nothing : (o : Native) → may_part o ≡ false → prints o ≡ false
  prints_nothing Prin1 e = absurd (cc)
  prints_nothing Prin2 e = absurd (cc)
  prints_nothing Print e = absurd (cc)
  prints_nothing other e = refl

  sets_nothing : (o : Native) → may_part o ≡ false → sets o ≡ false
  sets_nothing Set e = absurd (cc)
  sets_nothing other e = refl

  module _ {bounds : Bounds} where
    defining : DefinitionsAgree bounds
    defining = record { getd_ = definitions.getd_related; putd_ = definitions.putd_related; remd_ = definitions.remd_related; fluid_ = definitions.fluid_related; global_ = definitions.global_related; unfluid_ = definitions.unfluid_related; set_ = definitions.set_related }

    parts : (n : Names) (ps : List EntryPlace) (o : Native) (l m : Levels) (xs ys : List Value) (s t : State) → may_part o ≡ true → Roomier bounds l m → Each (SameValue n) xs ys → Like bounds n ps s t → EndsAgree bounds n ps (native o l xs s) (native o m ys t)
    parts n ps Set l m xs ys s t e r h x = set_related defining beside n ps l m xs ys s t h x
    parts n ps Prin1 l m xs ys s t e r h x = printer_related n ps Prin1 l m xs ys s t refl r h x
    parts n ps Prin2 l m xs ys s t e r h x = printer_related n ps Prin2 l m xs ys s t refl r h x
    parts n ps Print l m xs ys s t e r h x = printer_related n ps Print l m xs ys s t refl r h x
    parts n ps Terpri l m xs ys s t e r h x = done n nil_value_of_state nil_value_of_state _ _ (grows_refl n) (same_id nil_number) (mark_like n ps _ s t x)
    parts n ps other l m xs ys s t e r h x = absurd (cc)

    two : TwoRunsFacts bounds
    two = record {
      hold_form_ = hold_form_related;
      hold_expansion_ = hold_expansion_related;
      hold_function_ = hold_function_related;
      hold_part_ = hold_part_related;
      hold_lambda_ = hold_lambda_related;
      elements_ = elements_related;
      copied_ = copied_related;
      operated_ = operated_related;
      native_ = λ n ps o l m xs ys s t e r h x. native_related defining beside n ps o l m xs ys s t (prints_nothing o e) (sets_nothing o e) r h x;
      hold_form_quiet = λ l v s. still (hold_form_leads quiet_steps l v s (silent s));
      hold_expansion_quiet = λ l kept v s. still (hold_expansion_leads quiet_steps l kept v s (silent s));
      hold_function_quiet = λ kind l u v s. still (hold_function_leads quiet_steps kind l u v s (silent s));
      hold_part_quiet = λ kind l a c s. still (hold_part_leads quiet_steps kind l a c s (silent s));
      hold_lambda_quiet = λ kind l o s. still (hold_lambda_leads quiet_steps kind l o s (silent s));
      elements_quiet = λ v s. still (elements_lead quiet_steps v s (silent s));
      copied_quiet = λ l a s. still (copied_leads quiet_steps l a s (silent s));
      operated_quiet = λ o vs s. still (operated_leads quiet_steps o vs s (silent s));
      native_quiet = λ o l vs s e. still (native_leads quiet_steps o l vs s (needs_nothing o e) (silent s));
      native_parts = parts;
      variable_ = variable_related;
      assigned_ = assigned_related;
      print_error_ = print_error_related;
      define_ = define_like;
      list_elements_ = list_elements_same;
      read_ = read_bytes_related beside;
      read_quiet = λ turns l bytes s. still (read_bytes_leads quiet_steps (quiet_read alone) turns l bytes s (silent s));
    }

  -- ---- the laws

  pub code_agrees : IsFuelEnough → CodeAgrees
  code_agrees fuel = loop.code_agrees (λ bounds. record { fuel = fuel; composed = jobs_agree one two jobs_go fuel; job_goes = jobs_go; one = one; two = two })

  pub walks_agree : IsFuelEnough → WalksAgree
  walks_agree fuel = mixed.walks_agree one (λ bounds. two) jobs_go fuel
