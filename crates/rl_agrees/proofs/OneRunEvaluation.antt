-- Evaluation and application keep a law on one run, where the jobs that are asked for, and compilation, do.
use Rattle.std.proofs.Common.{◌==◌, ◌/◌, ℕ, zero, suc, Bool, true, false, List, [], ◌∷◌, length, Option, Some, None}
use Rattle.rl_tree.specs.Value.{Value, Id}
use Rattle.rl_tree.specs.declared.held.Kind.TheVariants.{Expr}
use Rattle.rl_meaning.specs.Names.{Native, Special, arguments_of, Putd, Eval, Errorset, Apply, Compile, Faslout, Load}
use Rattle.rl_meaning.specs.Constants.{reading_object, reading_pair}
use Rattle.rl_meaning.specs.State.{State, Tree, Atom, Quoted, Pair, Held, Pointer, Definition, Function, SpecialForm, NativeFunction, HeldFunction}
use Rattle.rl_meaning.specs.Outcome.{Outcome, Done, Failed, Went, Returned, Stopped, Levels}
use Rattle.rl_meaning.specs.Symbols.{nil_value_of_state, pair_at, symbol_at}
use Rattle.rl_meaning.specs.Holding.{pointer_value, pointer_to, function_at}
use Rattle.rl_meaning.specs.Variables.{with_mark}
use Rattle.rl_meaning.specs.Forms.{after_label}
use Rattle.rl_meaning.specs.Errors.{undefined, wrong_count, wrong_type, misplaced, badly_formed}
use Rattle.rl_meaning.specs.Atoms.{proper}
use Rattle.rl_meaning.specs.Natives.{argument}
use Rattle.rl_meaning.specs.Evaluation.{Position, Statement, Inside, Here, Job, Run, Onward, Call_, From, In, Rec, longest_chain, bad_form, misplaced_at, deeper_here, kind_of_definition, with_expansion, closed, print_unless_nil, caught, Target, Function_, Lambda, Undefined, WrongType, target_of, with_arguments, held_applied, form_evaluated, evaluated, errorset, list_applied, applied_to, apply_target, apply, native_applied, counted, called_as, function_applied, applied, name_applied, called, fexpr_called, expansion_of, expanded_body, macro_called, in_chain, jumped, in_prog, function_defined, define_function, going, quoted, function_named}
use Rattle.rl_meaning.specs.Compiling.{Compiler, no_compiler}
use Rattle.rl_agrees.specs.Heads.{IsWalk}
use Rattle.rl_agrees.proofs.OneRun.{StepsAt, Prints, ReadsLead, IsBehind, LeadsAt, Moves, Leads, follows_same, follows_then, leads_from, anywhere, done_leads, failed_leads, went_leads, returned_leads, stopped_leads, then_leads, turn_leads, deeper_leads}
use Rattle.rl_agrees.proofs.OneRunObjects.{leading, fail_leads, reading_follows, reading_pair_follows}
use Rattle.rl_agrees.proofs.OneRunHolding.{hold_form_leads, hold_expansion_leads, elements_lead, copied_leads, hold_part_leads}
use Rattle.rl_agrees.proofs.OneRunVariables.{mark_follows, restored_leads}
use Rattle.rl_agrees.proofs.OneRunPrinting.{note_follows, print_error_leads}
use Rattle.rl_agrees.proofs.OneRunNatives.{define_follows, own_name_leads, hold_lambda_leads, native_leads, any_needs}

-- ---- what is asked of compilation, and of the jobs that are asked for

pub record CompilerLeads (P : State → State → Type 0) (c : Compiler) : Type 0 where
  pub taken : (name : Option ℕ) (s : State) → P s (c.requests_taken name s)
  pub behind : (v : Value) (s : State) → P s (c.defined v s)
  pub names : (vs : List Value) (s : State) → Leads P s (c.compile_names vs s)
  pub writes : (vs : List Value) (s : State) → Leads P s (c.write_file vs s)
  pub loads : (vs : List Value) (s : State) → Leads P s (c.load_file vs s)
  pub reads : ReadsLead P

-- only a statement of a PROG may leave by GO or RETURN
abbrev pub position_of : Job → Position
position_of (In here position body) = position
position_of (Run name levels holder f held vs) = Inside
position_of (Onward f m code) = Inside
position_of (Call_ name levels f vs) = Inside
position_of (From here whole rest) = Inside

-- the jobs that are asked for lead: all, or where no code runs those of a walk
abbrev pub AsksLead : Bool → (State → State → Type 0) → Rec → Type 0
AsksLead true P rec = (j : Job) (s : State) → LeadsAt P (position_of j) s (rec.ask j s)
AsksLead false P rec = (j : Job) (s : State) → IsWalk j → LeadsAt P (position_of j) s (rec.ask j s)

pub record RecLeadsAt (freely : Bool) (P : State → State → Type 0) (rec : Rec) : Type 0 where
  pub steps : StepsAt freely P
  pub prints : Prints P
  pub compiler : CompilerLeads P rec.compiler
  pub asks : AsksLead freely P rec

-- with c-macros
abbrev pub RecLeads : (State → State → Type 0) → Rec → Type 0
RecLeads P rec = RecLeadsAt true P rec

pub walk_asked : {P : State → State → Type 0} (rec : Rec) (freely : Bool) → AsksLead freely P rec → (j : Job) (s : State) → IsWalk j → LeadsAt P (position_of j) s (rec.ask j s)
walk_asked rec true h j s w = h j s
walk_asked rec false h j s w = h j s w

pub no_compiler_leads : {freely : Bool} {P : State → State → Type 0} → StepsAt freely P → ReadsLead P → CompilerLeads P no_compiler
no_compiler_leads steps reads = record {
  taken = λ name s. steps.same s;
  behind = λ v s. steps.same s;
  names = λ vs s. stopped_leads _ s (follows_same steps s);
  writes = λ vs s. stopped_leads _ s (follows_same steps s);
  loads = λ vs s. stopped_leads _ s (follows_same steps s);
  reads = reads;
}

-- ---- what asks for no job

module _ {freely : Bool} {P : State → State → Type 0} (steps : StepsAt freely P) {position : Position} {r : State} where
  pub with_arguments_leads : {A : Type 0} (o : Option (List Value)) (l : Value) (s : State) (next : List Value → State → Outcome A) → IsBehind P r s → ((vs : List Value) (t : State) → IsBehind P r t → LeadsAt P position r (next vs t)) → LeadsAt P position r (with_arguments o l s next)
  with_arguments_leads (Some vs) l s next h k = k vs s h
  with_arguments_leads None l s next h k = search leading

module _ {freely : Bool} {P : State → State → Type 0} (steps : StepsAt freely P) (prints : Prints P) {position : Position} {r : State} where
  pub print_unless_nil_leads : (levels : Levels) (msgp message : Value) (s : State) → IsBehind P r s → LeadsAt P position r (print_unless_nil levels msgp message s)
  print_unless_nil_leads levels msgp message s h = search (leading, print_error_leads)

  pub caught_leads : (levels : Levels) (msgp : Value) (o : Outcome Value) → LeadsAt P position r o → LeadsAt P position r (caught levels msgp o)
  caught_leads levels msgp (Done v s) h = let f : IsBehind P r s = record { is = h.moves } in search (leading, note_follows)
  caught_leads levels msgp (Failed n m s) h = let f : IsBehind P r s = record { is = h.moves } in search (leading, print_unless_nil_leads, note_follows)
  caught_leads levels msgp (Went l s) h = h
  caught_leads levels msgp (Returned v s) h = h
  caught_leads levels msgp (Stopped why s) h = h

module _ {freely : Bool} {P : State → State → Type 0} (steps : StepsAt freely P) {position : Position} {r : State} where
  pub deeper_here_leads : {A : Type 0} (n : ℕ) (here : Here) (s : State) (next : Here → Outcome A) → IsBehind P r s → ((l : Levels) → LeadsAt P position r (next (record here { levels = l }))) → LeadsAt P position r (deeper_here n here s next)
  deeper_here_leads n here s next h k = deeper_leads steps n here.levels s _ h k

  -- an expansion that is over
  pub closed_leads : {A : Type 0} (i : ℕ) (s : State) (o : Outcome A) → IsBehind P r s → LeadsAt P position (with_expansion i s) o → LeadsAt P position r (closed o)
  closed_leads i s (Done a t) h k = done_leads a _ (follows_then steps r s _ h (steps.closed i s t k.moves))
  closed_leads i s (Failed n m t) h k = failed_leads n m _ (follows_then steps r s _ h (steps.closed i s t k.moves))
  closed_leads i s (Went l t) h k = went_leads l t _ (leads_from steps r (with_expansion i s) (Went l t) (follows_then steps r s _ h (steps.opened i s)) k) (follows_then steps r s _ h (steps.closed i s t k.moves))
  closed_leads i s (Returned v t) h k = returned_leads v t _ (leads_from steps r (with_expansion i s) (Returned v t) (follows_then steps r s _ h (steps.opened i s)) k) (follows_then steps r s _ h (steps.closed i s t k.moves))
  closed_leads i s (Stopped why t) h k = stopped_leads why t (follows_then steps r _ t (follows_then steps r s _ h (steps.opened i s)) k.moves)

-- ---- application

module _ {freely : Bool} {P : State → State → Type 0} {rec : Rec} (keeps : RecLeadsAt freely P rec) {r : State} where
  pub asked_leads : (j : Job) (s : State) → IsWalk j → IsBehind P r s → LeadsAt P (position_of j) r (rec.ask j s)
  asked_leads j s w h = leads_from keeps.steps r s _ h (walk_asked rec freely keeps.asks j s w)

  pub taken_follows : (name : Option ℕ) (s : State) → IsBehind P r s → IsBehind P r (rec.compiler.requests_taken name s)
  taken_follows name s h = follows_then keeps.steps r s _ h (keeps.compiler.taken name s)

  pub behind_follows : (v : Value) (s : State) → IsBehind P r s → IsBehind P r (rec.compiler.defined v s)
  behind_follows v s h = follows_then keeps.steps r s _ h (keeps.compiler.behind v s)

  pub counted_leads : (b : Bool) (culprit : Value) (s : State) (next : State → Outcome Value) → IsBehind P r s → Leads P r (next s) → Leads P r (counted rec b culprit s next)
  counted_leads true culprit s next h k = k
  counted_leads false culprit s next h k = fail_leads keeps.steps wrong_count culprit s h

  pub held_applied_leads : (name : Option ℕ) (levels : Levels) (holder : ℕ) (f : Option Pointer) (held : Held) (vs : List Value) (s : State) → IsBehind P r s → Leads P r (held_applied rec name levels holder f held vs s)
  held_applied_leads name levels holder f held vs s h =
      turn_leads keeps.steps s _ h (λ t h. let k = taken_follows name t h in deeper_leads keeps.steps 1 levels _ _ k (λ l. asked_leads (Run name l holder f held vs) (rec.compiler.requests_taken name t) tt k))

  pub form_evaluated_leads : (levels : Levels) (f : ℕ) (function : Function) (s : State) → IsBehind P r s → Leads P r (form_evaluated rec levels f function s)
  form_evaluated_leads levels f (HeldFunction held) s h =
      restored_leads keeps.steps s _ h (asked_leads (In (record { levels = levels; chain = longest_chain; kept = held.kept; holder = f }) Inside held.body) (with_mark None s) tt (mark_follows keeps.steps None s h))
  form_evaluated_leads levels f (SpecialForm form) s h = done_leads nil_value_of_state s h
  form_evaluated_leads levels f (NativeFunction native) s h = done_leads nil_value_of_state s h

  pub evaluated_leads : (levels : Levels) (u : Value) (s : State) → IsBehind P r s → Leads P r (evaluated rec levels u s)
  evaluated_leads levels u s h = turn_leads keeps.steps s _ h (λ t h. then_leads _ _ (hold_form_leads keeps.steps levels u t h) (λ f t h. form_evaluated_leads levels f (function_at t (pointer_to f)) t h))

  pub errorset_leads : (levels : Levels) (u msgp : Value) (s : State) → IsBehind P r s → Leads P r (errorset rec levels u msgp s)
  errorset_leads levels u msgp s h =
      turn_leads keeps.steps s _ h (λ t h. then_leads _ _ (hold_form_leads keeps.steps levels u t h) (λ f t h. caught_leads keeps.steps keeps.prints levels msgp _ (form_evaluated_leads levels f (function_at t (pointer_to f)) t h)))

  pub list_applied_leads : (levels : Levels) (f : ℕ) (function : Function) (vs : List Value) (s : State) → IsBehind P r s → Leads P r (list_applied rec levels f function vs s)
  list_applied_leads levels f (HeldFunction held) vs s h = counted_leads (length held.parameters == length vs) (pointer_value (pointer_to f)) s _ h (held_applied_leads None levels f None held vs s h)
  list_applied_leads levels f (SpecialForm form) vs s h = done_leads nil_value_of_state s h
  list_applied_leads levels f (NativeFunction native) vs s h = done_leads nil_value_of_state s h

  pub applied_to_leads : (levels : Levels) (target : Target) (vs : List Value) (s : State) → IsBehind P r s → Leads P r (applied_to rec levels target vs s)
  applied_to_leads levels (Function_ name f) vs s h = asked_leads (Call_ name levels f vs) s tt h
  applied_to_leads levels (Lambda rest) vs s h = then_leads _ _ (hold_lambda_leads keeps.steps Expr levels (pair_at s rest) (reading_object rest s) (reading_follows keeps.steps rest s h)) (λ f t h. list_applied_leads levels f (function_at t (pointer_to f)) vs t h)
  applied_to_leads levels Undefined vs s h = done_leads nil_value_of_state s h
  applied_to_leads levels WrongType vs s h = done_leads nil_value_of_state s h

  pub apply_target_leads : (levels : Levels) (target : Target) (f l : Value) (s : State) → IsBehind P r s → Leads P r (apply_target rec levels target f l s)
  apply_target_leads levels Undefined f l s h = fail_leads keeps.steps undefined f s h
  apply_target_leads levels WrongType f l s h = fail_leads keeps.steps wrong_type f s h
  apply_target_leads levels target f l s h =
      then_leads _ _ (elements_lead keeps.steps l s h) (λ walked t h.
      with_arguments_leads keeps.steps (proper walked.end (Some walked.result)) l t _ h (λ vs t h.
      deeper_leads keeps.steps (length vs / 8) levels t _ h (λ levels. applied_to_leads levels target vs t h)))

  pub apply_leads : (levels : Levels) (f l : Value) (s : State) → IsBehind P r s → Leads P r (apply rec levels f l s)
  apply_leads levels f l s h = turn_leads keeps.steps s _ h (λ t h. apply_target_leads levels (target_of f t) f l (reading_pair f t) (reading_pair_follows keeps.steps f t h))

  pub native_applied_leads : (native : Native) (levels : Levels) (vs : List Value) (s : State) → IsBehind P r s → Leads P r (native_applied rec native levels vs s)
  native_applied_leads Eval levels vs s h = evaluated_leads levels (argument vs 0) s h
  native_applied_leads Errorset levels vs s h = errorset_leads levels (argument vs 0) (argument vs 1) s h
  native_applied_leads Apply levels vs s h = apply_leads levels (argument vs 0) (argument vs 1) s h
  native_applied_leads Putd levels vs s h = then_leads _ _ (native_leads keeps.steps Putd levels vs s tt h) (λ v t h. done_leads v _ (behind_follows v t h))
  native_applied_leads Compile levels vs s h = leads_from keeps.steps r s _ h (keeps.compiler.names vs s)
  native_applied_leads Faslout levels vs s h = leads_from keeps.steps r s _ h (keeps.compiler.writes vs s)
  native_applied_leads Load levels vs s h = leads_from keeps.steps r s _ h (keeps.compiler.loads vs s)
  native_applied_leads other levels vs s h = native_leads keeps.steps other levels vs s (any_needs P other keeps.prints keeps.compiler.reads) h

  pub function_applied_leads : (name : Option ℕ) (levels : Levels) (p : Pointer) (function : Function) (vs : List Value) (s : State) → IsBehind P r s → Leads P r (function_applied rec name levels p function vs s)
  function_applied_leads name levels p (SpecialForm form) vs s h = fail_leads keeps.steps wrong_type (called_as rec name p) s h
  function_applied_leads name levels p (NativeFunction native) vs s h = counted_leads (arguments_of native == length vs) (called_as rec name p) s _ h (native_applied_leads native levels vs s h)
  function_applied_leads name levels p (HeldFunction held) vs s h = counted_leads (length held.parameters == length vs) (called_as rec name p) s _ h (held_applied_leads name levels p.function (Some p) held vs s h)

  pub applied_leads : (name : Option ℕ) (levels : Levels) (p : Pointer) (vs : List Value) (s : State) → IsBehind P r s → Leads P r (applied rec name levels p vs s)
  applied_leads name levels p vs s h = function_applied_leads name levels p (function_at s p) vs s h

  pub name_applied_leads : (i : ℕ) (levels : Levels) (d : Option Definition) (vs : List Value) (s : State) → IsBehind P r s → Leads P r (name_applied rec i levels d vs s)
  name_applied_leads i levels None vs s h = fail_leads keeps.steps undefined (Id i) s h
  name_applied_leads i levels (Some d) vs s h = applied_leads (Some i) levels d.function vs s h

  pub called_leads : (i : ℕ) (levels : Levels) (vs : List Value) (s : State) → IsBehind P r s → Leads P r (called rec i levels vs s)
  called_leads i levels vs s h = name_applied_leads i levels (symbol_at s i).definition vs s h

module _ {freely : Bool} {P : State → State → Type 0} {rec : Rec} (keeps : RecLeadsAt freely P rec) {r : State} where
  -- ---- FEXPRs and macros

  pub fexpr_called_leads : (i : ℕ) (here : Here) (args : Tree) (s : State) → IsBehind P r s → Leads P r (fexpr_called rec i here args s)
  fexpr_called_leads i here args s h = then_leads _ _ (copied_leads keeps.steps here.levels args s h) (λ list t h. called_leads keeps i here.levels (list ∷ []) t h)

  pub expansion_of_leads : (i : ℕ) (here : Here) (form : Tree) (s : State) → IsBehind P r s → Leads P r (expansion_of rec i here form s)
  expansion_of_leads i here form s h =
      closed_leads keeps.steps i s _ h (then_leads _ _ (copied_leads keeps.steps here.levels form (with_expansion i s) (follows_same keeps.steps (with_expansion i s))) (λ list t h.
      then_leads _ _ (called_leads keeps i here.levels (list ∷ []) t h) (λ v t h. hold_expansion_leads keeps.steps here.levels here.kept v t h)))

  pub expanded_body_leads : (here : Here) (position : Position) (f : ℕ) (function : Function) (s : State) → IsBehind P r s → LeadsAt P position r (expanded_body rec here position f function s)
  expanded_body_leads here position f (HeldFunction held) s h = asked_leads keeps (In (record here { holder = f }) position held.body) s tt h
  expanded_body_leads here position f (SpecialForm form) s h = done_leads nil_value_of_state s h
  expanded_body_leads here position f (NativeFunction native) s h = done_leads nil_value_of_state s h

  pub macro_called_leads : (i : ℕ) (here : Here) (position : Position) (form : Tree) (s : State) → IsBehind P r s → LeadsAt P position r (macro_called rec i here position form s)
  macro_called_leads i here position form s h = then_leads _ _ (anywhere position _ (expansion_of_leads i here form s h)) (λ f t h. expanded_body_leads here position f (function_at t (pointer_to f)) t h)

  pub in_chain_leads : {A : Type 0} {position : Position} (chain i : ℕ) (s : State) (next : ℕ → State → Outcome A) → IsBehind P r s → ((n : ℕ) → LeadsAt P position r (next n s)) → LeadsAt P position r (in_chain rec chain i s next)
  in_chain_leads zero i s next h k = stopped_leads _ s h
  in_chain_leads (suc n) i s next h k = k n

  -- ---- PROG

  pub jumped_leads : (here : Here) (whole : Tree) (l : ℕ) (o : Option Tree) (s : State) → IsBehind P r s → Leads P r (jumped rec here whole l o s)
  jumped_leads here whole l (Some rest) s h = turn_leads keeps.steps s _ h (λ t h. asked_leads keeps (From here whole rest) t tt h)
  jumped_leads here whole l None s h = fail_leads keeps.steps misplaced (Id l) s h

  pub in_prog_leads : (here : Here) (whole : Tree) (next : State → Outcome Value) (o : Outcome Value) → Moves P r o → ((t : State) → IsBehind P r t → Leads P r (next t)) → Leads P r (in_prog rec here whole next o)
  in_prog_leads here whole next (Done v t) h k = k t (record { is = h.moves })
  in_prog_leads here whole next (Failed n m t) h k = failed_leads n m t (record { is = h.moves })
  in_prog_leads here whole next (Went l t) h k = jumped_leads here whole l (after_label l whole) t (record { is = h.moves })
  in_prog_leads here whole next (Returned v t) h k = done_leads v t (record { is = h.moves })
  in_prog_leads here whole next (Stopped why t) h k = stopped_leads why t (record { is = h.moves })

  -- ---- forms that ask for no form

  pub misplaced_leads : (position : Position) (culprit : Value) (s : State) (next : State → Outcome Value) → IsBehind P r s → Moves P r (next s) → LeadsAt P position r (misplaced_at position culprit s next)
  misplaced_leads Statement culprit s next h k = k
  misplaced_leads Inside culprit s next h k = fail_leads keeps.steps misplaced culprit s h

  pub going_leads : (position : Position) (args : Tree) (s : State) → IsBehind P r s → LeadsAt P position r (going rec position args s)
  going_leads position (Pair (Atom (Id l)) end) s h = misplaced_leads position (Id l) s _ h (record { moves = h.is; plain = tt })
  going_leads position args s h = done_leads nil_value_of_state s h

  pub quoted_leads : (args : Tree) (s : State) → IsBehind P r s → Leads P r (quoted rec args s)
  quoted_leads (Pair (Quoted v) end) s h = done_leads v s h
  quoted_leads args s h = done_leads nil_value_of_state s h

  pub function_named_leads : (args : Tree) (s : State) → IsBehind P r s → Leads P r (function_named rec args s)
  function_named_leads (Pair (Atom v) end) s h = done_leads v s h
  function_named_leads args s h = done_leads nil_value_of_state s h

  pub function_defined_leads : (form : Special) (i : ℕ) (held : Outcome ℕ) → Leads P r held → Leads P r (function_defined rec form i held)
  function_defined_leads form i held h = then_leads _ _ h (λ f t h. done_leads _ _ (behind_follows keeps (Id i) _ (define_follows keeps.steps i (kind_of_definition form) (pointer_to f) t h)))

  pub define_function_leads : (form : Special) (levels : Levels) (args : Tree) (s : State) → IsBehind P r s → Leads P r (define_function rec form levels args s)
  define_function_leads form levels (Pair (Atom (Id i)) (Pair parameters forms)) s h =
      own_name_leads keeps.steps i s _ h (λ t h. function_defined_leads form i _ (hold_part_leads keeps.steps (kind_of_definition form) levels parameters forms t h))
  define_function_leads form levels args s h = done_leads nil_value_of_state s h

  pub bad_leads : {position : Position} (culprit : Value) (here : Here) (s : State) → IsBehind P r s → LeadsAt {A = Value} P position r (deeper_here 1 here s (λ here. bad_form culprit s))
  bad_leads culprit here s h = deeper_leads keeps.steps 1 here.levels s _ h (λ l. fail_leads keeps.steps badly_formed culprit s h)
