-- What is used of one run and of two, gathered: that each definition only goes on from its state, whatever its jobs do that go on; and that holding, copying, natives and variables keep two runs side by side. All of it is given in TwoRunsLaws.
use Rattle.std.proofs.Common.{◌≡◌, ℕ, Bool, true, false, List, Option}
use Rattle.rl_tree.specs.Value.{Value}
use Rattle.rl_tree.specs.declared.held.Kind.{Kind}
use Rattle.rl_meaning.specs.Names.{Native, Special, Operation, Set, Prin1, Prin2, Print, Terpri}
use Rattle.rl_meaning.specs.State.{State, Code, Tree, Kept, Held, Pointer, Function}
use Rattle.rl_meaning.specs.Outcome.{Outcome, Levels, made_pair}
use Rattle.rl_meaning.specs.Symbols.{with_top, list_elements}
use Rattle.rl_meaning.specs.Constants.{objects_read}
use Rattle.rl_meaning.specs.Holding.{hold_form, hold_expansion, hold_function, elements_walked}
use Rattle.rl_meaning.specs.Copying.{copied}
use Rattle.rl_meaning.specs.Variables.{variable, assigned, bind_all}
use Rattle.rl_meaning.specs.Numbers.{operated}
use Rattle.rl_meaning.specs.Definitions.{define, hold_lambda}
use Rattle.rl_meaning.specs.Printing.{print_error, note}
use Rattle.rl_meaning.specs.Natives.{native}
use Rattle.rl_meaning.specs.Forms.{hold_part}
use Rattle.rl_meaning.specs.Input.{read_bytes}
use Rattle.rl_meaning.specs.Walks.{Walked}
use Rattle.rl_meaning.specs.Opening.{state_of}
use Rattle.rl_meaning.specs.Run.{print_unreadable}
use Rattle.rl_meaning.specs.Evaluation.{Job, Rec, Here, Position, Machine, Frame, Target, form_evaluated, list_applied, applied_to, called, fexpr_called, macro_called, expansion_of, expanded_body, jumped, eval, arguments, progn, clauses, conjunction, disjunction, statements, listed, combined_rest}
use Rattle.rl_meaning.specs.Compiling.{Compiler}
use Rattle.rl_meaning.specs.Machine.{linked, run, seek, run_code}
use Rattle.rl_meaning.specs.TwoRunsValues.{Names, Maybe, Each, SameValue, SameParts, SameTree, SamePointer, SameNumber}
use Rattle.rl_meaning.specs.TwoRunsStates.{Bounds, EntryPlace, Like, Roomier, Shown}
use Rattle.rl_meaning.specs.TwoRunsEnds.{Parted, Related, EndsAgree}
use Rattle.rl_agrees.specs.Leaving.{IsNoTransfer, is_statement}
use Rattle.rl_agrees.proofs.TwoRunsKept.{Goes}
use Rattle.rl_meaning.specs.HeadCases.{special_form}
use Rattle.rl_agrees.proofs.TwoRunsWays.{Beside, Is}
use Rattle.rl_agrees.proofs.TwoRunsWalks.{SameWalked}
use Rattle.rl_agrees.proofs.TwoRunsReading.{SameReading}

-- ---- one run

-- what an outcome of a state leaves
pub record GoesOn {A : Type 0} (s : State) (o : Outcome A) : Type 0 where
  pub goes : Goes s (state_of o)

abbrev pub Ask : Type 0
Ask = Job → State → Outcome Value

-- jobs go on, and only a statement of a PROG leaves by GO or RETURN
pub record AskGoes (ask : Ask) : Type 0 where
  pub goes : (j : Job) (s : State) → GoesOn s (ask j s)
  pub plain : (j : Job) (s : State) → is_statement j ≡ false → IsNoTransfer (ask j s)

-- compilation neither goes nor returns
pub record IsPlainCompiler (c : Compiler) : Type 0 where
  pub names : (vs : List Value) (s : State) → IsNoTransfer (c.compile_names vs s)
  pub writes : (vs : List Value) (s : State) → IsNoTransfer (c.write_file vs s)
  pub loads : (vs : List Value) (s : State) → IsNoTransfer (c.load_file vs s)

-- jobs go on, and what compilation does
pub record RecGoes (rec : Rec) : Type 0 where
  pub ask : AskGoes rec.ask
  pub taken : (name : Option ℕ) (s : State) → Goes s (rec.compiler.requests_taken name s)
  pub defined : (v : Value) (s : State) → Goes s (rec.compiler.defined v s)
  pub names : (vs : List Value) (s : State) → GoesOn s (rec.compiler.compile_names vs s)
  pub writes : (vs : List Value) (s : State) → GoesOn s (rec.compiler.write_file vs s)
  pub loads : (vs : List Value) (s : State) → GoesOn s (rec.compiler.load_file vs s)
  pub plain : IsPlainCompiler rec.compiler

pub record OneRunFacts : Type 0 where
  -- what asks for no job
  pub pair_goes : (a d : Value) (s : State) → GoesOn s (made_pair a d s)
  pub top_goes : (i : ℕ) (v : Value) (s : State) → Goes s (with_top i v s)
  pub reading_goes : (rs : List ℕ) (s : State) → Goes s (objects_read rs s)
  pub note_goes : (line : List ℕ) (s : State) → Goes s (note line s)
  pub define_goes : (i : ℕ) (kind : Kind) (p : Pointer) (s : State) → Goes s (define i kind p s)
  pub hold_form_goes : (l : Levels) (v : Value) (s : State) → GoesOn s (hold_form l v s)
  pub hold_expansion_goes : (l : Levels) (kept : List Kept) (v : Value) (s : State) → GoesOn s (hold_expansion l kept v s)
  pub hold_function_goes : (kind : Kind) (l : Levels) (u v : Value) (s : State) → GoesOn s (hold_function kind l u v s)
  pub hold_part_goes : (kind : Kind) (l : Levels) (a c : Tree) (s : State) → GoesOn s (hold_part kind l a c s)
  pub hold_lambda_goes : (kind : Kind) (l : Levels) (o : Option (Value × Value)) (s : State) → GoesOn s (hold_lambda kind l o s)
  pub elements_goes : (v : Value) (s : State) → GoesOn s (elements_walked v s)
  pub copied_goes : (l : Levels) (a : Tree) (s : State) → GoesOn s (copied l a s)
  pub operated_goes : (o : Operation) (vs : List Value) (s : State) → GoesOn s (operated o vs s)
  pub native_goes : (o : Native) (l : Levels) (vs : List Value) (s : State) → GoesOn s (native o l vs s)
  pub print_error_goes : (l : Levels) (v : Value) (s : State) → GoesOn s (print_error l v s)
  pub variable_goes : (x : ℕ) (s : State) → GoesOn s (variable x s)
  pub assigned_goes : (x : ℕ) (v : Value) (s : State) → GoesOn s (assigned x v s)
  pub bind_all_goes : (kept : List Kept) (xs : List ℕ) (vs : List Value) (s : State) → GoesOn s (bind_all kept xs vs s)
  -- evaluation
  pub form_goes : (rec : Rec) → RecGoes rec → (l : Levels) (f : ℕ) (function : Function) (s : State) → GoesOn s (form_evaluated rec l f function s)
  pub list_goes : (rec : Rec) → RecGoes rec → (l : Levels) (f : ℕ) (function : Function) (vs : List Value) (s : State) → GoesOn s (list_applied rec l f function vs s)
  pub applied_to_goes : (rec : Rec) → RecGoes rec → (l : Levels) (target : Target) (vs : List Value) (s : State) → GoesOn s (applied_to rec l target vs s)
  pub called_goes : (rec : Rec) → RecGoes rec → (i : ℕ) (l : Levels) (vs : List Value) (s : State) → GoesOn s (called rec i l vs s)
  pub fexpr_goes : (rec : Rec) → RecGoes rec → (i : ℕ) (here : Here) (args : Tree) (s : State) → GoesOn s (fexpr_called rec i here args s)
  pub macro_goes : (rec : Rec) → RecGoes rec → (i : ℕ) (here : Here) (position : Position) (form : Tree) (s : State) → GoesOn s (macro_called rec i here position form s)
  pub special_goes : (rec : Rec) → RecGoes rec → (here : Here) (position : Position) (args : Tree) (s : State) (form : Special) → GoesOn s (special_form rec here position args s form)
  pub expansion_goes : (rec : Rec) → RecGoes rec → (i : ℕ) (here : Here) (form : Tree) (s : State) → GoesOn s (expansion_of rec i here form s)
  pub expanded_goes : (rec : Rec) → RecGoes rec → (here : Here) (position : Position) (f : ℕ) (function : Function) (s : State) → GoesOn s (expanded_body rec here position f function s)
  pub jumped_goes : (rec : Rec) → RecGoes rec → (here : Here) (whole : Tree) (l : ℕ) (o : Option Tree) (s : State) → GoesOn s (jumped rec here whole l o s)
  pub eval_goes : (rec : Rec) → RecGoes rec → (here : Here) (position : Position) (e : Tree) (s : State) → GoesOn s (eval rec here position e s)
  pub arguments_goes : (rec : Rec) → RecGoes rec → (here : Here) (vs : List Value) (next : List Value → State → Outcome Value) (e : Tree) (s : State) → ((vs : List Value) (s : State) → GoesOn s (next vs s)) → GoesOn s (arguments rec here vs next e s)
  pub progn_goes : (rec : Rec) → RecGoes rec → (here : Here) (position : Position) (v : Value) (e : Tree) (s : State) → GoesOn s (progn rec here position v e s)
  pub clauses_goes : (rec : Rec) → RecGoes rec → (here : Here) (position : Position) (e : Tree) (s : State) → GoesOn s (clauses rec here position e s)
  pub conjunction_goes : (rec : Rec) → RecGoes rec → (here : Here) (v : Value) (e : Tree) (s : State) → GoesOn s (conjunction rec here v e s)
  pub disjunction_goes : (rec : Rec) → RecGoes rec → (here : Here) (e : Tree) (s : State) → GoesOn s (disjunction rec here e s)
  pub statements_goes : (rec : Rec) → RecGoes rec → (here : Here) (whole e : Tree) (s : State) → GoesOn s (statements rec here whole e s)
  pub listed_goes : (rec : Rec) → RecGoes rec → (here : Here) (e : Tree) (s : State) → GoesOn s (listed rec here e s)
  pub combined_goes : (rec : Rec) → RecGoes rec → (form : Special) (here : Here) (v : Value) (e : Tree) (s : State) → GoesOn s (combined_rest rec form here v e s)
  -- c-macros
  pub linked_goes : (rec : Rec) → RecGoes rec → (i : ℕ) (l : Levels) (vs : List Value) (s : State) → GoesOn s (linked rec i l vs s)
  pub run_goes : (rec : Rec) → RecGoes rec → (f : Frame) (code : Code) (m : Machine) (s : State) → GoesOn s (run rec f code m s)
  pub seek_goes : (rec : Rec) → RecGoes rec → (f : Frame) (l : ℕ) (code : Code) (m : Machine) (s : State) → GoesOn s (seek rec f l code m s)
  pub code_goes : (rec : Rec) → RecGoes rec → (l : Levels) (f : Option Pointer) (held : Held) (code : Code) (vs : List Value) (s : State) → GoesOn s (run_code rec l f held code vs s)
  -- reading
  pub read_goes : (turns : Bool) (l : Levels) (bytes : List ℕ) (s : State) → GoesOn s (read_bytes turns l bytes s)
  pub unreadable_goes : (k : ℕ) (s : State) → Goes s (print_unreadable k s)

-- ---- two runs

-- nothing is printed or noted
pub record Quiet {A : Type 0} (s : State) (o : Outcome A) : Type 0 where
  pub output : (state_of o).outside.output ≡ s.outside.output
  pub notes : (state_of o).outside.notes ≡ s.outside.notes

-- natives that print, or set a variable, which may stray
abbrev pub may_part : Native → Bool
may_part Set = true
may_part Prin1 = true
may_part Prin2 = true
may_part Print = true
may_part Terpri = true
may_part other = false

-- of the ends of two walks along lists
abbrev pub SameList : (n : Names) → Walked (List Value) → Walked (List Value) → Type 0
SameList n v w = SameWalked (λ n xs ys. Each (SameValue n) xs ys) n v w

pub record TwoRunsFacts (bounds : Bounds) : Type 0 where
  pub hold_form_ : (n : Names) (ps : List EntryPlace) (l m : Levels) (v w : Value) (s t : State) → Roomier bounds l m → SameValue n v w → Like bounds n ps s t → Beside bounds SameNumber n ps (hold_form l v s) (hold_form m w t)
  pub hold_expansion_ : (n : Names) (ps : List EntryPlace) (l m : Levels) (kept : List Kept) (v w : Value) (s t : State) → Roomier bounds l m → SameValue n v w → Like bounds n ps s t → Beside bounds SameNumber n ps (hold_expansion l kept v s) (hold_expansion m kept w t)
  pub hold_function_ : (n : Names) (ps : List EntryPlace) (kind : Kind) (l m : Levels) (u v x y : Value) (s t : State) → Roomier bounds l m → SameValue n u v → SameValue n x y → Like bounds n ps s t → Beside bounds SameNumber n ps (hold_function kind l u x s) (hold_function kind m v y t)
  pub hold_part_ : (n : Names) (ps : List EntryPlace) (kind : Kind) (l m : Levels) (a b c d : Tree) (s t : State) → Roomier bounds l m → SameTree n a b → SameTree n c d → Like bounds n ps s t → Beside bounds SameNumber n ps (hold_part kind l a c s) (hold_part kind m b d t)
  pub hold_lambda_ : (n : Names) (ps : List EntryPlace) (kind : Kind) (l m : Levels) (o p : Option (Value × Value)) (s t : State) → Roomier bounds l m → Maybe (SameParts n) o p → Like bounds n ps s t → Beside bounds SameNumber n ps (hold_lambda kind l o s) (hold_lambda kind m p t)
  pub elements_ : (n : Names) (ps : List EntryPlace) (v w : Value) (s t : State) → SameValue n v w → Like bounds n ps s t → Beside bounds SameList n ps (elements_walked v s) (elements_walked w t)
  pub copied_ : (n : Names) (ps : List EntryPlace) (l m : Levels) (a b : Tree) (s t : State) → Roomier bounds l m → SameTree n a b → Like bounds n ps s t → Beside bounds SameValue n ps (copied l a s) (copied m b t)
  pub operated_ : (n : Names) (ps : List EntryPlace) (o : Operation) (xs ys : List Value) (s t : State) → Each (SameValue n) xs ys → Like bounds n ps s t → Beside bounds SameValue n ps (operated o xs s) (operated o ys t)
  pub native_ : (n : Names) (ps : List EntryPlace) (o : Native) (l m : Levels) (xs ys : List Value) (s t : State) → may_part o ≡ false → Roomier bounds l m → Each (SameValue n) xs ys → Like bounds n ps s t → Beside bounds SameValue n ps (native o l xs s) (native o m ys t)
  -- what prints nothing
  pub hold_form_quiet : (l : Levels) (v : Value) (s : State) → Quiet s (hold_form l v s)
  pub hold_expansion_quiet : (l : Levels) (kept : List Kept) (v : Value) (s : State) → Quiet s (hold_expansion l kept v s)
  pub hold_function_quiet : (kind : Kind) (l : Levels) (u v : Value) (s : State) → Quiet s (hold_function kind l u v s)
  pub hold_part_quiet : (kind : Kind) (l : Levels) (a c : Tree) (s : State) → Quiet s (hold_part kind l a c s)
  pub hold_lambda_quiet : (kind : Kind) (l : Levels) (o : Option (Value × Value)) (s : State) → Quiet s (hold_lambda kind l o s)
  pub elements_quiet : (v : Value) (s : State) → Quiet s (elements_walked v s)
  pub copied_quiet : (l : Levels) (a : Tree) (s : State) → Quiet s (copied l a s)
  pub operated_quiet : (o : Operation) (vs : List Value) (s : State) → Quiet s (operated o vs s)
  pub native_quiet : (o : Native) (l : Levels) (vs : List Value) (s : State) → may_part o ≡ false → Quiet s (native o l vs s)
  -- what may part
  pub native_parts : (n : Names) (ps : List EntryPlace) (o : Native) (l m : Levels) (xs ys : List Value) (s t : State) → may_part o ≡ true → Roomier bounds l m → Each (SameValue n) xs ys → Like bounds n ps s t → EndsAgree bounds n ps (native o l xs s) (native o m ys t)
  pub variable_ : (n : Names) (ps : List EntryPlace) (x : ℕ) (s t : State) → Shown ps → Like bounds n ps s t → EndsAgree bounds n ps (variable x s) (variable x t)
  pub assigned_ : (n : Names) (ps : List EntryPlace) (x : ℕ) (v w : Value) (s t : State) → SameValue n v w → Shown ps → Like bounds n ps s t → EndsAgree bounds n ps (assigned x v s) (assigned x w t)
  pub print_error_ : (n : Names) (ps : List EntryPlace) (l m : Levels) (v w : Value) (s t : State) → Roomier bounds l m → SameValue n v w → Like bounds n ps s t → Related bounds {A = Unit {0}} (Parted bounds) Is n ps (print_error l v s) (print_error m w t)
  pub define_ : (n : Names) (ps : List EntryPlace) (i : ℕ) (kind : Kind) (p q : Pointer) (s t : State) → SamePointer n p q → Like bounds n ps s t → Like bounds n ps (define i kind p s) (define i kind q t)
  pub list_elements_ : (n : Names) (ps : List EntryPlace) (s t : State) (v w : Value) → Like bounds n ps s t → SameValue n v w → Maybe (Each (SameValue n)) (list_elements s v) (list_elements t w)
  -- reading
  pub read_ : (n : Names) (ps : List EntryPlace) (turns : Bool) (l m : Levels) (bytes : List ℕ) (s t : State) → Roomier bounds l m → Like bounds n ps s t → Beside bounds SameReading n ps (read_bytes turns l bytes s) (read_bytes turns m bytes t)
  pub read_quiet : (turns : Bool) (l : Levels) (bytes : List ℕ) (s : State) → Quiet s (read_bytes turns l bytes s)
