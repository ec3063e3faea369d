-- Evaluation and application, by the cases of the form (Standard Lisp Report 1979, EVAL and APPLY; turns, levels, cells and expansions are this project's). What takes a turn, or goes on in an expansion, is asked for as a job.
use Rattle.std.specs.Prelude.{ℕ, zero, suc, pos, ◌/◌, Bool, true, false, ◌==◌, if◌then◌else◌, List, [], ◌∷◌, ◌++◌, length, Option, Some, None}
use Rattle.rl_tree.specs.Value.{Value, Int, Id, Fun}
use Rattle.rl_tree.specs.declared.held.Kind.{Kind}
use Rattle.rl_tree.specs.declared.held.Kind.TheVariants.{Expr, Fexpr, Macro}
use Rattle.rl_meaning.specs.Names.{Native, Special, Quote, Cond, Progn, And, Or, Setq, Prog, Go, Return, List_, Plus, Times, Max, Min, De, Df, Dm, Number, Plus2, Times2, Max2, Min2, Operation, Putd, Eval, Errorset, Apply, Compile, Faslout, Load, arguments_of}
use Rattle.rl_meaning.specs.Names as names
use Rattle.rl_meaning.specs.State.{State, Code, Tree, Atom, Quoted, Pair, Literal, Kept, Held, Pointer, Definition, Function, SpecialForm, NativeFunction, HeldFunction, Expansion}
use Rattle.rl_meaning.specs.Outcome.{Outcome, Done, Failed, Went, Returned, Stopped, Expands, then_do, choose, turn, Levels, deeper, made_pair}
use Rattle.rl_meaning.specs.Symbols.{nil_value_of_state, is_nil, lambda_number, return_number, truth, pair_at, symbol_at}
use Rattle.rl_meaning.specs.Errors.{fail, undefined, wrong_count, wrong_type, misplaced, badly_formed}
use Rattle.rl_meaning.specs.Constants.{reading_object, reading_pair}
use Rattle.rl_meaning.specs.Holding.{function_number, hold_form, hold_expansion, elements_walked, tree_identifiers, is_list, pointer_value, pointer_to, function_at}
use Rattle.rl_meaning.specs.Copying.{copied}
use Rattle.rl_meaning.specs.Variables.{variable, assigned, with_mark, restored, binding}
use Rattle.rl_meaning.specs.Numbers.{operated}
use Rattle.rl_meaning.specs.Atoms.{proper}
use Rattle.rl_meaning.specs.Definitions.{define, own_name, hold_lambda}
use Rattle.rl_meaning.specs.Printing.{print_error, note_value, note_error}
use Rattle.rl_meaning.specs.Natives.{native, argument}
use Rattle.rl_meaning.specs.Compiling.{Compiler}
use Rattle.rl_meaning.specs.Forms.{Form, Call, Applied, Bad, head_of, element_count, call_levels, fits, lambda_parameters, after_label, hold_part}

-- ---- where a form stands

-- as a statement of the innermost PROG of its function, where GO and RETURN are obeyed; or anywhere else
pub data Position : Type 0 where
  Statement : Position
  Inside : Position

-- the levels that are left, the expansions that the chain may still have, the kinds that the held form keeps, and the function whose body has the form
pub record Here : Type 0 where
  pub levels : Levels
  pub chain : ℕ
  pub kept : List Kept
  pub holder : ℕ

-- the longest chain of expansions
abbrev pub longest_chain : ℕ
longest_chain = 100

-- the turns and the cells that an expansion has of its own
abbrev pub expansion_turns : ℕ
expansion_turns = 100000

abbrev pub expansion_cells : ℕ
expansion_cells = 1000000

-- ---- code that runs

-- bindings that one c-macro made, and the levels before them
pub record Bound : Type 0 where
  pub count : ℕ
  pub levels : Levels

-- the registers and slots, the bindings that are not undone, the newest first, and the levels that are left
pub record Machine : Type 0 where
  pub registers : List Value
  pub slots : List Value
  pub bound : List Bound
  pub levels : Levels

-- what stays while code runs: its name, function and held form, its c-macros, how many bindings there were, and the levels outside
pub record Frame : Type 0 where
  pub name : ℕ
  pub function : Option Pointer
  pub held : Held
  pub code : Code
  pub depth : ℕ
  pub outside : Levels

-- what is asked for: an application that has taken its turn and its level, by the name that called it, with the function whose body it has, and with what its mark names; code from a label on; a function on arguments, for APPLY; the statements of a PROG from a label on; a held form, or an expansion in place of its form
pub data Job : Type 0 where
  Run : Option ℕ → Levels → ℕ → Option Pointer → Held → List Value → Job
  Onward : Frame → Machine → Code → Job
  Call_ : Option ℕ → Levels → Pointer → List Value → Job
  From : Here → Tree → Tree → Job
  In : Here → Position → Tree → Job

-- how jobs are done that are asked for, and what compilation does
pub record Rec : Type 0 where
  pub compiler : Compiler
  pub ask : Job → State → Outcome Value

-- ---- small parts

-- the culprit of a form that fits no row: its first element, or LAMBDA where that is a pair
abbrev pub bad_form : {A : Type 0} → Value → State → Outcome A
bad_form culprit s = fail badly_formed culprit s

abbrev pub kind_of_definition : Special → Kind
kind_of_definition Df = Fexpr
kind_of_definition Dm = Macro
kind_of_definition form = Expr

abbrev pub misplaced_at : {A : Type 0} → Position → Value → State → (State → Outcome A) → Outcome A
misplaced_at Statement culprit s next = next s
misplaced_at Inside culprit s next = fail misplaced culprit s

abbrev pub deeper_here : {A : Type 0} → ℕ → Here → State → (Here → Outcome A) → Outcome A
deeper_here n here s next = deeper n here.levels s (λ levels. next (record here { levels = levels }))

-- ---- expansions

abbrev pub opened_expansion : ℕ → Option Expansion → Expansion
opened_expansion f None = record { macro = f; inner_count = 0; turns = expansion_turns; cells = expansion_cells }
opened_expansion f (Some e) = record e { inner_count = suc e.inner_count }

-- an expansion is open; turns and cells are those of the outermost one
abbrev pub with_expansion : ℕ → State → State
with_expansion f s = record s { counts = record s.counts { expansion = Some (opened_expansion f s.counts.expansion) } }

abbrev pub closed_expansion : Option Expansion → Option Expansion
closed_expansion None = None
closed_expansion (Some e) = elim e.inner_count [ zero ↦ None | suc n ↦ Some (record e { inner_count = n }) ]

abbrev pub without_expansion : State → State
without_expansion s = record s { counts = record s.counts { expansion = closed_expansion s.counts.expansion } }

-- the expansion is over, on every way out
abbrev pub closed : {A : Type 0} → Outcome A → Outcome A
closed (Done a s) = Done a (without_expansion s)
closed (Failed n m s) = Failed n m (without_expansion s)
closed (Went l s) = Went l (without_expansion s)
closed (Returned v s) = Returned v (without_expansion s)
closed (Stopped why s) = Stopped why s

-- ---- ERRORSET

abbrev pub print_unless_nil : Levels → Value → Value → State → Outcome (Unit {0})
print_unless_nil levels msgp message s = choose (is_nil msgp) s (λ s. Done tt s) (λ s. print_error levels message s)

-- a list of the value, or the number of the error
abbrev pub caught : Levels → Value → Outcome Value → Outcome Value
caught levels msgp (Done v s) = then_do (made_pair v nil_value_of_state s) (λ list s. Done list (note_value s))
caught levels msgp (Failed n m s) = then_do (print_unless_nil levels msgp m s) (λ done s. Done (Int n) (note_error n s))
caught levels msgp other = other

-- ---- APPLY

-- what is applied: a function, by the name or the pointer that gives it; or a LAMBDA list, by what stands behind LAMBDA
pub data Target : Type 0 where
  Function_ : Option ℕ → Pointer → Target
  Lambda : Value → Target
  Undefined : Target
  WrongType : Target

abbrev pub target_function : Option ℕ → Pointer → Function → Target
target_function name f (SpecialForm form) = WrongType
target_function name f other = Function_ name f

abbrev pub target_definition : ℕ → Option Definition → State → Target
target_definition i None s = Undefined
target_definition i (Some d) s = elim d.kind [ Expr ↦ target_function (Some i) d.function (function_at s d.function) | Fexpr ↦ WrongType | Macro ↦ WrongType ]

abbrev pub target_pair : Option (Value × Value) → Target
target_pair (Some (Id l, rest)) = if l == lambda_number then Lambda rest else WrongType
target_pair other = WrongType

abbrev pub target_of : Value → State → Target
target_of (Id i) s = target_definition i (symbol_at s i).definition s
target_of (Fun f place) s = let p : Pointer = record { function = f; place = place } in target_function None p (function_at s p)
target_of v s = target_pair (pair_at s v)

abbrev pub with_arguments : {A : Type 0} → Option (List Value) → Value → State → (List Value → State → Outcome A) → Outcome A
with_arguments (Some vs) l s next = next vs s
with_arguments None l s next = fail wrong_type l s

-- ---- the operation of PLUS, TIMES, MAX and MIN, and what they are of no arguments

abbrev pub operation_of : Special → Operation
operation_of Times = Times2
operation_of Max = Max2
operation_of Min = Min2
operation_of form = Plus2

abbrev pub of_none : Special → Value
of_none Times = Int (pos 1)
of_none form = Int (pos 0)

module _ (rec : Rec) where
  -- ---- application

  abbrev pub held_applied : Option ℕ → Levels → ℕ → Option Pointer → Held → List Value → State → Outcome Value
  held_applied name levels holder f held vs s =
      turn s (λ s. let s = rec.compiler.requests_taken name s in deeper 1 levels s (λ levels. rec.ask (Run name levels holder f held vs) s))

  -- a held form that is evaluated once, with a mark and no variables
  abbrev pub form_evaluated : Levels → ℕ → Function → State → Outcome Value
  form_evaluated levels f (HeldFunction held) s =
      restored (length s.bindings) (rec.ask (In (record { levels = levels; chain = longest_chain; kept = held.kept; holder = f }) Inside held.body) (with_mark None s))
  form_evaluated levels f other s = Done nil_value_of_state s

  abbrev pub evaluated : Levels → Value → State → Outcome Value
  evaluated levels u s = turn s (λ s. then_do (hold_form levels u s) (λ f s. form_evaluated levels f (function_at s (pointer_to f)) s))

  abbrev pub errorset : Levels → Value → Value → State → Outcome Value
  errorset levels u msgp s = turn s (λ s. then_do (hold_form levels u s) (λ f s. caught levels msgp (form_evaluated levels f (function_at s (pointer_to f)) s)))

  abbrev pub counted : Bool → Value → State → (State → Outcome Value) → Outcome Value
  counted true culprit s next = next s
  counted false culprit s next = fail wrong_count culprit s

  -- the held form of a LAMBDA list is no body that turns: its mark names no function
  abbrev pub list_applied : Levels → ℕ → Function → List Value → State → Outcome Value
  list_applied levels f (HeldFunction held) vs s = counted (length held.parameters == length vs) (pointer_value (pointer_to f)) s (λ s. held_applied None levels f None held vs s)
  list_applied levels f other vs s = Done nil_value_of_state s

  -- APPLY: first the tests of f, then the walk of l, its levels, and the holding of a LAMBDA list
  abbrev pub applied_to : Levels → Target → List Value → State → Outcome Value
  applied_to levels (Function_ name f) vs s = rec.ask (Call_ name levels f vs) s
  applied_to levels (Lambda rest) vs s = then_do (hold_lambda Expr levels (pair_at s rest) (reading_object rest s)) (λ f s. list_applied levels f (function_at s (pointer_to f)) vs s)
  applied_to levels other vs s = Done nil_value_of_state s

  abbrev pub apply_target : Levels → Target → Value → Value → State → Outcome Value
  apply_target levels Undefined f l s = fail undefined f s
  apply_target levels WrongType f l s = fail wrong_type f s
  apply_target levels target f l s =
      then_do (elements_walked l s) (λ walked s.
      with_arguments (proper walked.end (Some walked.result)) l s (λ vs s.
      deeper (length vs / 8) levels s (λ levels. applied_to levels target vs s)))

  abbrev pub apply : Levels → Value → Value → State → Outcome Value
  apply levels f l s = turn s (λ s. apply_target levels (target_of f s) f l (reading_pair f s))

  abbrev pub native_applied : Native → Levels → List Value → State → Outcome Value
  native_applied Eval levels vs s = evaluated levels (argument vs 0) s
  native_applied Errorset levels vs s = errorset levels (argument vs 0) (argument vs 1) s
  native_applied Apply levels vs s = apply levels (argument vs 0) (argument vs 1) s
  native_applied Putd levels vs s = then_do (native Putd levels vs s) (λ v s. Done v (rec.compiler.defined v s))
  native_applied Compile levels vs s = rec.compiler.compile_names vs s
  native_applied Faslout levels vs s = rec.compiler.write_file vs s
  native_applied Load levels vs s = rec.compiler.load_file vs s
  native_applied other levels vs s = native other levels vs s

  -- the culprit of a wrong number of arguments: the name that was called, or the function pointer
  abbrev pub called_as : Option ℕ → Pointer → Value
  called_as (Some i) p = Id i
  called_as None p = pointer_value p

  abbrev pub function_applied : Option ℕ → Levels → Pointer → Function → List Value → State → Outcome Value
  function_applied name levels p (SpecialForm form) vs s = fail wrong_type (called_as name p) s
  function_applied name levels p (NativeFunction n) vs s = counted (arguments_of n == length vs) (called_as name p) s (λ s. native_applied n levels vs s)
  function_applied name levels p (HeldFunction held) vs s = counted (length held.parameters == length vs) (called_as name p) s (λ s. held_applied name levels p.function (Some p) held vs s)

  abbrev pub applied : Option ℕ → Levels → Pointer → List Value → State → Outcome Value
  applied name levels p vs s = function_applied name levels p (function_at s p) vs s

  -- a name that is called: its definition is read once more, whatever kind it has now
  abbrev pub name_applied : ℕ → Levels → Option Definition → List Value → State → Outcome Value
  name_applied i levels None vs s = fail undefined (Id i) s
  name_applied i levels (Some d) vs s = applied (Some i) levels d.function vs s

  abbrev pub called : ℕ → Levels → List Value → State → Outcome Value
  called i levels vs s = name_applied i levels (symbol_at s i).definition vs s

  -- ---- FEXPRs and macros

  -- an FEXPR gets a fresh copy of the list of its argument forms
  abbrev pub fexpr_called : ℕ → Here → Tree → State → Outcome Value
  fexpr_called i here args s = then_do (copied here.levels args s) (λ list s. called i here.levels (list ∷ []) s)

  -- the value of a macro on a fresh copy of the whole form, held; the turns and cells are those of the expansion
  abbrev pub expansion_of : ℕ → Here → Tree → State → Outcome ℕ
  expansion_of i here form s =
      closed (then_do (copied here.levels form (with_expansion i s)) (λ list s.
      then_do (called i here.levels (list ∷ []) s) (λ v s. hold_expansion here.levels here.kept v s)))

  abbrev pub expanded_body : Here → Position → ℕ → Function → State → Outcome Value
  expanded_body here position f (HeldFunction held) s = rec.ask (In (record here { holder = f }) position held.body) s
  expanded_body here position f other s = Done nil_value_of_state s

  abbrev pub macro_called : ℕ → Here → Position → Tree → State → Outcome Value
  macro_called i here position form s = then_do (expansion_of i here form s) (λ f s. expanded_body here position f (function_at s (pointer_to f)) s)

  -- the macro form past the longest chain stops the run, before its levels are entered
  abbrev pub in_chain : {A : Type 0} → ℕ → ℕ → State → (ℕ → State → Outcome A) → Outcome A
  in_chain zero i s next = Stopped (Expands i) s
  in_chain (suc n) i s next = next n s

  -- ---- PROG

  abbrev pub jumped : Here → Tree → ℕ → Option Tree → State → Outcome Value
  jumped here whole l (Some rest) s = turn s (λ s. rec.ask (From here whole rest) s)
  jumped here whole l None s = fail misplaced (Id l) s

  -- what a PROG makes of the outcome of a statement
  abbrev pub in_prog : Here → Tree → (State → Outcome Value) → Outcome Value → Outcome Value
  in_prog here whole next (Done v s) = next s
  in_prog here whole next (Failed n m s) = Failed n m s
  in_prog here whole next (Went l s) = jumped here whole l (after_label l whole) s
  in_prog here whole next (Returned v s) = Done v s
  in_prog here whole next (Stopped why s) = Stopped why s

  -- ---- definitions

  -- the name gets this function
  abbrev pub function_defined : Special → ℕ → Outcome ℕ → Outcome Value
  function_defined form i held = then_do held (λ f s. Done (Id i) (rec.compiler.defined (Id i) (define i (kind_of_definition form) (pointer_to f) s)))

  abbrev pub define_function : Special → Levels → Tree → State → Outcome Value
  define_function form levels (Pair (Atom (Id i)) (Pair parameters forms)) s =
      own_name i s (λ s. function_defined form i (hold_part (kind_of_definition form) levels parameters forms s))
  define_function form levels args s = Done nil_value_of_state s

  -- ---- lists of values

  abbrev pub going : Position → Tree → State → Outcome Value
  going position (Pair (Atom (Id l)) end) s = misplaced_at position (Id l) s (λ s. Went l s)
  going position args s = Done nil_value_of_state s

  abbrev pub quoted : Tree → State → Outcome Value
  quoted (Pair (Quoted v) end) s = Done v s
  quoted args s = Done nil_value_of_state s

  abbrev pub function_named : Tree → State → Outcome Value
  function_named (Pair (Atom v) end) s = Done v s
  function_named args s = Done nil_value_of_state s

  abbrev pub atom_in : Tree → Value
  atom_in (Atom v) = v
  atom_in t = nil_value_of_state

  abbrev pub identifiers_in : Tree → List ℕ
  identifiers_in t = elim (tree_identifiers t) [ None ↦ [] | Some xs ↦ xs ]

  abbrev mutual
    -- a form
    pub eval : Here → Position → Tree → State → Outcome Value
    eval here position (Atom (Id x)) s = variable x s
    eval here position (Atom v) s = Done v s
    eval here position (Quoted v) s = Done v s
    eval here position (Literal n e) s = deeper_here 1 here s (λ here. Done (Fun here.holder (suc n)) s)
    eval here position (Pair (Pair h lambda) args) s = elim (head_of (Pair h lambda) s) [
      | Applied ↦ applied_lambda here (lambda_parameters lambda args) (element_count args) (λ here next s. arguments here [] next args s) lambda s
      | Bad culprit ↦ deeper_here 1 here s (λ here. bad_form culprit s)
      | Form form ↦ Done nil_value_of_state s
      | Call kind i ↦ Done nil_value_of_state s
    ]
    eval here position (Pair head args) s = elim (head_of head s) [
      | Applied ↦ Done nil_value_of_state s
      | Bad culprit ↦ deeper_here 1 here s (λ here. bad_form culprit s)
      | Call kind i ↦ choose (is_list args) s
          (λ s. elim kind [
            | Expr ↦ deeper_here (call_levels (element_count args)) here s (λ here. arguments here [] (λ vs s. called i here.levels vs s) args s)
            | Fexpr ↦ deeper_here (call_levels (element_count args)) here s (λ here. fexpr_called i here args s)
            | Macro ↦ in_chain here.chain i s (λ n s. deeper_here (call_levels (element_count args)) (record here { chain = n }) s (λ here. macro_called i here position (Pair head args) s))
          ])
          (λ s. deeper_here 1 here s (λ here. bad_form (Id i) s))
      | Form form ↦ deeper_here 1 here s (λ here. choose (fits form args) s
          (λ s. elim form [
            | Quote ↦ quoted args s
            | names.Function ↦ function_named args s
            | Cond ↦ clauses here position args s
            | Progn ↦ progn here position nil_value_of_state args s
            | And ↦ conjunction here (truth true) args s
            | Or ↦ disjunction here args s
            | Setq ↦ setq here args s
            | Prog ↦ prog here args s
            | Go ↦ going position args s
            | Return ↦ returning here position args s
            | List_ ↦ listed here args s
            | Plus ↦ combined Plus here args s
            | Times ↦ combined Times here args s
            | Max ↦ combined Max here args s
            | Min ↦ combined Min here args s
            | De ↦ define_function De here.levels args s
            | Df ↦ define_function Df here.levels args s
            | Dm ↦ define_function Dm here.levels args s
          ])
          (λ s. bad_form (atom_in head) s))
    ]

    -- arguments from left to right, behind these
    pub arguments : Here → List Value → (List Value → State → Outcome Value) → Tree → State → Outcome Value
    arguments here vs next (Pair e rest) s = then_do (eval here Inside e s) (λ v s. arguments here (vs ++ v ∷ []) next rest s)
    arguments here vs next end s = next vs s

    -- (LAMBDA (v ..) e ..) on so many arguments that are given so, from its parameters on
    pub applied_lambda : Here → Option (List ℕ) → ℕ → (Here → (List Value → State → Outcome Value) → State → Outcome Value) → Tree → State → Outcome Value
    applied_lambda here (Some xs) n given (Pair parameters forms) s =
        deeper_here (call_levels n) here s (λ here.
        given here (λ vs s. binding here.levels here.kept xs vs s (λ levels s. progn (record here { levels = levels }) Inside nil_value_of_state forms s)) s)
    applied_lambda here other n given lambda s = deeper_here 1 here s (λ here. bad_form (Id lambda_number) s)

    -- forms in order, behind one whose value was v
    pub progn : Here → Position → Value → Tree → State → Outcome Value
    progn here position v (Pair e rest) s = then_do (eval here position e s) (λ w s. progn here position w rest s)
    progn here position v end s = Done v s

    pub clauses : Here → Position → Tree → State → Outcome Value
    clauses here position (Pair c rest) s = clause here position c (λ s. clauses here position rest s) s
    clauses here position end s = Done nil_value_of_state s

    -- a clause of COND, and what comes where its test is NIL; without consequents its value is that of the test
    pub clause : Here → Position → Tree → (State → Outcome Value) → State → Outcome Value
    clause here position (Pair a consequents) next s =
        then_do (eval here Inside a s) (λ v s. choose (is_nil v) s next (λ s. progn here position v consequents s))
    clause here position (Literal n e) next s =
        then_do (variable function_number s) (λ v s. choose (is_nil v) s next (λ s. eval here position e s))
    clause here position other next s = next s

    pub conjunction : Here → Value → Tree → State → Outcome Value
    conjunction here v (Pair e rest) s =
        then_do (eval here Inside e s) (λ w s. choose (is_nil w) s (λ s. Done nil_value_of_state s) (λ s. conjunction here w rest s))
    conjunction here v end s = Done v s

    pub disjunction : Here → Tree → State → Outcome Value
    disjunction here (Pair e rest) s =
        then_do (eval here Inside e s) (λ w s. choose (is_nil w) s (λ s. disjunction here rest s) (λ s. Done w s))
    disjunction here end s = Done nil_value_of_state s

    pub setq : Here → Tree → State → Outcome Value
    setq here (Pair (Atom (Id x)) (Pair e end)) s = then_do (eval here Inside e s) (λ v s. assigned x v s)
    setq here args s = Done nil_value_of_state s

    pub returning : Here → Position → Tree → State → Outcome Value
    returning here position (Pair e end) s =
        misplaced_at position (Id return_number) s (λ s. then_do (eval here Inside e s) (λ v s. Returned v s))
    returning here position args s = Done nil_value_of_state s

    pub prog : Here → Tree → State → Outcome Value
    prog here (Pair variables body) s =
        binding here.levels here.kept (identifiers_in variables) [] s (λ levels s. statements (record here { levels = levels }) body body s)
    prog here args s = Done nil_value_of_state s

    -- the statements of a PROG, of which the identifiers are labels
    pub statements : Here → Tree → Tree → State → Outcome Value
    statements here whole (Pair (Atom (Id l)) rest) s = statements here whole rest s
    statements here whole (Pair e rest) s = in_prog here whole (λ s. statements here whole rest s) (eval here Statement e s)
    statements here whole end s = Done nil_value_of_state s

    -- (LIST a ..) is (CONS a (LIST ..)), and (LIST) is NIL
    pub listed : Here → Tree → State → Outcome Value
    listed here (Pair e rest) s =
        then_do (eval here Inside e s) (λ v s. deeper_here 1 here s (λ inner. then_do (listed inner rest s) (λ list s. made_pair v list s)))
    listed here end s = Done nil_value_of_state s

    -- (PLUS a b ..) is (PLUS2 a (PLUS b ..)), and (PLUS a) is a; TIMES, MAX and MIN likewise
    pub combined : Special → Here → Tree → State → Outcome Value
    combined form here (Pair e rest) s = then_do (eval here Inside e s) (λ v s. combined_rest form here v rest s)
    combined form here end s = Done (of_none form) s

    pub combined_rest : Special → Here → Value → Tree → State → Outcome Value
    combined_rest form here v (Pair e rest) s =
        deeper_here 1 here s (λ inner.
        then_do (then_do (eval inner Inside e s) (λ w s. combined_rest form inner w rest s)) (λ w s.
        operated (operation_of form) (v ∷ w ∷ []) s))
    combined_rest form here v end s = Done v s

  -- a held function is walked: its mark, its parameters bound in order, its body, and former bindings back on every way out
  abbrev pub walked : Levels → ℕ → Option Pointer → Held → List Value → State → Outcome Value
  walked levels holder f held vs s =
      restored (length s.bindings) (binding levels held.kept held.parameters vs (with_mark f s)
      (λ levels s. eval (record { levels = levels; chain = longest_chain; kept = held.kept; holder = holder }) Inside held.body s))
