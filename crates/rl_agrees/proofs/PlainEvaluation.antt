-- A plain form only makes objects, and sets the variables of its own function.
use Rattle.std.proofs.Common.{◌≡◌, ◌<◌, ◌==◌, ◌&&◌, ◌||◌, if◌then◌else◌, ℕ, Bool, true, false, List, [], ◌∷◌, ◌++◌, length, Option, Some, None, refl, sym, subst, arith}
use Rattle.std.proofs.lemmas.Bool.Decides.{nat_tests}
use Rattle.rl_tree.specs.Value.{Value, Id}
use Rattle.rl_tree.specs.declared.held.Kind.{Kind}
use Rattle.rl_tree.specs.declared.held.Kind.TheVariants.{Expr, Fexpr, Macro}
use Rattle.rl_meaning.specs.Names.{Special, Quote, Cond, Progn, And, Or, Setq, Prog, Go, Return, List_, Plus, Times, Max, Min, De, Df, Dm, arguments_of}
use Rattle.rl_meaning.specs.Names as names
use Rattle.rl_meaning.specs.State.{State, Entry, Mark, Tree, Atom, Quoted, Pair, Literal, Held, Pointer, Definition, Function, SpecialForm, NativeFunction, HeldFunction}
use Rattle.rl_meaning.specs.Outcome.{Outcome, Done, Failed, Went, Returned, Stopped, Levels, choose}
use Rattle.rl_meaning.specs.Symbols.{nil_value_of_state, is_nil, truth, return_number, symbol_at}
use Rattle.rl_meaning.specs.System.{is_system}
use Rattle.rl_meaning.specs.Errors.{wrong_count, misplaced, badly_formed}
use Rattle.rl_meaning.specs.Constants.{is_among}
use Rattle.rl_meaning.specs.Holding.{is_list, function_at}
use Rattle.rl_meaning.specs.Reach.{same_kind}
use Rattle.rl_meaning.specs.Forms.{Form, Call, Applied, Bad, head_of, fits, after_label}
use Rattle.rl_meaning.specs.Compiling.{no_compiler}
use Rattle.rl_meaning.specs.Evaluation.{Position, Statement, Inside, Here, Job, Run, From, Rec, bad_form, misplaced_at, deeper_here, operation_of, held_applied, counted, function_applied, name_applied, called, jumped, in_prog, going, quoted, atom_in, eval, arguments, progn, clauses, clause, conjunction, disjunction, setq, returning, prog, statements, listed, combined, combined_rest, walked}
use Rattle.rl_meaning.specs.Plain.{is_pure, is_pure_function, calls_pure, in_scope, variables_of, is_plain_call, is_plain, are_plain, are_plain_clauses, is_plain_clause, sets_plainly, is_plain_prog, are_plain_statements, is_plain_held, is_plain_function, is_plain_definition, have_plain}
use Rattle.rl_agrees.proofs.PlainWays.{ends_weaken, Stays, Leaves, then_stays, with_bindings_stays}
use Rattle.rl_agrees.proofs.PlainObjects.{choose_stays, fail_stays, pair_stays, turn_stays, deeper_stays}
use Rattle.rl_agrees.proofs.PlainNatives.{operated_stays, native_stays}
use Rattle.rl_agrees.proofs.PlainVariables.{Framed, variable_stays, assigned_stays, InFrame, binding_stays, Same, marked_stays}
use Rattle.rl_meaning.specs.HeadCases.{lambda_form, call_form, special_form, list_form}
use Rattle.rl_agrees.proofs.PlainHeads.{plain_special, plain_list, InRange, symbol_same, function_same, head_same}

-- ---- tests

pub and_left : (c d : Bool) → (c && d) ≡ true → c ≡ true
and_left true d h = refl
and_left false d h = h

pub and_right : (c d : Bool) → (c && d) ≡ true → d ≡ true
and_right true d h = h
and_right false d h = absurd (let f : false ≡ true = h in cc)

never : {A : Type 0} → false ≡ true → A
never h = absurd (let f : false ≡ true = h in cc)

-- ---- what is called

-- a pure native, or a plain function
abbrev pub is_target : State → List ℕ → Function → Bool
is_target b plain (SpecialForm form) = false
is_target b plain (NativeFunction n) = is_pure n
is_target b plain (HeldFunction held) = is_plain_held b plain held

abbrev pub names_target : State → List ℕ → Option Definition → Bool
names_target b plain None = false
names_target b plain (Some d) = is_target b plain (function_at b d.function)

plain_target : (b : State) (plain : List ℕ) (f : Function) → is_plain_function b plain f ≡ true → is_target b plain f ≡ true
plain_target b plain (HeldFunction held) h = h
plain_target b plain (NativeFunction n) h = never h
plain_target b plain (SpecialForm form) h = never h

pure_target : (b : State) (plain : List ℕ) (f : Function) → is_pure_function f ≡ true → is_target b plain f ≡ true
pure_target b plain (NativeFunction n) h = h
pure_target b plain (HeldFunction held) h = never h
pure_target b plain (SpecialForm form) h = never h

pub definition_target : (b : State) (plain : List ℕ) (kind : Kind) (o : Option Definition) → is_plain_definition b plain kind o ≡ true → names_target b plain o ≡ true
definition_target b plain kind None h = never h
definition_target b plain kind (Some d) h = plain_target b plain (function_at b d.function) (and_right (same_kind kind d.kind) _ h)

pure_names : (b : State) (plain : List ℕ) (system : Bool) (o : Option Definition) → calls_pure b system o ≡ true → names_target b plain o ≡ true
pure_names b plain system None h = never h
pure_names b plain system (Some d) h = pure_target b plain (function_at b d.function) (and_right system _ h)

pub among_plain : (b : State) (plain : List ℕ) (kind : Kind) (xs : List ℕ) (i : ℕ) → have_plain b plain kind xs ≡ true → is_among i xs ≡ true → is_plain_definition b plain kind (symbol_at b i).definition ≡ true
among_plain b plain kind [] i h a = never a
among_plain b plain kind (x ∷ xs) i h a = at (i == x) refl a (λ a. among_plain b plain kind xs i (and_right (is_plain_definition b plain kind (symbol_at b x).definition) _ h) a)
  where
    at : (c : Bool) → (i == x) ≡ c → (c || is_among i xs) ≡ true → (is_among i xs ≡ true → is_plain_definition b plain kind (symbol_at b i).definition ≡ true) → is_plain_definition b plain kind (symbol_at b i).definition ≡ true
    at true e a k = let f : x ≡ i = grind (arith, nat_tests, e) in subst (λ y. is_plain_definition b plain kind (symbol_at b y).definition ≡ true) f (and_left (is_plain_definition b plain kind (symbol_at b x).definition) _ h)
    at false e a k = k a

call_target : (b : State) (plain : List ℕ) (i : ℕ) → have_plain b plain Expr plain ≡ true → is_plain_call b plain Expr i ≡ true → names_target b plain (symbol_at b i).definition ≡ true
call_target b plain i h c = at (is_among i plain) refl c
  where
    at : (x : Bool) → is_among i plain ≡ x → (x || calls_pure b (is_system i) (symbol_at b i).definition) ≡ true → names_target b plain (symbol_at b i).definition ≡ true
    at true e c = definition_target b plain Expr (symbol_at b i).definition (among_plain b plain Expr plain i h e)
    at false e c = pure_names b plain (is_system i) (symbol_at b i).definition c

-- ---- what is asked for

-- whose bindings are these
pub as_same : (b : State) (B : List Entry → Type 0) (s : State) → Stays b B s → Stays b (Same s.bindings) s
as_same b B s k = with_bindings_stays b B (Same s.bindings) s s.bindings refl k

same_as : (b : State) (B : List Entry → Type 0) (es : List Entry) (t : State) → B es → Stays b (Same es) t → Stays b B t
same_as b B es t h k = with_bindings_stays b (Same es) B t t.bindings (subst (λ ds. B ds) (sym k.bindings) h) k

-- a body of a plain function is run, and a PROG of one goes on
pub record Asks (b : State) (plain : List ℕ) (ask : Job → State → Outcome Value) : Type 0 where
  pub run : (name : Option ℕ) (levels : Levels) (holder : ℕ) (f : Option Pointer) (held : Held) (vs : List Value) (s : State) → is_plain_held b plain held ≡ true → Stays b (Same s.bindings) s
      → Leaves b (Same s.bindings) (λ t. Stays b (Same s.bindings) t) (ask (Run name levels holder f held vs) s)
  pub from : (base : List Entry) (scope : List ℕ) (here : Here) (whole rest : Tree) (s : State) → are_plain_statements b plain scope whole ≡ true → are_plain_statements b plain scope rest ≡ true → Stays b (Framed base scope) s
      → InFrame b base scope (ask (From here whole rest) s)

abbrev pub walking : (Job → State → Outcome Value) → Rec
walking ask = record { compiler = no_compiler; ask = ask }

-- what is said of outcomes outside frames
abbrev pub Within : State → (List Entry → Type 0) → Outcome Value → Type 0
Within b B o = Leaves b B (λ t. Stays b B t) o

module _ (b : State) (plain : List ℕ) (ranged : InRange b) (exprs : have_plain b plain Expr plain ≡ true) (ask : Job → State → Outcome Value) (asks : Asks b plain ask) where
  abbrev rec : Rec
  rec = walking ask

  -- ---- application

  counted_stays : (B : List Entry → Type 0) (c : Bool) (culprit : Value) (s : State) (next : State → Outcome Value) → Stays b B s → Within b B (next s) → Within b B (counted rec c culprit s next)
  counted_stays B true culprit s next k h = h
  counted_stays B false culprit s next k h = fail_stays b B _ wrong_count culprit s k

  held_stays : (B : List Entry → Type 0) (name : Option ℕ) (levels : Levels) (holder : ℕ) (f : Option Pointer) (held : Held) (vs : List Value) (s : State) → is_plain_held b plain held ≡ true → Stays b B s → Within b B (held_applied rec name levels holder f held vs s)
  held_stays B name levels holder f held vs s h k =
      turn_stays b B _ s _ k (λ t k. deeper_stays b B _ 1 levels t _ (λ l.
      ends_weaken _ _ _ _ _ (λ a u i. same_as b B t.bindings u k.bindings i) (λ u i. same_as b B t.bindings u k.bindings i) (asks.run name l holder f held vs t h (as_same b B t k))))

  function_stays : (B : List Entry → Type 0) (name : Option ℕ) (levels : Levels) (p : Pointer) (fn : Function) (vs : List Value) (s : State) → is_target b plain fn ≡ true → Stays b B s → Within b B (function_applied rec name levels p fn vs s)
  function_stays B name levels p (SpecialForm form) vs s h k = never h
  function_stays B name levels p (NativeFunction n) vs s h k = counted_stays B (arguments_of n == length vs) _ s _ k (native_stays b B _ rec n levels vs s h k)
  function_stays B name levels p (HeldFunction held) vs s h k = counted_stays B (length held.parameters == length vs) _ s _ k (held_stays B name levels p.function (Some p) held vs s h k)

  name_stays : (B : List Entry → Type 0) (i : ℕ) (levels : Levels) (o : Option Definition) (vs : List Value) (s : State) → ((d : Definition) → o ≡ Some d → d.function.function < length b.functions) → names_target b plain o ≡ true → Stays b B s → Within b B (name_applied rec i levels o vs s)
  name_stays B i levels None vs s r h k = never h
  name_stays B i levels (Some d) vs s r h k =
      subst (λ fn. Within b B (function_applied rec (Some i) levels d.function fn vs s)) (sym (function_same b B s d.function (r d refl) k)) (function_stays B (Some i) levels d.function (function_at b d.function) vs s h k)

  pub called_stays : (B : List Entry → Type 0) (i : ℕ) (levels : Levels) (vs : List Value) (s : State) → names_target b plain (symbol_at b i).definition ≡ true → Stays b B s → Within b B (called rec i levels vs s)
  called_stays B i levels vs s h k =
      subst (λ y. Within b B (name_applied rec i levels y.definition vs s)) (sym (symbol_same b B s i k)) (name_stays B i levels (symbol_at b i).definition vs s (ranged.is i) h k)

  -- ---- in a frame

  module _ (base : List Entry) where
    abbrev In : List ℕ → Outcome Value → Type 0
    In scope o = InFrame b base scope o

    abbrev At : List ℕ → State → Type 0
    At scope s = Stays b (Framed base scope) s

    bad_stays : (scope : List ℕ) (here : Here) (culprit : Value) (s : State) → At scope s → In scope (deeper_here 1 here s (λ here. bad_form culprit s))
    bad_stays scope here culprit s k = deeper_stays b _ _ 1 here.levels s _ (λ l. fail_stays b _ _ badly_formed culprit s k)

    -- a form that does not fit raises an error
    fitting : (scope : List ℕ) (here : Here) (c p : Bool) (culprit : Value) (s : State) (f : Here → State → Outcome Value) → (if c then p else true) ≡ true → At scope s → (p ≡ true → (here : Here) → In scope (f here s))
        → In scope (deeper_here 1 here s (λ here. choose c s (λ s. f here s) (λ s. bad_form culprit s)))
    fitting scope here true p culprit s f e k h = deeper_stays b _ _ 1 here.levels s _ (λ l. h e _)
    fitting scope here false p culprit s f e k h = deeper_stays b _ _ 1 here.levels s _ (λ l. fail_stays b _ _ badly_formed culprit s k)

    misplaced_stays : (scope : List ℕ) (position : Position) (culprit : Value) (s : State) (next : State → Outcome Value) → At scope s → In scope (next s) → In scope (misplaced_at position culprit s next)
    misplaced_stays scope Statement culprit s next k h = h
    misplaced_stays scope Inside culprit s next k h = fail_stays b _ _ misplaced culprit s k

    going_stays : (scope : List ℕ) (position : Position) (args : Tree) (s : State) → At scope s → In scope (going rec position args s)
    going_stays scope position (Pair (Atom (Id l)) end) s k = misplaced_stays scope position (Id l) s _ k (record { ends = k })
    going_stays scope position args s k = record { ends = k }

    quoted_stays : (scope : List ℕ) (args : Tree) (s : State) → At scope s → In scope (quoted rec args s)
    quoted_stays scope (Pair (Quoted v) end) s k = record { ends = k }
    quoted_stays scope args s k = record { ends = k }

    -- ---- the statements of a PROG behind a label

    abbrev PlainRest : List ℕ → Option Tree → Type 0
    PlainRest scope None = Unit {0}
    PlainRest scope (Some rest) = are_plain_statements b plain scope rest ≡ true

    label_either : (scope : List ℕ) (c : Bool) (rest : Tree) (o : Option Tree) → are_plain_statements b plain scope rest ≡ true → PlainRest scope o → PlainRest scope (if c then Some rest else o)
    label_either scope true rest o h k = h
    label_either scope false rest o h k = k

    label_plain : (scope : List ℕ) (l : ℕ) (t : Tree) → are_plain_statements b plain scope t ≡ true → PlainRest scope (after_label l t)
    label_plain scope l (Pair (Atom (Id x)) rest) h = label_either scope (x == l) rest (after_label l rest) h (label_plain scope l rest h)
    label_plain scope l (Pair e rest) h = label_plain scope l rest (and_right (is_plain b plain scope e) _ h)
    label_plain scope l t h = tt

    jumped_stays : (scope : List ℕ) (here : Here) (whole : Tree) (l : ℕ) (o : Option Tree) (s : State) → are_plain_statements b plain scope whole ≡ true → PlainRest scope o → At scope s → In scope (jumped rec here whole l o s)
    jumped_stays scope here whole l (Some rest) s h r k = turn_stays b _ _ s _ k (λ t k. asks.from base scope here whole rest t h r k)
    jumped_stays scope here whole l None s h r k = fail_stays b _ _ misplaced (Id l) s k

    in_prog_stays : (scope : List ℕ) (here : Here) (whole : Tree) (next : State → Outcome Value) (o : Outcome Value) → are_plain_statements b plain scope whole ≡ true → In scope o → ((t : State) → At scope t → In scope (next t)) → In scope (in_prog rec here whole next o)
    in_prog_stays scope here whole next (Done v t) h k f = f t k.ends
    in_prog_stays scope here whole next (Failed n m t) h k f = record { ends = tt }
    in_prog_stays scope here whole next (Went l t) h k f = jumped_stays scope here whole l (after_label l whole) t h (label_plain scope l whole h) k.ends
    in_prog_stays scope here whole next (Returned v t) h k f = record { ends = k.ends }
    in_prog_stays scope here whole next (Stopped why t) h k f = record { ends = tt }

    -- ---- forms

    mutual
      pub eval_stays : (scope : List ℕ) (here : Here) (position : Position) (e : Tree) (s : State) → is_plain b plain scope e ≡ true → At scope s → In scope (eval rec here position e s)
      eval_stays scope here position (Atom (Id x)) s h k = variable_stays b _ _ x s k
      eval_stays scope here position (Atom v) s h k = record { ends = k }
      eval_stays scope here position (Quoted v) s h k = record { ends = k }
      eval_stays scope here position (Literal n e) s h k = never h
      eval_stays scope here position (Pair (Pair a lambda) args) s h k =
          (elim (head_of (Pair a lambda) s) as (λ x. plain_list b plain scope args x ≡ true → In scope (lambda_form rec here a lambda args s x)) [
            | Applied ↦ λ e. never e
            | Bad culprit ↦ λ e. bad_stays scope here culprit s k
            | Form form ↦ λ e. record { ends = k }
            | Call kind i ↦ λ e. record { ends = k }
          ]) (subst (λ x. plain_list b plain scope args x ≡ true) (sym (head_same b _ s (Pair a lambda) ranged k)) h)
      eval_stays scope here position (Pair head args) s h k =
          (elim (head_of head s) as (λ x. plain_list b plain scope args x ≡ true → In scope (list_form rec here position head args s x)) [
            | Applied ↦ λ e. never e
            | Bad culprit ↦ λ e. bad_stays scope here culprit s k
            | Call kind i ↦ λ e.
                (elim (is_list args) as (λ c. (if c then is_plain_call b plain kind i && are_plain b plain scope args else true) ≡ true
                → In scope (choose c s (λ s. call_form rec here position head args s i kind) (λ s. deeper_here 1 here s (λ here. bad_form (Id i) s)))) [
                  | true ↦ λ e.
                      (elim kind as (λ x. (is_plain_call b plain x i && are_plain b plain scope args) ≡ true → In scope (call_form rec here position head args s i x)) [
                        | Expr ↦ λ e. deeper_stays b _ _ _ here.levels s _ (λ l.
                            arguments_stay scope (record here { levels = l }) [] (λ vs s. called rec i l vs s) (λ vs t k. called_stays _ i l vs t (call_target b plain i exprs (and_left _ (are_plain b plain scope args) e)) k) args s (and_right (is_plain_call b plain Expr i) _ e) k)
                        | Fexpr ↦ λ e. never e
                        | Macro ↦ λ e. never e
                      ]) e
                  | false ↦ λ e. bad_stays scope here (Id i) s k
                ]) e
            | Form form ↦ λ e.
                (elim form as (λ x. plain_special b plain scope args x ≡ true → In scope (deeper_here 1 here s (λ here. choose (fits x args) s (λ s. special_form rec here position args s x) (λ s. bad_form (atom_in rec head) s)))) [
                  | Quote ↦ λ e. deeper_stays b _ _ 1 here.levels s _ (λ l. choose_stays b _ _ (fits Quote args) s _ _ (quoted_stays scope args s k) (fail_stays b _ _ badly_formed (atom_in rec head) s k))
                  | names.Function ↦ λ e. never e
                  | Cond ↦ λ e. fitting scope here (fits Cond args) (are_plain_clauses b plain scope args) (atom_in rec head) s (λ here s. clauses rec here position args s) e k (λ p here. clauses_stay scope here position args s p k)
                  | Progn ↦ λ e. fitting scope here (fits Progn args) (are_plain b plain scope args) (atom_in rec head) s (λ here s. progn rec here position nil_value_of_state args s) e k (λ p here. progn_stay scope here position nil_value_of_state args s p k)
                  | And ↦ λ e. fitting scope here (fits And args) (are_plain b plain scope args) (atom_in rec head) s (λ here s. conjunction rec here (truth true) args s) e k (λ p here. conjunction_stays scope here (truth true) args s p k)
                  | Or ↦ λ e. fitting scope here (fits Or args) (are_plain b plain scope args) (atom_in rec head) s (λ here s. disjunction rec here args s) e k (λ p here. disjunction_stays scope here args s p k)
                  | Setq ↦ λ e. fitting scope here (fits Setq args) (sets_plainly b plain scope args) (atom_in rec head) s (λ here s. setq rec here args s) e k (λ p here. setq_stays scope here args s p k)
                  | Prog ↦ λ e. fitting scope here (fits Prog args) (is_plain_prog b plain scope args) (atom_in rec head) s (λ here s. prog rec here args s) e k (λ p here. prog_stays scope here args s p k)
                  | Go ↦ λ e. deeper_stays b _ _ 1 here.levels s _ (λ l. choose_stays b _ _ (fits Go args) s _ _ (going_stays scope position args s k) (fail_stays b _ _ badly_formed (atom_in rec head) s k))
                  | Return ↦ λ e. fitting scope here (fits Return args) (are_plain b plain scope args) (atom_in rec head) s (λ here s. returning rec here position args s) e k (λ p here. returning_stays scope here position args s p k)
                  | List_ ↦ λ e. fitting scope here (fits List_ args) (are_plain b plain scope args) (atom_in rec head) s (λ here s. listed rec here args s) e k (λ p here. listed_stays scope here args s p k)
                  | Plus ↦ λ e. fitting scope here (fits Plus args) (are_plain b plain scope args) (atom_in rec head) s (λ here s. combined rec Plus here args s) e k (λ p here. combined_stays Plus scope here args s p k)
                  | Times ↦ λ e. fitting scope here (fits Times args) (are_plain b plain scope args) (atom_in rec head) s (λ here s. combined rec Times here args s) e k (λ p here. combined_stays Times scope here args s p k)
                  | Max ↦ λ e. fitting scope here (fits Max args) (are_plain b plain scope args) (atom_in rec head) s (λ here s. combined rec Max here args s) e k (λ p here. combined_stays Max scope here args s p k)
                  | Min ↦ λ e. fitting scope here (fits Min args) (are_plain b plain scope args) (atom_in rec head) s (λ here s. combined rec Min here args s) e k (λ p here. combined_stays Min scope here args s p k)
                  | De ↦ λ e. never e
                  | Df ↦ λ e. never e
                  | Dm ↦ λ e. never e
                ]) e
          ]) (subst (λ x. plain_list b plain scope args x ≡ true) (sym (head_same b _ s head ranged k)) h)

      arguments_stay : (scope : List ℕ) (here : Here) (vs : List Value) (next : List Value → State → Outcome Value) → ((vs : List Value) (t : State) → At scope t → In scope (next vs t)) → (args : Tree) (s : State) → are_plain b plain scope args ≡ true → At scope s → In scope (arguments rec here vs next args s)
      arguments_stay scope here vs next f (Pair e rest) s h k =
          then_stays b _ _ _ _ (eval_stays scope here Inside e s (and_left _ (are_plain b plain scope rest) h) k) (λ v t k. arguments_stay scope here (vs ++ v ∷ []) next f rest t (and_right (is_plain b plain scope e) _ h) k)
      arguments_stay scope here vs next f end s h k = f vs s k

      progn_stay : (scope : List ℕ) (here : Here) (position : Position) (v : Value) (t : Tree) (s : State) → are_plain b plain scope t ≡ true → At scope s → In scope (progn rec here position v t s)
      progn_stay scope here position v (Pair e rest) s h k =
          then_stays b _ _ _ _ (eval_stays scope here position e s (and_left _ (are_plain b plain scope rest) h) k) (λ w t k. progn_stay scope here position w rest t (and_right (is_plain b plain scope e) _ h) k)
      progn_stay scope here position v end s h k = record { ends = k }

      clauses_stay : (scope : List ℕ) (here : Here) (position : Position) (t : Tree) (s : State) → are_plain_clauses b plain scope t ≡ true → At scope s → In scope (clauses rec here position t s)
      clauses_stay scope here position (Pair c rest) s h k =
          clause_stays scope here position c (λ s. clauses rec here position rest s) s (and_left _ (are_plain_clauses b plain scope rest) h) k (λ t k. clauses_stay scope here position rest t (and_right (is_plain_clause b plain scope c) _ h) k)
      clauses_stay scope here position end s h k = record { ends = k }

      clause_stays : (scope : List ℕ) (here : Here) (position : Position) (c : Tree) (next : State → Outcome Value) (s : State) → is_plain_clause b plain scope c ≡ true → At scope s → ((t : State) → At scope t → In scope (next t)) → In scope (clause rec here position c next s)
      clause_stays scope here position (Pair a consequents) next s h k f =
          then_stays b _ _ _ _ (eval_stays scope here Inside a s (and_left _ (are_plain b plain scope consequents) h) k) (λ v t k. choose_stays b _ _ (is_nil v) t _ _ (f t k) (progn_stay scope here position v consequents t (and_right (is_plain b plain scope a) _ h) k))
      clause_stays scope here position (Literal n e) next s h k f = never h
      clause_stays scope here position other next s h k f = f s k

      conjunction_stays : (scope : List ℕ) (here : Here) (v : Value) (t : Tree) (s : State) → are_plain b plain scope t ≡ true → At scope s → In scope (conjunction rec here v t s)
      conjunction_stays scope here v (Pair e rest) s h k =
          then_stays b _ _ _ _ (eval_stays scope here Inside e s (and_left _ (are_plain b plain scope rest) h) k) (λ w t k. choose_stays b _ _ (is_nil w) t _ _ (record { ends = k }) (conjunction_stays scope here w rest t (and_right (is_plain b plain scope e) _ h) k))
      conjunction_stays scope here v end s h k = record { ends = k }

      disjunction_stays : (scope : List ℕ) (here : Here) (t : Tree) (s : State) → are_plain b plain scope t ≡ true → At scope s → In scope (disjunction rec here t s)
      disjunction_stays scope here (Pair e rest) s h k =
          then_stays b _ _ _ _ (eval_stays scope here Inside e s (and_left _ (are_plain b plain scope rest) h) k) (λ w t k. choose_stays b _ _ (is_nil w) t _ _ (disjunction_stays scope here rest t (and_right (is_plain b plain scope e) _ h) k) (record { ends = k }))
      disjunction_stays scope here end s h k = record { ends = k }

      setq_stays : (scope : List ℕ) (here : Here) (t : Tree) (s : State) → sets_plainly b plain scope t ≡ true → At scope s → In scope (setq rec here t s)
      setq_stays scope here (Pair (Atom (Id x)) (Pair e end)) s h k =
          then_stays b _ _ _ _ (eval_stays scope here Inside e s (and_right (is_among x scope) _ h) k) (λ v t k. assigned_stays b base scope _ x v t (and_left _ (is_plain b plain scope e) h) k)
      setq_stays scope here t s h k = record { ends = k }

      returning_stays : (scope : List ℕ) (here : Here) (position : Position) (t : Tree) (s : State) → are_plain b plain scope t ≡ true → At scope s → In scope (returning rec here position t s)
      returning_stays scope here position (Pair e end) s h k =
          misplaced_stays scope position (Id return_number) s _ k (then_stays b _ _ _ _ (eval_stays scope here Inside e s (and_left _ (are_plain b plain scope end) h) k) (λ v t k. record { ends = k }))
      returning_stays scope here position t s h k = record { ends = k }

      prog_stays : (scope : List ℕ) (here : Here) (t : Tree) (s : State) → is_plain_prog b plain scope t ≡ true → At scope s → In scope (prog rec here t s)
      prog_stays scope here (Pair variables body) s h k =
          binding_stays b base here.levels here.kept (variables_of variables) scope [] s _ k (λ l t k. statements_stay (in_scope (variables_of variables) scope) (record here { levels = l }) body body t h h k)
      prog_stays scope here t s h k = record { ends = k }

      pub statements_stay : (scope : List ℕ) (here : Here) (whole t : Tree) (s : State) → are_plain_statements b plain scope whole ≡ true → are_plain_statements b plain scope t ≡ true → At scope s → In scope (statements rec here whole t s)
      statements_stay scope here whole (Pair (Atom (Id l)) rest) s w h k = statements_stay scope here whole rest s w h k
      statements_stay scope here whole (Pair e rest) s w h k =
          in_prog_stays scope here whole _ _ w (eval_stays scope here Statement e s (and_left _ (are_plain_statements b plain scope rest) h) k) (λ t k. statements_stay scope here whole rest t w (and_right (is_plain b plain scope e) _ h) k)
      statements_stay scope here whole end s w h k = record { ends = k }

      listed_stays : (scope : List ℕ) (here : Here) (t : Tree) (s : State) → are_plain b plain scope t ≡ true → At scope s → In scope (listed rec here t s)
      listed_stays scope here (Pair e rest) s h k =
          then_stays b _ _ _ _ (eval_stays scope here Inside e s (and_left _ (are_plain b plain scope rest) h) k) (λ v t k. deeper_stays b _ _ 1 here.levels t _ (λ l.
          then_stays b _ _ _ _ (listed_stays scope (record here { levels = l }) rest t (and_right (is_plain b plain scope e) _ h) k) (λ list u k. pair_stays b _ _ v list u k)))
      listed_stays scope here end s h k = record { ends = k }

      combined_stays : (form : Special) (scope : List ℕ) (here : Here) (t : Tree) (s : State) → are_plain b plain scope t ≡ true → At scope s → In scope (combined rec form here t s)
      combined_stays form scope here (Pair e rest) s h k =
          then_stays b _ _ _ _ (eval_stays scope here Inside e s (and_left _ (are_plain b plain scope rest) h) k) (λ v t k. combined_rest_stays form scope here v rest t (and_right (is_plain b plain scope e) _ h) k)
      combined_stays form scope here end s h k = record { ends = k }

      combined_rest_stays : (form : Special) (scope : List ℕ) (here : Here) (v : Value) (t : Tree) (s : State) → are_plain b plain scope t ≡ true → At scope s → In scope (combined_rest rec form here v t s)
      combined_rest_stays form scope here v (Pair e rest) s h k =
          deeper_stays b _ _ 1 here.levels s _ (λ l.
          then_stays b _ _ _ _ (then_stays b _ _ _ _ (eval_stays scope (record here { levels = l }) Inside e s (and_left _ (are_plain b plain scope rest) h) k) (λ w t k. combined_rest_stays form scope (record here { levels = l }) w rest t (and_right (is_plain b plain scope e) _ h) k)) (λ w t k.
          operated_stays b _ _ (operation_of form) (v ∷ w ∷ []) t k))
      combined_rest_stays form scope here v end s h k = record { ends = k }

  -- ---- a function is walked

  pub walked_stays : (levels : Levels) (holder : ℕ) (f : Option Pointer) (held : Held) (vs : List Value) (s : State) → is_plain_held b plain held ≡ true → Stays b (Same s.bindings) s → Within b (Same s.bindings) (walked rec levels holder f held vs s)
  walked_stays levels holder f held vs s h k =
      marked_stays b levels f held.kept held.parameters vs s _ k (λ l t k. eval_stays (Mark f ∷ s.bindings) (in_scope held.parameters []) _ Inside held.body t h k)
