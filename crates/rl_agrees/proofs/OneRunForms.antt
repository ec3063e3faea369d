-- Each form keeps a law on one run, and only a statement of a PROG leaves by GO or RETURN.
use Rattle.std.proofs.Common.{ℕ, suc, true, Bool, List, [], ◌∷◌, ◌++◌, Option, Some}
use Rattle.rl_tree.specs.Value.{Value, Id, Fun}
use Rattle.rl_tree.specs.declared.held.Kind.TheVariants.{Expr, Fexpr, Macro}
use Rattle.rl_meaning.specs.Names.{Special, Quote, Cond, Progn, And, Or, Setq, Prog, Go, Return, List_, Plus, Times, Max, Min, De, Df, Dm}
use Rattle.rl_meaning.specs.Names as names
use Rattle.rl_meaning.specs.State.{State, Tree, Atom, Quoted, Pair, Literal, Held, Pointer}
use Rattle.rl_meaning.specs.Outcome.{Outcome, Levels}
use Rattle.rl_meaning.specs.Symbols.{nil_value_of_state, is_nil, truth, lambda_number, return_number}
use Rattle.rl_meaning.specs.Holding.{function_number, is_list}
use Rattle.rl_meaning.specs.Variables.{with_mark}
use Rattle.rl_meaning.specs.Forms.{Form, Call, Applied, Bad, head_of, element_count, call_levels, fits, lambda_parameters}
use Rattle.rl_meaning.specs.Errors.{badly_formed}
use Rattle.rl_meaning.specs.Evaluation.{Position, Statement, Inside, Here, Rec, longest_chain, of_none, operation_of, atom_in, identifiers_in, eval, arguments, applied_lambda, progn, clauses, clause, conjunction, disjunction, setq, returning, prog, statements, listed, combined, combined_rest, walked}
use Rattle.rl_meaning.specs.HeadCases.{lambda_form, call_form, special_form, list_form}
use Rattle.rl_agrees.proofs.OneRun.{IsBehind, LeadsAt, Leads, anywhere, done_leads, then_leads, choose_leads, deeper_leads}
use Rattle.rl_agrees.proofs.OneRunObjects.{fail_leads, pair_leads}
use Rattle.rl_agrees.proofs.OneRunVariables.{mark_follows, variable_leads, assigned_leads, operated_leads, restored_leads, binding_leads}
use Rattle.rl_agrees.proofs.OneRunEvaluation.{RecLeadsAt, called_leads, fexpr_called_leads, macro_called_leads, in_chain_leads, in_prog_leads, misplaced_leads, going_leads, quoted_leads, function_named_leads, define_function_leads, bad_leads}

module _ {freely : Bool} {P : State → State → Type 0} {rec : Rec} (keeps : RecLeadsAt freely P rec) {r : State} where
  mutual
    pub eval_leads : (here : Here) (position : Position) (e : Tree) (s : State) → IsBehind P r s → LeadsAt P position r (eval rec here position e s)
    eval_leads here position (Atom (Id x)) s h = variable_leads keeps.steps x s h
    eval_leads here position (Atom v) s h = done_leads v s h
    eval_leads here position (Quoted v) s h = done_leads v s h
    eval_leads here position (Literal n e) s h = deeper_leads keeps.steps 1 here.levels s _ h (λ l. done_leads (Fun here.holder (suc n)) s h)
    eval_leads here position (Pair (Pair head lambda) args) s h =
        elim (head_of (Pair head lambda) s) as (λ x. LeadsAt P position r (lambda_form rec here head lambda args s x)) [
          | Applied ↦ anywhere position _ (applied_lambda_leads here (lambda_parameters lambda args) (element_count args) _ (λ here next t h k. arguments_lead here [] next k args t h) lambda s h)
          | Bad culprit ↦ bad_leads keeps culprit here s h
          | Form form ↦ done_leads nil_value_of_state s h
          | Call kind i ↦ done_leads nil_value_of_state s h
        ]
    eval_leads here position (Pair head args) s h =
        elim (head_of head s) as (λ x. LeadsAt P position r (list_form rec here position head args s x)) [
          | Applied ↦ done_leads nil_value_of_state s h
          | Bad culprit ↦ bad_leads keeps culprit here s h
          | Call kind i ↦ choose_leads (is_list args) s _ _
              (elim kind as (λ k. LeadsAt P position r (call_form rec here position head args s i k)) [
                | Expr ↦ deeper_leads keeps.steps (call_levels (element_count args)) here.levels s _ h (λ l. anywhere position _ (arguments_lead (record here { levels = l }) [] _ (λ vs t h. called_leads keeps i l vs t h) args s h))
                | Fexpr ↦ deeper_leads keeps.steps (call_levels (element_count args)) here.levels s _ h (λ l. anywhere position _ (fexpr_called_leads keeps i (record here { levels = l }) args s h))
                | Macro ↦ in_chain_leads keeps here.chain i s _ h (λ m. deeper_leads keeps.steps (call_levels (element_count args)) here.levels s _ h (λ l.
                    macro_called_leads keeps i (record here { levels = l; chain = m }) position (Pair head args) s h))
              ])
              (bad_leads keeps (Id i) here s h)
          | Form form ↦ deeper_leads keeps.steps 1 here.levels s _ h (λ l. let here : Here = record here { levels = l } in
              choose_leads (fits form args) s _ _
              (elim form as (λ x. LeadsAt P position r (special_form rec here position args s x)) [
                | Quote ↦ anywhere position _ (quoted_leads keeps args s h)
                | names.Function ↦ anywhere position _ (function_named_leads keeps args s h)
                | Cond ↦ clauses_lead here position args s h
                | Progn ↦ progn_leads here position nil_value_of_state args s h
                | And ↦ anywhere position _ (conjunction_leads here (truth true) args s h)
                | Or ↦ anywhere position _ (disjunction_leads here args s h)
                | Setq ↦ anywhere position _ (setq_leads here args s h)
                | Prog ↦ anywhere position _ (prog_leads here args s h)
                | Go ↦ going_leads keeps position args s h
                | Return ↦ returning_leads here position args s h
                | List_ ↦ anywhere position _ (listed_leads here args s h)
                | Plus ↦ anywhere position _ (combined_leads Plus here args s h)
                | Times ↦ anywhere position _ (combined_leads Times here args s h)
                | Max ↦ anywhere position _ (combined_leads Max here args s h)
                | Min ↦ anywhere position _ (combined_leads Min here args s h)
                | De ↦ anywhere position _ (define_function_leads keeps De here.levels args s h)
                | Df ↦ anywhere position _ (define_function_leads keeps Df here.levels args s h)
                | Dm ↦ anywhere position _ (define_function_leads keeps Dm here.levels args s h)
              ])
              (fail_leads keeps.steps badly_formed (atom_in rec head) s h))
        ]

    pub arguments_lead : (here : Here) (vs : List Value) (next : List Value → State → Outcome Value) → ((vs : List Value) (t : State) → IsBehind P r t → Leads P r (next vs t)) → (args : Tree) (s : State) → IsBehind P r s → Leads P r (arguments rec here vs next args s)
    arguments_lead here vs next k (Pair e rest) s h = then_leads _ _ (eval_leads here Inside e s h) (λ v t h. arguments_lead here (vs ++ v ∷ []) next k rest t h)
    arguments_lead here vs next k end s h = k vs s h

    pub applied_lambda_leads : (here : Here) (o : Option (List ℕ)) (n : ℕ) (given : Here → (List Value → State → Outcome Value) → State → Outcome Value)
        → ((here : Here) (next : List Value → State → Outcome Value) (t : State) → IsBehind P r t → ((vs : List Value) (u : State) → IsBehind P r u → Leads P r (next vs u)) → Leads P r (given here next t))
        → (lambda : Tree) (s : State) → IsBehind P r s → Leads P r (applied_lambda rec here o n given lambda s)
    applied_lambda_leads here (Some xs) n given k (Pair parameters forms) s h =
        deeper_leads keeps.steps (call_levels n) here.levels s _ h (λ l. k (record here { levels = l }) _ s h (λ vs t h.
        binding_leads keeps.steps l here.kept xs vs t _ h (λ l u h. progn_leads (record here { levels = l }) Inside nil_value_of_state forms u h)))
    applied_lambda_leads here other n given k lambda s h = bad_leads keeps (Id lambda_number) here s h

    pub progn_leads : (here : Here) (position : Position) (v : Value) (e : Tree) (s : State) → IsBehind P r s → LeadsAt P position r (progn rec here position v e s)
    progn_leads here position v (Pair e rest) s h = then_leads _ _ (eval_leads here position e s h) (λ w t h. progn_leads here position w rest t h)
    progn_leads here position v end s h = done_leads v s h

    pub clauses_lead : (here : Here) (position : Position) (e : Tree) (s : State) → IsBehind P r s → LeadsAt P position r (clauses rec here position e s)
    clauses_lead here position (Pair c rest) s h = clause_leads here position c _ (λ t h. clauses_lead here position rest t h) s h
    clauses_lead here position end s h = done_leads nil_value_of_state s h

    pub clause_leads : (here : Here) (position : Position) (e : Tree) (next : State → Outcome Value) → ((t : State) → IsBehind P r t → LeadsAt P position r (next t)) → (s : State) → IsBehind P r s → LeadsAt P position r (clause rec here position e next s)
    clause_leads here position (Pair a consequents) next k s h =
        then_leads _ _ (anywhere position _ (eval_leads here Inside a s h)) (λ v t h. choose_leads (is_nil v) t _ _ (k t h) (progn_leads here position v consequents t h))
    clause_leads here position (Literal n e) next k s h =
        then_leads _ _ (variable_leads keeps.steps function_number s h) (λ v t h. choose_leads (is_nil v) t _ _ (k t h) (eval_leads here position e t h))
    clause_leads here position other next k s h = k s h

    pub conjunction_leads : (here : Here) (v : Value) (e : Tree) (s : State) → IsBehind P r s → Leads P r (conjunction rec here v e s)
    conjunction_leads here v (Pair e rest) s h = then_leads _ _ (eval_leads here Inside e s h) (λ w t h. choose_leads (is_nil w) t _ _ (done_leads nil_value_of_state t h) (conjunction_leads here w rest t h))
    conjunction_leads here v end s h = done_leads v s h

    pub disjunction_leads : (here : Here) (e : Tree) (s : State) → IsBehind P r s → Leads P r (disjunction rec here e s)
    disjunction_leads here (Pair e rest) s h = then_leads _ _ (eval_leads here Inside e s h) (λ w t h. choose_leads (is_nil w) t _ _ (disjunction_leads here rest t h) (done_leads w t h))
    disjunction_leads here end s h = done_leads nil_value_of_state s h

    pub setq_leads : (here : Here) (e : Tree) (s : State) → IsBehind P r s → Leads P r (setq rec here e s)
    setq_leads here (Pair (Atom (Id x)) (Pair e end)) s h = then_leads _ _ (eval_leads here Inside e s h) (λ v t h. assigned_leads keeps.steps x v t h)
    setq_leads here args s h = done_leads nil_value_of_state s h

    pub returning_leads : (here : Here) (position : Position) (e : Tree) (s : State) → IsBehind P r s → LeadsAt P position r (returning rec here position e s)
    returning_leads here position (Pair e end) s h = misplaced_leads keeps position (Id return_number) s _ h (then_leads _ _ (anywhere Statement _ (eval_leads here Inside e s h)) (λ v t h. record { moves = h.is; plain = tt }))
    returning_leads here position args s h = done_leads nil_value_of_state s h

    pub prog_leads : (here : Here) (e : Tree) (s : State) → IsBehind P r s → Leads P r (prog rec here e s)
    prog_leads here (Pair variables body) s h = binding_leads keeps.steps here.levels here.kept (identifiers_in rec variables) [] s _ h (λ l t h. statements_lead (record here { levels = l }) body body t h)
    prog_leads here args s h = done_leads nil_value_of_state s h

    pub statements_lead : (here : Here) (whole e : Tree) (s : State) → IsBehind P r s → Leads P r (statements rec here whole e s)
    statements_lead here whole (Pair (Atom (Id l)) rest) s h = statements_lead here whole rest s h
    statements_lead here whole (Pair e rest) s h = in_prog_leads keeps here whole _ _ (eval_leads here Statement e s h) (λ t h. statements_lead here whole rest t h)
    statements_lead here whole end s h = done_leads nil_value_of_state s h

    pub listed_leads : (here : Here) (e : Tree) (s : State) → IsBehind P r s → Leads P r (listed rec here e s)
    listed_leads here (Pair e rest) s h =
        then_leads _ _ (eval_leads here Inside e s h) (λ v t h. deeper_leads keeps.steps 1 here.levels t _ h (λ l.
        then_leads _ _ (listed_leads (record here { levels = l }) rest t h) (λ list u h. pair_leads keeps.steps v list u h)))
    listed_leads here end s h = done_leads nil_value_of_state s h

    pub combined_leads : (form : Special) (here : Here) (e : Tree) (s : State) → IsBehind P r s → Leads P r (combined rec form here e s)
    combined_leads form here (Pair e rest) s h = then_leads _ _ (eval_leads here Inside e s h) (λ v t h. combined_rest_leads form here v rest t h)
    combined_leads form here end s h = done_leads (of_none form) s h

    pub combined_rest_leads : (form : Special) (here : Here) (v : Value) (e : Tree) (s : State) → IsBehind P r s → Leads P r (combined_rest rec form here v e s)
    combined_rest_leads form here v (Pair e rest) s h =
        deeper_leads keeps.steps 1 here.levels s _ h (λ l. let inner : Here = record here { levels = l } in
        then_leads _ _ (then_leads _ _ (eval_leads inner Inside e s h) (λ w t h. combined_rest_leads form inner w rest t h))
        (λ w u h. operated_leads keeps.steps (operation_of form) (v ∷ w ∷ []) u h))
    combined_rest_leads form here v end s h = done_leads v s h

  -- a special form by itself
  pub special_form_leads : (here : Here) (position : Position) (args : Tree) (form : Special) (s : State) → IsBehind P r s → LeadsAt P position r (special_form rec here position args s form)
  special_form_leads here position args Quote s h = anywhere position _ (quoted_leads keeps args s h)
  special_form_leads here position args names.Function s h = anywhere position _ (function_named_leads keeps args s h)
  special_form_leads here position args Cond s h = clauses_lead here position args s h
  special_form_leads here position args Progn s h = progn_leads here position nil_value_of_state args s h
  special_form_leads here position args And s h = anywhere position _ (conjunction_leads here (truth true) args s h)
  special_form_leads here position args Or s h = anywhere position _ (disjunction_leads here args s h)
  special_form_leads here position args Setq s h = anywhere position _ (setq_leads here args s h)
  special_form_leads here position args Prog s h = anywhere position _ (prog_leads here args s h)
  special_form_leads here position args Go s h = going_leads keeps position args s h
  special_form_leads here position args Return s h = returning_leads here position args s h
  special_form_leads here position args List_ s h = anywhere position _ (listed_leads here args s h)
  special_form_leads here position args Plus s h = anywhere position _ (combined_leads Plus here args s h)
  special_form_leads here position args Times s h = anywhere position _ (combined_leads Times here args s h)
  special_form_leads here position args Max s h = anywhere position _ (combined_leads Max here args s h)
  special_form_leads here position args Min s h = anywhere position _ (combined_leads Min here args s h)
  special_form_leads here position args De s h = anywhere position _ (define_function_leads keeps De here.levels args s h)
  special_form_leads here position args Df s h = anywhere position _ (define_function_leads keeps Df here.levels args s h)
  special_form_leads here position args Dm s h = anywhere position _ (define_function_leads keeps Dm here.levels args s h)

  pub walked_leads : (levels : Levels) (holder : ℕ) (f : Option Pointer) (held : Held) (vs : List Value) (s : State) → IsBehind P r s → Leads P r (walked rec levels holder f held vs s)
  walked_leads levels holder f held vs s h =
      restored_leads keeps.steps s _ h (binding_leads keeps.steps levels held.kept held.parameters vs (with_mark f s) _ (mark_follows keeps.steps f s h) (λ l t h.
      eval_leads (record { levels = l; chain = longest_chain; kept = held.kept; holder = holder }) Inside held.body t h))
