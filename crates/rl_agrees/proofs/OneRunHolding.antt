-- Holding and copying forms keeps a law on one run.
use Rattle.std.proofs.Common.{ℕ, zero, suc, Bool, true, false, List, Option, Some, None}
use Rattle.rl_tree.specs.Value.{Value, Id}
use Rattle.rl_tree.specs.Value as object
use Rattle.rl_tree.specs.declared.held.Kind.{Kind}
use Rattle.rl_meaning.specs.State.{State, Tree, Atom, Quoted, Pair, Literal, Kept, Function}
use Rattle.rl_meaning.specs.Outcome.{Outcome, Done, then_do, turns_left, Levels}
use Rattle.rl_meaning.specs.Symbols.{nil_value_of_state, lambda_number, pair_at, cdr_at}
use Rattle.rl_meaning.specs.Errors.{badly_formed}
use Rattle.rl_meaning.specs.Constants.{objects_read, reading_object}
use Rattle.rl_meaning.specs.Holding.{function_number, Reader, quote_tree, read_quoted, quoted_part, read_parts, list_within, read_list, read_form, with_function, hold_tree, hold_form, hold_expansion, read_forms, with_parameters, parameter_list, kept_in, elements_walked, is_improper, spine, hold_function}
use Rattle.rl_meaning.specs.Copying.{with_object, copied_parts, copied_pair, copied_at, copied}
use Rattle.rl_meaning.specs.Forms.{visited, visited_spine, visited_forms, hold_part}
use Rattle.rl_meaning.specs.Evaluation.{Position}
use Rattle.rl_agrees.proofs.OneRun.{StepsAt, IsBehind, LeadsAt, follows_then, done_leads, then_leads, then_with, choose_leads, turn_leads, pair_turn_leads}
use Rattle.rl_agrees.proofs.OneRunObjects.{leading, fail_leads, IsNew, pair_makes, fresh_follows, reading_follows, objects_read_follows}
use Rattle.rl_agrees.proofs.OneRunWalks.{walk_leads}

-- a reader that keeps the law
abbrev pub Reads : (State → State → Type 0) → Position → State → Reader → Type 0
Reads P position r read = (descent : Bool) (levels : Levels) (v : Value) (s : State) → IsBehind P r s → LeadsAt P position r (read descent levels v s)

-- an act that keeps it, and such acts at any level
abbrev pub Acts : (State → State → Type 0) → Position → State → (State → Outcome Value) → Type 0
Acts P position r act = (s : State) → IsBehind P r s → LeadsAt P position r (act s)

abbrev pub ActsAt : (State → State → Type 0) → Position → State → (Levels → State → Outcome Value) → Type 0
ActsAt P position r act = (l : Levels) → Acts P position r (λ s. act l s)

pub function_follows : {freely : Bool} {P : State → State → Type 0} (steps : StepsAt freely P) {r : State} (f : Function) (s : State) → IsBehind P r s → IsBehind P r (with_function f s)
function_follows steps {r} f s h = follows_then steps r s _ h (steps.function f s)

module _ {freely : Bool} {P : State → State → Type 0} (steps : StepsAt freely P) {position : Position} {r : State} where
  -- ---- reading a form

  pub read_quoted_leads : (o : Option Value) (list : Reader) → Reads P position r list → Reads P position r (read_quoted o list)
  read_quoted_leads (Some x) list k descent levels v s h =
      pair_turn_leads steps descent levels s _ h (λ l t f. turn_leads steps (reading_object v t) _ (reading_follows steps v t f) (λ t f. done_leads (quote_tree x) (reading_object (cdr_at t v) t) (reading_follows steps (cdr_at t v) t f)))
  read_quoted_leads None list k descent levels v s h = k descent levels v s h

  pub read_parts_leads : (element list : Reader) → Reads P position r element → Reads P position r list → (o : Option (Value × Value)) → Reads P position r (read_parts element list o)
  read_parts_leads element list j k None descent levels v s h = search leading
  read_parts_leads element list j k (Some parts) descent levels v s h =
      pair_turn_leads steps descent levels s _ h (λ l t f. then_leads _ _ (j true l parts.0 (reading_object v t) (reading_follows steps v t f)) (λ a t f. then_leads _ _ (k false l parts.1 t f) (λ d t f. search leading)))

  pub list_within_leads : (n : ℕ) → Reads P position r (list_within n)
  list_within_leads zero descent levels v s h = search leading
  list_within_leads (suc n) descent levels v s h =
      read_parts_leads (λ b l v s. read_quoted (quoted_part s v) (λ b l v s. list_within n b l v s) b l v s) (λ b l v s. list_within n b l v s)
      (λ b l v s h. read_quoted_leads (quoted_part s v) (λ b l v s. list_within n b l v s) (λ b l v s h. list_within_leads n b l v s h) b l v s h) (λ b l v s h. list_within_leads n b l v s h) (pair_at s v) descent levels v s h

  pub read_list_leads : Reads P position r read_list
  read_list_leads descent levels v s h = list_within_leads (suc (suc (turns_left s))) descent levels v s h

  pub read_form_leads : (levels : Levels) (v : Value) (s : State) → IsBehind P r s → LeadsAt P position r (read_form levels v s)
  read_form_leads levels v s h = read_quoted_leads (quoted_part s v) read_list read_list_leads false levels v s h

  -- ---- holding

  pub hold_tree_leads : (kind : Kind) (parameters : List ℕ) (kept : List Kept) (body : Tree) (s : State) → IsBehind P r s → LeadsAt P position r (hold_tree kind parameters kept body s)
  hold_tree_leads kind parameters kept body s h = search (leading, function_follows)

  pub hold_form_leads : (levels : Levels) (form : Value) (s : State) → IsBehind P r s → LeadsAt P position r (hold_form levels form s)
  hold_form_leads levels form s h = search (leading, read_form_leads, hold_tree_leads)

  pub hold_expansion_leads : (levels : Levels) (kept : List Kept) (form : Value) (s : State) → IsBehind P r s → LeadsAt P position r (hold_expansion levels kept form s)
  hold_expansion_leads levels kept form s h = search (leading, read_form_leads, hold_tree_leads)

  pub read_forms_leads : (levels : Levels) (forms : Value) (o : Option (Value × Value)) (s : State) → IsBehind P r s → LeadsAt P position r (read_forms levels forms o s)
  read_forms_leads levels forms (Some parts) s h = search (leading, read_form_leads, read_list_leads)
  read_forms_leads levels forms None s h = search leading

  pub with_parameters_leads : {A : Type 0} (o : Option (List ℕ)) (s : State) (next : List ℕ → State → Outcome A) → IsBehind P r s → ((xs : List ℕ) (t : State) → IsBehind P r t → LeadsAt P position r (next xs t)) → LeadsAt P position r (with_parameters o s next)
  with_parameters_leads (Some xs) s next h k = k xs s h
  with_parameters_leads None s next h k = search leading

  pub elements_lead : (list : Value) (s : State) → IsBehind P r s → LeadsAt P position r (elements_walked list s)
  elements_lead list s h = search (leading, walk_leads)

  pub hold_function_leads : (kind : Kind) (levels : Levels) (parameters forms : Value) (s : State) → IsBehind P r s → LeadsAt P position r (hold_function kind levels parameters forms s)
  hold_function_leads kind levels parameters forms s h =
      let f : IsBehind P r (objects_read (spine s forms) s) = objects_read_follows steps (spine s forms) s h in
      choose_leads (is_improper s forms) (objects_read (spine s forms) s) _ _ (fail_leads steps badly_formed (Id lambda_number) (objects_read (spine s forms) s) f) (held (objects_read (spine s forms) s) f)
    where
      held : (s : State) → IsBehind P r s → LeadsAt P position r (then_do (elements_walked parameters s) (λ walked s. with_parameters (parameter_list kind (quoted_part s parameters) walked) s (λ xs s. then_do (read_forms levels forms (pair_at s forms) s) (λ body s. hold_tree kind xs (kept_in s xs body) body s))))
      held s h = search (leading, elements_lead, with_parameters_leads, read_forms_leads, hold_tree_leads)

  -- ---- copying

  pub copied_parts_leads : (pair : Value) (first rest : State → Outcome Value) → IsNew r pair → Acts P position r first → Acts P position r rest → Acts P position r (copied_parts pair first rest)
  copied_parts_leads pair first rest new j k s h =
      then_leads _ _ (j s h) (λ a t f.
      then_leads _ _ (k (with_object pair (object.Pair a nil_value_of_state) t) (fresh_follows steps pair (object.Pair a nil_value_of_state) t new f)) (λ d u f.
      done_leads pair (with_object pair (object.Pair a d) u) (fresh_follows steps pair (object.Pair a d) u new f)))

  pub copied_pair_leads : (descent : Bool) (levels : Levels) (first rest : Levels → State → Outcome Value) → ActsAt P position r first → ActsAt P position r rest → Acts P position r (λ s. copied_pair descent levels first rest s)
  copied_pair_leads descent levels first rest j k s h =
      pair_turn_leads steps descent levels s _ h (λ l t f. then_with (λ p t. IsNew r p) _ _ (pair_makes steps nil_value_of_state nil_value_of_state t f) (λ pair u f new. copied_parts_leads pair (λ s. first l s) (λ s. rest l s) new (j l) (k l) u f))

  pub copied_at_leads : (descent : Bool) (levels : Levels) (t : Tree) (s : State) → IsBehind P r s → LeadsAt P position r (copied_at descent levels t s)
  copied_at_leads descent levels (Atom v) s h = search leading
  copied_at_leads descent levels (Quoted v) s h = search leading
  copied_at_leads descent levels (Pair a d) s h =
      copied_pair_leads descent levels (λ l s. copied_at true l a s) (λ l s. copied_at false l d s) (λ l s h. copied_at_leads true l a s h) (λ l s h. copied_at_leads false l d s h) s h
  copied_at_leads descent levels (Literal n e) s h =
      copied_pair_leads descent levels (λ l s. Done (Id function_number) s) (λ l s. copied_pair false l (λ l s. copied_at true l e s) (λ l s. Done nil_value_of_state s) s) (λ l s h. search leading)
      (λ l s h. copied_pair_leads false l (λ l s. copied_at true l e s) (λ l s. Done nil_value_of_state s) (λ l s h. copied_at_leads true l e s h) (λ l s h. search leading) s h) s h

  pub copied_leads : (levels : Levels) (t : Tree) (s : State) → IsBehind P r s → LeadsAt P position r (copied levels t s)
  copied_leads levels t s h = copied_at_leads false levels t s h

  -- ---- a definition inside a form

  pub visited_leads : (descent : Bool) (levels : Levels) (t : Tree) (s : State) → IsBehind P r s → LeadsAt P position r (visited descent levels t s)
  visited_leads descent levels (Pair a d) s h = pair_turn_leads steps descent levels s _ h (λ l s h. then_leads _ _ (visited_leads true l a s h) (λ done s h. visited_leads false l d s h))
  visited_leads descent levels (Literal n e) s h = pair_turn_leads steps descent levels s _ h (λ l s h. turn_leads steps s _ h (λ s h. visited_leads true l e s h))
  visited_leads descent levels (Atom v) s h = search leading
  visited_leads descent levels (Quoted v) s h = search leading

  pub visited_spine_leads : (t : Tree) (s : State) → IsBehind P r s → LeadsAt P position r (visited_spine t s)
  visited_spine_leads (Pair a d) s h = turn_leads steps s _ h (λ s h. visited_spine_leads d s h)
  visited_spine_leads (Literal n e) s h = search leading
  visited_spine_leads (Atom v) s h = search leading
  visited_spine_leads (Quoted v) s h = search leading

  pub visited_forms_leads : (levels : Levels) (t : Tree) (s : State) → IsBehind P r s → LeadsAt P position r (visited_forms levels t s)
  visited_forms_leads levels (Pair a (Pair b d)) s h = turn_leads steps s _ h (λ s h. visited_leads false levels (Pair a (Pair b d)) s h)
  visited_forms_leads levels (Pair a end) s h = visited_leads false levels a s h
  visited_forms_leads levels t s h = search leading

  pub hold_part_leads : (kind : Kind) (levels : Levels) (parameters forms : Tree) (s : State) → IsBehind P r s → LeadsAt P position r (hold_part kind levels parameters forms s)
  hold_part_leads kind levels parameters forms s h = search (leading, visited_spine_leads, with_parameters_leads, visited_forms_leads, hold_tree_leads)
