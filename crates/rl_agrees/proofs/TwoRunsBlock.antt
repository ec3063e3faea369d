-- The forms of two runs side by side: trees that were the same stay so while names grow; and the walk of a held function.
use Rattle.std.proofs.Common.{◌≡◌, ℕ, suc, Bool, true, false, List, [], ◌∷◌, ◌++◌, length, Option, Some, None, ap, subst}
use Rattle.rl_tree.specs.Value.{Value, Id, Fun}
use Rattle.rl_tree.specs.declared.held.Kind.{Kind}
use Rattle.rl_tree.specs.declared.held.Kind.TheVariants.{Expr, Fexpr, Macro}
use Rattle.rl_meaning.specs.Names.{Special, Quote, Cond, Progn, And, Or, Setq, Prog, Go, Return, List_, Plus, Times, Max, Min, De, Df, Dm, Operation}
use Rattle.rl_meaning.specs.Names as names
use Rattle.rl_meaning.specs.State.{State, Tree, Atom, Quoted, Pair, Literal, Held, Kept, Pointer}
use Rattle.rl_meaning.specs.Outcome.{Outcome, Done, then_do, choose, Levels, deeper, made_pair}
use Rattle.rl_meaning.specs.Symbols.{nil_value_of_state, is_nil, truth, lambda_number, return_number}
use Rattle.rl_meaning.specs.Errors.{badly_formed}
use Rattle.rl_meaning.specs.Holding.{function_number, is_list}
use Rattle.rl_meaning.specs.Variables.{variable, with_mark, restored, bind_all, binding, binding_levels}
use Rattle.rl_meaning.specs.Numbers.{operated}
use Rattle.rl_meaning.specs.Forms.{Head, call_levels, fits}
use Rattle.rl_meaning.specs.Compiling.{Compiler}
use Rattle.rl_meaning.specs.Evaluation.{Position, Statement, Inside, Here, longest_chain, Rec, bad_form, deeper_here, operation_of, of_none, called, going, quoted, function_named, atom_in, identifiers_in, eval, arguments, applied_lambda, progn, clauses, clause, conjunction, disjunction, setq, returning, prog, statements, listed, combined, combined_rest, walked}
use Rattle.rl_meaning.specs.TwoRunsLinks.{Linked}
use Rattle.rl_meaning.specs.TwoRunsValues.{Names, Grows, Maybe, end, more, SameValue, same_int, same_id, same_fun, SameTree, same_atom, same_quoted, same_node, same_literal, SameHeld, same_held, SamePointer}
use Rattle.rl_meaning.specs.TwoRunsStates.{Bounds, EntryPlace, BothMark, Roomier}
use Rattle.rl_meaning.specs.TwoRunsEnds.{went, returned}
use Rattle.rl_agrees.proofs.TwoRunsGrowth.{grows_refl, grows_trans, value_grows, values_grow, tree_grows}
use Rattle.rl_agrees.proofs.TwoRunsWays.{Is, is}
use Rattle.rl_agrees.proofs.TwoRunsObjects.{nil_same, each_append}
use Rattle.rl_meaning.specs.HeadCases.{lambda_form, call_form, special_form, list_form}
use Rattle.rl_agrees.proofs.TwoRunsBinding.{level, over}
use Rattle.rl_agrees.proofs.TwoRunsForms.{list_same, count_same, identifiers_same, fits_same, parameters_same, SameHead, same_form, same_call, same_applied, same_bad, head_same}
use Rattle.rl_agrees.proofs.TwoRunsFacts.{Ask, AskGoes, GoesOn, RecGoes, OneRunFacts, TwoRunsFacts}
use Rattle.rl_agrees.proofs.TwoRunsGoes.{goes_refl, then_goes, choose_goes, deeper_goes, goes_to, restored_context}
use Rattle.rl_agrees.proofs.TwoRunsEnding.{EndTogether, done_here, then_ends, choose_ends, deeper_ends, quiet_ends, fail_ends, fail_goes, restored_ends, mark_sides, binding_ends}
use Rattle.rl_agrees.proofs.TwoRunsAsked.{by, Respects, CompilerRespects, rec_goes}
use Rattle.rl_agrees.proofs.TwoRunsEvaluation.{Values, misplaced_ends, pair_ends, called_ends, fexpr_ends, macro_ends, chain_ends, in_prog_ends, define_ends}
use Rattle.rl_agrees.proofs.TwoRunsCompared.{Comparison, BelowSides, CleanSides, begun_sides}

one_of : {A : Type 0} (n : Names) (a b : A) → a ≡ b → Is n a b
one_of n a b e = subst (λ x. Is n a x) e (is a)

truth_same : (n : Names) (b : Bool) → SameValue n (truth b) (truth b)
truth_same n true = same_id 1
truth_same n false = same_id 0

none_same : (n : Names) (form : Special) → SameValue n (of_none form) (of_none form)
none_same n Times = same_int _
none_same n form = same_int _

abbrev at_here : List Kept → ℕ → Levels → Here
at_here kept holder levels = record { levels = levels; chain = longest_chain; kept = kept; holder = holder }

module _ {bounds : Bounds} {compiler : Compiler} (c : Comparison) (cr : CompilerRespects bounds compiler c) (one : OneRunFacts) (two : TwoRunsFacts bounds) (ask ask' : Ask) (ga : AskGoes ask) (gb : AskGoes ask') (respects : Respects bounds c ask ask') where
  abbrev rec : Rec
  rec = by compiler ask

  abbrev rec' : Rec
  rec' = by compiler ask'

  gl : RecGoes (by compiler ask)
  gl = rec_goes compiler c cr ask ga

  gr : RecGoes (by compiler ask')
  gr = rec_goes compiler c cr ask' gb

  -- as many levels on both sides
  deeper_same : {A : Type 0} {R : Names → A → A → Type 0} (n : Names) (ps : List EntryPlace) (i j : ℕ) (l m : Levels) (s t : State) (f g : Levels → Outcome A) → i ≡ j → Roomier bounds l m → CleanSides bounds c n ps s t → ((l : Levels) → GoesOn s (f l)) → ((l : Levels) → GoesOn t (g l)) → ((l m : Levels) → Roomier bounds l m → EndTogether bounds R n ps (f l) (g m)) → EndTogether bounds R n ps (deeper i l s f) (deeper j m t g)
  deeper_same {R = R} n ps i j l m s t f g e r side x y h = subst (λ z. EndTogether bounds R n ps (deeper i l s f) (deeper z m t g)) e (deeper_ends c n ps s t f g side x y h i l m r)

  bad_goes : (v : Value) (s : State) → GoesOn {A = Value} s (bad_form v s)
  bad_goes v s = fail_goes one Value badly_formed v s

  bad_ends : (n : Names) (ps : List EntryPlace) (v w : Value) (l m : Levels) (s t : State) → SameValue n v w → Roomier bounds l m → CleanSides bounds c n ps s t → EndTogether bounds {A = Value} SameValue n ps (deeper 1 l s (λ levels. bad_form v s)) (deeper 1 m t (λ levels. bad_form w t))
  bad_ends n ps v w l m s t h r e = deeper_ends c n ps s t (λ levels. bad_form v s) (λ levels. bad_form w t) e (λ l. bad_goes v s) (λ l. bad_goes w t) (λ l m r. fail_ends c n ps badly_formed v w s t e h) 1 l m r

  -- what goes on with values
  record Nexts (k : Names) (ps : List EntryPlace) (f g : List Value → State → Outcome Value) : Type 0 where
    ends : (k' : Names) (vs ws : List Value) (s t : State) → Grows k k' → Values k' vs ws → CleanSides bounds c k' ps s t → EndTogether bounds SameValue k' ps (f vs s) (g ws t)
    left : (vs : List Value) (s : State) → GoesOn s (f vs s)
    right : (vs : List Value) (s : State) → GoesOn s (g vs s)

  nexts_grow : (k k' : Names) (ps : List EntryPlace) (f g : List Value → State → Outcome Value) → Grows k k' → Nexts k ps f g → Nexts k' ps f g
  nexts_grow k k' ps f g w h = record { ends = λ k'' vs ws s t x i e. h.ends k'' vs ws s t (grows_trans k k' k'' w x) i e; left = h.left; right = h.right }

  atom_same : (n : Names) (x y : Tree) → SameTree n x y → SameValue n (atom_in rec x) (atom_in rec' y)
  atom_same n _ _ (same_atom v w r) = r
  atom_same n _ _ h = same_id 0

  going_ends : (n : Names) (x y : Tree) → SameTree n x y → (qs : List EntryPlace) (position : Position) (s t : State) → CleanSides bounds c n qs s t → EndTogether bounds SameValue n qs (going rec position x s) (going rec' position y t)
  going_ends n _ _ (same_node _ _ _ _ (same_atom _ _ (same_id l)) h) qs position s t e = misplaced_ends c one n qs position (Id l) (Id l) s t _ _ (same_id l) e (went n l s t (grows_refl n) e.like)
  going_ends n _ _ (same_node _ _ _ _ (same_atom _ _ r) h) qs position s t e = done_here c n qs nil_value_of_state nil_value_of_state s t (same_id 0) e
  going_ends n _ _ h qs position s t e = done_here c n qs nil_value_of_state nil_value_of_state s t (same_id 0) e

  quoted_ends : (n : Names) (x y : Tree) → SameTree n x y → (qs : List EntryPlace) (s t : State) → CleanSides bounds c n qs s t → EndTogether bounds SameValue n qs (quoted rec x s) (quoted rec' y t)
  quoted_ends n _ _ (same_node _ _ _ _ (same_quoted v w r) h) qs s t e = done_here c n qs v w s t r e
  quoted_ends n _ _ h qs s t e = done_here c n qs nil_value_of_state nil_value_of_state s t (same_id 0) e

  named_ends : (n : Names) (x y : Tree) → SameTree n x y → (qs : List EntryPlace) (s t : State) → CleanSides bounds c n qs s t → EndTogether bounds SameValue n qs (function_named rec x s) (function_named rec' y t)
  named_ends n _ _ (same_node _ _ _ _ (same_atom v w r) h) qs s t e = done_here c n qs v w s t r e
  named_ends n _ _ h qs s t e = done_here c n qs nil_value_of_state nil_value_of_state s t (same_id 0) e

  variable_ends : (n : Names) (ps : List EntryPlace) (x : ℕ) (s t : State) → CleanSides bounds c n ps s t → EndTogether bounds SameValue n ps (variable x s) (variable x t)
  variable_ends n ps x s t e = two.variable_ n ps x s t (c.shown ps e.places) e.like

  -- how functions go on, where a level is taken
  call_goes : (rec : Rec) → RecGoes rec → (here : Here) (i : ℕ) (args : Tree) (s : State) (l : Levels) → GoesOn s (arguments rec (record here { levels = l }) [] (λ vs s. called rec i l vs s) args s)
  call_goes rec g here i args s l = one.arguments_goes rec g (record here { levels = l }) [] (λ vs s. called rec i l vs s) args s (λ vs s. one.called_goes rec g i l vs s)

  fitting_goes : (rec : Rec) → RecGoes rec → (here : Here) (position : Position) (head args : Tree) (s : State) (form : Special) (l : Levels)
      → GoesOn s (choose (fits form args) s (λ s. special_form rec (record here { levels = l }) position args s form) (λ s. bad_form (atom_in rec head) s))
  fitting_goes rec g here position head args s form l =
      choose_goes (fits form args) s (λ s. special_form rec (record here { levels = l }) position args s form) (λ s. bad_form (atom_in rec head) s) (one.special_goes rec g (record here { levels = l }) position args s form) (bad_goes (atom_in rec head) s)

  tested_goes : (v : Value) (s : State) (f g : State → Outcome Value) → ((s : State) → GoesOn s (f s)) → ((s : State) → GoesOn s (g s)) → GoesOn s (choose (is_nil v) s f g)
  tested_goes v s f g h k = choose_goes (is_nil v) s f g (h s) (k s)

  here_goes : (s : State) (v : Value) → GoesOn s (Done v s)
  here_goes s v = record { goes = goes_refl s }

  bound_goes : (l : Levels) (kept : List Kept) (xs : List ℕ) (vs : List Value) (s : State) (f : Levels → State → Outcome Value) → ((l : Levels) (s : State) → GoesOn s (f l s)) → GoesOn s (binding l kept xs vs s f)
  bound_goes l kept xs vs s f h = deeper_goes (binding_levels (length xs)) l s (λ levels. restored (length s.bindings) (then_do (bind_all kept xs vs s) (λ done s. f levels s))) (λ l.
      let o : Outcome Value = then_do (bind_all kept xs vs s) (λ done s. f l s) in
      goes_to s o (restored (length s.bindings) o) (then_goes s (bind_all kept xs vs s) (λ done s. f l s) (one.bind_all_goes kept xs vs s) (λ done s. h l s)) ((restored_context (length s.bindings)).goes o))

  pair_listed_goes : (rec : Rec) → RecGoes rec → (inner : Here) (v : Value) (rest : Tree) (s : State) → GoesOn s (then_do (listed rec inner rest s) (λ list s. made_pair v list s))
  pair_listed_goes rec g inner v rest s = then_goes s (listed rec inner rest s) (λ list s. made_pair v list s) (one.listed_goes rec g inner rest s) (λ list s. one.pair_goes v list s)

  listed_pair_goes : (rec : Rec) → RecGoes rec → (here : Here) (v : Value) (rest : Tree) (s : State) → GoesOn s (deeper_here 1 here s (λ inner. then_do (listed rec inner rest s) (λ list s. made_pair v list s)))
  listed_pair_goes rec g here v rest s = deeper_goes 1 here.levels s (λ l. then_do (listed rec (record here { levels = l }) rest s) (λ list s. made_pair v list s)) (λ l.
      then_goes s (listed rec (record here { levels = l }) rest s) (λ list s. made_pair v list s) (one.listed_goes rec g (record here { levels = l }) rest s) (λ list s. one.pair_goes v list s))

  inner_goes : (rec : Rec) → RecGoes rec → (form : Special) (inner : Here) (e rest : Tree) (s : State) → GoesOn s (then_do (eval rec inner Inside e s) (λ w s. combined_rest rec form inner w rest s))
  inner_goes rec g form inner e rest s = then_goes s (eval rec inner Inside e s) (λ w s. combined_rest rec form inner w rest s) (one.eval_goes rec g inner Inside e s) (λ w s. one.combined_goes rec g form inner w rest s)

  -- ---- what is to be shown of two trees that were the same when names were n, where they are k

  abbrev EvalGood : Names → Tree → Tree → Type 0
  EvalGood n x y = (k : Names) (qs : List EntryPlace) (here : Here) (m : Levels) (o : ℕ) (position : Position) (s t : State) → Linked n.functions here.holder o → Grows n k → Roomier bounds here.levels m → CleanSides bounds c k qs s t
      → EndTogether bounds SameValue k qs (eval rec here position x s) (eval rec' (record here { levels = m; holder = o }) position y t)

  abbrev ArgumentsGood : Names → Tree → Tree → Type 0
  ArgumentsGood n x y = (k : Names) (qs : List EntryPlace) (here : Here) (m : Levels) (o : ℕ) (vs ws : List Value) (f h : List Value → State → Outcome Value) (s t : State) → Linked n.functions here.holder o → Grows n k → Roomier bounds here.levels m → Values k vs ws → Nexts k qs f h → CleanSides bounds c k qs s t
      → EndTogether bounds SameValue k qs (arguments rec here vs f x s) (arguments rec' (record here { levels = m; holder = o }) ws h y t)

  abbrev PrognGood : Names → Tree → Tree → Type 0
  PrognGood n x y = (k : Names) (qs : List EntryPlace) (here : Here) (m : Levels) (o : ℕ) (position : Position) (v w : Value) (s t : State) → Linked n.functions here.holder o → Grows n k → Roomier bounds here.levels m → SameValue k v w → CleanSides bounds c k qs s t
      → EndTogether bounds SameValue k qs (progn rec here position v x s) (progn rec' (record here { levels = m; holder = o }) position w y t)

  abbrev ClausesGood : Names → Tree → Tree → Type 0
  ClausesGood n x y = (k : Names) (qs : List EntryPlace) (here : Here) (m : Levels) (o : ℕ) (position : Position) (s t : State) → Linked n.functions here.holder o → Grows n k → Roomier bounds here.levels m → CleanSides bounds c k qs s t
      → EndTogether bounds SameValue k qs (clauses rec here position x s) (clauses rec' (record here { levels = m; holder = o }) position y t)

  abbrev ClauseGood : Names → Tree → Tree → Type 0
  ClauseGood n x y = (k : Names) (qs : List EntryPlace) (here : Here) (m : Levels) (o : ℕ) (position : Position) (f h : State → Outcome Value) (s t : State) → Linked n.functions here.holder o → Grows n k → Roomier bounds here.levels m
      → ((s : State) → GoesOn s (f s)) → ((s : State) → GoesOn s (h s)) → ((k' : Names) (s t : State) → Grows k k' → CleanSides bounds c k' qs s t → EndTogether bounds SameValue k' qs (f s) (h t)) → CleanSides bounds c k qs s t
      → EndTogether bounds SameValue k qs (clause rec here position x f s) (clause rec' (record here { levels = m; holder = o }) position y h t)

  abbrev ConjunctionGood : Names → Tree → Tree → Type 0
  ConjunctionGood n x y = (k : Names) (qs : List EntryPlace) (here : Here) (m : Levels) (o : ℕ) (v w : Value) (s t : State) → Linked n.functions here.holder o → Grows n k → Roomier bounds here.levels m → SameValue k v w → CleanSides bounds c k qs s t
      → EndTogether bounds SameValue k qs (conjunction rec here v x s) (conjunction rec' (record here { levels = m; holder = o }) w y t)

  abbrev DisjunctionGood : Names → Tree → Tree → Type 0
  DisjunctionGood n x y = (k : Names) (qs : List EntryPlace) (here : Here) (m : Levels) (o : ℕ) (s t : State) → Linked n.functions here.holder o → Grows n k → Roomier bounds here.levels m → CleanSides bounds c k qs s t
      → EndTogether bounds SameValue k qs (disjunction rec here x s) (disjunction rec' (record here { levels = m; holder = o }) y t)

  abbrev SetqGood : Names → Tree → Tree → Type 0
  SetqGood n x y = (k : Names) (qs : List EntryPlace) (here : Here) (m : Levels) (o : ℕ) (s t : State) → Linked n.functions here.holder o → Grows n k → Roomier bounds here.levels m → CleanSides bounds c k qs s t
      → EndTogether bounds SameValue k qs (setq rec here x s) (setq rec' (record here { levels = m; holder = o }) y t)

  abbrev ReturningGood : Names → Tree → Tree → Type 0
  ReturningGood n x y = (k : Names) (qs : List EntryPlace) (here : Here) (m : Levels) (o : ℕ) (position : Position) (s t : State) → Linked n.functions here.holder o → Grows n k → Roomier bounds here.levels m → CleanSides bounds c k qs s t
      → EndTogether bounds SameValue k qs (returning rec here position x s) (returning rec' (record here { levels = m; holder = o }) position y t)

  abbrev ProgGood : Names → Tree → Tree → Type 0
  ProgGood n x y = (k : Names) (qs : List EntryPlace) (here : Here) (m : Levels) (o : ℕ) (s t : State) → Linked n.functions here.holder o → Grows n k → Roomier bounds here.levels m → CleanSides bounds c k qs s t
      → EndTogether bounds SameValue k qs (prog rec here x s) (prog rec' (record here { levels = m; holder = o }) y t)

  abbrev StatementsGood : Names → Tree → Tree → Type 0
  StatementsGood n x y = (k : Names) (qs : List EntryPlace) (here : Here) (m : Levels) (o : ℕ) (whole whole' : Tree) → SameTree n whole whole' → (s t : State) → Linked n.functions here.holder o → Grows n k → Roomier bounds here.levels m → CleanSides bounds c k qs s t
      → EndTogether bounds SameValue k qs (statements rec here whole x s) (statements rec' (record here { levels = m; holder = o }) whole' y t)

  abbrev ListedGood : Names → Tree → Tree → Type 0
  ListedGood n x y = (k : Names) (qs : List EntryPlace) (here : Here) (m : Levels) (o : ℕ) (s t : State) → Linked n.functions here.holder o → Grows n k → Roomier bounds here.levels m → CleanSides bounds c k qs s t
      → EndTogether bounds SameValue k qs (listed rec here x s) (listed rec' (record here { levels = m; holder = o }) y t)

  abbrev CombinedGood : Names → Tree → Tree → Type 0
  CombinedGood n x y = (form : Special) (k : Names) (qs : List EntryPlace) (here : Here) (m : Levels) (o : ℕ) (s t : State) → Linked n.functions here.holder o → Grows n k → Roomier bounds here.levels m → CleanSides bounds c k qs s t
      → EndTogether bounds SameValue k qs (combined rec form here x s) (combined rec' form (record here { levels = m; holder = o }) y t)

  abbrev CombinedRestGood : Names → Tree → Tree → Type 0
  CombinedRestGood n x y = (form : Special) (k : Names) (qs : List EntryPlace) (here : Here) (m : Levels) (o : ℕ) (v w : Value) (s t : State) → Linked n.functions here.holder o → Grows n k → Roomier bounds here.levels m → SameValue k v w → CleanSides bounds c k qs s t
      → EndTogether bounds SameValue k qs (combined_rest rec form here v x s) (combined_rest rec' form (record here { levels = m; holder = o }) w y t)

  abbrev AppliedGood : Names → Tree → Tree → Type 0
  AppliedGood n x y = (k : Names) (qs : List EntryPlace) (here : Here) (m : Levels) (o : ℕ) (xs ys : Option (List ℕ)) (i j : ℕ) (args args' : Tree) (s t : State) → Linked n.functions here.holder o → Grows n k → Roomier bounds here.levels m → Is k xs ys → Is k i j → ArgumentsGood n args args' → CleanSides bounds c k qs s t
      → EndTogether bounds SameValue k qs (applied_lambda rec here xs i (λ here next s. arguments rec here [] next args s) x s) (applied_lambda rec' (record here { levels = m; holder = o }) ys j (λ here next s. arguments rec' here [] next args' s) y t)

  -- behind the first element, and of the first element
  abbrev Behind : Names → Tree → Tree → Type 0
  Behind n (Pair a d) (Pair b e) = AppliedGood n d e
  Behind n x y = Unit {0}

  abbrev First : Names → Tree → Tree → Type 0
  First n (Pair a d) (Pair b e) = EvalGood n a b
  First n x y = Unit {0}

  record AllGood (n : Names) (x y : Tree) : Type 0 where
    same : SameTree n x y
    eval_ : EvalGood n x y
    arguments_ : ArgumentsGood n x y
    progn_ : PrognGood n x y
    clauses_ : ClausesGood n x y
    clause_ : ClauseGood n x y
    conjunction_ : ConjunctionGood n x y
    disjunction_ : DisjunctionGood n x y
    setq_ : SetqGood n x y
    returning_ : ReturningGood n x y
    prog_ : ProgGood n x y
    statements_ : StatementsGood n x y
    listed_ : ListedGood n x y
    combined_ : CombinedGood n x y
    combined_rest_ : CombinedRestGood n x y
    applied_ : AppliedGood n x y
    behind_ : Behind n x y
    first_ : First n x y

  data Parts (n : Names) : Tree → Tree → Type 0 where
    of_atom : (v w : Value) → SameValue n v w → Parts n (Atom v) (Atom w)
    of_quoted : (v w : Value) → SameValue n v w → Parts n (Quoted v) (Quoted w)
    of_node : (a d b e : Tree) → AllGood n a b → AllGood n d e → Parts n (Pair a d) (Pair b e)
    of_literal : (i : ℕ) (a b : Tree) → AllGood n a b → Parts n (Literal i a) (Literal i b)

  -- ---- forms

  arguments_good : (n : Names) (x y : Tree) → Parts n x y → ArgumentsGood n x y
  arguments_good n _ _ (of_node a d b p i j) k qs here m o vs ws f h s t u g r z next e =
      then_ends c k qs s t _ _ _ _ e (one.eval_goes rec gl here Inside a s) (one.eval_goes rec' gr (record here { levels = m; holder = o }) Inside b t) (λ v s. one.arguments_goes rec gl here (vs ++ v ∷ []) f d s next.left) (λ v s. one.arguments_goes rec' gr (record here { levels = m; holder = o }) (ws ++ v ∷ []) h p s next.right)
      (i.eval_ k qs here m o Inside s t u g r e) (λ k' v w s t x q e.
      j.arguments_ k' qs here m o _ _ f h s t u (grows_trans n k k' g x) r (each_append (SameValue k') vs ws _ _ (values_grow k k' vs ws z x) (more v w [] [] q end)) (nexts_grow k k' qs f h x next) e)
  arguments_good n _ _ i k qs here m o vs ws f h s t u g r z next e = next.ends k vs ws s t (grows_refl k) z e

  progn_good : (n : Names) (x y : Tree) → Parts n x y → PrognGood n x y
  progn_good n _ _ (of_node a d b p i j) k qs here m o position v w s t u g r h e =
      then_ends c k qs s t _ _ _ _ e (one.eval_goes rec gl here position a s) (one.eval_goes rec' gr (record here { levels = m; holder = o }) position b t) (λ v s. one.progn_goes rec gl here position v d s) (λ v s. one.progn_goes rec' gr (record here { levels = m; holder = o }) position v p s)
      (i.eval_ k qs here m o position s t u g r e) (λ k' v w s t x h e. j.progn_ k' qs here m o position v w s t u (grows_trans n k k' g x) r h e)
  progn_good n _ _ i k qs here m o position v w s t u g r h e = done_here c k qs v w s t h e

  clauses_good : (n : Names) (x y : Tree) → Parts n x y → ClausesGood n x y
  clauses_good n _ _ (of_node a d b p i j) k qs here m o position s t u g r e =
      i.clause_ k qs here m o position (λ s. clauses rec here position d s) (λ t. clauses rec' (record here { levels = m; holder = o }) position p t) s t u g r (λ s. one.clauses_goes rec gl here position d s) (λ s. one.clauses_goes rec' gr (record here { levels = m; holder = o }) position p s)
      (λ k' s t x e. j.clauses_ k' qs here m o position s t u (grows_trans n k k' g x) r e) e
  clauses_good n _ _ i k qs here m o position s t u g r e = done_here c k qs nil_value_of_state nil_value_of_state s t (same_id 0) e

  clause_good : (n : Names) (x y : Tree) → Parts n x y → ClauseGood n x y
  clause_good n _ _ (of_node a d b p i j) k qs here m o position f h s t u g r fx hx next e =
      then_ends c k qs s t _ _ _ _ e (one.eval_goes rec gl here Inside a s) (one.eval_goes rec' gr (record here { levels = m; holder = o }) Inside b t)
      (λ v s. tested_goes v s f (λ s. progn rec here position v d s) fx (λ s. one.progn_goes rec gl here position v d s)) (λ v s. tested_goes v s h (λ s. progn rec' (record here { levels = m; holder = o }) position v p s) hx (λ s. one.progn_goes rec' gr (record here { levels = m; holder = o }) position v p s))
      (i.eval_ k qs here m o Inside s t u g r e)
      (λ k' v w s t x z e. choose_ends c k' qs _ _ s t _ _ _ _ (nil_same k' v w z) (next k' s t x e) (j.progn_ k' qs here m o position v w s t u (grows_trans n k k' g x) r z e))
  clause_good n _ _ (of_literal _ a b j) k qs here m o position f h s t u g r fx hx next e =
      then_ends c k qs s t _ _ _ _ e (one.variable_goes function_number s) (one.variable_goes function_number t)
      (λ v s. tested_goes v s f (λ s. eval rec here position a s) fx (λ s. one.eval_goes rec gl here position a s)) (λ v s. tested_goes v s h (λ s. eval rec' (record here { levels = m; holder = o }) position b s) hx (λ s. one.eval_goes rec' gr (record here { levels = m; holder = o }) position b s))
      (variable_ends k qs function_number s t e)
      (λ k' v w s t x z e. choose_ends c k' qs _ _ s t _ _ _ _ (nil_same k' v w z) (next k' s t x e) (j.eval_ k' qs here m o position s t u (grows_trans n k k' g x) r e))
  clause_good n _ _ i k qs here m o position f h s t u g r fx hx next e = next k s t (grows_refl k) e

  conjunction_good : (n : Names) (x y : Tree) → Parts n x y → ConjunctionGood n x y
  conjunction_good n _ _ (of_node a d b p i j) k qs here m o v w s t u g r h e =
      then_ends c k qs s t _ _ _ _ e (one.eval_goes rec gl here Inside a s) (one.eval_goes rec' gr (record here { levels = m; holder = o }) Inside b t)
      (λ v s. tested_goes v s (λ s. Done nil_value_of_state s) (λ s. conjunction rec here v d s) (λ s. here_goes s nil_value_of_state) (λ s. one.conjunction_goes rec gl here v d s)) (λ v s. tested_goes v s (λ s. Done nil_value_of_state s) (λ s. conjunction rec' (record here { levels = m; holder = o }) v p s) (λ s. here_goes s nil_value_of_state) (λ s. one.conjunction_goes rec' gr (record here { levels = m; holder = o }) v p s))
      (i.eval_ k qs here m o Inside s t u g r e)
      (λ k' v w s t x z e. choose_ends c k' qs _ _ s t _ _ _ _ (nil_same k' v w z) (done_here c k' qs nil_value_of_state nil_value_of_state s t (same_id 0) e) (j.conjunction_ k' qs here m o v w s t u (grows_trans n k k' g x) r z e))
  conjunction_good n _ _ i k qs here m o v w s t u g r h e = done_here c k qs v w s t h e

  disjunction_good : (n : Names) (x y : Tree) → Parts n x y → DisjunctionGood n x y
  disjunction_good n _ _ (of_node a d b p i j) k qs here m o s t u g r e =
      then_ends c k qs s t _ _ _ _ e (one.eval_goes rec gl here Inside a s) (one.eval_goes rec' gr (record here { levels = m; holder = o }) Inside b t)
      (λ v s. tested_goes v s (λ s. disjunction rec here d s) (λ s. Done v s) (λ s. one.disjunction_goes rec gl here d s) (λ s. here_goes s v)) (λ v s. tested_goes v s (λ s. disjunction rec' (record here { levels = m; holder = o }) p s) (λ s. Done v s) (λ s. one.disjunction_goes rec' gr (record here { levels = m; holder = o }) p s) (λ s. here_goes s v))
      (i.eval_ k qs here m o Inside s t u g r e)
      (λ k' v w s t x z e. choose_ends c k' qs _ _ s t _ _ _ _ (nil_same k' v w z) (j.disjunction_ k' qs here m o s t u (grows_trans n k k' g x) r e) (done_here c k' qs v w s t z e))
  disjunction_good n _ _ i k qs here m o s t u g r e = done_here c k qs nil_value_of_state nil_value_of_state s t (same_id 0) e

  setq_node : (n : Names) (a d b e : Tree) → SameTree n a b → SameTree n d e → First n d e → SetqGood n (Pair a d) (Pair b e)
  setq_node n _ _ _ _ (same_atom _ _ (same_id x)) (same_node a d b p i j) eval_ k qs here m o s t u g r e =
      then_ends c k qs s t _ _ _ _ e (one.eval_goes rec gl here Inside a s) (one.eval_goes rec' gr (record here { levels = m; holder = o }) Inside b t) (λ v s. one.assigned_goes x v s) (λ v s. one.assigned_goes x v s) (eval_ k qs here m o Inside s t u g r e)
      (λ k' v w s t q z e. two.assigned_ k' qs x v w s t z (c.shown qs e.places) e.like)
  setq_node n _ _ _ _ (same_atom _ _ (same_id x)) i first k qs here m o s t u g r e = done_here c k qs nil_value_of_state nil_value_of_state s t (same_id 0) e
  setq_node n _ _ _ _ (same_atom _ _ h) i first k qs here m o s t u g r e = done_here c k qs nil_value_of_state nil_value_of_state s t (same_id 0) e
  setq_node n _ _ _ _ h i first k qs here m o s t u g r e = done_here c k qs nil_value_of_state nil_value_of_state s t (same_id 0) e

  setq_good : (n : Names) (x y : Tree) → Parts n x y → SetqGood n x y
  setq_good n _ _ (of_node a d b p i j) k qs here m o s t u g r e = setq_node n a d b p i.same j.same j.first_ k qs here m o s t u g r e
  setq_good n _ _ i k qs here m o s t u g r e = done_here c k qs nil_value_of_state nil_value_of_state s t (same_id 0) e

  returning_good : (n : Names) (x y : Tree) → Parts n x y → ReturningGood n x y
  returning_good n _ _ (of_node a d b p i j) k qs here m o position s t u g r e =
      misplaced_ends c one k qs position (Id return_number) (Id return_number) s t _ _ (same_id return_number) e
      (then_ends c k qs s t _ _ _ _ e (one.eval_goes rec gl here Inside a s) (one.eval_goes rec' gr (record here { levels = m; holder = o }) Inside b t) (λ v s. record { goes = goes_refl s }) (λ v s. record { goes = goes_refl s }) (i.eval_ k qs here m o Inside s t u g r e) (λ k' v w s t x z e. returned k' v w s t (grows_refl k') z e.like))
  returning_good n _ _ i k qs here m o position s t u g r e = done_here c k qs nil_value_of_state nil_value_of_state s t (same_id 0) e

  prog_good : (n : Names) (x y : Tree) → Parts n x y → ProgGood n x y
  prog_good n _ _ (of_node a d b p i j) k qs here m o s t u g r e =
      let same : identifiers_in rec a ≡ identifiers_in rec' b = ap (λ o. elim o as (λ (o : Option (List ℕ)). List ℕ) [ None ↦ [] | Some xs ↦ xs ]) (identifiers_same n a b i.same) in
      rw (← same) (binding_ends c one k qs here.levels m here.kept (identifiers_in rec a) [] [] s t (λ l s. statements rec (record here { levels = l }) d d s) (λ l s. statements rec' (record here { levels = l; holder = o }) p p s) r end e
      (λ l s. one.statements_goes rec gl (record here { levels = l }) d d s) (λ l s. one.statements_goes rec' gr (record here { levels = l; holder = o }) p p s)
      (λ k' qs l m s t x r e. j.statements_ k' qs (record here { levels = l }) m o d p j.same s t u (grows_trans n k k' g x) r e))
  prog_good n _ _ i k qs here m o s t u g r e = done_here c k qs nil_value_of_state nil_value_of_state s t (same_id 0) e

  statement_node : (n : Names) (a d b p : Tree) → SameTree n a b → EvalGood n a b → StatementsGood n d p → StatementsGood n (Pair a d) (Pair b p)
  statement_node n _ d _ p (same_atom _ _ (same_id x)) eval_ rest k qs here m o whole whole' h s t u g r e = rest k qs here m o whole whole' h s t u g r e
  statement_node n _ d _ p (same_atom v w i) eval_ rest k qs here m o whole whole' h s t u g r e =
      in_prog_ends c cr one two ask ask' ga gb respects k qs here m o whole whole' (λ s. statements rec here whole d s) (λ s. statements rec' (record here { levels = m; holder = o }) whole' p s) s t _ _ r (g.functions here.holder o u) (tree_grows n k whole whole' h g) e
      (one.eval_goes rec gl here Statement (Atom v) s) (one.eval_goes rec' gr (record here { levels = m; holder = o }) Statement (Atom w) t) (λ s. one.statements_goes rec gl here whole d s) (λ s. one.statements_goes rec' gr (record here { levels = m; holder = o }) whole' p s)
      (eval_ k qs here m o Statement s t u g r e) (λ k' s t x e. rest k' qs here m o whole whole' h s t u (grows_trans n k k' g x) r e)
  statement_node n _ d _ p (same_quoted v w i) eval_ rest k qs here m o whole whole' h s t u g r e =
      in_prog_ends c cr one two ask ask' ga gb respects k qs here m o whole whole' (λ s. statements rec here whole d s) (λ s. statements rec' (record here { levels = m; holder = o }) whole' p s) s t _ _ r (g.functions here.holder o u) (tree_grows n k whole whole' h g) e
      (one.eval_goes rec gl here Statement (Quoted v) s) (one.eval_goes rec' gr (record here { levels = m; holder = o }) Statement (Quoted w) t) (λ s. one.statements_goes rec gl here whole d s) (λ s. one.statements_goes rec' gr (record here { levels = m; holder = o }) whole' p s)
      (eval_ k qs here m o Statement s t u g r e) (λ k' s t x e. rest k' qs here m o whole whole' h s t u (grows_trans n k k' g x) r e)
  statement_node n _ d _ p (same_node x x' y y' i i') eval_ rest k qs here m o whole whole' h s t u g r e =
      in_prog_ends c cr one two ask ask' ga gb respects k qs here m o whole whole' (λ s. statements rec here whole d s) (λ s. statements rec' (record here { levels = m; holder = o }) whole' p s) s t _ _ r (g.functions here.holder o u) (tree_grows n k whole whole' h g) e
      (one.eval_goes rec gl here Statement (Pair x x') s) (one.eval_goes rec' gr (record here { levels = m; holder = o }) Statement (Pair y y') t) (λ s. one.statements_goes rec gl here whole d s) (λ s. one.statements_goes rec' gr (record here { levels = m; holder = o }) whole' p s)
      (eval_ k qs here m o Statement s t u g r e) (λ k' s t x e. rest k' qs here m o whole whole' h s t u (grows_trans n k k' g x) r e)
  statement_node n _ d _ p (same_literal x y y' i) eval_ rest k qs here m o whole whole' h s t u g r e =
      in_prog_ends c cr one two ask ask' ga gb respects k qs here m o whole whole' (λ s. statements rec here whole d s) (λ s. statements rec' (record here { levels = m; holder = o }) whole' p s) s t _ _ r (g.functions here.holder o u) (tree_grows n k whole whole' h g) e
      (one.eval_goes rec gl here Statement (Literal x y) s) (one.eval_goes rec' gr (record here { levels = m; holder = o }) Statement (Literal x y') t) (λ s. one.statements_goes rec gl here whole d s) (λ s. one.statements_goes rec' gr (record here { levels = m; holder = o }) whole' p s)
      (eval_ k qs here m o Statement s t u g r e) (λ k' s t x e. rest k' qs here m o whole whole' h s t u (grows_trans n k k' g x) r e)

  statements_good : (n : Names) (x y : Tree) → Parts n x y → StatementsGood n x y
  statements_good n _ _ (of_node a d b p i j) k qs here m o whole whole' h s t u g r e = statement_node n a d b p i.same i.eval_ j.statements_ k qs here m o whole whole' h s t u g r e
  statements_good n _ _ i k qs here m o whole whole' h s t u g r e = done_here c k qs nil_value_of_state nil_value_of_state s t (same_id 0) e

  listed_good : (n : Names) (x y : Tree) → Parts n x y → ListedGood n x y
  listed_good n _ _ (of_node a d b p i j) k qs here m o s t u g r e =
      then_ends c k qs s t _ _ _ _ e (one.eval_goes rec gl here Inside a s) (one.eval_goes rec' gr (record here { levels = m; holder = o }) Inside b t) (λ v s. listed_pair_goes rec gl here v d s) (λ v s. listed_pair_goes rec' gr (record here { levels = m; holder = o }) v p s) (i.eval_ k qs here m o Inside s t u g r e)
      (λ k' v w s t x z e. deeper_ends c k' qs s t (λ l. then_do (listed rec (record here { levels = l }) d s) (λ list s. made_pair v list s)) (λ l. then_do (listed rec' (record here { levels = l; holder = o }) p t) (λ list s. made_pair w list s)) e
      (λ l. pair_listed_goes rec gl (record here { levels = l }) v d s) (λ l. pair_listed_goes rec' gr (record here { levels = l; holder = o }) w p t)
      (λ l m r. then_ends c k' qs s t _ _ _ _ e (one.listed_goes rec gl (record here { levels = l }) d s) (one.listed_goes rec' gr (record here { levels = m; holder = o }) p t) (λ list s. one.pair_goes v list s) (λ list s. one.pair_goes w list s) (j.listed_ k' qs (record here { levels = l }) m o s t u (grows_trans n k k' g x) r e)
      (λ k'' v' w' s t q h e. pair_ends c one k'' qs v w v' w' s t (value_grows k' k'' v w z q) h e)) 1 here.levels m r)
  listed_good n _ _ i k qs here m o s t u g r e = done_here c k qs nil_value_of_state nil_value_of_state s t (same_id 0) e

  combined_good : (n : Names) (x y : Tree) → Parts n x y → CombinedGood n x y
  combined_good n _ _ (of_node a d b p i j) form k qs here m o s t u g r e =
      then_ends c k qs s t _ _ _ _ e (one.eval_goes rec gl here Inside a s) (one.eval_goes rec' gr (record here { levels = m; holder = o }) Inside b t) (λ v s. one.combined_goes rec gl form here v d s) (λ v s. one.combined_goes rec' gr form (record here { levels = m; holder = o }) v p s) (i.eval_ k qs here m o Inside s t u g r e)
      (λ k' v w s t x z e. j.combined_rest_ form k' qs here m o v w s t u (grows_trans n k k' g x) r z e)
  combined_good n _ _ i form k qs here m o s t u g r e = done_here c k qs _ _ s t (none_same k form) e

  operated_ends : (n : Names) (ps : List EntryPlace) (o : Operation) (xs ys : List Value) (s t : State) → Values n xs ys → CleanSides bounds c n ps s t → EndTogether bounds SameValue n ps (operated o xs s) (operated o ys t)
  operated_ends n ps o xs ys s t h i = quiet_ends n ps s t _ _ i.like (two.operated_quiet o xs s) (two.operated_quiet o ys t) (two.operated_ n ps o xs ys s t h i.like)

  rest_goes : (rec : Rec) → RecGoes rec → (form : Special) (v : Value) (inner : Here) (e rest : Tree) (s : State) → GoesOn s (then_do (then_do (eval rec inner Inside e s) (λ w s. combined_rest rec form inner w rest s)) (λ w s. operated (operation_of form) (v ∷ w ∷ []) s))
  rest_goes rec g form v inner e rest s = then_goes s (then_do (eval rec inner Inside e s) (λ w s. combined_rest rec form inner w rest s)) (λ w s. operated (operation_of form) (v ∷ w ∷ []) s) (inner_goes rec g form inner e rest s) (λ w s. one.operated_goes (operation_of form) (v ∷ w ∷ []) s)

  combined_rest_good : (n : Names) (x y : Tree) → Parts n x y → CombinedRestGood n x y
  combined_rest_good n _ _ (of_node a d b p i j) form k qs here m o v w s t u g r h e =
      deeper_ends c k qs s t _ _ e (λ l. rest_goes rec gl form v (record here { levels = l }) a d s) (λ l. rest_goes rec' gr form w (record here { levels = l; holder = o }) b p t)
      (λ l m r. let inner : Here = record here { levels = l } in let inner' : Here = record here { levels = m; holder = o } in
      then_ends c k qs s t (then_do (eval rec inner Inside a s) (λ w s. combined_rest rec form inner w d s)) (then_do (eval rec' inner' Inside b t) (λ w s. combined_rest rec' form inner' w p s)) (λ w s. operated (operation_of form) (v ∷ w ∷ []) s) (λ z s. operated (operation_of form) (w ∷ z ∷ []) s)
      e (inner_goes rec gl form inner a d s) (inner_goes rec' gr form inner' b p t) (λ w s. one.operated_goes (operation_of form) (v ∷ w ∷ []) s) (λ z s. one.operated_goes (operation_of form) (w ∷ z ∷ []) s)
      (then_ends c k qs s t _ _ _ _ e (one.eval_goes rec gl inner Inside a s) (one.eval_goes rec' gr inner' Inside b t) (λ w s. one.combined_goes rec gl form inner w d s) (λ w s. one.combined_goes rec' gr form inner' w p s) (i.eval_ k qs inner m o Inside s t u g r e)
      (λ k' v w s t x z e. j.combined_rest_ form k' qs inner m o v w s t u (grows_trans n k k' g x) r z e))
      (λ k' v' w' s t x z e. operated_ends k' qs (operation_of form) _ _ s t (more v w _ _ (value_grows k k' v w h x) (more v' w' [] [] z end)) e)) 1 here.levels m r
  combined_rest_good n _ _ i form k qs here m o v w s t u g r h e = done_here c k qs v w s t h e

  -- ---- the head of a list

  given_goes : (rec : Rec) → RecGoes rec → (here : Here) (xs : List ℕ) (forms args : Tree) (s : State) (l : Levels)
      → GoesOn s (arguments rec (record here { levels = l }) [] (λ vs s. binding l here.kept xs vs s (λ levels s. progn rec (record here { levels = levels }) Inside nil_value_of_state forms s)) args s)
  given_goes rec g here xs forms args s l = one.arguments_goes rec g (record here { levels = l }) [] (λ vs s. binding l here.kept xs vs s (λ levels s. progn rec (record here { levels = levels }) Inside nil_value_of_state forms s)) args s
      (λ vs s. bound_goes l here.kept xs vs s (λ levels s. progn rec (record here { levels = levels }) Inside nil_value_of_state forms s) (λ l s. one.progn_goes rec g (record here { levels = l }) Inside nil_value_of_state forms s))

  bound_next : (n : Names) (forms forms' : Tree) → PrognGood n forms forms' → (k : Names) (qs : List EntryPlace) (here : Here) (m : Levels) (o : ℕ) (xs : List ℕ) → Linked n.functions here.holder o → Grows n k → (l : Levels) → Roomier bounds l m
      → Nexts k qs (λ vs s. binding l here.kept xs vs s (λ levels s. progn rec (record here { levels = levels }) Inside nil_value_of_state forms s)) (λ vs s. binding m here.kept xs vs s (λ levels s. progn rec' (record here { levels = levels; holder = o }) Inside nil_value_of_state forms' s))
  bound_next n forms forms' progn_ k qs here m o xs u g l r = record {
    ends = λ k' vs ws s t p q e. binding_ends c one k' qs l m here.kept xs vs ws s t (λ levels s. progn rec (record here { levels = levels }) Inside nil_value_of_state forms s) (λ levels s. progn rec' (record here { levels = levels; holder = o }) Inside nil_value_of_state forms' s) r q e
        (λ l s. one.progn_goes rec gl (record here { levels = l }) Inside nil_value_of_state forms s) (λ l s. one.progn_goes rec' gr (record here { levels = l; holder = o }) Inside nil_value_of_state forms' s)
        (λ k'' qs l m s t w r e. progn_ k'' qs (record here { levels = l }) m o Inside nil_value_of_state nil_value_of_state s t u (grows_trans n k k'' g (grows_trans k k' k'' p w)) r (same_id 0) e);
    left = λ vs s. bound_goes l here.kept xs vs s (λ levels s. progn rec (record here { levels = levels }) Inside nil_value_of_state forms s) (λ l s. one.progn_goes rec gl (record here { levels = l }) Inside nil_value_of_state forms s);
    right = λ vs s. bound_goes m here.kept xs vs s (λ levels s. progn rec' (record here { levels = levels; holder = o }) Inside nil_value_of_state forms' s) (λ l s. one.progn_goes rec' gr (record here { levels = l; holder = o }) Inside nil_value_of_state forms' s);
  }

  applied_good : (n : Names) (x y : Tree) → Parts n x y → AppliedGood n x y
  applied_good n _ _ (of_node _ forms _ forms' i j) k qs here m o _ _ _ _ args args' s t u g r (is (Some xs)) (is d) given e =
      deeper_ends c k qs s t _ _ e (λ l. given_goes rec gl here xs forms args s l) (λ l. given_goes rec' gr (record here { holder = o }) xs forms' args' t l)
      (λ l m r. given k qs (record here { levels = l }) m o [] [] _ _ s t u g r end (bound_next n forms forms' j.progn_ k qs here m o xs u g l r) e) (call_levels d) here.levels m r
  applied_good n _ _ (of_node _ forms _ forms' i j) k qs here m o _ _ _ _ args args' s t u g r (is None) (is d) given e = bad_ends k qs (Id lambda_number) (Id lambda_number) here.levels m s t (same_id lambda_number) r e
  applied_good n _ _ i k qs here m o _ _ _ _ args args' s t u g r (is (Some xs)) (is d) given e = bad_ends k qs (Id lambda_number) (Id lambda_number) here.levels m s t (same_id lambda_number) r e
  applied_good n _ _ i k qs here m o _ _ _ _ args args' s t u g r (is None) (is d) given e = bad_ends k qs (Id lambda_number) (Id lambda_number) here.levels m s t (same_id lambda_number) r e

  call_ends : (n : Names) (head head' args args' : Tree) → SameTree n head head' → AllGood n args args' → (k : Names) (qs : List EntryPlace) (here : Here) (m : Levels) (o : ℕ) (position : Position) (s t : State) → Linked n.functions here.holder o → Grows n k → Roomier bounds here.levels m → CleanSides bounds c k qs s t → (i : ℕ) (kind : Kind)
      → EndTogether bounds SameValue k qs (call_form rec here position head args s i kind) (call_form rec' (record here { levels = m; holder = o }) position head' args' t i kind)
  call_ends n head head' args args' h j k qs here m o position s t u g r e i Expr = deeper_same k qs _ _ here.levels m s t _ _ (ap (λ z. call_levels z) (count_same n args args' j.same)) r e (λ l. call_goes rec gl here i args s l) (λ l. call_goes rec' gr (record here { holder = o }) i args' t l)
      (λ l m r. j.arguments_ k qs (record here { levels = l }) m o [] [] (λ vs s. called rec i l vs s) (λ vs s. called rec' i m vs s) s t u g r end
      (record { ends = λ k' vs ws s t w z e. called_ends c cr one two ask ask' ga gb respects k' qs i l m vs ws s t r z (begun_sides c k' qs s t e); left = λ vs s. one.called_goes rec gl i l vs s; right = λ vs s. one.called_goes rec' gr i m vs s }) e)
  call_ends n head head' args args' h j k qs here m o position s t u g r e i Fexpr = deeper_same k qs _ _ here.levels m s t _ _ (ap (λ z. call_levels z) (count_same n args args' j.same)) r e (λ l. one.fexpr_goes rec gl i (record here { levels = l }) args s) (λ l. one.fexpr_goes rec' gr i (record here { levels = l; holder = o }) args' t)
      (λ l m r. fexpr_ends c cr one two ask ask' ga gb respects k qs i (record here { levels = l }) m o args args' s t r (tree_grows n k args args' j.same g) (begun_sides c k qs s t e))
  call_ends n head head' args args' h j k qs here m o position s t u g r e i Macro = chain_ends c cr one two ask ask' ga gb respects k qs here.chain i s t _ _ e (λ d. deeper_same k qs _ _ here.levels m s t _ _ (ap (λ z. call_levels z) (count_same n args args' j.same)) r e
      (λ l. one.macro_goes rec gl i (record here { levels = l; chain = d }) position (Pair head args) s) (λ l. one.macro_goes rec' gr i (record here { levels = l; chain = d; holder = o }) position (Pair head' args') t)
      (λ l m r. macro_ends c cr one two ask ask' ga gb respects k qs i (record here { levels = l; chain = d }) m o position _ _ s t r (tree_grows n k _ _ (same_node head args head' args' h j.same) g) e))

  form_ends_ : (n : Names) (args args' : Tree) → AllGood n args args' → (k : Names) (qs : List EntryPlace) (here : Here) (m : Levels) (o : ℕ) (position : Position) (s t : State) → Linked n.functions here.holder o → Grows n k → Roomier bounds here.levels m → CleanSides bounds c k qs s t → (form : Special)
      → EndTogether bounds SameValue k qs (special_form rec here position args s form) (special_form rec' (record here { levels = m; holder = o }) position args' t form)
  form_ends_ n args args' j k qs here m o position s t u g r e Quote = quoted_ends k args args' (tree_grows n k args args' j.same g) qs s t e
  form_ends_ n args args' j k qs here m o position s t u g r e names.Function = named_ends k args args' (tree_grows n k args args' j.same g) qs s t e
  form_ends_ n args args' j k qs here m o position s t u g r e Cond = j.clauses_ k qs here m o position s t u g r e
  form_ends_ n args args' j k qs here m o position s t u g r e Progn = j.progn_ k qs here m o position nil_value_of_state nil_value_of_state s t u g r (same_id 0) e
  form_ends_ n args args' j k qs here m o position s t u g r e And = j.conjunction_ k qs here m o (truth true) (truth true) s t u g r (truth_same k true) e
  form_ends_ n args args' j k qs here m o position s t u g r e Or = j.disjunction_ k qs here m o s t u g r e
  form_ends_ n args args' j k qs here m o position s t u g r e Setq = j.setq_ k qs here m o s t u g r e
  form_ends_ n args args' j k qs here m o position s t u g r e Prog = j.prog_ k qs here m o s t u g r e
  form_ends_ n args args' j k qs here m o position s t u g r e Go = going_ends k args args' (tree_grows n k args args' j.same g) qs position s t e
  form_ends_ n args args' j k qs here m o position s t u g r e Return = j.returning_ k qs here m o position s t u g r e
  form_ends_ n args args' j k qs here m o position s t u g r e List_ = j.listed_ k qs here m o s t u g r e
  form_ends_ n args args' j k qs here m o position s t u g r e Plus = j.combined_ Plus k qs here m o s t u g r e
  form_ends_ n args args' j k qs here m o position s t u g r e Times = j.combined_ Times k qs here m o s t u g r e
  form_ends_ n args args' j k qs here m o position s t u g r e Max = j.combined_ Max k qs here m o s t u g r e
  form_ends_ n args args' j k qs here m o position s t u g r e Min = j.combined_ Min k qs here m o s t u g r e
  form_ends_ n args args' j k qs here m o position s t u g r e De = define_ends c cr one two ask ask' ga gb respects De k args args' (tree_grows n k args args' j.same g) qs here.levels m s t r e
  form_ends_ n args args' j k qs here m o position s t u g r e Df = define_ends c cr one two ask ask' ga gb respects Df k args args' (tree_grows n k args args' j.same g) qs here.levels m s t r e
  form_ends_ n args args' j k qs here m o position s t u g r e Dm = define_ends c cr one two ask ask' ga gb respects Dm k args args' (tree_grows n k args args' j.same g) qs here.levels m s t r e

  list_ends : (n : Names) (head head' args args' : Tree) → SameTree n head head' → AllGood n args args' → (k : Names) (qs : List EntryPlace) (here : Here) (m : Levels) (o : ℕ) (position : Position) (s t : State) → Linked n.functions here.holder o → Grows n k → Roomier bounds here.levels m → CleanSides bounds c k qs s t → (x y : Head) → SameHead k x y
      → EndTogether bounds SameValue k qs (list_form rec here position head args s x) (list_form rec' (record here { levels = m; holder = o }) position head' args' t y)
  list_ends n head head' args args' h j k qs here m o position s t u g r e _ _ same_applied = done_here c k qs nil_value_of_state nil_value_of_state s t (same_id 0) e
  list_ends n head head' args args' h j k qs here m o position s t u g r e _ _ (same_bad v w z) = bad_ends k qs v w here.levels m s t z r e
  list_ends n head head' args args' h j k qs here m o position s t u g r e _ _ (same_call kind i) =
      choose_ends c k qs (is_list args) (is_list args') s t (λ s. call_form rec here position head args s i kind) (λ s. deeper 1 here.levels s (λ levels. bad_form (Id i) s)) (λ t. call_form rec' (record here { levels = m; holder = o }) position head' args' t i kind) (λ t. deeper 1 m t (λ levels. bad_form (Id i) t)) (list_same n args args' j.same)
      (call_ends n head head' args args' h j k qs here m o position s t u g r e i kind) (bad_ends k qs (Id i) (Id i) here.levels m s t (same_id i) r e)
  list_ends n head head' args args' h j k qs here m o position s t u g r e _ _ (same_form form) =
      deeper_ends c k qs s t (λ l. choose (fits form args) s (λ s. special_form rec (record here { levels = l }) position args s form) (λ s. bad_form (atom_in rec head) s)) (λ l. choose (fits form args') t (λ t. special_form rec' (record here { levels = l; holder = o }) position args' t form) (λ t. bad_form (atom_in rec' head') t)) e
      (λ l. fitting_goes rec gl here position head args s form l) (λ l. fitting_goes rec' gr (record here { holder = o }) position head' args' t form l)
      (λ l m r. choose_ends c k qs (fits form args) (fits form args') s t (λ s. special_form rec (record here { levels = l }) position args s form) (λ s. bad_form (atom_in rec head) s) (λ t. special_form rec' (record here { levels = m; holder = o }) position args' t form) (λ t. bad_form (atom_in rec' head') t) (fits_same n form args args' j.same)
      (form_ends_ n args args' j k qs (record here { levels = l }) m o position s t u g r e form) (fail_ends c k qs badly_formed _ _ s t e (atom_same k head head' (tree_grows n k head head' h g)))) 1 here.levels m r

  lambda_ends_ : (n : Names) (a b lambda lambda' args args' : Tree) → SameTree n lambda lambda' → AppliedGood n lambda lambda' → AllGood n args args' → (k : Names) (qs : List EntryPlace) (here : Here) (m : Levels) (o : ℕ) (s t : State) → Linked n.functions here.holder o → Grows n k → Roomier bounds here.levels m → CleanSides bounds c k qs s t → (x y : Head) → SameHead k x y
      → EndTogether bounds SameValue k qs (lambda_form rec here a lambda args s x) (lambda_form rec' (record here { levels = m; holder = o }) b lambda' args' t y)
  lambda_ends_ n a b lambda lambda' args args' h applied_ j k qs here m o s t u g r e _ _ (same_form form) = done_here c k qs nil_value_of_state nil_value_of_state s t (same_id 0) e
  lambda_ends_ n a b lambda lambda' args args' h applied_ j k qs here m o s t u g r e _ _ (same_call kind f) = done_here c k qs nil_value_of_state nil_value_of_state s t (same_id 0) e
  lambda_ends_ n a b lambda lambda' args args' h applied_ j k qs here m o s t u g r e _ _ (same_bad v w z) = bad_ends k qs v w here.levels m s t z r e
  lambda_ends_ n a b lambda lambda' args args' h applied_ j k qs here m o s t u g r e _ _ same_applied =
      applied_ k qs here m o _ _ _ _ args args' s t u g r (one_of k _ _ (parameters_same n lambda lambda' args args' h j.same)) (one_of k _ _ (count_same n args args' j.same)) j.arguments_ e

  eval_node : (n : Names) (head head' args args' : Tree) → SameTree n head head' → Behind n head head' → AllGood n args args' → EvalGood n (Pair head args) (Pair head' args')
  eval_node n _ _ args args' (same_node a lambda b lambda' h i) behind j k qs here m o position s t u g r e = lambda_ends_ n a b lambda lambda' args args' i behind j k qs here m o s t u g r e _ _ (head_same k qs s t _ _ e.like (tree_grows n k _ _ (same_node a lambda b lambda' h i) g))
  eval_node n _ _ args args' (same_atom v w h) behind j k qs here m o position s t u g r e = list_ends n _ _ args args' (same_atom v w h) j k qs here m o position s t u g r e _ _ (head_same k qs s t _ _ e.like (tree_grows n k _ _ (same_atom v w h) g))
  eval_node n _ _ args args' (same_quoted v w h) behind j k qs here m o position s t u g r e = list_ends n _ _ args args' (same_quoted v w h) j k qs here m o position s t u g r e _ _ (head_same k qs s t _ _ e.like (tree_grows n k _ _ (same_quoted v w h) g))
  eval_node n _ _ args args' (same_literal i a b h) behind j k qs here m o position s t u g r e = list_ends n _ _ args args' (same_literal i a b h) j k qs here m o position s t u g r e _ _ (head_same k qs s t _ _ e.like (tree_grows n k _ _ (same_literal i a b h) g))

  eval_good : (n : Names) (x y : Tree) → Parts n x y → EvalGood n x y
  eval_good n _ _ (of_atom _ _ (same_id x)) k qs here m o position s t u g r e = variable_ends k qs x s t e
  eval_good n _ _ (of_atom v w h) k qs here m o position s t u g r e = done_here c k qs _ _ s t (value_grows n k _ _ h g) e
  eval_good n _ _ (of_quoted v w h) k qs here m o position s t u g r e = done_here c k qs v w s t (value_grows n k v w h g) e
  eval_good n _ _ (of_literal i a b p) k qs here m o position s t u g r e =
      deeper_ends c k qs s t (λ l. Done (Fun here.holder (suc i)) s) (λ l. Done (Fun o (suc i)) t) e (λ l. here_goes s _) (λ l. here_goes t _) (λ l m r. done_here c k qs (Fun here.holder (suc i)) (Fun o (suc i)) s t (same_fun here.holder o (suc i) (g.functions here.holder o u)) e) 1 here.levels m r
  eval_good n _ _ (of_node head args head' args' h j) k qs here m o position s t u g r e = eval_node n head head' args args' h.same h.behind_ j k qs here m o position s t u g r e

  behind_good : (n : Names) (x y : Tree) → Parts n x y → Behind n x y
  behind_good n _ _ (of_node a d b p i j) = j.applied_
  behind_good n _ _ (of_atom v w h) = tt
  behind_good n _ _ (of_quoted v w h) = tt
  behind_good n _ _ (of_literal i a b h) = tt

  first_good : (n : Names) (x y : Tree) → Parts n x y → First n x y
  first_good n _ _ (of_node a d b p i j) = i.eval_
  first_good n _ _ (of_atom v w h) = tt
  first_good n _ _ (of_quoted v w h) = tt
  first_good n _ _ (of_literal i a b h) = tt

  all_good : (n : Names) (x y : Tree) → SameTree n x y → Parts n x y → AllGood n x y
  all_good n x y h p = record {
    same = h;
    eval_ = eval_good n x y p;
    arguments_ = arguments_good n x y p;
    progn_ = progn_good n x y p;
    clauses_ = clauses_good n x y p;
    clause_ = clause_good n x y p;
    conjunction_ = conjunction_good n x y p;
    disjunction_ = disjunction_good n x y p;
    setq_ = setq_good n x y p;
    returning_ = returning_good n x y p;
    prog_ = prog_good n x y p;
    statements_ = statements_good n x y p;
    listed_ = listed_good n x y p;
    combined_ = combined_good n x y p;
    combined_rest_ = combined_rest_good n x y p;
    applied_ = applied_good n x y p;
    behind_ = behind_good n x y p;
    first_ = first_good n x y p;
  }

  good : (n : Names) (x y : Tree) → SameTree n x y → AllGood n x y
  good n _ _ (same_atom v w h) = all_good n _ _ (same_atom v w h) (of_atom v w h)
  good n _ _ (same_quoted v w h) = all_good n _ _ (same_quoted v w h) (of_quoted v w h)
  good n _ _ (same_node a d b e h k) = all_good n _ _ (same_node a d b e h k) (of_node a d b e (good n a b h) (good n d e k))
  good n _ _ (same_literal i a b h) = all_good n _ _ (same_literal i a b h) (of_literal i a b (good n a b h))

  pub eval_ends : (n : Names) (x y : Tree) → SameTree n x y → EvalGood n x y
  eval_ends n x y h = (good n x y h).eval_

  pub statements_ends : (n : Names) (x y : Tree) → SameTree n x y → StatementsGood n x y
  statements_ends n x y h = (good n x y h).statements_

  -- a held function is walked
  pub walked_ends : (n : Names) (ps : List EntryPlace) (l m : Levels) (h o : ℕ) (p q : Option Pointer) (a b : Held) (vs ws : List Value) (s t : State) → Roomier bounds l m → Linked n.functions h o → Maybe (SamePointer n) p q → SameHeld n a b → Values n vs ws → BelowSides bounds c n ps s t → EndTogether bounds SameValue n ps (walked rec l h p a vs s) (walked rec' m o q b ws t)
  walked_ends n ps l m h o p q _ _ vs ws s t r x pq (same_held kind parameters kept a b y) vv i =
      let j : CleanSides bounds c n (BothMark ∷ ps) (with_mark p s) (with_mark q t) = mark_sides c n ps p q s t pq i in
      restored_ends n ps s t (binding l kept parameters vs (with_mark p s) (λ levels s. eval rec (at_here kept h levels) Inside a s)) (binding m kept parameters ws (with_mark q t) (λ levels t. eval rec' (at_here kept o levels) Inside b t)) i.like
      (record {
        places = BothMark ∷ ps;
        above = over BothMark ps level;
        ends = binding_ends c one n (BothMark ∷ ps) l m kept parameters vs ws (with_mark p s) (with_mark q t) (λ levels s. eval rec (at_here kept h levels) Inside a s) (λ levels t. eval rec' (at_here kept o levels) Inside b t) r vv j
            (λ l s. one.eval_goes rec gl (at_here kept h l) Inside a s) (λ l s. one.eval_goes rec' gr (at_here kept o l) Inside b s)
            (λ k qs l m s t w r e. eval_ends n a b y k qs (at_here kept h l) m o Inside s t x w r e);
      })
