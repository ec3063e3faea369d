-- Application and evaluation of two runs side by side: by two ways to do jobs that keep them side by side, all that evaluation does by itself keeps them so.
use Rattle.std.proofs.Common.{◌≡◌, ◌==◌, ◌/◌, ℤ, ℕ, zero, suc, Bool, true, false, List, [], ◌∷◌, ◌++◌, length, Option, Some, None, if◌then◌else◌, refl, ap, arith}
use Rattle.std.proofs.lemmas.Bool.Decides.{nat_tests}
use Rattle.rl_tree.specs.Value.{Value, Int, Id, Ref}
use Rattle.rl_tree.specs.declared.held.Kind.{Kind}
use Rattle.rl_tree.specs.declared.held.Kind.TheVariants.{Expr, Fexpr, Macro}
use Rattle.rl_meaning.specs.Names.{Native, Special, arguments_of, Eval, Errorset, Apply, Putd, Compile, Faslout, Load}
use Rattle.rl_meaning.specs.State.{State, Tree, Held, Pointer, Definition, Function, Expansion}
use Rattle.rl_meaning.specs.Outcome.{Outcome, Done, Failed, Went, Returned, Stopped, Expands, then_do, Levels, deeper, made_pair}
use Rattle.rl_meaning.specs.Opening.{state_of}
use Rattle.rl_meaning.specs.Symbols.{nil_value_of_state, is_nil, lambda_number, pair_at}
use Rattle.rl_meaning.specs.System.{is_system}
use Rattle.rl_meaning.specs.Errors.{fail, undefined, wrong_count, wrong_type, misplaced, system_name}
use Rattle.rl_meaning.specs.Constants.{reading_object, reading_pair}
use Rattle.rl_meaning.specs.Holding.{hold_form, hold_expansion, elements_walked, pointer_value, pointer_to, function_at}
use Rattle.rl_meaning.specs.Copying.{copied}
use Rattle.rl_meaning.specs.Variables.{with_mark}
use Rattle.rl_meaning.specs.Atoms.{proper}
use Rattle.rl_meaning.specs.Definitions.{define, own_name, hold_lambda}
use Rattle.rl_meaning.specs.Printing.{note, note_value, note_error}
use Rattle.rl_meaning.specs.Natives.{native, argument}
use Rattle.rl_meaning.specs.Walks.{Walked}
use Rattle.std.specs.Prelude.{codes}
use Rattle.std.specs.Fmt.{signed_decimal}
use Rattle.rl_meaning.specs.Forms.{after_label}
use Rattle.rl_meaning.specs.Compiling.{Compiler}
use Rattle.rl_meaning.specs.Evaluation.{Position, Statement, Inside, Here, longest_chain, Run, Call_, From, In, Rec, misplaced_at, opened_expansion, with_expansion, closed_expansion, without_expansion, print_unless_nil, caught, Target, Function_, Lambda, Undefined, WrongType, target_function, target_definition, target_pair, target_of, with_arguments, kind_of_definition, held_applied, form_evaluated, evaluated, errorset, list_applied, applied_to, apply_target, apply, native_applied, counted, called_as, function_applied, applied, name_applied, called, fexpr_called, expansion_of, expanded_body, macro_called, in_chain, jumped, in_prog, function_defined, define_function}
use Rattle.rl_meaning.specs.TwoRunsLinks.{Linked}
use Rattle.rl_meaning.specs.TwoRunsValues.{Names, Grows, Maybe, nothing, just, Each, end, more, SameValue, same_int, same_id, same_str, same_ref, same_fun, SameParts, same_parts, SameTree, same_atom, same_node, SameHeld, same_held, SameFunction, same_special, same_native, same_held_function, SamePointer, same_pointer, SameNumber, SameDefinition, same_definition}
use Rattle.rl_meaning.specs.TwoRunsStates.{Bounds, EntryPlace, BothMark, SameExpansion, same_none, same_open, Like, Roomier}
use Rattle.rl_meaning.specs.TwoRunsEnds.{done, failed, went, returned, stopped, parted}
use Rattle.rl_agrees.specs.TwoRunsJobs.{same_here, same_run, same_call, same_from, same_in}
use Rattle.rl_agrees.proofs.TwoRunsKept.{Goes, IsOfState}
use Rattle.rl_agrees.proofs.TwoRunsGrowth.{grows_refl, value_grows, values_grow, tree_grows, pointer_grows}
use Rattle.rl_agrees.proofs.TwoRunsWays.{Is, is, reading_like, pair_read_like, with_counts_like}
use Rattle.rl_agrees.proofs.TwoRunsObjects.{pair_same, nil_same, symbol_same, each_length, each_at, made_pair_related}
use Rattle.rl_agrees.proofs.TwoRunsForms.{label_same, function_same, definition_same}
use Rattle.rl_agrees.proofs.TwoRunsBinding.{level, over}
use Rattle.rl_agrees.proofs.TwoRunsFacts.{Ask, AskGoes, GoesOn, RecGoes, OneRunFacts, TwoRunsFacts, may_part, SameList}
use Rattle.rl_agrees.proofs.TwoRunsWalks.{same_walked}
use Rattle.rl_agrees.proofs.TwoRunsGoes.{goes_refl, goes_trans, then_goes, choose_goes, deeper_goes, goes_to, Context, parted_in}
use Rattle.rl_agrees.proofs.TwoRunsEnding.{EndTogether, further_ends, done_here, stopped_here, sides_on, then_ends, closed_ends, choose_ends, turn_ends, counts_sides, deeper_ends, quiet_ends, pair_quiet, fail_ends, fail_goes, restored_ends, mark_sides}
use Rattle.rl_agrees.proofs.TwoRunsAsked.{by, Respects, CompilerRespects, rec_goes, of_state_stays, starts, taken_sides}
use Rattle.rl_agrees.proofs.TwoRunsCompared.{Comparison, Sides, BelowSides, CleanSides, begun_sides}

abbrev pub Values : Names → List Value → List Value → Type 0
Values n xs ys = Each (SameValue n) xs ys

pub whole_pointer : (n : Names) (f g : ℕ) → Linked n.functions f g → SamePointer n (pointer_to f) (pointer_to g)
whole_pointer n f g h = same_pointer f g 0 h

pub pointer_linked : (n : Names) (p q : Pointer) → SamePointer n p q → Linked n.functions p.function q.function
pointer_linked n p q (same_pointer f g place h) = h

pub pointer_value_same : (n : Names) (p q : Pointer) → SamePointer n p q → SameValue n (pointer_value p) (pointer_value q)
pointer_value_same n p q (same_pointer f g place h) = same_fun f g place h

-- ---- expansions

opened_same : (i : ℕ) (o p : Option Expansion) → SameExpansion o p → SameExpansion (Some (opened_expansion i o)) (Some (opened_expansion i p))
opened_same i o p same_none = same_open _
opened_same i o p (same_open e) = same_open _

closed_at : (e : Expansion) (i : ℕ) → SameExpansion (elim i as (λ (i : ℕ). Option Expansion) [ zero ↦ None | suc k ↦ Some (record e { inner_count = k }) ]) (elim i as (λ (i : ℕ). Option Expansion) [ zero ↦ None | suc k ↦ Some (record e { inner_count = k }) ])
closed_at e zero = same_none
closed_at e (suc k) = same_open _

closed_same : (o p : Option Expansion) → SameExpansion o p → SameExpansion (closed_expansion o) (closed_expansion p)
closed_same o p same_none = same_none
closed_same o p (same_open e) = closed_at e e.inner_count

module _ {bounds : Bounds} where
  closed_like : (n : Names) (ps : List EntryPlace) (s t : State) → Like bounds n ps s t → Like bounds n ps (without_expansion s) (without_expansion t)
  closed_like n ps s t l = with_counts_like n ps s t _ _ (record { given = l.counts.given; turns = l.counts.turns; cells = l.counts.cells; expansion = closed_same _ _ l.counts.expansion }) l

  opened_sides : (c : Comparison) (n : Names) (ps : List EntryPlace) (i : ℕ) (s t : State) → BelowSides bounds c n ps s t → BelowSides bounds c n ps (with_expansion i s) (with_expansion i t)
  opened_sides c n ps i s t side = let l : Like bounds n ps s t = side.like in
      counts_sides c n ps s t _ _ refl refl (record { given = l.counts.given; turns = l.counts.turns; cells = l.counts.cells; expansion = opened_same i _ _ l.counts.expansion }) side

-- ---- targets of APPLY

data SameTarget (n : Names) : Target → Target → Type 0 where
  same_function : (name : Option ℕ) (p q : Pointer) → SamePointer n p q → SameTarget n (Function_ name p) (Function_ name q)
  same_lambda : (v w : Value) → SameValue n v w → SameTarget n (Lambda v) (Lambda w)
  same_undefined : SameTarget n Undefined Undefined
  same_wrong : SameTarget n WrongType WrongType

target_named : (n : Names) (name : Option ℕ) (p q : Pointer) (x y : Function) → SamePointer n p q → SameFunction n x y → SameTarget n (target_function name p x) (target_function name q y)
target_named n name p q _ _ h (same_special form) = same_wrong
target_named n name p q _ _ h (same_native native) = same_function name p q h
target_named n name p q _ _ h (same_held_function a b k) = same_function name p q h

module _ {bounds : Bounds} where
  target_defined : (n : Names) (ps : List EntryPlace) (i : ℕ) (o p : Option Definition) (s t : State) → Like bounds n ps s t → Maybe (SameDefinition n) o p → SameTarget n (target_definition i o s) (target_definition i p t)
  target_defined n ps i _ _ s t l nothing = same_undefined
  target_defined n ps i _ _ s t l (just _ _ (same_definition Expr p q h)) = target_named n (Some i) p q _ _ h (function_same n ps s t p q l h)
  target_defined n ps i _ _ s t l (just _ _ (same_definition Fexpr p q h)) = same_wrong
  target_defined n ps i _ _ s t l (just _ _ (same_definition Macro p q h)) = same_wrong

target_of_pair : (n : Names) (o p : Option (Value × Value)) → Maybe (SameParts n) o p → SameTarget n (target_pair o) (target_pair p)
target_of_pair n _ _ nothing = same_wrong
target_of_pair n _ _ (just _ _ (same_parts _ d _ e (same_id i) k)) = elim (i == lambda_number) as (λ b. SameTarget n (if b then Lambda d else WrongType) (if b then Lambda e else WrongType)) [ true ↦ same_lambda d e k | false ↦ same_wrong ]
target_of_pair n _ _ (just _ _ (same_parts _ d _ e r k)) = same_wrong

target_grows : (n m : Names) (x y : Target) → SameTarget n x y → Grows n m → SameTarget m x y
target_grows n m _ _ (same_function name p q h) k = same_function name p q (pointer_grows n m p q h k)
target_grows n m _ _ (same_lambda v w h) k = same_lambda v w (value_grows n m v w h k)
target_grows n m _ _ same_undefined k = same_undefined
target_grows n m _ _ same_wrong k = same_wrong

module _ {bounds : Bounds} where
  target_same : (n : Names) (ps : List EntryPlace) (v w : Value) (s t : State) → Like bounds n ps s t → SameValue n v w → SameTarget n (target_of v s) (target_of w t)
  target_same n ps _ _ s t l (same_id i) = target_defined n ps i _ _ s t l (definition_same n _ _ (symbol_same n ps s t i l))
  target_same n ps _ _ s t l (same_fun f g place h) = target_named n None _ _ _ _ (same_pointer f g place h) (function_same n ps s t _ _ l (same_pointer f g place h))
  target_same n ps _ _ s t l (same_ref r q h) = target_of_pair n _ _ (pair_same n ps s t (Ref r) (Ref q) l (same_ref r q h))
  target_same n ps _ _ s t l (same_int z) = same_wrong
  target_same n ps _ _ s t l (same_str bytes) = same_wrong

pub argument_same : (n : Names) (xs ys : List Value) (i : ℕ) → Values n xs ys → SameValue n (argument xs i) (argument ys i)
argument_same n xs ys i h = each_at (SameValue n) xs ys nil_value_of_state nil_value_of_state i h (same_id 0)

module _ {bounds : Bounds} where
  note_like : (n : Names) (ps : List EntryPlace) (line : List ℕ) (s t : State) → Like bounds n ps s t → Like bounds n ps (note line s) (note line t)
  note_like n ps line s t l = record { store = l.store; functions = l.functions; symbols = l.symbols; bindings = l.bindings; counts = l.counts; outside = λ i. record (l.outside i) { notes = (l.outside i).notes ++ (line ++ 10 ∷ []) }; gensyms = l.gensyms; compilation = l.compilation }

-- ---- what asks for no job

module _ (c : Comparison) (one : OneRunFacts) where
  fails : {A : Type 0} (n : ℕ) (v : Value) (s : State) → GoesOn {A = A} s (fail n v s)
  fails {A} n v s = fail_goes one A n v s

  module _ {bounds : Bounds} where
    pub misplaced_ends : {A : Type 0} {R : Names → A → A → Type 0} {P : List EntryPlace → Type 0} (n : Names) (ps : List EntryPlace) (position : Position) (v w : Value) (s t : State) (f g : State → Outcome A) → SameValue n v w → Sides bounds c P n ps s t → EndTogether bounds R n ps (f s) (g t) → EndTogether bounds R n ps (misplaced_at position v s f) (misplaced_at position w t g)
    misplaced_ends n ps Statement v w s t f g r l h = h
    misplaced_ends n ps Inside v w s t f g r l h = fail_ends c n ps misplaced v w s t l r

  arguments_goes : {A : Type 0} (o : Option (List Value)) (u : Value) (s : State) (f : List Value → State → Outcome A) → ((vs : List Value) → GoesOn s (f vs s)) → GoesOn s (with_arguments o u s f)
  arguments_goes {A} None u s f h = fail_goes one A wrong_type u s
  arguments_goes (Some vs) u s f h = h vs

  module _ {bounds : Bounds} where
    proper_ends : {A : Type 0} {R : Names → A → A → Type 0} (n : Names) (ps : List EntryPlace) (x y : Option Value) (xs ys : List Value) (u v : Value) (s t : State) (f g : List Value → State → Outcome A) → Maybe (SameValue n) x y → SameValue n u v → BelowSides bounds c n ps s t → EndTogether bounds R n ps (f xs s) (g ys t) → EndTogether bounds R n ps (with_arguments (proper x (Some xs)) u s f) (with_arguments (proper y (Some ys)) v t g)
    proper_ends n ps _ _ xs ys u v s t f g nothing r l k = fail_ends c n ps wrong_type u v s t l r
    proper_ends {R = R} n ps _ _ xs ys u v s t f g (just a b e) r l k = at (is_nil a) (is_nil b) (nil_same n a b e)
      where
        at : (i j : Bool) → i ≡ j → EndTogether bounds R n ps (with_arguments (if i then Some xs else None) u s f) (with_arguments (if j then Some ys else None) v t g)
        at true true e = k
        at false false e = fail_ends c n ps wrong_type u v s t l r
        at true false e = absurd (cc)
        at false true e = absurd (cc)

    pub pair_ends : {P : List EntryPlace → Type 0} (n : Names) (ps : List EntryPlace) (a b d e : Value) (s t : State) → SameValue n a b → SameValue n d e → Sides bounds c P n ps s t → EndTogether bounds SameValue n ps (made_pair a d s) (made_pair b e t)
    pair_ends n ps a b d e s t h k i = quiet_ends n ps s t _ _ i.like (pair_quiet a d s) (pair_quiet b e t) (made_pair_related n ps a b d e s t i.like h k)

-- ---- jobs

module _ {bounds : Bounds} {compiler : Compiler} (c : Comparison) (cr : CompilerRespects bounds compiler c) (one : OneRunFacts) (two : TwoRunsFacts bounds) (ask ask' : Ask) (ga : AskGoes ask) (gb : AskGoes ask') (respects : Respects bounds c ask ask') where
  abbrev rec : Rec
  rec = by compiler ask

  abbrev rec' : Rec
  rec' = by compiler ask'

  gl : RecGoes (by compiler ask)
  gl = rec_goes compiler c cr ask ga

  gr : RecGoes (by compiler ask')
  gr = rec_goes compiler c cr ask' gb

  -- ---- application

  counted_ends : (n : Names) (ps : List EntryPlace) (b d : Bool) (v w : Value) (s t : State) (f g : State → Outcome Value) → b ≡ d → SameValue n v w → BelowSides bounds c n ps s t → (d ≡ true → EndTogether bounds SameValue n ps (f s) (g t)) → EndTogether bounds SameValue n ps (counted rec b v s f) (counted rec' d w t g)
  counted_ends n ps true true v w s t f g e r i h = h refl
  counted_ends n ps false false v w s t f g e r i h = fail_ends c n ps wrong_count v w s t i r
  counted_ends n ps true false v w s t f g e r i h = absurd (cc)
  counted_ends n ps false true v w s t f g e r i h = absurd (cc)

  held_ends : (n : Names) (ps : List EntryPlace) (name : Option ℕ) (l m : Levels) (h g : ℕ) (p q : Option Pointer) (a b : Held) (xs ys : List Value) (s t : State) → Roomier bounds l m → Linked n.functions h g → Maybe (SamePointer n) p q → SameHeld n a b → Values n xs ys → BelowSides bounds c n ps s t → IsOfState (Run name m g q b ys) t
      → EndTogether bounds SameValue n ps (held_applied rec name l h p a xs s) (held_applied rec' name m g q b ys t)
  held_ends n ps name l m h g p q a b xs ys s t r x pq ab vv i e = turn_ends c n ps s t _ _ i (λ u v gu gv i.
      let u' : State = compiler.requests_taken name u in
      let v' : State = compiler.requests_taken name v in
      let j : BelowSides bounds c n ps u' v' = taken_sides c cr n ps name u v i in
      deeper_ends c n ps u' v' _ _ j (λ l. ga.goes (Run name l h p a xs) u') (λ m. gb.goes (Run name m g q b ys) v')
      (λ l m r. respects n ps (Run name l h p a xs) u' (Run name m g q b ys) v' (starts c n ps _ _ u' v' (same_run name l m h g p q a b xs ys r x pq ab vv) j j.places
      (of_state_stays (Run name m g q b ys) t v' (goes_trans t v v' gv (cr.taken_goes name v)) e))) 1 l m r)

  pub form_ends : (n : Names) (ps : List EntryPlace) (l m : Levels) (f g : ℕ) (x y : Function) (s t : State) → Roomier bounds l m → Linked n.functions f g → SameFunction n x y → BelowSides bounds c n ps s t → EndTogether bounds SameValue n ps (form_evaluated rec l f x s) (form_evaluated rec' m g y t)
  form_ends n ps l m f g _ _ s t r x (same_held_function _ _ (same_held kind parameters kept a b h)) i =
      let j : CleanSides bounds c n (BothMark ∷ ps) (with_mark None s) (with_mark None t) = mark_sides c n ps None None s t nothing i in
      let h' : Here = record { levels = l; chain = longest_chain; kept = kept; holder = f } in
      let g' : Here = record { levels = m; chain = longest_chain; kept = kept; holder = g } in
      restored_ends n ps s t _ _ i.like
      (record { places = BothMark ∷ ps; above = over BothMark ps level; ends = respects n (BothMark ∷ ps) (In h' Inside a) (with_mark None s) (In g' Inside b) (with_mark None t) (starts c n (BothMark ∷ ps) _ _ _ _ (same_in h' g' Inside a b (same_here longest_chain kept l m f g r x) h) j j.places tt) })
  form_ends n ps l m f g _ _ s t r x (same_special form) i = done_here c n ps nil_value_of_state nil_value_of_state s t (same_id 0) i
  form_ends n ps l m f g _ _ s t r x (same_native native) i = done_here c n ps nil_value_of_state nil_value_of_state s t (same_id 0) i

  function_now : {P : List EntryPlace → Type 0} (n : Names) (ps : List EntryPlace) (f g : ℕ) (s t : State) → Linked n.functions f g → Sides bounds c P n ps s t → SameFunction n (function_at s (pointer_to f)) (function_at t (pointer_to g))
  function_now n ps f g s t h i = function_same n ps s t (pointer_to f) (pointer_to g) i.like (whole_pointer n f g h)

  held_form_ends : (n : Names) (ps : List EntryPlace) (l m : Levels) (u v : Value) (s t : State) → Roomier bounds l m → SameValue n u v → BelowSides bounds c n ps s t → EndTogether bounds SameNumber n ps (hold_form l u s) (hold_form m v t)
  held_form_ends n ps l m u v s t r h i = quiet_ends n ps s t _ _ i.like (two.hold_form_quiet l u s) (two.hold_form_quiet m v t) (two.hold_form_ n ps l m u v s t r h i.like)

  evaluated_ends : (n : Names) (ps : List EntryPlace) (l m : Levels) (u v : Value) (s t : State) → Roomier bounds l m → SameValue n u v → BelowSides bounds c n ps s t → EndTogether bounds SameValue n ps (evaluated rec l u s) (evaluated rec' m v t)
  evaluated_ends n ps l m u v s t r h i = turn_ends c n ps s t _ _ i (λ s t x y i.
      then_ends c n ps s t _ _ _ _ i (one.hold_form_goes l u s) (one.hold_form_goes m v t) (λ f s. one.form_goes rec gl l f _ s) (λ f s. one.form_goes rec' gr m f _ s) (held_form_ends n ps l m u v s t r h i)
      (λ k f g s t w e i. form_ends k ps l m f g _ _ s t r e.linked (function_now k ps f g s t e.linked i) i))

  list_ends : (n : Names) (ps : List EntryPlace) (l m : Levels) (f g : ℕ) (x y : Function) (xs ys : List Value) (s t : State) → Roomier bounds l m → Linked n.functions f g → SameFunction n x y → Values n xs ys → BelowSides bounds c n ps s t → EndTogether bounds SameValue n ps (list_applied rec l f x xs s) (list_applied rec' m g y ys t)
  list_ends n ps l m f g _ _ xs ys s t r i (same_held_function _ _ (same_held kind parameters kept a b h)) k e =
      counted_ends n ps _ _ _ _ s t _ _ (ap (λ j. length parameters == j) (each_length (SameValue n) xs ys k)) (pointer_value_same n _ _ (whole_pointer n f g i)) e
      (λ y. held_ends n ps None l m f g None None _ _ xs ys s t r i nothing (same_held kind parameters kept a b h) k e tt)
  list_ends n ps l m f g _ _ xs ys s t r i (same_special form) k e = done_here c n ps nil_value_of_state nil_value_of_state s t (same_id 0) e
  list_ends n ps l m f g _ _ xs ys s t r i (same_native native) k e = done_here c n ps nil_value_of_state nil_value_of_state s t (same_id 0) e

  reading_sides : (n : Names) (ps : List EntryPlace) (v w : Value) (s t : State) → BelowSides bounds c n ps s t → BelowSides bounds c n ps (reading_object v s) (reading_object w t)
  reading_sides n ps v w s t i = record { like = reading_like n ps v w s t i.like; places = i.places; ready = c.stay s t _ _ (one.reading_goes _ s) (one.reading_goes _ t) i.ready }

  pair_read_sides : (n : Names) (ps : List EntryPlace) (v w : Value) (s t : State) → BelowSides bounds c n ps s t → BelowSides bounds c n ps (reading_pair v s) (reading_pair w t)
  pair_read_sides n ps v w s t i = record { like = pair_read_like n ps v w s t i.like; places = i.places; ready = c.stay s t _ _ (one.reading_goes _ s) (one.reading_goes _ t) i.ready }

  lambda_ends : (n : Names) (ps : List EntryPlace) (l m : Levels) (o p : Option (Value × Value)) (s t : State) → Roomier bounds l m → Maybe (SameParts n) o p → BelowSides bounds c n ps s t → EndTogether bounds SameNumber n ps (hold_lambda Expr l o s) (hold_lambda Expr m p t)
  lambda_ends n ps l m o p s t r h i = quiet_ends n ps s t _ _ i.like (two.hold_lambda_quiet Expr l o s) (two.hold_lambda_quiet Expr m p t) (two.hold_lambda_ n ps Expr l m o p s t r h i.like)

  applied_to_ends : (n : Names) (ps : List EntryPlace) (l m : Levels) (x y : Target) (xs ys : List Value) (s t : State) → Roomier bounds l m → SameTarget n x y → Values n xs ys → BelowSides bounds c n ps s t → EndTogether bounds SameValue n ps (applied_to rec l x xs s) (applied_to rec' m y ys t)
  applied_to_ends n ps l m _ _ xs ys s t r (same_function name p q h) k e = respects n ps (Call_ name l p xs) s (Call_ name m q ys) t (starts c n ps _ _ s t (same_call name l m p q xs ys r h k) e e.places tt)
  applied_to_ends n ps l m _ _ xs ys s t r (same_lambda v w h) k e =
      let i : BelowSides bounds c n ps (reading_object v s) (reading_object w t) = reading_sides n ps v w s t e in
      then_ends c n ps (reading_object v s) (reading_object w t) _ _ _ _ i (one.hold_lambda_goes Expr l (pair_at s v) (reading_object v s)) (one.hold_lambda_goes Expr m (pair_at t w) (reading_object w t)) (λ f s. one.list_goes rec gl l f _ xs s) (λ f s. one.list_goes rec' gr m f _ ys s)
      (lambda_ends n ps l m (pair_at s v) (pair_at t w) _ _ r (pair_same n ps s t v w e.like h) i)
      (λ k' f g s t w j i. list_ends k' ps l m f g _ _ xs ys s t r j.linked (function_now k' ps f g s t j.linked i) (values_grow n k' xs ys k w) i)
  applied_to_ends n ps l m _ _ xs ys s t r same_undefined k e = done_here c n ps nil_value_of_state nil_value_of_state s t (same_id 0) e
  applied_to_ends n ps l m _ _ xs ys s t r same_wrong k e = done_here c n ps nil_value_of_state nil_value_of_state s t (same_id 0) e

  abbrev with_list : Rec → Levels → Target → Value → State → Outcome Value
  with_list rec levels target l s =
      then_do (elements_walked l s) (λ walked s.
      with_arguments (proper walked.end (Some walked.result)) l s (λ vs s.
      deeper (length vs / 8) levels s (λ levels. applied_to rec levels target vs s)))

  with_list_goes : (rec : Rec) → RecGoes rec → (l : Levels) (x : Target) (u : Value) (w : Walked (List Value)) (s : State)
      → GoesOn s (with_arguments (proper w.end (Some w.result)) u s (λ vs s. deeper (length vs / 8) l s (λ levels. applied_to rec levels x vs s)))
  with_list_goes rec g l x u w s =
      arguments_goes c one (proper w.end (Some w.result)) u s (λ vs s. deeper (length vs / 8) l s (λ levels. applied_to rec levels x vs s))
      (λ vs. deeper_goes (length vs / 8) l s (λ levels. applied_to rec levels x vs s) (λ l. one.applied_to_goes rec g l x vs s))

  list_target_ends : (n : Names) (ps : List EntryPlace) (l m : Levels) (x y : Target) (u v : Value) (s t : State) → Roomier bounds l m → SameTarget n x y → SameValue n u v → BelowSides bounds c n ps s t → EndTogether bounds SameValue n ps (with_list rec l x u s) (with_list rec' m y v t)
  list_target_ends n ps l m x y u v s t r a k e =
      then_ends c n ps s t _ _ _ _ e (one.elements_goes u s) (one.elements_goes v t)
      (λ walked s. with_list_goes rec gl l x u walked s) (λ walked s. with_list_goes rec' gr m y v walked s)
      (quiet_ends n ps s t _ _ e.like (two.elements_quiet u s) (two.elements_quiet v t) (two.elements_ n ps u v s t k e.like))
      (λ k' w z s t g h i. at k' w z s t g h i)
    where
      at : (k' : Names) (w z : Walked (List Value)) (s t : State) → Grows n k' → SameList k' w z → BelowSides bounds c k' ps s t
          → EndTogether bounds SameValue k' ps (with_arguments (proper w.end (Some w.result)) u s (λ vs s. deeper (length vs / 8) l s (λ levels. applied_to rec levels x vs s)))
          (with_arguments (proper z.end (Some z.result)) v t (λ vs s. deeper (length vs / 8) m s (λ levels. applied_to rec' levels y vs s)))
      at k' _ _ s t g (same_walked xs ys f h vv xx) i = proper_ends c one k' ps f h xs ys u v s t _ _ xx (value_grows n k' u v k g) i
          (rw (← each_length (SameValue k') xs ys vv) (deeper_ends c k' ps s t _ _ i (λ l. one.applied_to_goes rec gl l x xs s) (λ l. one.applied_to_goes rec' gr l y ys t)
          (λ l m r. applied_to_ends k' ps l m x y xs ys s t r (target_grows n k' x y a g) vv i) (length xs / 8) l m r))

  target_ends : (n : Names) (ps : List EntryPlace) (l m : Levels) (x y : Target) (f g u v : Value) (s t : State) → Roomier bounds l m → SameTarget n x y → SameValue n f g → SameValue n u v → BelowSides bounds c n ps s t → EndTogether bounds SameValue n ps (apply_target rec l x f u s) (apply_target rec' m y g v t)
  target_ends n ps l m _ _ f g u v s t r same_undefined h k e = fail_ends c n ps undefined f g s t e h
  target_ends n ps l m _ _ f g u v s t r same_wrong h k e = fail_ends c n ps wrong_type f g s t e h
  target_ends n ps l m _ _ f g u v s t r (same_function name p q a) h k e = list_target_ends n ps l m _ _ u v s t r (same_function name p q a) k e
  target_ends n ps l m _ _ f g u v s t r (same_lambda x y a) h k e = list_target_ends n ps l m _ _ u v s t r (same_lambda x y a) k e

  apply_ends : (n : Names) (ps : List EntryPlace) (l m : Levels) (f g u v : Value) (s t : State) → Roomier bounds l m → SameValue n f g → SameValue n u v → BelowSides bounds c n ps s t → EndTogether bounds SameValue n ps (apply rec l f u s) (apply rec' m g v t)
  apply_ends n ps l m f g u v s t r h k e = turn_ends c n ps s t _ _ e (λ s t x y i. target_ends n ps l m _ _ f g u v _ _ r (target_same n ps f g s t i.like h) h k (pair_read_sides n ps f g s t i))

  -- ---- ERRORSET

  unless_nil_ends : (n : Names) (ps : List EntryPlace) (l m : Levels) (u v x y : Value) (s t : State) → Roomier bounds l m → SameValue n u v → SameValue n x y → BelowSides bounds c n ps s t → EndTogether bounds {A = Unit {0}} Is n ps (print_unless_nil l u x s) (print_unless_nil m v y t)
  unless_nil_ends n ps l m u v x y s t q h k i = choose_ends c n ps _ _ s t _ _ _ _ (nil_same n u v h) (done_here c n ps _ _ s t (is _) i) (two.print_error_ n ps l m x y s t q k i.like)

  unless_nil_goes : (l : Levels) (u x : Value) (s : State) → GoesOn s (print_unless_nil l u x s)
  unless_nil_goes l u x s = choose_goes (is_nil u) s _ _ (record { goes = goes_refl s }) (one.print_error_goes l x s)

  value_noted : (s : State) → Goes s (note_value s)
  value_noted s = one.note_goes (codes "errorset value") s

  error_noted : (z : ℤ) (s : State) → Goes s (note_error z s)
  error_noted z s = one.note_goes (codes "errorset " ++ signed_decimal z) s

  caught_context : (l : Levels) (u : Value) → Context (λ o. caught l u o)
  caught_context l u = record { stops = λ why s. refl; goes = goes }
    where
      goes : (o : Outcome Value) → Goes (state_of o) (state_of (caught l u o))
      goes (Done v s) = (then_goes s (made_pair v nil_value_of_state s) (λ list s. Done list (note_value s)) (one.pair_goes v nil_value_of_state s) (λ list s. record { goes = value_noted s })).goes
      goes (Failed n m s) = (then_goes s (print_unless_nil l u m s) (λ done s. Done (Int n) (note_error n s)) (unless_nil_goes l u m s) (λ done s. record { goes = error_noted n s })).goes
      goes (Went x s) = goes_refl s
      goes (Returned v s) = goes_refl s
      goes (Stopped why s) = goes_refl s

  caught_ends : (n : Names) (ps : List EntryPlace) (l m : Levels) (u v : Value) (s t : State) (o p : Outcome Value) → Roomier bounds l m → SameValue n u v → BelowSides bounds c n ps s t → GoesOn s o → GoesOn t p → EndTogether bounds SameValue n ps o p → EndTogether bounds SameValue n ps (caught l u o) (caught m v p)
  caught_ends n ps l m u v s t o p q h i y w (done k a b s' t' g r e) =
      let j : BelowSides bounds c k ps s' t' = sides_on c n k ps s t s' t' i y.goes w.goes e in
      further_ends n k ps _ _ g (then_ends c k ps s' t' _ _ _ _ j (one.pair_goes a nil_value_of_state s') (one.pair_goes b nil_value_of_state t') (λ list s. record { goes = value_noted s }) (λ list s. record { goes = value_noted s }) (pair_ends c one k ps a b nil_value_of_state nil_value_of_state s' t' r (same_id 0) j)
      (λ k' a b s t g r i. done k' a b _ _ (grows_refl k') r (note_like k' ps (codes "errorset value") s t i.like)))
  caught_ends n ps l m u v s t o p q h i y w (failed k z a b s' t' g r e) =
      let j : BelowSides bounds c k ps s' t' = sides_on c n k ps s t s' t' i y.goes w.goes e in
      further_ends n k ps _ _ g (then_ends c k ps s' t' _ _ _ _ j (unless_nil_goes l u a s') (unless_nil_goes m v b t') (λ list s. record { goes = error_noted z s }) (λ list s. record { goes = error_noted z s }) (unless_nil_ends k ps l m u v a b s' t' q (value_grows n k u v h g) r j)
      (λ k' a b s t g r i. done k' _ _ _ _ (grows_refl k') (same_int z) (note_like k' ps (codes "errorset " ++ signed_decimal z) s t i.like)))
  caught_ends n ps l m u v s t o p q h i y w (went k x s' t' g e) = went k x s' t' g e
  caught_ends n ps l m u v s t o p q h i y w (returned k a b s' t' g r e) = returned k a b s' t' g r e
  caught_ends n ps l m u v s t o p q h i y w (stopped why s' t' e) = stopped why s' t' e
  caught_ends n ps l m u v s t o p q h i y w (parted _ _ a) = parted _ _ (parted_in (λ o. caught l u o) (λ o. caught m v o) o p (caught_context l u) (caught_context m v) (w.goes.within (c.event s t i.ready)) a)

  caught_goes : (rec : Rec) → RecGoes rec → (l : Levels) (x : Value) (f : ℕ) (s : State) → GoesOn s (caught l x (form_evaluated rec l f (function_at s (pointer_to f)) s))
  caught_goes rec g l x f s = let o : Outcome Value = form_evaluated rec l f (function_at s (pointer_to f)) s in goes_to s o (caught l x o) (one.form_goes rec g l f (function_at s (pointer_to f)) s) ((caught_context l x).goes o)

  errorset_ends : (n : Names) (ps : List EntryPlace) (l m : Levels) (u v x y : Value) (s t : State) → Roomier bounds l m → SameValue n u v → SameValue n x y → BelowSides bounds c n ps s t → EndTogether bounds SameValue n ps (errorset rec l u x s) (errorset rec' m v y t)
  errorset_ends n ps l m u v x y s t r h k i = turn_ends c n ps s t _ _ i (λ s t a b i.
      then_ends c n ps s t _ _ _ _ i (one.hold_form_goes l u s) (one.hold_form_goes m v t)
      (λ f s. caught_goes rec gl l x f s) (λ f s. caught_goes rec' gr m y f s)
      (held_form_ends n ps l m u v s t r h i)
      (λ k' f g s t w e i. caught_ends k' ps l m x y s t _ _ r (value_grows n k' x y k w) i (one.form_goes rec gl l f _ s) (one.form_goes rec' gr m g _ t) (form_ends k' ps l m f g _ _ s t r e.linked (function_now k' ps f g s t e.linked i) i)))

  -- ---- natives and names

  native_ends : (n : Names) (ps : List EntryPlace) (o : Native) (l m : Levels) (xs ys : List Value) (s t : State) → Roomier bounds l m → Values n xs ys → BelowSides bounds c n ps s t → EndTogether bounds SameValue n ps (native o l xs s) (native o m ys t)
  native_ends n ps o l m xs ys s t r h i = at (may_part o) refl
    where
      at : (b : Bool) → may_part o ≡ b → EndTogether bounds SameValue n ps (native o l xs s) (native o m ys t)
      at true e = two.native_parts n ps o l m xs ys s t e r h i.like
      at false e = quiet_ends n ps s t _ _ i.like (two.native_quiet o l xs s e) (two.native_quiet o m ys t e) (two.native_ n ps o l m xs ys s t e r h i.like)

  defined_sides : (n : Names) (ps : List EntryPlace) (v w : Value) (s t : State) → SameValue n v w → BelowSides bounds c n ps s t → BelowSides bounds c n ps (compiler.defined v s) (compiler.defined w t)
  defined_sides n ps v w s t r i = record { like = cr.defined n ps v w s t r i.like; places = i.places; ready = c.stay s t _ _ (cr.defined_goes v s) (cr.defined_goes w t) i.ready }

  native_applied_ends : (n : Names) (ps : List EntryPlace) (o : Native) (l m : Levels) (xs ys : List Value) (s t : State) → Roomier bounds l m → Values n xs ys → BelowSides bounds c n ps s t → EndTogether bounds SameValue n ps (native_applied rec o l xs s) (native_applied rec' o m ys t)
  native_applied_ends n ps Eval l m xs ys s t r h e = evaluated_ends n ps l m _ _ s t r (argument_same n xs ys 0 h) e
  native_applied_ends n ps Errorset l m xs ys s t r h e = errorset_ends n ps l m _ _ _ _ s t r (argument_same n xs ys 0 h) (argument_same n xs ys 1 h) e
  native_applied_ends n ps Apply l m xs ys s t r h e = apply_ends n ps l m _ _ _ _ s t r (argument_same n xs ys 0 h) (argument_same n xs ys 1 h) e
  native_applied_ends n ps Putd l m xs ys s t r h e =
      then_ends c n ps s t (native Putd l xs s) (native Putd m ys t) (λ v s. Done v (compiler.defined v s)) (λ v s. Done v (compiler.defined v s)) e (one.native_goes Putd l xs s) (one.native_goes Putd m ys t) (λ v s. record { goes = cr.defined_goes v s }) (λ v s. record { goes = cr.defined_goes v s })
      (native_ends n ps Putd l m xs ys s t r h e) (λ k v w s t g r i. done_here c k ps v w _ _ r (defined_sides k ps v w s t r i))
  native_applied_ends n ps Compile l m xs ys s t r h e = cr.names n ps xs ys s t h e
  native_applied_ends n ps Faslout l m xs ys s t r h e = cr.writes n ps xs ys s t h e
  native_applied_ends n ps Load l m xs ys s t r h e = cr.loads n ps xs ys s t h e
  native_applied_ends n ps other l m xs ys s t r h e = native_ends n ps other l m xs ys s t r h e

  called_as_same : (n : Names) (name : Option ℕ) (p q : Pointer) → SamePointer n p q → SameValue n (called_as rec name p) (called_as rec' name q)
  called_as_same n None p q h = pointer_value_same n p q h
  called_as_same n (Some i) p q h = same_id i

  length_is : (i j k : ℕ) → j ≡ k → (i == j) ≡ true → j ≡ i
  length_is i j k e x = grind (arith, nat_tests, x)

  function_ends : (n : Names) (ps : List EntryPlace) (name : Option ℕ) (l m : Levels) (p q : Pointer) (x y : Function) (xs ys : List Value) (s t : State) → function_at t q ≡ y → Roomier bounds l m → SamePointer n p q → SameFunction n x y → Values n xs ys → BelowSides bounds c n ps s t → EndTogether bounds SameValue n ps (function_applied rec name l p x xs s) (function_applied rec' name m q y ys t)
  function_ends n ps name l m p q _ _ xs ys s t e r i (same_special form) k side = fail_ends c n ps wrong_type _ _ s t side (called_as_same n name p q i)
  function_ends n ps name l m p q _ _ xs ys s t e r i (same_native o) k side = counted_ends n ps _ _ _ _ s t _ _ (ap (λ j. arguments_of o == j) (each_length (SameValue n) xs ys k)) (called_as_same n name p q i) side (λ y. native_applied_ends n ps o l m xs ys s t r k side)
  function_ends n ps name l m p q _ _ xs ys s t e r i (same_held_function _ _ (same_held kind parameters kept a b h)) k side =
      counted_ends n ps _ _ _ _ s t _ _ (ap (λ j. length parameters == j) (each_length (SameValue n) xs ys k)) (called_as_same n name p q i) side
      (λ y. held_ends n ps name l m p.function q.function (Some p) (Some q) _ _ xs ys s t r (pointer_linked n p q i) (just p q i) (same_held kind parameters kept a b h) k side (e, refl, length_is (length parameters) (length ys) (length ys) refl y))

  pub applied_ends : (n : Names) (ps : List EntryPlace) (name : Option ℕ) (l m : Levels) (p q : Pointer) (xs ys : List Value) (s t : State) → Roomier bounds l m → SamePointer n p q → Values n xs ys → BelowSides bounds c n ps s t → EndTogether bounds SameValue n ps (applied rec name l p xs s) (applied rec' name m q ys t)
  applied_ends n ps name l m p q xs ys s t r i k side = function_ends n ps name l m p q _ _ xs ys s t refl r i (function_same n ps s t p q side.like i) k side

  name_ends : (n : Names) (ps : List EntryPlace) (i : ℕ) (l m : Levels) (o p : Option Definition) (xs ys : List Value) (s t : State) → Roomier bounds l m → Maybe (SameDefinition n) o p → Values n xs ys → BelowSides bounds c n ps s t → EndTogether bounds SameValue n ps (name_applied rec i l o xs s) (name_applied rec' i m p ys t)
  name_ends n ps i l m _ _ xs ys s t r nothing k e = fail_ends c n ps undefined _ _ s t e (same_id i)
  name_ends n ps i l m _ _ xs ys s t r (just _ _ (same_definition kind p q h)) k e = applied_ends n ps (Some i) l m p q xs ys s t r h k e

  pub called_ends : (n : Names) (ps : List EntryPlace) (i : ℕ) (l m : Levels) (xs ys : List Value) (s t : State) → Roomier bounds l m → Values n xs ys → BelowSides bounds c n ps s t → EndTogether bounds SameValue n ps (called rec i l xs s) (called rec' i m ys t)
  called_ends n ps i l m xs ys s t r k e = name_ends n ps i l m _ _ xs ys s t r (definition_same n _ _ (symbol_same n ps s t i e.like)) k e

  -- ---- FEXPRs and macros

  pub copied_ends : (n : Names) (ps : List EntryPlace) (l m : Levels) (a b : Tree) (s t : State) → Roomier bounds l m → SameTree n a b → BelowSides bounds c n ps s t → EndTogether bounds SameValue n ps (copied l a s) (copied m b t)
  copied_ends n ps l m a b s t r h i = quiet_ends n ps s t _ _ i.like (two.copied_quiet l a s) (two.copied_quiet m b t) (two.copied_ n ps l m a b s t r h i.like)

  pub fexpr_ends : (n : Names) (ps : List EntryPlace) (i : ℕ) (here : Here) (m : Levels) (h : ℕ) (a b : Tree) (s t : State) → Roomier bounds here.levels m → SameTree n a b → BelowSides bounds c n ps s t → EndTogether bounds SameValue n ps (fexpr_called rec i here a s) (fexpr_called rec' i (record here { levels = m; holder = h }) b t)
  fexpr_ends n ps i here m h a b s t r x e =
      then_ends c n ps s t _ _ _ _ e (one.copied_goes here.levels a s) (one.copied_goes m b t) (λ list s. one.called_goes rec gl i here.levels (list ∷ []) s) (λ list s. one.called_goes rec' gr i m (list ∷ []) s) (copied_ends n ps here.levels m a b s t r x e)
      (λ k v w s t g r' i'. called_ends k ps i here.levels m _ _ s t r (more v w [] [] r' end) i')

  expansion_ends : (n : Names) (ps : List EntryPlace) (i : ℕ) (here : Here) (m : Levels) (h : ℕ) (a b : Tree) (s t : State) → Roomier bounds here.levels m → SameTree n a b → BelowSides bounds c n ps s t → EndTogether bounds SameNumber n ps (expansion_of rec i here a s) (expansion_of rec' i (record here { levels = m; holder = h }) b t)
  expansion_ends n ps i here m h a b s t r x side =
      let j : BelowSides bounds c n ps (with_expansion i s) (with_expansion i t) = opened_sides c n ps i s t side in
      closed_ends c n ps _ _ (λ k u v l. closed_like k ps u v l) ((inner m b (with_expansion i t)).goes.within (c.event _ _ j.ready))
      (then_ends c n ps (with_expansion i s) (with_expansion i t) _ _ _ _ j (one.copied_goes here.levels a (with_expansion i s)) (one.copied_goes m b (with_expansion i t)) (λ list s. rest rec gl here.levels list s) (λ list s. rest rec' gr m list s) (copied_ends n ps here.levels m a b _ _ r x j)
      (λ k v w s t g r' i'. then_ends c k ps s t _ _ _ _ i' (one.called_goes rec gl i here.levels (v ∷ []) s) (one.called_goes rec' gr i m (w ∷ []) t) (λ v s. one.hold_expansion_goes here.levels here.kept v s) (λ v s. one.hold_expansion_goes m here.kept v s) (called_ends k ps i here.levels m _ _ s t r (more v w [] [] r' end) i')
      (λ k v w s t g r' i'. quiet_ends k ps s t _ _ i'.like (two.hold_expansion_quiet here.levels here.kept v s) (two.hold_expansion_quiet m here.kept w t) (two.hold_expansion_ k ps here.levels m here.kept v w s t r r' i'.like))))
    where
      rest : (rec : Rec) → RecGoes rec → (l : Levels) (list : Value) (s : State) → GoesOn s (then_do (called rec i l (list ∷ []) s) (λ v s. hold_expansion l here.kept v s))
      rest rec g l list s = then_goes s _ _ (one.called_goes rec g i l (list ∷ []) s) (λ v s. one.hold_expansion_goes l here.kept v s)

      inner : (l : Levels) (b : Tree) (s : State) → GoesOn s (then_do (copied l b s) (λ list s. then_do (called rec' i l (list ∷ []) s) (λ v s. hold_expansion l here.kept v s)))
      inner l b s = then_goes s _ _ (one.copied_goes l b s) (λ list s. rest rec' gr l list s)

  expanded_ends : (n : Names) (ps : List EntryPlace) (here : Here) (m : Levels) (position : Position) (f g : ℕ) (x y : Function) (s t : State) → Roomier bounds here.levels m → Linked n.functions f g → SameFunction n x y → CleanSides bounds c n ps s t → (h : ℕ) → EndTogether bounds SameValue n ps (expanded_body rec here position f x s) (expanded_body rec' (record here { levels = m; holder = h }) position g y t)
  expanded_ends n ps here m position f g _ _ s t r x (same_held_function _ _ (same_held kind parameters kept a b y)) i h =
      respects n ps (In (record here { holder = f }) position a) s (In (record here { levels = m; holder = g }) position b) t (starts c n ps _ _ s t (same_in (record here { holder = f }) (record here { levels = m; holder = g }) position a b (same_here here.chain here.kept here.levels m f g r x) y) i i.places tt)
  expanded_ends n ps here m position f g _ _ s t r x (same_special form) i h = done_here c n ps nil_value_of_state nil_value_of_state s t (same_id 0) i
  expanded_ends n ps here m position f g _ _ s t r x (same_native native) i h = done_here c n ps nil_value_of_state nil_value_of_state s t (same_id 0) i

  pub macro_ends : (n : Names) (ps : List EntryPlace) (i : ℕ) (here : Here) (m : Levels) (h : ℕ) (position : Position) (a b : Tree) (s t : State) → Roomier bounds here.levels m → SameTree n a b → CleanSides bounds c n ps s t → EndTogether bounds SameValue n ps (macro_called rec i here position a s) (macro_called rec' i (record here { levels = m; holder = h }) position b t)
  macro_ends n ps i here m h position a b s t r x side =
      then_ends c n ps s t _ _ _ _ side (one.expansion_goes rec gl i here a s) (one.expansion_goes rec' gr i (record here { levels = m; holder = h }) b t) (λ f s. one.expanded_goes rec gl here position f _ s) (λ f s. one.expanded_goes rec' gr (record here { levels = m; holder = h }) position f _ s) (expansion_ends n ps i here m h a b s t r x (begun_sides c n ps s t side))
      (λ k f g s t w e i'. expanded_ends k ps here m position f g _ _ s t r e.linked (function_now k ps f g s t e.linked i') i' h)

  pub chain_ends : (n : Names) (ps : List EntryPlace) (chain i : ℕ) (s t : State) (f g : ℕ → State → Outcome Value) → CleanSides bounds c n ps s t → ((c : ℕ) → EndTogether bounds SameValue n ps (f c s) (g c t)) → EndTogether bounds SameValue n ps (in_chain rec chain i s f) (in_chain rec' chain i t g)
  chain_ends n ps zero i s t f g e h = stopped_here c n ps (Expands i) s t tt e
  chain_ends n ps (suc j) i s t f g e h = h j

  -- ---- PROG

  jumped_ends : (n : Names) (ps : List EntryPlace) (here : Here) (m : Levels) (h : ℕ) (a b : Tree) (x : ℕ) (o p : Option Tree) (s t : State) → Roomier bounds here.levels m → Linked n.functions here.holder h → SameTree n a b → Maybe (SameTree n) o p → CleanSides bounds c n ps s t → EndTogether bounds SameValue n ps (jumped rec here a x o s) (jumped rec' (record here { levels = m; holder = h }) b x p t)
  jumped_ends n ps here m h a b x _ _ s t r z y (just u v k) i = turn_ends c n ps s t _ _ i (λ s t p q i. respects n ps (From here a u) s (From (record here { levels = m; holder = h }) b v) t (starts c n ps _ _ s t (same_from here (record here { levels = m; holder = h }) a b u v (same_here here.chain here.kept here.levels m here.holder h r z) y k) i i.places tt))
  jumped_ends n ps here m h a b x _ _ s t r z y nothing i = fail_ends c n ps misplaced _ _ s t i (same_id x)

  prog_context : (rec : Rec) → RecGoes rec → (here : Here) (whole : Tree) (f : State → Outcome Value) → ((s : State) → GoesOn s (f s)) → Context (λ o. in_prog rec here whole f o)
  prog_context rec g here whole f h = record { stops = λ why s. refl; goes = goes }
    where
      goes : (o : Outcome Value) → Goes (state_of o) (state_of (in_prog rec here whole f o))
      goes (Done v s) = (h s).goes
      goes (Failed n m s) = goes_refl s
      goes (Went x s) = (one.jumped_goes rec g here whole x (after_label x whole) s).goes
      goes (Returned v s) = goes_refl s
      goes (Stopped why s) = goes_refl s

  pub in_prog_ends : (n : Names) (ps : List EntryPlace) (here : Here) (m : Levels) (h : ℕ) (a b : Tree) (f g : State → Outcome Value) (s t : State) (o p : Outcome Value) → Roomier bounds here.levels m → Linked n.functions here.holder h → SameTree n a b → CleanSides bounds c n ps s t → GoesOn s o → GoesOn t p → ((s : State) → GoesOn s (f s)) → ((s : State) → GoesOn s (g s)) → EndTogether bounds SameValue n ps o p
      → ((k : Names) (s t : State) → Grows n k → CleanSides bounds c k ps s t → EndTogether bounds SameValue k ps (f s) (g t)) → EndTogether bounds SameValue n ps (in_prog rec here a f o) (in_prog rec' (record here { levels = m; holder = h }) b g p)
  in_prog_ends n ps here m h a b f g s t _ _ r z y i d w fx gx (done k u v s' t' j x e) next = further_ends n k ps _ _ j (next k s' t' j (sides_on c n k ps s t s' t' i d.goes w.goes e))
  in_prog_ends n ps here m h a b f g s t _ _ r z y i d w fx gx (failed k q u v s' t' j x e) next = failed k q u v s' t' j x e
  in_prog_ends n ps here m h a b f g s t _ _ r z y i d w fx gx (went k x s' t' j e) next = further_ends n k ps _ _ j (jumped_ends k ps here m h a b x _ _ s' t' r (j.functions _ _ z) (tree_grows n k a b y j) (label_same k x a b (tree_grows n k a b y j)) (sides_on c n k ps s t s' t' i d.goes w.goes e))
  in_prog_ends n ps here m h a b f g s t _ _ r z y i d w fx gx (returned k u v s' t' j x e) next = done k u v s' t' j x e
  in_prog_ends n ps here m h a b f g s t _ _ r z y i d w fx gx (stopped why s' t' e) next = stopped why s' t' e
  in_prog_ends n ps here m h a b f g s t o p r z y i d w fx gx (parted _ _ q) next =
      parted _ _ (parted_in (λ o. in_prog rec here a f o) (λ o. in_prog rec' (record here { levels = m; holder = h }) b g o) o p (prog_context rec gl here a f fx) (prog_context rec' gr (record here { levels = m; holder = h }) b g gx) (w.goes.within (c.event s t i.ready)) q)

  -- ---- definitions

  pub own_ends : {P : List EntryPlace → Type 0} (n : Names) (ps : List EntryPlace) (i : ℕ) (s t : State) (f g : State → Outcome Value) → Sides bounds c P n ps s t → EndTogether bounds SameValue n ps (f s) (g t) → EndTogether bounds SameValue n ps (own_name i s f) (own_name i t g)
  own_ends n ps i s t f g e h = choose_ends c n ps (is_system i) (is_system i) s t _ _ _ _ refl (fail_ends c n ps system_name _ _ s t e (same_id i)) h

  define_then : (v : Value) (i : ℕ) (kind : Kind) (p : Pointer) (s : State) → Goes s (compiler.defined v (define i kind p s))
  define_then v i kind p s = goes_trans s (define i kind p s) _ (one.define_goes i kind p s) (cr.defined_goes v (define i kind p s))

  pub defined_ends : {P : List EntryPlace → Type 0} (n : Names) (ps : List EntryPlace) (form : Special) (i : ℕ) (s t : State) (o p : Outcome ℕ) → Sides bounds c P n ps s t → GoesOn s o → GoesOn t p → EndTogether bounds SameNumber n ps o p → EndTogether bounds SameValue n ps (function_defined rec form i o) (function_defined rec' form i p)
  defined_ends n ps form i s t o p side d w h =
      then_ends c n ps s t o p (λ f s. Done (Id i) (compiler.defined (Id i) (define i (kind_of_definition form) (pointer_to f) s))) (λ f s. Done (Id i) (compiler.defined (Id i) (define i (kind_of_definition form) (pointer_to f) s))) side d w
      (λ f s. record { goes = define_then (Id i) i (kind_of_definition form) (pointer_to f) s }) (λ f s. record { goes = define_then (Id i) i (kind_of_definition form) (pointer_to f) s }) h
      (λ k f g s t j e i'. done k (Id i) (Id i) _ _ (grows_refl k) (same_id i) (cr.defined k ps (Id i) (Id i) _ _ (same_id i) (two.define_ k ps i (kind_of_definition form) _ _ s t (whole_pointer k f g e.linked) i'.like)))

  pub define_ends : {P : List EntryPlace → Type 0} (form : Special) (n : Names) (x y : Tree) → SameTree n x y → (ps : List EntryPlace) (l m : Levels) (s t : State) → Roomier bounds l m → Sides bounds c P n ps s t → EndTogether bounds SameValue n ps (define_function rec form l x s) (define_function rec' form m y t)
  define_ends form n _ _ (same_node _ _ _ _ (same_atom _ _ (same_id i)) (same_node a f b g h k)) ps l m s t r e =
      own_ends n ps i s t _ _ e (defined_ends n ps form i s t _ _ e (one.hold_part_goes (kind_of_definition form) l a f s) (one.hold_part_goes (kind_of_definition form) m b g t)
      (quiet_ends n ps s t _ _ e.like (two.hold_part_quiet (kind_of_definition form) l a f s) (two.hold_part_quiet (kind_of_definition form) m b g t) (two.hold_part_ n ps (kind_of_definition form) l m a b f g s t r h k e.like)))
  define_ends form n _ _ (same_node _ _ _ _ (same_atom _ _ (same_id i)) h) ps l m s t r e = done_here c n ps nil_value_of_state nil_value_of_state s t (same_id 0) e
  define_ends form n _ _ (same_node _ _ _ _ (same_atom _ _ j) h) ps l m s t r e = done_here c n ps nil_value_of_state nil_value_of_state s t (same_id 0) e
  define_ends form n _ _ h ps l m s t r e = done_here c n ps nil_value_of_state nil_value_of_state s t (same_id 0) e
