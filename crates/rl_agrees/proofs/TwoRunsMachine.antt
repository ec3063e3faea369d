-- C-macros respect that two runs stand side by side: codes that are the same, from frames and machines that are, end alike or apart.
use Rattle.std.proofs.Common.{◌≡◌, ◌≤◌, ◌-◌, ◌==◌, ◌&&◌, nat_lt, nat_le, ℕ, zero, suc, Bool, true, false, List, [], ◌∷◌, ◌++◌, length, map, take, drop, slice_index_or, Option, Some, None, refl, sym, ap, subst, arith}
use Rattle.std.proofs.lemmas.Bool.Decides.{nat_tests}
use Rattle.rl_tree.specs.Value.{Value, Id}
use Rattle.rl_tree.specs.declared.held.VarKind.{VarKind}
use Rattle.rl_tree.specs.declared.held.VarKind.TheVariants as kind
use Rattle.rl_meaning.specs.Names.{Special, De, Df, Dm}
use Rattle.rl_meaning.specs.State.{State, Code, Counts, Expansion, Tree, Kept, Held, Pointer, Definition, Function, Entry, Scope, Local, Fluid}
use Rattle.rl_meaning.specs.CMacros.{Operand, CMacro, Alloc, Dealloc, Load, Store, SetVar, Move, Copy, Link, LinkE, Self, CallNative, Jump, JumpNil, JumpT, JumpEq, JumpNe, Label, GoTo, Bind, ProgBind, Free, Exit, Raise}
use Rattle.rl_meaning.specs.CMacros as macros
use Rattle.rl_meaning.specs.Outcome.{Outcome, Done, Stopped, Stop, Turns, Depth, Expands, then_do, choose, run_turn, expansion_turn, turn_of, turn, Levels, in_levels, deeper}
use Rattle.rl_meaning.specs.Symbols.{nil_value_of_state, nil_number, same, is_constant}
use Rattle.rl_meaning.specs.System.{is_system}
use Rattle.rl_meaning.specs.Errors.{fail, wrong_count, wrong_type, badly_formed, not_bindable, system_name}
use Rattle.rl_meaning.specs.Holding.{function_number, kept_kind, hold_function, form_at}
use Rattle.rl_meaning.specs.Copying.{copied}
use Rattle.rl_meaning.specs.Variables.{assigned, with_binding, with_mark, bound_as, bind, bind_all, binding_levels, with_oldest, restored}
use Rattle.rl_meaning.specs.Definitions.{own_name}
use Rattle.rl_meaning.specs.Forms.{fits}
use Rattle.rl_meaning.specs.Opening.{state_of}
use Rattle.rl_meaning.specs.Evaluation.{Rec, Onward, Bound, Machine, Frame, called, kind_of_definition, function_defined, define_function}
use Rattle.rl_meaning.specs.Machine.{as_list, unless, proper_elements, all_registers, register, with_register, nils, registers_of, after_link, arguments, with_slot, allocated, deallocated, content, with_bound, bound, levels_freed, freed, undone, one_more, frame_ended, at_entry, is_function_still, is_same, behind, behind_entry, part_linked, list_linked, definition_linked, form_linked, function_linked, linked_to, linked, again, run, seek, run_code}
use Rattle.rl_meaning.specs.Jobs.{the_compiler}
use Rattle.rl_meaning.specs.TwoRunsLinks.{OneToOne}
use Rattle.rl_meaning.specs.TwoRunsValues.{Names, Grows, Maybe, nothing, just, Each, end, more, SameValue, same_int, same_id, same_str, same_ref, same_fun, SameTree, SameHeld, same_held, SameFunction, same_special, same_native, same_held_function, SamePointer, same_pointer, SameNumber, SameDefinition, same_definition, SameOperand, same_slot, same_constant, same_variable, same_register, SameMacro, same_load, same_copy, same_jump_eq, same_jump_ne, same_macro, SameCode, same_atom, same_quoted, same_node, same_literal}
use Rattle.rl_meaning.specs.TwoRunsStates.{Bounds, EntryPlace, Both, BothMark, Hidden, HiddenMark, Aligned, bottom, both, both_mark, hidden, hidden_mark, SameExpansion, same_none, same_open, SameCounts, Like, Roomier}
use Rattle.rl_meaning.specs.TwoRunsEnds.{HasShown, MayStop, Parted, Related, done, failed, went, returned, stopped, parted, EndsAgree}
use Rattle.rl_meaning.specs.TwoRunsEnds as ends
use Rattle.rl_agrees.specs.TwoRunsJobs.{SameBound, same_bound, SameMachine, same_machine, SameFrame, same_frame, same_onward, Ready}
use Rattle.rl_agrees.proofs.TwoRunsKept.{Goes, IsWhole, EndsSomewhere}
use Rattle.rl_agrees.proofs.TwoRunsGrowth.{grows_refl, values_grow, maybe_grows, held_grows, pointer_grows, code_grows}
use Rattle.rl_agrees.proofs.TwoRunsWays.{Beside, Is, is, with_counts_like}
use Rattle.rl_agrees.proofs.TwoRunsObjects.{nil_same, linked_same, same_same, each_at, each_set, each_append, each_length, symbol_same}
use Rattle.rl_agrees.proofs.TwoRunsReady.{ready_stays}
use Rattle.rl_agrees.proofs.TwoRunsFacts.{GoesOn, Ask, AskGoes, RecGoes, OneRunFacts, Quiet, TwoRunsFacts}
use Rattle.rl_agrees.proofs.TwoRunsAsked.{by, Respects, no_compiler_respects, rec_goes}
use Rattle.rl_agrees.proofs.TwoRunsEvaluation.{called_ends, defined_ends, define_ends}
use Rattle.rl_agrees.proofs.TwoRunsEnding.{further_ends, quiet_ends, fail_goes}
use Rattle.rl_agrees.proofs.TwoRunsGoes.{goes_with, goes_from, then_goes, choose_goes, done_goes, parted_in, then_context}
use Rattle.rl_agrees.proofs.TwoRunsForms.{fits_same, function_same, form_same, definition_same}
use Rattle.rl_agrees.proofs.TwoRunsProperties.{cdr_same}
use Rattle.rl_agrees.proofs.TwoRunsSpine.{is_improper_same, list_elements_same}
use Rattle.rl_agrees.proofs.TwoRunsHolding.{hold_function_related}
use Rattle.rl_agrees.proofs.TwoRunsCopying.{copied_related}
use Rattle.rl_agrees.proofs.TwoRunsQuiet.{later_shows, fail_ends}
use Rattle.rl_agrees.proofs.TwoRunsVariables.{bindings_like, variable_related, assigned_related}
use Rattle.rl_agrees.proofs.TwoRunsBinding.{restored_parted, mark_like}
use Rattle.rl_agrees.proofs.TwoRunsCompared.{whole_shown, code_and_walk, CleanSides}

-- ---- what is taken from evaluation

pub record EvaluationRespects (bounds : Bounds) (rec rec' : Rec) : Type 0 where
  -- a function that is called by name
  pub called_ : (n : Names) (ps : List EntryPlace) (i : ℕ) (l m : Levels) (vs ws : List Value) (s t : State) → Roomier bounds l m → Each (SameValue n) vs ws → Like bounds n ps s t → IsWhole ps → Ready the_compiler t → EndsAgree bounds n ps (called rec i l vs s) (called rec' i m ws t)
  -- definitions: of a function that was held, and of a list of arguments that is a part of a held form
  pub function_defined_ : (n : Names) (ps : List EntryPlace) (form : Special) (i : ℕ) (s t : State) (o p : Outcome ℕ) → Like bounds n ps s t → IsWhole ps → Ready the_compiler t → GoesOn s o → GoesOn t p → Related bounds (Parted bounds) SameNumber n ps o p → EndsAgree bounds n ps (function_defined rec form i o) (function_defined rec' form i p)
  pub define_function_ : (n : Names) (ps : List EntryPlace) (form : Special) (l m : Levels) (a b : Tree) (s t : State) → Roomier bounds l m → SameTree n a b → Like bounds n ps s t → IsWhole ps → Ready the_compiler t → EndsAgree bounds n ps (define_function rec form l a s) (define_function rec' form m b t)

-- ---- lists of arguments

-- a FUNCTION form as the list that it is
as_list_same : (n : Names) (a b : Tree) → SameTree n a b → SameTree n (as_list a) (as_list b)
as_list_same n _ _ (same_atom v w h) = same_atom v w h
as_list_same n _ _ (same_quoted v w h) = same_quoted v w h
as_list_same n _ _ (same_node a d b e h k) = same_node a d b e h k
as_list_same n _ _ (same_literal i a b h) = same_node _ _ _ _ (same_atom _ _ (same_id function_number)) (same_node _ _ _ _ h (same_atom _ _ (same_id nil_number)))

unless_same : (n : Names) (b c : Bool) (o p : Option (List Value)) → b ≡ c → Maybe (Each (SameValue n)) o p → Maybe (Each (SameValue n)) (unless b o) (unless c p)
unless_same n b c o p e h = subst (λ x. Maybe (Each (SameValue n)) (unless b o) (unless x p)) e (at b)
  where
    at : (b : Bool) → Maybe (Each (SameValue n)) (unless b o) (unless b p)
    at true = nothing
    at false = h

module _ {bounds : Bounds} where
  proper_elements_same : (n : Names) (ps : List EntryPlace) (s t : State) (v w : Value) → Like bounds n ps s t → SameValue n v w → Maybe (Each (SameValue n)) (proper_elements s v) (proper_elements t w)
  proper_elements_same n ps s t v w l h = unless_same n _ _ _ _ (is_improper_same n ps s t v w l h) (list_elements_same n ps s t v w l h)

-- ---- where no binding is lacking: code leaves other bindings, but all of them are there on both sides

-- two states
record Abreast (bounds : Bounds) (n : Names) (s t : State) : Type 0 where
  places : List EntryPlace
  whole : IsWhole places
  like : Like bounds n places s t
  ready : Ready the_compiler t

-- two ends
record Somewhere (bounds : Bounds) {A : Type 0} (R : Names → A → A → Type 0) (n : Names) (o p : Outcome A) : Type 0 where
  places : List EntryPlace
  whole : IsWhole places
  ends : Related bounds (Parted bounds) R n places o p

-- two ways to go on
abbrev Acts : Bounds → {A : Type 0} → (Names → A → A → Type 0) → Names → (State → Outcome A) → (State → Outcome A) → Type 0
Acts bounds R n f g = (s t : State) → Abreast bounds n s t → Somewhere bounds R n (f s) (g t)

module _ {bounds : Bounds} where
  further_somewhere : {A : Type 0} {R : Names → A → A → Type 0} (n m : Names) (o p : Outcome A) → Grows n m → Somewhere bounds R m o p → Somewhere bounds R n o p
  further_somewhere n m o p g h = record { places = h.places; whole = h.whole; ends = further_ends n m h.places o p g h.ends }

  done_somewhere : {A : Type 0} {R : Names → A → A → Type 0} (n : Names) (a b : A) (s t : State) → R n a b → Abreast bounds n s t → Somewhere bounds R n (Done a s) (Done b t)
  done_somewhere n a b s t r x = record { places = x.places; whole = x.whole; ends = done n a b s t (grows_refl n) r x.like }

  stopped_somewhere : {A : Type 0} {R : Names → A → A → Type 0} (n : Names) (why : Stop) (s t : State) → MayStop bounds why → Abreast bounds n s t → Somewhere bounds {A = A} R n (Stopped why s) (Stopped why t)
  stopped_somewhere n why s t may x = record { places = x.places; whole = x.whole; ends = stopped why s t (record { outside = x.like.outside; turns = x.like.counts.turns; may = may }) }

  fail_somewhere : {A : Type 0} {R : Names → A → A → Type 0} (n : Names) (i : ℕ) (v w : Value) (s t : State) → SameValue n v w → Abreast bounds n s t → Somewhere bounds {A = A} R n (fail i v s) (fail i w t)
  fail_somewhere n i v w s t r x = record { places = x.places; whole = x.whole; ends = fail_ends n x.places i v w s t r x.like }

  choose_somewhere : {A : Type 0} {R : Names → A → A → Type 0} (n : Names) (b c : Bool) (s t : State) (f g f' g' : State → Outcome A) → b ≡ c → Somewhere bounds R n (f s) (f' t) → Somewhere bounds R n (g s) (g' t) → Somewhere bounds R n (choose b s f g) (choose c t f' g')
  choose_somewhere {R = R} n b c s t f g f' g' e h k = subst (λ x. Somewhere bounds R n (choose b s f g) (choose x t f' g')) e (at b)
    where
      at : (b : Bool) → Somewhere bounds R n (choose b s f g) (choose b t f' g')
      at true = h
      at false = k

  then_somewhere : {A B : Type 0} {R : Names → A → A → Type 0} {S : Names → B → B → Type 0} (n : Names) (t : State) (o p : Outcome A) (f g : A → State → Outcome B) → Ready the_compiler t → GoesOn t p → ((a : A) (s : State) → GoesOn s (f a s)) → ((a : A) (s : State) → GoesOn s (g a s))
      → Somewhere bounds R n o p → ((m : Names) (a b : A) (u v : State) → Grows n m → R m a b → Abreast bounds m u v → Somewhere bounds S m (f a u) (g b v)) → Somewhere bounds S n (then_do o f) (then_do p g)
  then_somewhere {A = A} {R = R} {S = S} n t o p f g ready goes left right h k = at o p goes h.ends
    where
      at : (o p : Outcome A) → GoesOn t p → Related bounds (Parted bounds) R n h.places o p → Somewhere bounds S n (then_do o f) (then_do p g)
      at _ _ w (done m a b u v i r l) = further_somewhere n m (f a u) (g b v) i (k m a b u v i r (record { places = h.places; whole = h.whole; like = l; ready = ready_stays the_compiler t v w.goes ready }))
      at _ _ w (failed m z a b u v i r l) = record { places = h.places; whole = h.whole; ends = failed m z a b u v i r l }
      at _ _ w (went m z u v i l) = record { places = h.places; whole = h.whole; ends = went m z u v i l }
      at _ _ w (returned m a b u v i r l) = record { places = h.places; whole = h.whole; ends = returned m a b u v i r l }
      at _ _ w (stopped why u v e) = record { places = h.places; whole = h.whole; ends = stopped why u v e }
      at o p w (parted _ _ a) = record { places = h.places; whole = h.whole; ends = parted _ _ (parted_in (λ o. then_do o f) (λ p. then_do p g) o p (then_context f left) (then_context g right) (w.goes.within ready.event) a) }

  -- ---- turns and levels

  counts_abreast : (n : Names) (s t : State) (c d : Counts) → Goes t (record t { counts = d }) → SameCounts bounds c d → Abreast bounds n s t → Abreast bounds n (record s { counts = c }) (record t { counts = d })
  counts_abreast n s t c d w e x = record { places = x.places; whole = x.whole; like = with_counts_like n x.places s t c d e x.like; ready = ready_stays the_compiler t _ w x.ready }

  turn_somewhere : {A : Type 0} {R : Names → A → A → Type 0} (n : Names) (s t : State) (f g : State → Outcome A) → Abreast bounds n s t → Acts bounds R n f g → Somewhere bounds R n (turn s f) (turn t g)
  turn_somewhere {R = R} n s t f g x h = at s.counts.expansion t.counts.expansion x.like.counts.expansion
    where
      run_at : (i j : ℕ) → i ≡ j → Somewhere bounds R n (run_turn i s f) (run_turn j t g)
      run_at zero zero e = stopped_somewhere n Turns s t tt x
      run_at (suc i) (suc j) e = h _ _ (counts_abreast n s t _ _ (goes_with t _ t.bindings refl) (record { given = x.like.counts.given; turns = omega (arith, e); cells = x.like.counts.cells; expansion = x.like.counts.expansion }) x)
      run_at zero (suc j) e = absurd (omega (arith, e))
      run_at (suc i) zero e = absurd (omega (arith, e))

      expansion_at : (i : ℕ) (e : Expansion) → Somewhere bounds R n (expansion_turn i e s f) (expansion_turn i e t g)
      expansion_at zero e = stopped_somewhere n (Expands e.macro) s t tt x
      expansion_at (suc i) e = h _ _ (counts_abreast n s t _ _ (goes_with t _ t.bindings refl) (record { given = x.like.counts.given; turns = x.like.counts.turns; cells = x.like.counts.cells; expansion = same_open _ }) x)

      at : (e y : Option Expansion) → SameExpansion e y → Somewhere bounds R n (turn_of e s f) (turn_of y t g)
      at _ _ same_none = run_at s.counts.turns t.counts.turns x.like.counts.turns
      at _ _ (same_open e) = expansion_at e.turns e

test_wider : (n l m : ℕ) → m ≤ l → nat_le n m ≡ true → nat_le n l ≡ true
test_wider n l m le e = grind (arith, nat_tests)

-- of a run that stops for lack of levels no more is known than that the other goes on from there
module _ {bounds : Bounds} {A : Type 0} {R : Names → A → A → Type 0} (n : Names) (s t : State) (f g : Levels → Outcome A) (x : Abreast bounds n s t) (left : (l : Levels) → GoesOn s (f l)) (right : (l : Levels) → GoesOn t (g l)) (h : (l m : Levels) → Roomier bounds l m → Somewhere bounds R n (f l) (g m)) where
  right_stops : (l : Levels) → true ≡ bounds.levels → Somewhere bounds R n (f l) (Stopped Depth t)
  right_stops l w = record { places = x.places; whole = x.whole; ends = parted _ _ (ends.right_short (f l) Depth t (ends.meets_levels (sym w)) (subst (λ y. HasShown y.output y.notes (state_of (f l)).outside) x.like.outside (later_shows s (f l) (left l).goes.later))) }

  left_stops : (m : Levels) → bounds.levels ≡ false → Somewhere bounds R n (Stopped Depth s) (g m)
  left_stops m b = record { places = x.places; whole = x.whole; ends = parted _ _ (ends.left_short Depth s (g m) (ends.lacks_levels b) (subst (λ y. HasShown y.output y.notes (state_of (g m)).outside) (sym x.like.outside) (later_shows t (g m) (right m).goes.later))) }

  entered_somewhere : (b c : Bool) (l m : ℕ) → (c ≡ true → b ≡ true) → m ≤ l → true ≡ bounds.levels → Somewhere bounds R n (in_levels b l s f) (in_levels c m t g)
  entered_somewhere true true l m e le w = h (Some l) (Some m) (record { is = le; bound = w })
  entered_somewhere false true l m e le w = absurd (let y : false ≡ true = e refl in cc)
  entered_somewhere true false l m e le w = right_stops (Some l) w
  entered_somewhere false false l m e le w = stopped_somewhere n Depth s t (sym w) x

  left_entered : (b : Bool) (l : ℕ) → false ≡ bounds.levels → Somewhere bounds R n (in_levels b l s f) (g None)
  left_entered true l w = h (Some l) None (record { is = tt; bound = w })
  left_entered false l w = left_stops None (sym w)

  right_entered : (c : Bool) (m : ℕ) → true ≡ bounds.levels → Somewhere bounds R n (f None) (in_levels c m t g)
  right_entered true m w = h None (Some m) (record { is = tt; bound = w })
  right_entered false m w = right_stops None w

  deeper_somewhere : (i : ℕ) (l m : Levels) → Roomier bounds l m → Somewhere bounds R n (deeper i l s f) (deeper i m t g)
  deeper_somewhere i None None r = h None None r
  deeper_somewhere i (Some l) None r = left_entered (nat_le i l) (l - i) r.bound
  deeper_somewhere i None (Some m) r = right_entered (nat_le i m) (m - i) r.bound
  deeper_somewhere i (Some l) (Some m) r = let le : m ≤ l = r.is in entered_somewhere (nat_le i l) (nat_le i m) (l - i) (m - i) (test_wider i l m le) (omega (arith, le)) r.bound

module _ {bounds : Bounds} where
  more_levels : (l m : Levels) → Roomier bounds l m → Roomier bounds (one_more l) (one_more m)
  more_levels None None r = r
  more_levels None (Some m) r = record { is = tt; bound = r.bound }
  more_levels (Some l) None r = record { is = tt; bound = r.bound }
  more_levels (Some l) (Some m) r = record { is = let le : m ≤ l = r.is in omega (arith, le); bound = r.bound }

  -- ---- what prints nothing

  quietly : {A : Type 0} {R : Names → A → A → Type 0} (n : Names) (s t : State) (o p : Outcome A) → Quiet s o → Quiet t p → (x : Abreast bounds n s t) → Beside bounds R n x.places o p → Somewhere bounds R n o p
  quietly n s t o p h k x r = record { places = x.places; whole = x.whole; ends = quiet_ends n x.places s t o p x.like h k r }

-- ---- entries that are undone

whole_length : (n : Names) (ps : List EntryPlace) (xs ys : List Entry) → IsWhole ps → Aligned n ps xs ys → length xs ≡ length ys
whole_length n _ _ _ w bottom = refl
whole_length n _ _ _ w (both x scope v u ps xs ys h k) = ap suc (whole_length n ps xs ys w k)
whole_length n _ _ _ w (both_mark f g ps xs ys h k) = ap suc (whole_length n ps xs ys w k)
whole_length n _ _ _ w (hidden x v ps xs ys k) = absurd w
whole_length n _ _ _ w (hidden_mark g ps xs ys k) = absurd w

whole_dropped : (i : ℕ) (ps : List EntryPlace) → IsWhole ps → IsWhole (drop i ps)
whole_dropped zero ps w = w
whole_dropped (suc i) [] w = tt
whole_dropped (suc i) (Both ∷ ps) w = whole_dropped i ps w
whole_dropped (suc i) (BothMark ∷ ps) w = whole_dropped i ps w
whole_dropped (suc i) (Hidden x v ∷ ps) w = absurd w
whole_dropped (suc i) (HiddenMark g ∷ ps) w = absurd w

aligned_dropped : (n : Names) (i : ℕ) (ps : List EntryPlace) (xs ys : List Entry) → IsWhole ps → Aligned n ps xs ys → Aligned n (drop i ps) (drop i xs) (drop i ys)
aligned_dropped n zero ps xs ys w k = k
aligned_dropped n (suc i) _ _ _ w bottom = bottom
aligned_dropped n (suc i) _ _ _ w (both x scope v u ps xs ys h k) = aligned_dropped n i ps xs ys w k
aligned_dropped n (suc i) _ _ _ w (both_mark f g ps xs ys h k) = aligned_dropped n i ps xs ys w k
aligned_dropped n (suc i) _ _ _ w (hidden x v ps xs ys k) = absurd w
aligned_dropped n (suc i) _ _ _ w (hidden_mark g ps xs ys k) = absurd w

module _ {bounds : Bounds} where
  undone_like : (n : Names) (i : ℕ) (ps : List EntryPlace) (s t : State) → IsWhole ps → Like bounds n ps s t → Like bounds n (drop i ps) (undone i s) (undone i t)
  undone_like n i ps s t w l = bindings_like n ps (drop i ps) s t _ _ l (aligned_dropped n i ps _ _ w l.bindings)

  oldest_like : (n : Names) (i : ℕ) (ps : List EntryPlace) (s t : State) → IsWhole ps → Like bounds n ps s t → Like bounds n (drop (length s.bindings - i) ps) (with_oldest i s) (with_oldest i t)
  oldest_like n i ps s t w l = subst (λ j. Like bounds n (drop (length s.bindings - i) ps) (with_oldest i s) (undone (j - i) t)) (whole_length n ps _ _ w l.bindings) (undone_like n (length s.bindings - i) ps s t w l)

  undone_abreast : (n : Names) (i : ℕ) (s t : State) → Abreast bounds n s t → Abreast bounds n (undone i s) (undone i t)
  undone_abreast n i s t x = record { places = drop i x.places; whole = whole_dropped i x.places x.whole; like = undone_like n i x.places s t x.whole x.like; ready = ready_stays the_compiler t _ (goes_with t t.counts _ refl) x.ready }

  oldest_abreast : (n : Names) (i : ℕ) (s t : State) → Abreast bounds n s t → Abreast bounds n (with_oldest i s) (with_oldest i t)
  oldest_abreast n i s t x = record { places = drop (length s.bindings - i) x.places; whole = whole_dropped (length s.bindings - i) x.places x.whole; like = oldest_like n i x.places s t x.whole x.like; ready = ready_stays the_compiler t _ (goes_with t t.counts _ refl) x.ready }

  restored_somewhere : {A : Type 0} {R : Names → A → A → Type 0} (n : Names) (i : ℕ) (o p : Outcome A) → Somewhere bounds R n o p → Somewhere bounds R n (restored i o) (restored i p)
  restored_somewhere {A = A} {R = R} n i o p h = at o p h.ends
    where
      at : (o p : Outcome A) → Related bounds (Parted bounds) R n h.places o p → Somewhere bounds R n (restored i o) (restored i p)
      at _ _ (done m a b u v g r l) = record { places = drop (length u.bindings - i) h.places; whole = whole_dropped (length u.bindings - i) h.places h.whole; ends = done m a b _ _ g r (oldest_like m i h.places u v h.whole l) }
      at _ _ (failed m z a b u v g r l) = record { places = drop (length u.bindings - i) h.places; whole = whole_dropped (length u.bindings - i) h.places h.whole; ends = failed m z a b _ _ g r (oldest_like m i h.places u v h.whole l) }
      at _ _ (went m z u v g l) = record { places = drop (length u.bindings - i) h.places; whole = whole_dropped (length u.bindings - i) h.places h.whole; ends = went m z _ _ g (oldest_like m i h.places u v h.whole l) }
      at _ _ (returned m a b u v g r l) = record { places = drop (length u.bindings - i) h.places; whole = whole_dropped (length u.bindings - i) h.places h.whole; ends = returned m a b _ _ g r (oldest_like m i h.places u v h.whole l) }
      at _ _ (stopped why u v e) = record { places = h.places; whole = h.whole; ends = stopped why u v e }
      at o p (parted _ _ a) = record { places = h.places; whole = h.whole; ends = parted _ _ (restored_parted i i o p a) }

  -- a mark, and a binding, of both
  mark_abreast : (n : Names) (f g : Option Pointer) (s t : State) → Maybe (SamePointer n) f g → Abreast bounds n s t → Abreast bounds n (with_mark f s) (with_mark g t)
  mark_abreast n f g s t h x = record { places = BothMark ∷ x.places; whole = x.whole; like = mark_like n x.places f g s t h x.like; ready = ready_stays the_compiler t _ (goes_with t t.counts _ refl) x.ready }

  binding_abreast : (n : Names) (i : ℕ) (scope : Scope) (v w : Value) (s t : State) → SameValue n v w → Abreast bounds n s t → Abreast bounds n (with_binding i scope v s) (with_binding i scope w t)
  binding_abreast n i scope v w s t r x = record {
    places = Both ∷ x.places;
    whole = x.whole;
    like = bindings_like n x.places (Both ∷ x.places) s t _ _ x.like (both i scope v w x.places _ _ r x.like.bindings);
    ready = ready_stays the_compiler t _ (goes_with t t.counts _ refl) x.ready;
  }

  -- ---- frames and machines

  machine_grows : (n m : Names) (x y : Machine) → SameMachine bounds n x y → Grows n m → SameMachine bounds m x y
  machine_grows n m _ _ (same_machine rs qs xs ys bs cs l j a b c r) g = same_machine rs qs xs ys bs cs l j (values_grow n m rs qs a g) (values_grow n m xs ys b g) c r

  frame_grows : (n m : Names) (x y : Frame) → SameFrame bounds n x y → Grows n m → SameFrame bounds m x y
  frame_grows n m _ _ (same_frame name p q h k c d depth l j a b e r) g = same_frame name p q h k c d depth l j (maybe_grows (SamePointer n) (SamePointer m) (λ a b r. pointer_grows n m a b r g) p q a) (held_grows n m h k b g) (code_grows n m c d e g) r

  registers_same : (n : Names) (m k : Machine) → SameMachine bounds n m k → Each (SameValue n) m.registers k.registers
  registers_same n _ _ (same_machine rs qs xs ys bs cs l j a b c r) = a

  slots_same : (n : Names) (m k : Machine) → SameMachine bounds n m k → Each (SameValue n) m.slots k.slots
  slots_same n _ _ (same_machine rs qs xs ys bs cs l j a b c r) = b

  bounds_same : (n : Names) (m k : Machine) → SameMachine bounds n m k → Each (SameBound bounds) m.bound k.bound
  bounds_same n _ _ (same_machine rs qs xs ys bs cs l j a b c r) = c

  levels_same : (n : Names) (m k : Machine) → SameMachine bounds n m k → Roomier bounds m.levels k.levels
  levels_same n _ _ (same_machine rs qs xs ys bs cs l j a b c r) = r

  pointer_of : (n : Names) (f g : Frame) → SameFrame bounds n f g → Maybe (SamePointer n) f.function g.function
  pointer_of n _ _ (same_frame name p q h k c d depth l j a b e r) = a

  held_in : (n : Names) (f g : Frame) → SameFrame bounds n f g → SameHeld n f.held g.held
  held_in n _ _ (same_frame name p q h k c d depth l j a b e r) = b

  code_in : (n : Names) (f g : Frame) → SameFrame bounds n f g → SameCode n f.code g.code
  code_in n _ _ (same_frame name p q h k c d depth l j a b e r) = e

  outside_same : (n : Names) (f g : Frame) → SameFrame bounds n f g → Roomier bounds f.outside g.outside
  outside_same n _ _ (same_frame name p q h k c d depth l j a b e r) = r

each_taken : {A : Type 0} (R : A → A → Type 0) (i : ℕ) (xs ys : List A) → Each R xs ys → Each R (take i xs) (take i ys)
each_taken R zero xs ys h = end
each_taken R (suc i) _ _ end = end
each_taken R (suc i) _ _ (more a b xs ys h k) = more a b _ _ h (each_taken R i xs ys k)

nils_same : (n : Names) (i : ℕ) → Each (SameValue n) (nils i) (nils i)
nils_same n zero = end
nils_same n (suc i) = more nil_value_of_state nil_value_of_state _ _ (same_id nil_number) (nils_same n i)

first_registers_same : (n : Names) (vs ws : List Value) → Each (SameValue n) vs ws → Each (SameValue n) (registers_of vs) (registers_of ws)
first_registers_same n vs ws h = subst (λ i. Each (SameValue n) (registers_of vs) (ws ++ nils (all_registers - i))) (each_length (SameValue n) vs ws h) (each_append (SameValue n) vs ws _ _ h (nils_same n (all_registers - length vs)))

module _ {bounds : Bounds} where
  entry_same : (n : Names) (vs ws : List Value) (l j : Levels) → Each (SameValue n) vs ws → Roomier bounds l j → SameMachine bounds n (at_entry vs l) (at_entry ws j)
  entry_same n vs ws l j h r = same_machine _ _ [] [] [] [] l j (first_registers_same n vs ws h) end end r

module _ {bounds : Bounds} (n : Names) (m k : Machine) (h : SameMachine bounds n m k) where
  register_same : (r : ℕ) → SameValue n (register m r) (register k r)
  register_same r = each_at (SameValue n) m.registers k.registers nil_value_of_state nil_value_of_state (r - 1) (registers_same n m k h) (same_id nil_number)

  slot_same : (i : ℕ) → SameValue n (slice_index_or m.slots (i - 1) nil_value_of_state) (slice_index_or k.slots (i - 1) nil_value_of_state)
  slot_same i = each_at (SameValue n) m.slots k.slots nil_value_of_state nil_value_of_state (i - 1) (slots_same n m k h) (same_id nil_number)

  with_registers_same : (rs qs : List Value) → Each (SameValue n) rs qs → SameMachine bounds n (record m { registers = rs }) (record k { registers = qs })
  with_registers_same rs qs e = same_machine rs qs _ _ _ _ _ _ e (slots_same n m k h) (bounds_same n m k h) (levels_same n m k h)

  with_slots_same : (xs ys : List Value) → Each (SameValue n) xs ys → SameMachine bounds n (record m { slots = xs }) (record k { slots = ys })
  with_slots_same xs ys e = same_machine _ _ xs ys _ _ _ _ (registers_same n m k h) e (bounds_same n m k h) (levels_same n m k h)

  with_bounds_same : (bs cs : List Bound) (l j : Levels) → Each (SameBound bounds) bs cs → Roomier bounds l j → SameMachine bounds n (record m { bound = bs; levels = l }) (record k { bound = cs; levels = j })
  with_bounds_same bs cs l j e r = same_machine _ _ _ _ bs cs l j (registers_same n m k h) (slots_same n m k h) e r

  with_register_same : (r : ℕ) (v w : Value) → SameValue n v w → SameMachine bounds n (with_register r v m) (with_register r w k)
  with_register_same r v w e = with_registers_same _ _ (each_set (SameValue n) m.registers k.registers (r - 1) v w (registers_same n m k h) e)

  after_link_same : (v w : Value) → SameValue n v w → SameMachine bounds n (after_link v m) (after_link w k)
  after_link_same v w e = with_registers_same _ _ (first_registers_same n (v ∷ []) (w ∷ []) (more v w [] [] e end))

  arguments_same : (i : ℕ) → Each (SameValue n) (arguments i m) (arguments i k)
  arguments_same i = each_taken (SameValue n) i m.registers k.registers (registers_same n m k h)

  with_slot_same : (i : ℕ) (v w : Value) → SameValue n v w → SameMachine bounds n (with_slot i v m) (with_slot i w k)
  with_slot_same i v w e = with_slots_same _ _ (each_set (SameValue n) m.slots k.slots (i - 1) v w (slots_same n m k h) e)

  allocated_same : (i : ℕ) → SameMachine bounds n (allocated i m) (allocated i k)
  allocated_same i = with_slots_same _ _ (each_append (SameValue n) m.slots k.slots _ _ (slots_same n m k h) (nils_same n i))

  deallocated_same : (i : ℕ) → SameMachine bounds n (deallocated i m) (deallocated i k)
  deallocated_same i = with_slots_same _ _ (subst (λ j. Each (SameValue n) (take (length m.slots - i) m.slots) (take (j - i) k.slots)) (each_length (SameValue n) m.slots k.slots (slots_same n m k h)) (each_taken (SameValue n) (length m.slots - i) m.slots k.slots (slots_same n m k h)))

  with_bound_same : (i : ℕ) (l j : Levels) → Roomier bounds l j → SameMachine bounds n (with_bound i l m) (with_bound i j k)
  with_bound_same i l j r = with_bounds_same _ _ l j (more _ _ m.bound k.bound (same_bound i m.levels k.levels (levels_same n m k h)) (bounds_same n m k h)) r

  chosen_registers_same : (pairs : List (ℕ × ℕ)) → Each (SameValue n) (map (λ p. register m p.0) pairs) (map (λ p. register k p.0) pairs)
  chosen_registers_same [] = end
  chosen_registers_same (p ∷ pairs) = more _ _ _ _ (register_same p.0) (chosen_registers_same pairs)

abbrev freed_at : ℕ → Bool → ℕ → Levels → List Bound → Levels → List Bound × Levels
freed_at i b c before bs l = elim b [
  | true ↦ (record { count = c - i; levels = before } ∷ bs, l)
  | false ↦ levels_freed (i - c) bs before
]

module _ {bounds : Bounds} where
  levels_freed_same : (i : ℕ) (bs cs : List Bound) → Each (SameBound bounds) bs cs → (l j : Levels) → Roomier bounds l j → Each (SameBound bounds) (levels_freed i bs l).0 (levels_freed i cs j).0 × Roomier bounds (levels_freed i bs l).1 (levels_freed i cs j).1
  levels_freed_same i _ _ end l j r = (end, r)
  levels_freed_same i _ _ (more _ _ bs cs (same_bound c x y e) h) l j r =
      elim (nat_lt i c) as (λ b. Each (SameBound bounds) (freed_at i b c x bs l).0 (freed_at i b c y cs j).0 × Roomier bounds (freed_at i b c x bs l).1 (freed_at i b c y cs j).1) [
        | true ↦ (more _ _ bs cs (same_bound (c - i) x y e) h, r)
        | false ↦ levels_freed_same (i - c) bs cs h x y e
      ]

  freed_same : (n : Names) (m k : Machine) (i : ℕ) → SameMachine bounds n m k → SameMachine bounds n (freed i m) (freed i k)
  freed_same n m k i h =
      let e = levels_freed_same i m.bound k.bound (bounds_same n m k h) m.levels k.levels (levels_same n m k h) in
      with_bounds_same n m k h _ _ _ _ e.0 e.1

-- ---- labels

behind_same : (n : Names) (l : ℕ) (c d : Code) → SameCode n c d → SameCode n (behind l c) (behind l d)
behind_same n l _ _ end = end
behind_same n l _ _ (more _ _ xs ys (same_macro (Label i) e) h) =
    elim (i == l) as (λ b. SameCode n (elim b as (λ (b : Bool). Code) [ true ↦ xs | false ↦ behind l xs ]) (elim b as (λ (b : Bool). Code) [ true ↦ ys | false ↦ behind l ys ])) [ true ↦ h | false ↦ behind_same n l xs ys h ]
behind_same n l _ _ (more _ _ xs ys (same_macro c e) h) = behind_same n l xs ys h
behind_same n l _ _ (more _ _ xs ys (same_load r o p e) h) = behind_same n l xs ys h
behind_same n l _ _ (more _ _ xs ys (same_copy r v w e) h) = behind_same n l xs ys h
behind_same n l _ _ (more _ _ xs ys (same_jump_eq i o p e) h) = behind_same n l xs ys h
behind_same n l _ _ (more _ _ xs ys (same_jump_ne i o p e) h) = behind_same n l xs ys h

behind_entry_same : (n : Names) (c d : Code) → SameCode n c d → SameCode n (behind_entry c) (behind_entry d)
behind_entry_same n _ _ end = end
behind_entry_same n _ _ (more _ _ xs ys e h) = h

-- ---- the name still has the function

function_is : (n : Names) (p q : Option Pointer) (d e : Option Definition) → OneToOne n.functions → Maybe (SamePointer n) p q → Maybe (SameDefinition n) d e → is_function_still p d ≡ is_function_still q e
function_is n _ _ _ _ one nothing h = refl
function_is n _ _ _ _ one (just _ _ r) nothing = refl
function_is n _ _ _ _ one (just _ _ (same_pointer f g place h)) (just _ _ (same_definition kind _ _ (same_pointer x y other k))) = ap (λ b. b && place == other) (linked_same n.functions f x g y one h k)

module _ {bounds : Bounds} where
  is_same_same : (n : Names) (f g : Frame) (i : ℕ) (s t : State) → SameFrame bounds n f g → Abreast bounds n s t → is_same f i s ≡ is_same g i t
  is_same_same n _ _ i s t (same_frame name p q h k c d depth l j a (same_held kind parameters kept x y z) e r) w =
      ap (λ b. b && length parameters == i) (function_is n p q _ _ w.like.functions.once a (definition_same n _ _ (symbol_same n w.places s t name w.like)))

-- ---- what a run of the machine is made of

module _ {bounds : Bounds} (one : OneRunFacts) (two : TwoRunsFacts bounds) (ask ask' : Ask) (left : AskGoes ask) (right : AskGoes ask') (respects : Respects bounds code_and_walk ask ask') (evaluation : EvaluationRespects bounds (by the_compiler ask) (by the_compiler ask')) where
  abbrev rec : Rec
  rec = by the_compiler ask

  abbrev rec' : Rec
  rec' = by the_compiler ask'

  left_goes : RecGoes rec
  left_goes = rec_goes {bounds = bounds} the_compiler code_and_walk (no_compiler_respects code_and_walk) ask left

  right_goes : RecGoes rec'
  right_goes = rec_goes {bounds = bounds} the_compiler code_and_walk (no_compiler_respects code_and_walk) ask' right

  -- ---- operands and variables

  content_somewhere : (n : Names) (m k : Machine) (o p : Operand) (s t : State) → SameMachine bounds n m k → SameOperand n o p → Abreast bounds n s t → Somewhere bounds SameValue n (content m o s) (content k p t)
  content_somewhere n m k _ _ s t h (same_slot i) x = done_somewhere n _ _ s t (slot_same n m k h i) x
  content_somewhere n m k _ _ s t h (same_constant v w r) x = done_somewhere n v w s t r x
  content_somewhere n m k _ _ s t h (same_variable i) x = record { places = x.places; whole = x.whole; ends = variable_related n x.places i s t (whole_shown x.places x.whole) x.like }
  content_somewhere n m k _ _ s t h (same_register r) x = done_somewhere n _ _ s t (register_same n m k h r) x

  content_goes : (m : Machine) (o : Operand) (s : State) → GoesOn s (content m o s)
  content_goes m (macros.Slot i) s = done_goes _ s
  content_goes m (macros.Constant v) s = done_goes v s
  content_goes m (macros.Variable i) s = one.variable_goes i s
  content_goes m (macros.Register r) s = done_goes _ s

  assigned_somewhere : (n : Names) (i : ℕ) (v w : Value) (s t : State) → SameValue n v w → Abreast bounds n s t → Somewhere bounds SameValue n (assigned i v s) (assigned i w t)
  assigned_somewhere n i v w s t r x = record { places = x.places; whole = x.whole; ends = assigned_related n x.places i v w s t r (whole_shown x.places x.whole) x.like }

  copied_somewhere : (n : Names) (l j : Levels) (a b : Tree) (s t : State) → Roomier bounds l j → SameTree n a b → Abreast bounds n s t → Somewhere bounds SameValue n (copied l a s) (copied j b t)
  copied_somewhere n l j a b s t r h x = quietly n s t _ _ (two.copied_quiet l a s) (two.copied_quiet j b t) x (copied_related n x.places l j a b s t r h x.like)

  -- ---- bindings

  bound_as_goes : (x : ℕ) (k : VarKind) (v : Value) (s : State) → GoesOn s (bound_as k x v s)
  bound_as_goes x kind.Plain v s = record { goes = goes_with s s.counts _ refl }
  bound_as_goes x kind.Fluid v s = record { goes = goes_with s s.counts _ refl }
  bound_as_goes x kind.Global v s = fail_goes one (Unit {0}) not_bindable (Id x) s

  bind_goes : (kept : List Kept) (x : ℕ) (v : Value) (s : State) → GoesOn s (bind kept x v s)
  bind_goes kept x v s = choose_goes (is_constant x) s (λ s. fail not_bindable (Id x) s) (λ s. bound_as (kept_kind kept x) x v s) (fail_goes one (Unit {0}) not_bindable (Id x) s) (bound_as_goes x (kept_kind kept x) v s)

  bound_as_somewhere : (n : Names) (i : ℕ) (k : VarKind) (v w : Value) (s t : State) → SameValue n v w → Abreast bounds n s t → Somewhere bounds Is n (bound_as k i v s) (bound_as k i w t)
  bound_as_somewhere n i kind.Plain v w s t r x = done_somewhere n tt tt _ _ (is tt) (binding_abreast n i Local v w s t r x)
  bound_as_somewhere n i kind.Fluid v w s t r x = done_somewhere n tt tt _ _ (is tt) (binding_abreast n i Fluid v w s t r x)
  bound_as_somewhere n i kind.Global v w s t r x = fail_somewhere n not_bindable (Id i) (Id i) s t (same_id i) x

  bind_somewhere : (n : Names) (kept : List Kept) (i : ℕ) (v w : Value) (s t : State) → SameValue n v w → Abreast bounds n s t → Somewhere bounds Is n (bind kept i v s) (bind kept i w t)
  bind_somewhere n kept i v w s t r x = choose_somewhere n (is_constant i) (is_constant i) s t _ _ _ _ refl (fail_somewhere n not_bindable (Id i) (Id i) s t (same_id i) x) (bound_as_somewhere n i (kept_kind kept i) v w s t r x)

  bind_all_somewhere : (kept : List Kept) (xs : List ℕ) (n : Names) (vs ws : List Value) (s t : State) → Each (SameValue n) vs ws → Abreast bounds n s t → Somewhere bounds Is n (bind_all kept xs vs s) (bind_all kept xs ws t)
  bind_all_somewhere kept [] n vs ws s t e x = done_somewhere n tt tt s t (is tt) x
  bind_all_somewhere kept (i ∷ xs) n _ _ s t (more v w vs ws r e) x =
      then_somewhere n t (bind kept i v s) (bind kept i w t) _ _ x.ready (bind_goes kept i w t) (λ a u. one.bind_all_goes kept xs vs u) (λ a u. one.bind_all_goes kept xs ws u) (bind_somewhere n kept i v w s t r x)
      (λ m a b u y g r x. bind_all_somewhere kept xs m vs ws u y (values_grow n m vs ws e g) x)
  bind_all_somewhere kept (i ∷ xs) n _ _ s t end x =
      then_somewhere n t (bind kept i nil_value_of_state s) (bind kept i nil_value_of_state t) _ _ x.ready (bind_goes kept i nil_value_of_state t) (λ a u. one.bind_all_goes kept xs [] u) (λ a u. one.bind_all_goes kept xs [] u) (bind_somewhere n kept i nil_value_of_state nil_value_of_state s t (same_id nil_number) x)
      (λ m a b u y g r x. bind_all_somewhere kept xs m [] [] u y end x)

  bound_somewhere : (n : Names) (h k : Held) (xs : List ℕ) (vs ws : List Value) (m p : Machine) (s t : State) (f g : Machine → State → Outcome Value) → SameHeld n h k → Each (SameValue n) vs ws → SameMachine bounds n m p → Abreast bounds n s t
      → ((m : Machine) (s : State) → GoesOn s (f m s)) → ((m : Machine) (s : State) → GoesOn s (g m s))
      → ((i : Names) (m p : Machine) (u v : State) → Grows n i → SameMachine bounds i m p → Abreast bounds i u v → Somewhere bounds SameValue i (f m u) (g p v)) → Somewhere bounds SameValue n (bound h xs vs m s f) (bound k xs ws p t g)
  bound_somewhere n _ _ xs vs ws m p s t f g (same_held kind parameters kept a b h) e y x go go' then =
      deeper_somewhere n s t _ _ x (λ l. then_goes s (bind_all kept xs vs s) _ (one.bind_all_goes kept xs vs s) (λ a u. go _ u)) (λ l. then_goes t (bind_all kept xs ws t) _ (one.bind_all_goes kept xs ws t) (λ a u. go' _ u))
      (λ l j r. then_somewhere n t (bind_all kept xs vs s) (bind_all kept xs ws t) _ _ x.ready (one.bind_all_goes kept xs ws t) (λ a u. go _ u) (λ a u. go' _ u) (bind_all_somewhere kept xs n vs ws s t e x)
      (λ i a b u v w q x. then i _ _ u v w (with_bound_same i m p (machine_grows n i m p y w) (length xs) l j r) x))
      (binding_levels (length xs)) m.levels p.levels (levels_same n m p y)

  -- ---- links

  called_somewhere : (n : Names) (i : ℕ) (l j : Levels) (vs ws : List Value) (s t : State) → Roomier bounds l j → Each (SameValue n) vs ws → Abreast bounds n s t → Somewhere bounds SameValue n (called rec i l vs s) (called rec' i j ws t)
  called_somewhere n i l j vs ws s t r e x = record { places = x.places; whole = x.whole; ends = evaluation.called_ n x.places i l j vs ws s t r e x.like x.whole x.ready }

  own_name_somewhere : (n : Names) (i : ℕ) (s t : State) (f g : State → Outcome Value) → Abreast bounds n s t → Somewhere bounds SameValue n (f s) (g t) → Somewhere bounds SameValue n (own_name i s f) (own_name i t g)
  own_name_somewhere n i s t f g x h = choose_somewhere n (is_system i) (is_system i) s t _ _ _ _ refl (fail_somewhere n system_name (Id i) (Id i) s t (same_id i) x) h

  define_function_somewhere : (n : Names) (form : Special) (l j : Levels) (a b : Tree) (s t : State) → Roomier bounds l j → SameTree n a b → Abreast bounds n s t → Somewhere bounds SameValue n (define_function rec form l a s) (define_function rec' form j b t)
  define_function_somewhere n form l j a b s t r h x = record { places = x.places; whole = x.whole; ends = evaluation.define_function_ n x.places form l j a b s t r h x.like x.whole x.ready }

  function_defined_somewhere : (n : Names) (form : Special) (i : ℕ) (l j : Levels) (u v a b : Value) (s t : State) → Roomier bounds l j → SameValue n u v → SameValue n a b → Abreast bounds n s t
      → Somewhere bounds SameValue n (function_defined rec form i (hold_function (kind_of_definition form) l u a s)) (function_defined rec' form i (hold_function (kind_of_definition form) j v b t))
  function_defined_somewhere n form i l j u v a b s t r h k x = record {
    places = x.places;
    whole = x.whole;
    ends = evaluation.function_defined_ n x.places form i s t _ _ x.like x.whole x.ready (one.hold_function_goes (kind_of_definition form) l u a s) (one.hold_function_goes (kind_of_definition form) j v b t)
        (quiet_ends n x.places s t _ _ x.like (two.hold_function_quiet (kind_of_definition form) l u a s) (two.hold_function_quiet (kind_of_definition form) j v b t) (hold_function_related n x.places (kind_of_definition form) l j u v a b s t r h k x.like));
  }

  part_linked_somewhere : (n : Names) (form : Special) (i : ℕ) (l j : Levels) (a b : Tree) (s t : State) → Roomier bounds l j → SameTree n a b → Abreast bounds n s t → Somewhere bounds SameValue n (part_linked rec form i l a s) (part_linked rec' form i j b t)
  part_linked_somewhere n form i l j a b s t r h x = choose_somewhere n (fits form a) (fits form b) s t _ _ _ _ (fits_same n form a b h) (define_function_somewhere n form l j a b s t r h x) (fail_somewhere n badly_formed (Id i) (Id i) s t (same_id i) x)

  list_linked_somewhere : (n : Names) (form : Special) (i : ℕ) (l j : Levels) (v w : Value) (o p : Option (List Value)) (s t : State) → Roomier bounds l j → SameValue n v w → Maybe (Each (SameValue n)) o p → Abreast bounds n s t
      → Somewhere bounds SameValue n (list_linked rec form i l v o s) (list_linked rec' form i j w p t)
  list_linked_somewhere n form i l j v w _ _ s t r e (just _ _ (more _ _ _ _ (same_id name) (more a b vs ws h k))) x =
      own_name_somewhere n name s t _ _ x (function_defined_somewhere n form name l j a b _ _ s t r h (cdr_same n x.places s t _ _ x.like (cdr_same n x.places s t v w x.like e)) x)
  list_linked_somewhere n form i l j v w _ _ s t r e nothing x = fail_somewhere n badly_formed (Id i) (Id i) s t (same_id i) x
  list_linked_somewhere n form i l j v w _ _ s t r e (just _ _ end) x = fail_somewhere n badly_formed (Id i) (Id i) s t (same_id i) x
  list_linked_somewhere n form i l j v w _ _ s t r e (just _ _ (more _ _ _ _ (same_id name) end)) x = fail_somewhere n badly_formed (Id i) (Id i) s t (same_id i) x
  list_linked_somewhere n form i l j v w _ _ s t r e (just _ _ (more _ _ _ _ h k)) x = fail_somewhere n badly_formed (Id i) (Id i) s t (same_id i) x

  by_list_somewhere : (n : Names) (form : Special) (i : ℕ) (l j : Levels) (v w : Value) (s t : State) → Roomier bounds l j → SameValue n v w → Abreast bounds n s t
      → Somewhere bounds SameValue n (list_linked rec form i l v (proper_elements s v) s) (list_linked rec' form i j w (proper_elements t w) t)
  by_list_somewhere n form i l j v w s t r e x = list_linked_somewhere n form i l j v w _ _ s t r e (proper_elements_same n x.places s t v w x.like e) x

  definition_linked_somewhere : (n : Names) (form : Special) (i : ℕ) (l j : Levels) (vs ws : List Value) (s t : State) → Roomier bounds l j → Each (SameValue n) vs ws → Abreast bounds n s t → Somewhere bounds SameValue n (definition_linked rec form i l vs s) (definition_linked rec' form i j ws t)
  definition_linked_somewhere n form i l j _ _ s t r end x = fail_somewhere n wrong_count (Id i) (Id i) s t (same_id i) x
  definition_linked_somewhere n form i l j _ _ s t r (more _ _ _ _ (same_fun f g place h) end) x = part_linked_somewhere n form i l j _ _ s t r (as_list_same n _ _ (form_same n x.places s t _ _ x.like (same_fun f g place h))) x
  definition_linked_somewhere n form i l j _ _ s t r (more _ _ _ _ (same_int z) end) x = by_list_somewhere n form i l j _ _ s t r (same_int z) x
  definition_linked_somewhere n form i l j _ _ s t r (more _ _ _ _ (same_id z) end) x = by_list_somewhere n form i l j _ _ s t r (same_id z) x
  definition_linked_somewhere n form i l j _ _ s t r (more _ _ _ _ (same_str z) end) x = by_list_somewhere n form i l j _ _ s t r (same_str z) x
  definition_linked_somewhere n form i l j _ _ s t r (more _ _ _ _ (same_ref a b h) end) x = by_list_somewhere n form i l j _ _ s t r (same_ref a b h) x
  definition_linked_somewhere n form i l j _ _ s t r (more _ _ _ _ (same_int z) (more _ _ _ _ k e)) x = fail_somewhere n wrong_count (Id i) (Id i) s t (same_id i) x
  definition_linked_somewhere n form i l j _ _ s t r (more _ _ _ _ (same_id z) (more _ _ _ _ k e)) x = fail_somewhere n wrong_count (Id i) (Id i) s t (same_id i) x
  definition_linked_somewhere n form i l j _ _ s t r (more _ _ _ _ (same_str z) (more _ _ _ _ k e)) x = fail_somewhere n wrong_count (Id i) (Id i) s t (same_id i) x
  definition_linked_somewhere n form i l j _ _ s t r (more _ _ _ _ (same_ref a b h) (more _ _ _ _ k e)) x = fail_somewhere n wrong_count (Id i) (Id i) s t (same_id i) x
  definition_linked_somewhere n form i l j _ _ s t r (more _ _ _ _ (same_fun a b c h) (more _ _ _ _ k e)) x = fail_somewhere n wrong_count (Id i) (Id i) s t (same_id i) x

  form_linked_somewhere : (n : Names) (form : Special) (i : ℕ) (l j : Levels) (vs ws : List Value) (s t : State) → Roomier bounds l j → Each (SameValue n) vs ws → Abreast bounds n s t → Somewhere bounds SameValue n (form_linked rec form i l vs s) (form_linked rec' form i j ws t)
  form_linked_somewhere n De i l j vs ws s t r e x = definition_linked_somewhere n De i l j vs ws s t r e x
  form_linked_somewhere n Df i l j vs ws s t r e x = definition_linked_somewhere n Df i l j vs ws s t r e x
  form_linked_somewhere n Dm i l j vs ws s t r e x = definition_linked_somewhere n Dm i l j vs ws s t r e x
  form_linked_somewhere n form i l j vs ws s t r e x = fail_somewhere n wrong_type (Id i) (Id i) s t (same_id i) x

  function_linked_somewhere : (n : Names) (f g : Function) (i : ℕ) (l j : Levels) (vs ws : List Value) (s t : State) → SameFunction n f g → Roomier bounds l j → Each (SameValue n) vs ws → Abreast bounds n s t → Somewhere bounds SameValue n (function_linked rec f i l vs s) (function_linked rec' g i j ws t)
  function_linked_somewhere n _ _ i l j vs ws s t (same_special form) r e x = form_linked_somewhere n form i l j vs ws s t r e x
  function_linked_somewhere n _ _ i l j vs ws s t (same_native native) r e x = called_somewhere n i l j vs ws s t r e x
  function_linked_somewhere n _ _ i l j vs ws s t (same_held_function f g h) r e x = called_somewhere n i l j vs ws s t r e x

  linked_to_somewhere : (n : Names) (d c : Option Definition) (i : ℕ) (l j : Levels) (vs ws : List Value) (s t : State) → Maybe (SameDefinition n) d c → Roomier bounds l j → Each (SameValue n) vs ws → Abreast bounds n s t → Somewhere bounds SameValue n (linked_to rec d i l vs s) (linked_to rec' c i j ws t)
  linked_to_somewhere n _ _ i l j vs ws s t nothing r e x = called_somewhere n i l j vs ws s t r e x
  linked_to_somewhere n _ _ i l j vs ws s t (just _ _ (same_definition k p q h)) r e x = function_linked_somewhere n _ _ i l j vs ws s t (function_same n x.places s t p q x.like h) r e x

  linked_somewhere : (n : Names) (i : ℕ) (l j : Levels) (vs ws : List Value) (s t : State) → Roomier bounds l j → Each (SameValue n) vs ws → Abreast bounds n s t → Somewhere bounds SameValue n (linked rec i l vs s) (linked rec' i j ws t)
  linked_somewhere n i l j vs ws s t r e x = linked_to_somewhere n _ _ i l j vs ws s t (definition_same n _ _ (symbol_same n x.places s t i x.like)) r e x

  -- ---- a new application by the same code

  onward_somewhere : (n : Names) (f g : Frame) (m k : Machine) (c d : Code) (s t : State) → SameFrame bounds n f g → SameMachine bounds n m k → SameCode n c d → Abreast bounds n s t → Somewhere bounds SameValue n (ask (Onward f m c) s) (ask' (Onward g k d) t)
  onward_somewhere n f g m k c d s t h e i x =
      let r : EndsSomewhere bounds n (ask (Onward f m c) s) (ask' (Onward g k d) t) = respects n x.places (Onward f m c) s (Onward g k d) t (record { same = same_onward f g m k c d h e i; like = x.like; places = x.whole; asked = tt; ready = x.ready }) in
      record { places = r.places; whole = r.whole; ends = r.ends }

  marked_goes : (ask : Ask) → AskGoes ask → (f : Frame) (m : Machine) (c : Code) (p : Option Pointer) (s : State) → GoesOn s (ask (Onward f m c) (with_mark p s))
  marked_goes ask h f m c p s = goes_from s (with_mark p s) (ask (Onward f m c) (with_mark p s)) (goes_with s s.counts _ refl) (h.goes (Onward f m c) (with_mark p s))

  again_somewhere : (n : Names) (f g : Frame) (vs ws : List Value) (s t : State) → SameFrame bounds n f g → Each (SameValue n) vs ws → Abreast bounds n s t → Somewhere bounds SameValue n (again rec f vs s) (again rec' g ws t)
  again_somewhere n f g vs ws s t h e x =
      turn_somewhere n s t _ _ x (λ u v x.
      deeper_somewhere n u v _ _ x (λ l. marked_goes ask left f (at_entry vs l) (behind_entry f.code) f.function u) (λ l. marked_goes ask' right g (at_entry ws l) (behind_entry g.code) g.function v)
      (λ l j r. onward_somewhere n f g _ _ _ _ _ _ h (entry_same n vs ws l j e r) (behind_entry_same n f.code g.code (code_in n f g h)) (mark_abreast n f.function g.function u v (pointer_of n f g h) x))
      1 f.outside g.outside (outside_same n f g h))

  -- ---- calls in last place: the frame has ended

  ended_abreast : (n : Names) (f g : Frame) (s t : State) → SameFrame bounds n f g → Abreast bounds n s t → Abreast bounds n (frame_ended f s) (frame_ended g t)
  ended_abreast n _ _ s t (same_frame name p q h k c d depth l j a b e r) x = oldest_abreast n depth s t x

  own_linked : (n : Names) (f g : Frame) (vs ws : List Value) (s t : State) → SameFrame bounds n f g → Each (SameValue n) vs ws → Abreast bounds n s t → Somewhere bounds SameValue n (linked rec f.name f.outside vs s) (linked rec' g.name g.outside ws t)
  own_linked n _ _ vs ws s t (same_frame name p q h k c d depth l j a b e r) i x = linked_somewhere n name l j vs ws s t r i x

  -- ---- c-macros

  abbrev Runs : Code → Type 0
  Runs c = (n : Names) (f g : Frame) (d : Code) (m k : Machine) (s t : State) → SameFrame bounds n f g → SameCode n c d → SameMachine bounds n m k → Abreast bounds n s t → Somewhere bounds SameValue n (run rec f c m s) (run rec' g d k t)

  abbrev Seeks : Code → Type 0
  Seeks c = (n : Names) (f g : Frame) (l : ℕ) (d : Code) (m k : Machine) (s t : State) → SameFrame bounds n f g → SameCode n c d → SameMachine bounds n m k → Abreast bounds n s t → Somewhere bounds SameValue n (seek rec f l c m s) (seek rec' g l d k t)

  left_runs : (f : Frame) (c : Code) (m : Machine) (s : State) → GoesOn s (run rec f c m s)
  left_runs f c m s = one.run_goes rec left_goes f c m s

  right_runs : (f : Frame) (c : Code) (m : Machine) (s : State) → GoesOn s (run rec' f c m s)
  right_runs f c m s = one.run_goes rec' right_goes f c m s

  left_seeks : (f : Frame) (l : ℕ) (c : Code) (m : Machine) (s : State) → GoesOn s (seek rec f l c m s)
  left_seeks f l c m s = one.seek_goes rec left_goes f l c m s

  right_seeks : (f : Frame) (l : ℕ) (c : Code) (m : Machine) (s : State) → GoesOn s (seek rec' f l c m s)
  right_seeks f l c m s = one.seek_goes rec' right_goes f l c m s

  -- what goes on behind one c-macro
  module _ (rest : Code) (runs : Runs rest) (seeks : Seeks rest) (n : Names) (f g : Frame) (others : Code) (m k : Machine) (s t : State) (h : SameFrame bounds n f g) (c : SameCode n rest others) (e : SameMachine bounds n m k) (x : Abreast bounds n s t) where
    -- with the value of an outcome
    then_runs : (o p : Outcome Value) (next next' : Value → Machine) → GoesOn t p → Somewhere bounds SameValue n o p → ((i : Names) (v w : Value) → Grows n i → SameValue i v w → SameMachine bounds i (next v) (next' w))
        → Somewhere bounds SameValue n (then_do o (λ v s. run rec f rest (next v) s)) (then_do p (λ v s. run rec' g others (next' v) s))
    then_runs o p next next' go r goes_on =
        then_somewhere n t o p _ _ x.ready go (λ v u. left_runs f rest (next v) u) (λ v u. right_runs g others (next' v) u) r
        (λ i v w u y q r x. runs i f g others (next v) (next' w) u y (frame_grows n i f g h q) (code_grows n i rest others c q) (goes_on i v w q r) x)

    -- where a value is the one in the first register
    then_compares : (o p : Outcome Value) (a b : Value → State → Outcome Value) → GoesOn t p → Somewhere bounds SameValue n o p → ((v : Value) (u : State) → GoesOn u (a v u)) → ((v : Value) (u : State) → GoesOn u (b v u))
        → ((i : Names) (v w : Value) (u y : State) → SameFrame bounds i f g → SameCode i rest others → SameMachine bounds i m k → same (register m 1) v ≡ same (register k 1) w → Abreast bounds i u y → Somewhere bounds SameValue i (a v u) (b w y))
        → Somewhere bounds SameValue n (then_do o a) (then_do p b)
    then_compares o p a b go r l j next =
        then_somewhere n t o p a b x.ready go l j r
        (λ i v w u y q r x. next i v w u y (frame_grows n i f g h q) (code_grows n i rest others c q) (machine_grows n i m k e q)
        (same_same i (register m 1) (register k 1) v w x.like.store.once x.like.functions.once (register_same i m k (machine_grows n i m k e q) 1) r) x)

    macro_somewhere : (a b : CMacro) → SameMacro n a b → Somewhere bounds SameValue n (run rec f (a ∷ rest) m s) (run rec' g (b ∷ others) k t)
    macro_somewhere _ _ (same_load r o p w) = then_runs (content m o s) (content k p t) (λ v. with_register r v m) (λ v. with_register r v k) (content_goes k p t) (content_somewhere n m k o p s t e w x) (λ i v w q y. with_register_same i m k (machine_grows n i m k e q) r v w y)
    macro_somewhere _ _ (same_copy r v w y) =
        then_runs (copied m.levels (form_at s v) s) (copied k.levels (form_at t w) t) (λ v. with_register r v m) (λ v. with_register r v k) (one.copied_goes k.levels (form_at t w) t)
        (copied_somewhere n m.levels k.levels _ _ s t (levels_same n m k e) (form_same n x.places s t v w x.like y) x) (λ i v w q y. with_register_same i m k (machine_grows n i m k e q) r v w y)
    macro_somewhere _ _ (same_jump_eq l o p w) =
        then_compares (content m o s) (content k p t) _ _ (content_goes k p t) (content_somewhere n m k o p s t e w x)
        (λ v u. choose_goes (same (register m 1) v) u (λ s. seek rec f l rest m s) (λ s. run rec f rest m s) (left_seeks f l rest m u) (left_runs f rest m u))
        (λ v u. choose_goes (same (register k 1) v) u (λ s. seek rec' g l others k s) (λ s. run rec' g others k s) (right_seeks g l others k u) (right_runs g others k u))
        (λ i v w u y h c e z x. choose_somewhere i _ _ u y _ _ _ _ z (seeks i f g l others m k u y h c e x) (runs i f g others m k u y h c e x))
    macro_somewhere _ _ (same_jump_ne l o p w) =
        then_compares (content m o s) (content k p t) _ _ (content_goes k p t) (content_somewhere n m k o p s t e w x)
        (λ v u. choose_goes (same (register m 1) v) u (λ s. run rec f rest m s) (λ s. seek rec f l rest m s) (left_runs f rest m u) (left_seeks f l rest m u))
        (λ v u. choose_goes (same (register k 1) v) u (λ s. run rec' g others k s) (λ s. seek rec' g l others k s) (right_runs g others k u) (right_seeks g l others k u))
        (λ i v w u y h c e z x. choose_somewhere i _ _ u y _ _ _ _ z (runs i f g others m k u y h c e x) (seeks i f g l others m k u y h c e x))
    macro_somewhere _ _ (same_macro (macros.Entry i l) w) = runs n f g others m k s t h c e x
    macro_somewhere _ _ (same_macro (Alloc i) w) = runs n f g others _ _ s t h c (allocated_same n m k e i) x
    macro_somewhere _ _ (same_macro (Dealloc i) w) = runs n f g others _ _ s t h c (deallocated_same n m k e i) x
    macro_somewhere _ _ (same_macro (Store r i) w) = runs n f g others _ _ s t h c (with_slot_same n m k e i _ _ (register_same n m k e r)) x
    macro_somewhere _ _ (same_macro (SetVar i) w) =
        then_runs (assigned i (register m 1) s) (assigned i (register k 1) t) (λ v. m) (λ v. k) (one.assigned_goes i (register k 1) t) (assigned_somewhere n i _ _ s t (register_same n m k e 1) x) (λ i v w q y. machine_grows n i m k e q)
    macro_somewhere _ _ (same_macro (Move r i) w) = runs n f g others _ _ s t h c (with_register_same n m k e r _ _ (register_same n m k e i)) x
    macro_somewhere _ _ (same_macro (Link i l) w) =
        then_runs (linked rec i m.levels (arguments l m) s) (linked rec' i k.levels (arguments l k) t) (λ v. after_link v m) (λ v. after_link v k) (one.linked_goes rec' right_goes i k.levels (arguments l k) t)
        (linked_somewhere n i m.levels k.levels _ _ s t (levels_same n m k e) (arguments_same n m k e l) x) (λ i v w q y. after_link_same i m k (machine_grows n i m k e q) v w y)
    macro_somewhere _ _ (same_macro (LinkE i l j) w) = linked_somewhere n i f.outside g.outside _ _ _ _ (outside_same n f g h) (arguments_same n m k e l) (ended_abreast n f g s t h x)
    macro_somewhere _ _ (same_macro (Self l j) w) =
        choose_somewhere n (is_same f l s) (is_same g l t) _ _ _ _ _ _ (is_same_same n f g l s t h x) (again_somewhere n f g _ _ _ _ h (arguments_same n m k e l) (ended_abreast n f g s t h x))
        (own_linked n f g _ _ _ _ h (arguments_same n m k e l) (ended_abreast n f g s t h x))
    macro_somewhere _ _ (same_macro (CallNative i l) w) =
        then_runs (called rec i m.levels (arguments l m) s) (called rec' i k.levels (arguments l k) t) (λ v. with_register 1 v m) (λ v. with_register 1 v k) (one.called_goes rec' right_goes i k.levels (arguments l k) t)
        (called_somewhere n i m.levels k.levels _ _ s t (levels_same n m k e) (arguments_same n m k e l) x) (λ i v w q y. with_register_same i m k (machine_grows n i m k e q) 1 v w y)
    macro_somewhere _ _ (same_macro (Jump l) w) = seeks n f g l others m k s t h c e x
    macro_somewhere _ _ (same_macro (JumpNil l) w) = choose_somewhere n _ _ s t _ _ _ _ (nil_same n _ _ (register_same n m k e 1)) (seeks n f g l others m k s t h c e x) (runs n f g others m k s t h c e x)
    macro_somewhere _ _ (same_macro (JumpT l) w) = choose_somewhere n _ _ s t _ _ _ _ (nil_same n _ _ (register_same n m k e 1)) (runs n f g others m k s t h c e x) (seeks n f g l others m k s t h c e x)
    macro_somewhere _ _ (same_macro (Label l) w) = runs n f g others m k s t h c e x
    macro_somewhere _ _ (same_macro (GoTo l) w) = turn_somewhere n s t _ _ x (λ u v x. onward_somewhere n f g m k _ _ u v h e (behind_same n l f.code g.code (code_in n f g h)) x)
    macro_somewhere _ _ (same_macro (Bind pairs) w) =
        bound_somewhere n f.held g.held (map (λ p. p.1) pairs) _ _ m k s t _ _ (held_in n f g h) (chosen_registers_same n m k e pairs) e x (λ m s. left_runs f rest m s) (λ m s. right_runs g others m s)
        (λ i m k u v q e x. runs i f g others m k u v (frame_grows n i f g h q) (code_grows n i rest others c q) e x)
    macro_somewhere _ _ (same_macro (ProgBind xs) w) =
        bound_somewhere n f.held g.held xs [] [] m k s t _ _ (held_in n f g h) end e x (λ m s. left_runs f rest m s) (λ m s. right_runs g others m s)
        (λ i m k u v q e x. runs i f g others m k u v (frame_grows n i f g h q) (code_grows n i rest others c q) e x)
    macro_somewhere _ _ (same_macro (Free i) w) = runs n f g others _ _ _ _ h c (freed_same n m k i e) (undone_abreast n i s t x)
    macro_somewhere _ _ (same_macro Exit w) = done_somewhere n _ _ s t (register_same n m k e 1) x
    macro_somewhere _ _ (same_macro (Raise i) w) = fail_somewhere n i _ _ s t (register_same n m k e 1) x
    macro_somewhere _ _ (same_macro (Load r o) w) = absurd (cc)
    macro_somewhere _ _ (same_macro (Copy r v) w) = absurd (cc)
    macro_somewhere _ _ (same_macro (JumpEq l o) w) = absurd (cc)
    macro_somewhere _ _ (same_macro (JumpNe l o) w) = absurd (cc)

    -- a jump goes forward
    sought_somewhere : (l : ℕ) (a b : CMacro) → SameMacro n a b → Somewhere bounds SameValue n (seek rec f l (a ∷ rest) m s) (seek rec' g l (b ∷ others) k t)
    sought_somewhere l _ _ (same_macro (Label i) w) = choose_somewhere n (i == l) (i == l) s t _ _ _ _ refl (runs n f g others m k s t h c e x) (seeks n f g l others m k s t h c e x)
    sought_somewhere l _ _ (same_macro a w) = seeks n f g l others m k s t h c e x
    sought_somewhere l _ _ (same_load r o p w) = seeks n f g l others m k s t h c e x
    sought_somewhere l _ _ (same_copy r v w y) = seeks n f g l others m k s t h c e x
    sought_somewhere l _ _ (same_jump_eq i o p w) = seeks n f g l others m k s t h c e x
    sought_somewhere l _ _ (same_jump_ne i o p w) = seeks n f g l others m k s t h c e x

  -- from any c-macro on, to the end or to a label
  code_somewhere : (c : Code) → Runs c × Seeks c
  code_somewhere [] = (λ n f g d m k s t h e i x. no_runs n f g d m k s t e x, λ n f g l d m k s t h e i x. no_seeks n f g l d m k s t e x)
    where
      no_runs : (n : Names) (f g : Frame) (d : Code) (m k : Machine) (s t : State) → SameCode n [] d → Abreast bounds n s t → Somewhere bounds SameValue n (run rec f [] m s) (run rec' g d k t)
      no_runs n f g _ m k s t end x = done_somewhere n nil_value_of_state nil_value_of_state s t (same_id nil_number) x

      no_seeks : (n : Names) (f g : Frame) (l : ℕ) (d : Code) (m k : Machine) (s t : State) → SameCode n [] d → Abreast bounds n s t → Somewhere bounds SameValue n (seek rec f l [] m s) (seek rec' g l d k t)
      no_seeks n f g l _ m k s t end x = done_somewhere n nil_value_of_state nil_value_of_state s t (same_id nil_number) x
  code_somewhere (a ∷ rest) = one_more_macro rest (code_somewhere rest)
    where
      one_more_macro : (rest : Code) → Runs rest × Seeks rest → Runs (a ∷ rest) × Seeks (a ∷ rest)
      one_more_macro rest r = (λ n f g d m k s t h e i x. runs n f g d m k s t h e i x, λ n f g l d m k s t h e i x. seeks n f g l d m k s t h e i x)
        where
          runs : Runs (a ∷ rest)
          runs n f g _ m k s t h (more _ b _ ds w e) i x = macro_somewhere rest r.0 r.1 n f g ds m k s t h e i x a b w

          seeks : Seeks (a ∷ rest)
          seeks n f g l _ m k s t h (more _ b _ ds w e) i x = sought_somewhere rest r.0 r.1 n f g ds m k s t h e i x l a b w

  -- ---- a held function, by its code

  held_by_code : (n : Names) (i w : ℕ) (l j : Levels) (p q : Option Pointer) (a b : Held) (rest others : Code) (vs ws : List Value) (s t : State) → Roomier bounds l j → Maybe (SamePointer n) p q → SameHeld n a b → SameCode n rest others → Each (SameValue n) vs ws → Abreast bounds n s t
      → Somewhere bounds SameValue n (run_code rec l p a (macros.Entry i w ∷ rest) vs s) (run_code rec' j q b (macros.Entry i w ∷ others) ws t)
  held_by_code n i w l j p q a b rest others vs ws s t r h e c v x = subst at (whole_length n x.places s.bindings t.bindings x.whole x.like.bindings)
      (restored_somewhere n (length s.bindings) (run rec (frame_of l p a rest (length s.bindings)) rest (at_entry vs l) (with_mark p s)) (run rec' (frame_of j q b others (length s.bindings)) others (at_entry ws j) (with_mark q t))
      ((code_somewhere rest).0 n _ _ others _ _ _ _ (same_frame i p q a b (macros.Entry i w ∷ rest) (macros.Entry i w ∷ others) (length s.bindings) (one_more l) (one_more j) h e (more _ _ _ _ (same_macro (macros.Entry i w) refl) c) (more_levels l j r)) c (entry_same n vs ws l j v r) (mark_abreast n p q s t h x)))
    where
      frame_of : Levels → Option Pointer → Held → Code → ℕ → Frame
      frame_of l p a rest depth = record { name = i; function = p; held = a; code = macros.Entry i w ∷ rest; depth = depth; outside = one_more l }

      at : ℕ → Type 0
      at depth = Somewhere bounds SameValue n (run_code rec l p a (macros.Entry i w ∷ rest) vs s) (restored depth (run rec' (frame_of j q b others depth) others (at_entry ws j) (with_mark q t)))

  run_code_somewhere : (n : Names) (l j : Levels) (p q : Option Pointer) (a b : Held) (c d : Code) (vs ws : List Value) (s t : State) → Roomier bounds l j → Maybe (SamePointer n) p q → SameHeld n a b → SameCode n c d → Each (SameValue n) vs ws → Abreast bounds n s t
      → Somewhere bounds SameValue n (run_code rec l p a c vs s) (run_code rec' j q b d ws t)
  run_code_somewhere n l j p q a b _ _ vs ws s t r h e end v x = done_somewhere n nil_value_of_state nil_value_of_state s t (same_id nil_number) x
  run_code_somewhere n l j p q a b _ _ vs ws s t r h e (more _ _ rest others (same_macro (macros.Entry i w) y) c) v x = held_by_code n i w l j p q a b rest others vs ws s t r h e c v x
  run_code_somewhere n l j p q a b _ _ vs ws s t r h e (more _ _ rest others (same_macro z y) c) v x = done_somewhere n nil_value_of_state nil_value_of_state s t (same_id nil_number) x
  run_code_somewhere n l j p q a b _ _ vs ws s t r h e (more _ _ rest others (same_load i o w y) c) v x = done_somewhere n nil_value_of_state nil_value_of_state s t (same_id nil_number) x
  run_code_somewhere n l j p q a b _ _ vs ws s t r h e (more _ _ rest others (same_copy i o w y) c) v x = done_somewhere n nil_value_of_state nil_value_of_state s t (same_id nil_number) x
  run_code_somewhere n l j p q a b _ _ vs ws s t r h e (more _ _ rest others (same_jump_eq i o w y) c) v x = done_somewhere n nil_value_of_state nil_value_of_state s t (same_id nil_number) x
  run_code_somewhere n l j p q a b _ _ vs ws s t r h e (more _ _ rest others (same_jump_ne i o w y) c) v x = done_somewhere n nil_value_of_state nil_value_of_state s t (same_id nil_number) x

-- ---- evaluation does

module _ {bounds : Bounds} where
  whole_sides : (n : Names) (ps : List EntryPlace) (s t : State) → Like bounds n ps s t → IsWhole ps → Ready the_compiler t → CleanSides bounds code_and_walk n ps s t
  whole_sides n ps s t like w ready = record { like = like; places = w; ready = ready }

  evaluation_respects : (one : OneRunFacts) (two : TwoRunsFacts bounds) (ask ask' : Ask) → AskGoes ask → AskGoes ask' → Respects bounds code_and_walk ask ask' → EvaluationRespects bounds (by the_compiler ask) (by the_compiler ask')
  evaluation_respects one two ask ask' left right respects = record {
    called_ = λ n ps i l m vs ws s t r e like w ready. called_ends code_and_walk (no_compiler_respects code_and_walk) one two ask ask' left right respects n ps i l m vs ws s t r e (whole_sides n ps s t like w ready);
    function_defined_ = λ n ps form i s t o p like w ready goes go h. defined_ends code_and_walk (no_compiler_respects code_and_walk) one two ask ask' left right respects n ps form i s t o p (whole_sides n ps s t like w ready) goes go h;
    define_function_ = λ n ps form l m a b s t r h like w ready. define_ends code_and_walk (no_compiler_respects code_and_walk) one two ask ask' left right respects form n a b h ps l m s t r (whole_sides n ps s t like w ready);
  }

  -- code that goes on, from related frames and machines, ends alike or apart, whatever bindings it leaves
  pub run_respects : (one : OneRunFacts) (two : TwoRunsFacts bounds) (ask ask' : Ask) → AskGoes ask → AskGoes ask' → Respects bounds code_and_walk ask ask'
      → (n : Names) (ps : List EntryPlace) (f g : Frame) (m k : Machine) (c d : Code) (s t : State) → SameFrame bounds n f g → SameMachine bounds n m k → SameCode n c d → Like bounds n ps s t → IsWhole ps → Ready the_compiler t → EndsSomewhere bounds n (run (by the_compiler ask) f c m s) (run (by the_compiler ask') g d k t)
  run_respects one two ask ask' left right respects n ps f g m k c d s t h i e l w ready =
      let r = (code_somewhere one two ask ask' left right respects (evaluation_respects one two ask ask' left right respects) c).0 n f g d m k s t h e i (record { places = ps; whole = w; like = l; ready = ready }) in
      record { places = r.places; whole = r.whole; ends = r.ends }

  -- and so does a held function, by its code
  pub code_respects : (one : OneRunFacts) (two : TwoRunsFacts bounds) (ask ask' : Ask) → AskGoes ask → AskGoes ask' → Respects bounds code_and_walk ask ask'
      → (n : Names) (ps : List EntryPlace) (l m : Levels) (p q : Option Pointer) (a b : Held) (c d : Code) (vs ws : List Value) (s t : State)
      → Roomier bounds l m → Maybe (SamePointer n) p q → SameHeld n a b → SameCode n c d → Each (SameValue n) vs ws → Like bounds n ps s t → IsWhole ps → Ready the_compiler t
      → EndsSomewhere bounds n (run_code (by the_compiler ask) l p a c vs s) (run_code (by the_compiler ask') m q b d ws t)
  code_respects one two ask ask' left right respects n ps l m p q a b c d vs ws s t r h i e v like w ready =
      let x = run_code_somewhere one two ask ask' left right respects (evaluation_respects one two ask ask' left right respects) n l m p q a b c d vs ws s t r h i e v (record { places = ps; whole = w; like = like; ready = ready }) in
      record { places = x.places; whole = x.whole; ends = x.ends }
