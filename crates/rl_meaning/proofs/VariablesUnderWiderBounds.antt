-- Variables, numbers and lists under wider bounds.
use Rattle.std.proofs.Common.{ℤ, pos, negsuc, ℕ, Bool, true, false, List, [], ◌∷◌, Option, Some, None}
use Rattle.rl_tree.specs.Value.{Value, Int, Id, Str, Ref, Fun}
use Rattle.rl_tree.specs.Value as object
use Rattle.rl_tree.specs.declared.held.VarKind.{VarKind}
use Rattle.rl_tree.specs.declared.held.VarKind.TheVariants as kind
use Rattle.rl_meaning.specs.Names.{Operation}
use Rattle.rl_meaning.specs.Names as names
use Rattle.rl_meaning.specs.State.{State, Kept, Stray, Counts}
use Rattle.rl_meaning.specs.Outcome.{Outcome, Done, Levels}
use Rattle.rl_meaning.specs.Symbols.{pair_at}
use Rattle.rl_meaning.specs.Walks.{equal}
use Rattle.rl_meaning.specs.Variables.{Nearest, strays, top_value, variable_used, nearest, variable, with_value, set_by, assigned, assigned_by_name, bound_as, bind, bind_all}
use Rattle.rl_meaning.specs.Numbers.{integer, power_within, raised_to, of_two, of_one, with_integer, operated}
use Rattle.rl_meaning.specs.Lists.{part_of, with_pair, part, with_car, with_cdr, cdr_set, Chain, pair_hung, list_extended, list_ended, made_list, append, reversed, list_length, first_pair, member, memq, associated, assoc, joined, nconc}
use Rattle.rl_meaning.specs.Copying.{with_object}
use Rattle.rl_meaning.proofs.UnderWiderBounds.{AreWiderCounts, with_counts, Same, same, IsSameUnlessStopped, AreWiderLevels, then_widens}
use Rattle.rl_meaning.proofs.ObjectsUnderWiderBounds.{widening, object_same, event_same, reading_widens}
use Rattle.rl_meaning.proofs.WalksUnderWiderBounds.{walk_widens, equal_widens}

-- ---- variables

strays_same : (b : Bool) (x : ℕ) (s t : State) → Same s t → Same (strays b x s) (strays b x t)
strays_same true x a b e = event_same (Stray x) a b e
strays_same false x a b e = e

top_value_widens : (o : Option Value) (x : ℕ) (s : State) (d : Counts) → AreWiderCounts s.counts d → IsSameUnlessStopped (top_value o x s) (top_value o x (with_counts d s))
top_value_widens (Some v) x s d w = search widening
top_value_widens None x s d w = search widening

used_widens : (o : Option Nearest) (x : ℕ) (s : State) (d : Counts) → AreWiderCounts s.counts d → IsSameUnlessStopped (variable_used o x s) (variable_used o x (with_counts d s))
used_widens None x s d w = search top_value_widens
used_widens (Some b) x s d w = search (widening, strays_same)

pub variable_widens : (x : ℕ) (s : State) (d : Counts) → AreWiderCounts s.counts d → IsSameUnlessStopped (variable x s) (variable x (with_counts d s))
variable_widens x s d w = used_widens (nearest x s) x s d w

with_value_same : (o : Option Nearest) (x : ℕ) (v : Value) (s t : State) → Same s t → Same (with_value o x v s) (with_value o x v t)
with_value_same None x v a b (same s d w) = same (with_value None x v s) d w
with_value_same (Some n) x v a b (same s d w) = same (with_value (Some n) x v s) d w

set_by_widens : (test : Nearest → Bool) (x : ℕ) (v : Value) (s : State) (d : Counts) → AreWiderCounts s.counts d → IsSameUnlessStopped (set_by test x v s) (set_by test x v (with_counts d s))
set_by_widens test x v s d w = search (widening, with_value_same, strays_same)

pub assigned_widens : (x : ℕ) (v : Value) (s : State) (d : Counts) → AreWiderCounts s.counts d → IsSameUnlessStopped (assigned x v s) (assigned x v (with_counts d s))
assigned_widens x v s d w = search set_by_widens

pub by_name_widens : (x : ℕ) (v : Value) (s : State) (d : Counts) → AreWiderCounts s.counts d → IsSameUnlessStopped (assigned_by_name x v s) (assigned_by_name x v (with_counts d s))
by_name_widens x v s d w = search set_by_widens

bound_as_widens : (k : VarKind) (x : ℕ) (v : Value) (s : State) (d : Counts) → AreWiderCounts s.counts d → IsSameUnlessStopped (bound_as k x v s) (bound_as k x v (with_counts d s))
bound_as_widens kind.Plain x v s d w = search widening
bound_as_widens kind.Fluid x v s d w = search widening
bound_as_widens kind.Global x v s d w = search widening

bind_widens : (kept : List Kept) (x : ℕ) (v : Value) (s : State) (d : Counts) → AreWiderCounts s.counts d → IsSameUnlessStopped (bind kept x v s) (bind kept x v (with_counts d s))
bind_widens kept x v s d w = search (widening, bound_as_widens)

pub bind_all_widens : (kept : List Kept) (xs : List ℕ) (vs : List Value) (s : State) (d : Counts) → AreWiderCounts s.counts d → IsSameUnlessStopped (bind_all kept xs vs s) (bind_all kept xs vs (with_counts d s))
bind_all_widens kept [] vs s d w = search widening
bind_all_widens kept (x ∷ xs) (v ∷ vs) s d w = let h = λ (s : State) (d : Counts) (w : AreWiderCounts s.counts d). bind_all_widens kept xs vs s d w in search (widening, bind_widens, h)
bind_all_widens kept (x ∷ xs) [] s d w = let h = λ (s : State) (d : Counts) (w : AreWiderCounts s.counts d). bind_all_widens kept xs [] s d w in search (widening, bind_widens, h)

-- ---- numbers

integer_widens : (o : Operation) (z : ℤ) (s : State) (d : Counts) → AreWiderCounts s.counts d → IsSameUnlessStopped (integer o z s) (integer o z (with_counts d s))
integer_widens o z s d w = search widening

power_widens : (o : Operation) (u : ℤ) (n : ℕ) (s : State) (d : Counts) → AreWiderCounts s.counts d → IsSameUnlessStopped (power_within o u n s) (power_within o u n (with_counts d s))
power_widens o u n s d w = search (widening, integer_widens)

raised_to_widens : (o : Operation) (u z : ℤ) (s : State) (d : Counts) → AreWiderCounts s.counts d → IsSameUnlessStopped (raised_to o u z s) (raised_to o u z (with_counts d s))
raised_to_widens o u (pos n) s d w = power_widens o u n s d w
raised_to_widens o u (negsuc n) s d w = search widening

of_two_widens : (o : Operation) (u z : ℤ) (s : State) (d : Counts) → AreWiderCounts s.counts d → IsSameUnlessStopped (of_two o u z s) (of_two o u z (with_counts d s))
of_two_widens names.Difference u z s d w = search (widening, integer_widens)
of_two_widens names.Plus2 u z s d w = search (widening, integer_widens)
of_two_widens names.Times2 u z s d w = search (widening, integer_widens)
of_two_widens names.Max2 u z s d w = search (widening, integer_widens)
of_two_widens names.Min2 u z s d w = search (widening, integer_widens)
of_two_widens names.Quotient u z s d w = search (widening, integer_widens)
of_two_widens names.Remainder u z s d w = search widening
of_two_widens names.Divide u z s d w = search (widening, integer_widens)
of_two_widens names.Expt u z s d w = raised_to_widens names.Expt u z s d w
of_two_widens names.Greaterp u z s d w = search widening
of_two_widens names.Lessp u z s d w = search widening
of_two_widens o u z s d w = search widening

of_one_widens : (o : Operation) (u : ℤ) (s : State) (d : Counts) → AreWiderCounts s.counts d → IsSameUnlessStopped (of_one o u s) (of_one o u (with_counts d s))
of_one_widens names.Abs (pos n) s d w = search widening
of_one_widens names.Abs (negsuc n) s d w = search (widening, integer_widens)
of_one_widens names.Add1 u s d w = search (widening, integer_widens)
of_one_widens names.Sub1 u s d w = search (widening, integer_widens)
of_one_widens names.Minus u s d w = search (widening, integer_widens)
of_one_widens o u s d w = search widening

pub with_integer_widens : {A : Type 0} (v : Value) (s : State) (d : Counts) (next next' : ℤ → State → Outcome A) → ((z : ℤ) (s : State) (d : Counts) → AreWiderCounts s.counts d → IsSameUnlessStopped (next z s) (next' z (with_counts d s))) → AreWiderCounts s.counts d → IsSameUnlessStopped (with_integer v s next) (with_integer v (with_counts d s) next')
with_integer_widens (Int z) s d next next' h w = h z s d w
with_integer_widens v s d next next' h w = search widening

pub operated_widens : (o : Operation) (vs : List Value) (s : State) (d : Counts) → AreWiderCounts s.counts d → IsSameUnlessStopped (operated o vs s) (operated o vs (with_counts d s))
operated_widens o (u ∷ []) s d w = search (with_integer_widens, of_one_widens)
operated_widens o (u ∷ v ∷ vs) s d w = search (with_integer_widens, of_two_widens)
operated_widens o [] s d w = search widening

-- ---- lists

with_pair_widens : {A : Type 0} (o : Option (Value × Value)) (v : Value) (s : State) (d : Counts) (next next' : Value × Value → State → Outcome A) → ((p : Value × Value) (s : State) (d : Counts) → AreWiderCounts s.counts d → IsSameUnlessStopped (next p s) (next' p (with_counts d s))) → AreWiderCounts s.counts d → IsSameUnlessStopped (with_pair o v s next) (with_pair o v (with_counts d s) next')
with_pair_widens (Some p) v s d next next' h w = h p s d w
with_pair_widens None v s d next next' h w = search widening

pub part_widens : (path : List Bool) (v : Value) (s : State) (d : Counts) → AreWiderCounts s.counts d → IsSameUnlessStopped (part path v s) (part path v (with_counts d s))
part_widens [] v s d w = search widening
part_widens (first ∷ path) v s d w =
    with_pair_widens (pair_at s v) v s d _ _ (λ p s d w. reading_widens v (λ s. part path (part_of first p) s) (λ s. part path (part_of first p) s) (λ s d w. part_widens path (part_of first p) s d w) s d w) w

pub with_car_widens : (u v : Value) (s : State) (d : Counts) → AreWiderCounts s.counts d → IsSameUnlessStopped (with_car u v s) (with_car u v (with_counts d s))
with_car_widens u v s d w = search (widening, with_pair_widens)

pub with_cdr_widens : (u v : Value) (s : State) (d : Counts) → AreWiderCounts s.counts d → IsSameUnlessStopped (with_cdr u v s) (with_cdr u v (with_counts d s))
with_cdr_widens u v s d w = search (widening, with_pair_widens)

pub cdr_set_same : (p v : Value) (s t : State) → Same s t → Same (cdr_set p v s) (cdr_set p v t)
cdr_set_same p v a b (same s d w) = elim (pair_at s p) as (λ o. Same (elim o as (λ (o : Option (Value × Value)). State) [ None ↦ s | Some parts ↦ with_object p (object.Pair parts.0 v) s ])
    (elim o as (λ (o : Option (Value × Value)). State) [ None ↦ with_counts d s | Some parts ↦ with_object p (object.Pair parts.0 v) (with_counts d s) ])) [
      | None ↦ same s d w
      | Some parts ↦ object_same p _ s (with_counts d s) (same s d w)
    ]

hung_widens : (chain : Chain) (p : Value) (s : State) (d : Counts) → AreWiderCounts s.counts d → IsSameUnlessStopped (Done (pair_hung chain p s).0 (pair_hung chain p s).1) (Done (pair_hung chain p (with_counts d s)).0 (pair_hung chain p (with_counts d s)).1)
hung_widens None p s d w = search widening
hung_widens (Some c) p s d w = search (widening, cdr_set_same)

pub extended_widens : (chain : Chain) (v : Value) (s : State) (d : Counts) → AreWiderCounts s.counts d → IsSameUnlessStopped (list_extended chain v s) (list_extended chain v (with_counts d s))
extended_widens chain v s d w = search (widening, hung_widens)

pub ended_widens : (chain : Chain) (v : Value) (s : State) (d : Counts) → AreWiderCounts s.counts d → IsSameUnlessStopped (list_ended chain v s) (list_ended chain v (with_counts d s))
ended_widens None v s d w = search widening
ended_widens (Some c) v s d w = search (widening, cdr_set_same)

pub made_list_widens : (chain : Chain) (vs : List Value) (s : State) (d : Counts) → AreWiderCounts s.counts d → IsSameUnlessStopped (made_list chain vs s) (made_list chain vs (with_counts d s))
made_list_widens chain [] s d w = search ended_widens
made_list_widens chain (v ∷ vs) s d w = let h = λ (c : Chain) (s : State) (d : Counts) (w : AreWiderCounts s.counts d). made_list_widens c vs s d w in search (widening, extended_widens, h)

pub append_widens : (u v : Value) (s : State) (d : Counts) → AreWiderCounts s.counts d → IsSameUnlessStopped (append u v s) (append u v (with_counts d s))
append_widens u v s d w = search (widening, walk_widens, extended_widens, ended_widens)

pub reversed_widens : (u : Value) (s : State) (d : Counts) → AreWiderCounts s.counts d → IsSameUnlessStopped (reversed u s) (reversed u (with_counts d s))
reversed_widens u s d w = search (widening, walk_widens)

pub list_length_widens : (u : Value) (s : State) (d : Counts) → AreWiderCounts s.counts d → IsSameUnlessStopped (list_length u s) (list_length u (with_counts d s))
list_length_widens u s d w = search (widening, walk_widens)

first_pair_widens : (test test' : Value → Value → State → Outcome Bool) → ((p x : Value) (s : State) (d : Counts) → AreWiderCounts s.counts d → IsSameUnlessStopped (test p x s) (test' p x (with_counts d s))) → (l : Value) (s : State) (d : Counts) → AreWiderCounts s.counts d → IsSameUnlessStopped (first_pair test l s) (first_pair test' l (with_counts d s))
first_pair_widens test test' h l s d w = search (widening, walk_widens, h)

pub member_widens : (levels levels' : Levels) (r : AreWiderLevels levels levels') (x l : Value) (s : State) (d : Counts) → AreWiderCounts s.counts d → IsSameUnlessStopped (member levels x l s) (member levels' x l (with_counts d s))
member_widens levels levels' r x l s d w = search (first_pair_widens, equal_widens)

pub memq_widens : (x l : Value) (s : State) (d : Counts) → AreWiderCounts s.counts d → IsSameUnlessStopped (memq x l s) (memq x l (with_counts d s))
memq_widens x l s d w = search (widening, first_pair_widens)

associated_widens : (levels levels' : Levels) (r : AreWiderLevels levels levels') (x l y : Value) (o : Option (Value × Value)) (s : State) (d : Counts) → AreWiderCounts s.counts d → IsSameUnlessStopped (associated levels x l y o s) (associated levels' x l y o (with_counts d s))
associated_widens levels levels' r x l y (Some parts) s d w =
    then_widens _ _ _ _ (reading_widens y (λ s. equal levels x parts.0 s) (λ s. equal levels' x parts.0 s) (λ s d w. equal_widens levels levels' r x parts.0 s d w) s d w) (λ holds s d w. search widening)
associated_widens levels levels' r x l y None s d w = search widening

pub assoc_widens : (levels levels' : Levels) (r : AreWiderLevels levels levels') (x l : Value) (s : State) (d : Counts) → AreWiderCounts s.counts d → IsSameUnlessStopped (assoc levels x l s) (assoc levels' x l (with_counts d s))
assoc_widens levels levels' r x l s d w = search (widening, walk_widens, associated_widens)

joined_widens : (u : Value) (o : Option Value) (v : Value) (s : State) (d : Counts) → AreWiderCounts s.counts d → IsSameUnlessStopped (joined u o v s) (joined u o v (with_counts d s))
joined_widens u None v s d w = search widening
joined_widens u (Some last) v s d w = search (widening, cdr_set_same)

pub nconc_widens : (u v : Value) (s : State) (d : Counts) → AreWiderCounts s.counts d → IsSameUnlessStopped (nconc u v s) (nconc u v (with_counts d s))
nconc_widens u v s d w = search (widening, walk_widens, joined_widens)
