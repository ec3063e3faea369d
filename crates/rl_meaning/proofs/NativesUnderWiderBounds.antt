-- Natives on atoms, properties and definitions under wider bounds.
use Rattle.std.proofs.Common.{◌≡◌, pos, negsuc, ℕ, zero, suc, Bool, List, slice_get, Option, Some, None, refl}
use Rattle.rl_tree.specs.Value.{Value, Int, Id, Str, Ref, Fun}
use Rattle.rl_tree.specs.declared.held.Kind.{Kind}
use Rattle.rl_tree.specs.declared.held.VarKind.{VarKind}
use Rattle.rl_meaning.specs.State.{State, Definition, Counts}
use Rattle.rl_meaning.specs.Outcome.{Outcome, Done, Levels, then_do}
use Rattle.rl_meaning.specs.Outcome as outcome
use Rattle.rl_meaning.specs.Symbols.{pair_at, cdr_at}
use Rattle.rl_meaning.specs.Atoms.{made_places, mkvect, place_at, with_place_of, with_vector, getv, putv, upbv, gensym, intern, explode, Spelled, InName, InNumber, AtZero, AfterQuote, Compressed, Spells, Stops, atom_spelled, compressed_atom, compress_bytes, compress}
use Rattle.rl_meaning.specs.Properties.{nowhere, looked_at, is_property, is_flag, PropertyPlace, look_for, of_identifier, get, flagp, add_first, put_at, for_identifier, put, taken_out, without, remprop, or_list, at_list_end, for_each, flag_at, for_flag, flag, remflag}
use Rattle.rl_meaning.specs.Definitions.{definition_pair, getd, FunctionBody, Given, Lambda, kind_of, with_kind, body_in, with_body, own_name, define, hold_lambda, function_of, putd, remd, declare, fluid, global, undeclare, unfluid, set}
use Rattle.rl_meaning.proofs.UnderWiderBounds.{AreWiderCounts, with_counts, Same, same, IsSameUnlessStopped, done, AreWiderLevels, then_widens}
use Rattle.rl_meaning.proofs.ObjectsUnderWiderBounds.{widening, changing_same, reading_widens, pair_read_widens}
use Rattle.rl_meaning.proofs.WalksUnderWiderBounds.{walk_widens}
use Rattle.rl_meaning.proofs.ReachUnderWiderBounds.{definition_same, define_same}
use Rattle.rl_meaning.proofs.HoldingUnderWiderBounds.{hold_function_widens}
use Rattle.rl_meaning.proofs.VariablesUnderWiderBounds.{made_list_widens, cdr_set_same, by_name_widens}

-- ---- vectors

places_widen : (n : ℕ) (s : State) (d : Counts) → AreWiderCounts s.counts d → IsSameUnlessStopped (made_places n s) (made_places n (with_counts d s))
places_widen n s d w = search widening

pub mkvect_widens : (v : Value) (s : State) (d : Counts) → AreWiderCounts s.counts d → IsSameUnlessStopped (mkvect v s) (mkvect v (with_counts d s))
mkvect_widens (Int (pos n)) s d w = search (widening, places_widen)
mkvect_widens (Int (negsuc zero)) s d w = places_widen 0 s d w
mkvect_widens (Int (negsuc (suc n))) s d w = search widening
mkvect_widens v s d w = search widening

place_at_widens : {A : Type 0} (xs : List Value) (n : ℕ) (o : Option Value) (s : State) (d : Counts) (next next' : ℕ → Value → State → Outcome A) → ((n : ℕ) (x : Value) (s : State) (d : Counts) → AreWiderCounts s.counts d → IsSameUnlessStopped (next n x s) (next' n x (with_counts d s))) → AreWiderCounts s.counts d → IsSameUnlessStopped (place_at xs n o s next) (place_at xs n o (with_counts d s) next')
place_at_widens xs n (Some x) s d next next' h w = h n x s d w
place_at_widens xs n None s d next next' h w = search widening

place_of_widens : {A : Type 0} (xs : List Value) (i : Value) (s : State) (d : Counts) (next next' : ℕ → Value → State → Outcome A) → ((n : ℕ) (x : Value) (s : State) (d : Counts) → AreWiderCounts s.counts d → IsSameUnlessStopped (next n x s) (next' n x (with_counts d s))) → AreWiderCounts s.counts d → IsSameUnlessStopped (with_place_of xs i s next) (with_place_of xs i (with_counts d s) next')
place_of_widens xs (Int (pos n)) s d next next' h w = place_at_widens xs n (slice_get xs n) s d next next' h w
place_of_widens xs (Int (negsuc n)) s d next next' h w = search widening
place_of_widens xs i s d next next' h w = search widening

with_vector_widens : {A : Type 0} (o : Option (List Value)) (v : Value) (s : State) (d : Counts) (next next' : List Value → State → Outcome A) → ((xs : List Value) (s : State) (d : Counts) → AreWiderCounts s.counts d → IsSameUnlessStopped (next xs s) (next' xs (with_counts d s))) → AreWiderCounts s.counts d → IsSameUnlessStopped (with_vector o v s next) (with_vector o v (with_counts d s) next')
with_vector_widens (Some xs) v s d next next' h w = h xs s d w
with_vector_widens None v s d next next' h w = search widening

pub getv_widens : (v i : Value) (s : State) (d : Counts) → AreWiderCounts s.counts d → IsSameUnlessStopped (getv v i s) (getv v i (with_counts d s))
getv_widens v i s d w = search (widening, with_vector_widens, place_of_widens)

pub putv_widens : (v i y : Value) (s : State) (d : Counts) → AreWiderCounts s.counts d → IsSameUnlessStopped (putv v i y s) (putv v i y (with_counts d s))
putv_widens v i y s d w = search (widening, with_vector_widens, place_of_widens) depth 9

pub upbv_widens : (v : Value) (s : State) (d : Counts) → AreWiderCounts s.counts d → IsSameUnlessStopped (upbv v s) (upbv v (with_counts d s))
upbv_widens v s d w = search widening

-- ---- identifiers

pub gensym_widens : (s : State) (d : Counts) → AreWiderCounts s.counts d → IsSameUnlessStopped (gensym s) (gensym (with_counts d s))
gensym_widens s d w = search widening

pub intern_widens : (v : Value) (s : State) (d : Counts) → AreWiderCounts s.counts d → IsSameUnlessStopped (intern v s) (intern v (with_counts d s))
intern_widens (Id i) s d w = search widening
intern_widens (Str bytes) s d w = search widening
intern_widens v s d w = search widening

pub explode_widens : (v : Value) (s : State) (d : Counts) → AreWiderCounts s.counts d → IsSameUnlessStopped (explode v s) (explode v (with_counts d s))
explode_widens (Ref r) s d w = search widening
explode_widens (Id i) s d w = search made_list_widens
explode_widens (Int z) s d w = search made_list_widens
explode_widens (Str bytes) s d w = search made_list_widens
explode_widens (Fun f place) s d w = search made_list_widens

atom_of_widens : (k : ℕ) (spelled : Spelled) (s : State) (d : Counts) → AreWiderCounts s.counts d → IsSameUnlessStopped (atom_spelled k spelled s) (atom_spelled k spelled (with_counts d s))
atom_of_widens k (InName name) s d w = search widening
atom_of_widens k (InNumber minus n) s d w = search widening
atom_of_widens k AtZero s d w = search widening
atom_of_widens k (AfterQuote bytes) s d w = search widening
atom_of_widens k spelled s d w = search widening

compressed_widens : (n : ℕ) (c : Compressed) (s : State) (d : Counts) → AreWiderCounts s.counts d → IsSameUnlessStopped (compressed_atom n c s) (compressed_atom n c (with_counts d s))
compressed_widens n (Spells spelled) s d w = atom_of_widens n spelled s d w
compressed_widens n (Stops k) s d w = search widening

compress_bytes_widens : (o : Option (List ℕ)) (l : Value) (s : State) (d : Counts) → AreWiderCounts s.counts d → IsSameUnlessStopped (compress_bytes o l s) (compress_bytes o l (with_counts d s))
compress_bytes_widens (Some bytes) l s d w = search compressed_widens
compress_bytes_widens None l s d w = search widening

pub compress_widens : (l : Value) (s : State) (d : Counts) → AreWiderCounts s.counts d → IsSameUnlessStopped (compress l s) (compress l (with_counts d s))
compress_widens l s d w = search (widening, walk_widens, compress_bytes_widens)

-- ---- properties

-- a test that does not hang on the counts
abbrev Steady : (State → Value → Bool) → Type 0
Steady test = (s : State) (d : Counts) (x : Value) → test (with_counts d s) x ≡ test s x

looked_widens : (test : State → Value → Bool) → Steady test → (place : PropertyPlace) (pair x : Value) (s : State) (d : Counts) → AreWiderCounts s.counts d → IsSameUnlessStopped (Done (looked_at (test s x) place pair) s) (Done (looked_at (test (with_counts d s) x) place pair) (with_counts d s))
looked_widens test h place pair x s d w = rw (h s d x) (done (looked_at (test s x) place pair) s (with_counts d s) (same s d w))

look_for_widens : (test : State → Value → Bool) → Steady test → (list : Value) (s : State) (d : Counts) → AreWiderCounts s.counts d → IsSameUnlessStopped (look_for test list s) (look_for test list (with_counts d s))
look_for_widens test h list s d w =
    then_widens _ _ _ _ (walk_widens (λ place pair x s. Done (looked_at (test s x) place pair) s) (λ place pair x s. Done (looked_at (test s x) place pair) s) (λ place pair x s d w. looked_widens test h place pair x s d w) nowhere list s d w) (λ walked s d w. search widening)

for_property : (p : Value) (list : Value) (s : State) (d : Counts) → AreWiderCounts s.counts d → IsSameUnlessStopped (look_for (is_property p) list s) (look_for (is_property p) list (with_counts d s))
for_property p list s d w = look_for_widens (is_property p) (λ s d x. refl) list s d w

flag_looked : (p : Value) (list : Value) (s : State) (d : Counts) → AreWiderCounts s.counts d → IsSameUnlessStopped (look_for (is_flag p) list s) (look_for (is_flag p) list (with_counts d s))
flag_looked p list s d w = look_for_widens (is_flag p) (λ s d x. refl) list s d w

of_identifier_widens : {A : Type 0} (v : Value) (a : A) (s : State) (d : Counts) (next next' : ℕ → State → Outcome A) → ((i : ℕ) (s : State) (d : Counts) → AreWiderCounts s.counts d → IsSameUnlessStopped (next i s) (next' i (with_counts d s))) → AreWiderCounts s.counts d → IsSameUnlessStopped (of_identifier v a s next) (of_identifier v a (with_counts d s) next')
of_identifier_widens (Id i) a s d next next' h w = h i s d w
of_identifier_widens v a s d next next' h w = search widening

with_identifier_widens : {A : Type 0} (v : Value) (s : State) (d : Counts) (next next' : ℕ → State → Outcome A) → ((i : ℕ) (s : State) (d : Counts) → AreWiderCounts s.counts d → IsSameUnlessStopped (next i s) (next' i (with_counts d s))) → AreWiderCounts s.counts d → IsSameUnlessStopped (for_identifier v s next) (for_identifier v (with_counts d s) next')
with_identifier_widens (Id i) s d next next' h w = h i s d w
with_identifier_widens v s d next next' h w = search widening

or_list_widens : {A : Type 0} (l v : Value) (s : State) (d : Counts) (next next' : ℕ → State → Outcome A) → ((i : ℕ) (s : State) (d : Counts) → AreWiderCounts s.counts d → IsSameUnlessStopped (next i s) (next' i (with_counts d s))) → AreWiderCounts s.counts d → IsSameUnlessStopped (or_list l v s next) (or_list l v (with_counts d s) next')
or_list_widens l (Id i) s d next next' h w = h i s d w
or_list_widens l v s d next next' h w = search widening

pub get_widens : (u p : Value) (s : State) (d : Counts) → AreWiderCounts s.counts d → IsSameUnlessStopped (get u p s) (get u p (with_counts d s))
get_widens u p s d w = search (widening, of_identifier_widens, for_property)

pub flagp_widens : (u p : Value) (s : State) (d : Counts) → AreWiderCounts s.counts d → IsSameUnlessStopped (flagp u p s) (flagp u p (with_counts d s))
flagp_widens u p s d w = search (widening, of_identifier_widens, flag_looked)

add_first_widens : (i : ℕ) (element : Value) (s : State) (d : Counts) → AreWiderCounts s.counts d → IsSameUnlessStopped (add_first i element s) (add_first i element (with_counts d s))
add_first_widens i element s d w = search widening

put_at_widens : (i : ℕ) (p x : Value) (o : Option Value) (s : State) (d : Counts) → AreWiderCounts s.counts d → IsSameUnlessStopped (put_at i p x o s) (put_at i p x o (with_counts d s))
put_at_widens i p x (Some pair) s d w = search (widening, cdr_set_same)
put_at_widens i p x None s d w = search (widening, add_first_widens)

pub put_widens : (u p x : Value) (s : State) (d : Counts) → AreWiderCounts s.counts d → IsSameUnlessStopped (put u p x s) (put u p x (with_counts d s))
put_widens u p x s d w = search (widening, with_identifier_widens, for_property, put_at_widens) depth 9

taken_out_same : (i : ℕ) (o : Option Value) (pair : Value) (s t : State) → Same s t → Same (taken_out i o pair s) (taken_out i o pair t)
taken_out_same i None pair a b (same s d w) = same (taken_out i None pair s) d w
taken_out_same i (Some before) pair a b (same s d w) = changing_same before _ _ (cdr_set_same before (cdr_at s pair) s (with_counts d s) (same s d w))

without_same : (i : ℕ) (place : PropertyPlace) (s t : State) → Same s t → Same (without i place s) (without i place t)
without_same i place s t e =
    elim place.at as (λ o. Same (elim o as (λ (o : Option Value). State) [ None ↦ s | Some pair ↦ taken_out i place.before pair s ]) (elim o as (λ (o : Option Value). State) [ None ↦ t | Some pair ↦ taken_out i place.before pair t ])) [
      | None ↦ e
      | Some pair ↦ taken_out_same i place.before pair s t e
    ]

pub remprop_widens : (u p : Value) (s : State) (d : Counts) → AreWiderCounts s.counts d → IsSameUnlessStopped (remprop u p s) (remprop u p (with_counts d s))
remprop_widens u p s d w = search (widening, of_identifier_widens, for_property, without_same)

at_list_end_widens : (l : Value) (o : Option Value) (s : State) (d : Counts) → AreWiderCounts s.counts d → IsSameUnlessStopped (at_list_end l o s) (at_list_end l o (with_counts d s))
at_list_end_widens l (Some end) s d w = search widening
at_list_end_widens l None s d w = search widening

for_each_widens : (act : ℕ → State → Outcome (Unit {0})) → ((i : ℕ) (s : State) (d : Counts) → AreWiderCounts s.counts d → IsSameUnlessStopped (act i s) (act i (with_counts d s))) → (l : Value) (s : State) (d : Counts) → AreWiderCounts s.counts d → IsSameUnlessStopped (for_each act l s) (for_each act l (with_counts d s))
for_each_widens act h l s d w = search (widening, walk_widens, or_list_widens, at_list_end_widens, h) depth 9

flag_at_widens : (i : ℕ) (p : Value) (o : Option Value) (s : State) (d : Counts) → AreWiderCounts s.counts d → IsSameUnlessStopped (flag_at i p o s) (flag_at i p o (with_counts d s))
flag_at_widens i p (Some pair) s d w = search widening
flag_at_widens i p None s d w = add_first_widens i p s d w

for_flag_widens : (p : Value) (act : ℕ → State → Outcome (Unit {0})) → ((i : ℕ) (s : State) (d : Counts) → AreWiderCounts s.counts d → IsSameUnlessStopped (act i s) (act i (with_counts d s))) → (l : Value) (s : State) (d : Counts) → AreWiderCounts s.counts d → IsSameUnlessStopped (for_flag p act l s) (for_flag p act l (with_counts d s))
for_flag_widens (Id j) act h l s d w = for_each_widens act h l s d w
for_flag_widens p act h l s d w =
    then_widens _ _ _ _ (for_each_widens (λ i s. outcome.Done tt s) (λ i s d w. search widening) l s d w) (λ x s d w. search widening)

pub flag_widens : (l p : Value) (s : State) (d : Counts) → AreWiderCounts s.counts d → IsSameUnlessStopped (flag l p s) (flag l p (with_counts d s))
flag_widens l p s d w = search (widening, for_flag_widens, flag_looked, flag_at_widens) depth 9

pub remflag_widens : (l p : Value) (s : State) (d : Counts) → AreWiderCounts s.counts d → IsSameUnlessStopped (remflag l p s) (remflag l p (with_counts d s))
remflag_widens l p s d w = search (widening, for_flag_widens, flag_looked, without_same) depth 9

-- ---- definitions

definition_pair_widens : (o : Option Definition) (s : State) (d : Counts) → AreWiderCounts s.counts d → IsSameUnlessStopped (definition_pair o s) (definition_pair o (with_counts d s))
definition_pair_widens None s d w = search widening
definition_pair_widens (Some x) s d w = search widening

pub getd_widens : (f : Value) (s : State) (d : Counts) → AreWiderCounts s.counts d → IsSameUnlessStopped (getd f s) (getd f (with_counts d s))
getd_widens f s d w = search (widening, of_identifier_widens, definition_pair_widens)

with_kind_widens : {A : Type 0} (o : Option Kind) (t : Value) (s : State) (d : Counts) (next next' : Kind → State → Outcome A) → ((k : Kind) (s : State) (d : Counts) → AreWiderCounts s.counts d → IsSameUnlessStopped (next k s) (next' k (with_counts d s))) → AreWiderCounts s.counts d → IsSameUnlessStopped (with_kind o t s next) (with_kind o t (with_counts d s) next')
with_kind_widens (Some kind) t s d next next' h w = h kind s d w
with_kind_widens None t s d next next' h w = search widening

with_body_widens : {A : Type 0} (o : Option FunctionBody) (b : Value) (s : State) (d : Counts) (next next' : FunctionBody → State → Outcome A) → ((x : FunctionBody) (s : State) (d : Counts) → AreWiderCounts s.counts d → IsSameUnlessStopped (next x s) (next' x (with_counts d s))) → AreWiderCounts s.counts d → IsSameUnlessStopped (with_body o b s next) (with_body o b (with_counts d s) next')
with_body_widens (Some body) b s d next next' h w = h body s d w
with_body_widens None b s d next next' h w = search widening

pub own_name_widens : {A : Type 0} (i : ℕ) (s : State) (d : Counts) (next next' : State → Outcome A) → ((s : State) (d : Counts) → AreWiderCounts s.counts d → IsSameUnlessStopped (next s) (next' (with_counts d s))) → AreWiderCounts s.counts d → IsSameUnlessStopped (own_name i s next) (own_name i (with_counts d s) next')
own_name_widens i s d next next' h w = search (widening, h)

pub hold_lambda_widens : (kind : Kind) (levels levels' : Levels) (r : AreWiderLevels levels levels') (o : Option (Value × Value)) (s : State) (d : Counts) → AreWiderCounts s.counts d → IsSameUnlessStopped (hold_lambda kind levels o s) (hold_lambda kind levels' o (with_counts d s))
hold_lambda_widens kind levels levels' r (Some parts) s d w = search hold_function_widens
hold_lambda_widens kind levels levels' r None s d w = search widening

function_of_widens : (kind : Kind) (levels levels' : Levels) (r : AreWiderLevels levels levels') (body : FunctionBody) (s : State) (d : Counts) → AreWiderCounts s.counts d → IsSameUnlessStopped (function_of kind levels body s) (function_of kind levels' body (with_counts d s))
function_of_widens kind levels levels' r (Given p) s d w = search widening
function_of_widens kind levels levels' r (Lambda rest) s d w =
    let o : Option (Value × Value) = pair_at s rest in
    then_widens _ _ _ _ (reading_widens rest (λ s. hold_lambda kind levels o s) (λ s. hold_lambda kind levels' o s) (λ s d w. hold_lambda_widens kind levels levels' r o s d w) s d w) (λ f s d w. search widening)

pub putd_widens : (levels levels' : Levels) (r : AreWiderLevels levels levels') (f t b : Value) (s : State) (d : Counts) → AreWiderCounts s.counts d → IsSameUnlessStopped (putd levels f t b s) (putd levels' f t b (with_counts d s))
putd_widens levels levels' r f t b s d w =
    with_identifier_widens f s d _ _ (λ i s d w.
    with_kind_widens (kind_of t) t s d _ _ (λ kind s d w.
    let o : Option FunctionBody = body_in s kind b in
    pair_read_widens b (λ s. with_body o b s (λ body s. held levels i kind body s)) (λ s. with_body o b s (λ body s. held levels' i kind body s))
    (λ s d w. with_body_widens o b s d _ _ (λ body s d w. search (widening, own_name_widens, function_of_widens, define_same) depth 9) w) s d w) w) w
  where
    held : Levels → ℕ → Kind → FunctionBody → State → Outcome Value
    held l i kind body s = own_name i s (λ s. then_do (function_of kind l body s) (λ g s. outcome.Done f (define i kind g s)))

pub remd_widens : (f : Value) (s : State) (d : Counts) → AreWiderCounts s.counts d → IsSameUnlessStopped (remd f s) (remd f (with_counts d s))
remd_widens f s d w = search (widening, with_identifier_widens, own_name_widens, definition_pair_widens, definition_same) depth 9

declare_widens : (kind other : VarKind) (i : ℕ) (s : State) (d : Counts) → AreWiderCounts s.counts d → IsSameUnlessStopped (declare kind other i s) (declare kind other i (with_counts d s))
declare_widens kind other i s d w = search widening

pub fluid_widens : (l : Value) (s : State) (d : Counts) → AreWiderCounts s.counts d → IsSameUnlessStopped (fluid l s) (fluid l (with_counts d s))
fluid_widens l s d w = search (for_each_widens, declare_widens)

pub global_widens : (l : Value) (s : State) (d : Counts) → AreWiderCounts s.counts d → IsSameUnlessStopped (global l s) (global l (with_counts d s))
global_widens l s d w = search (for_each_widens, declare_widens)

undeclare_widens : (i : ℕ) (s : State) (d : Counts) → AreWiderCounts s.counts d → IsSameUnlessStopped (undeclare i s) (undeclare i (with_counts d s))
undeclare_widens i s d w = search widening

pub unfluid_widens : (l : Value) (s : State) (d : Counts) → AreWiderCounts s.counts d → IsSameUnlessStopped (unfluid l s) (unfluid l (with_counts d s))
unfluid_widens l s d w = search (for_each_widens, undeclare_widens)

pub set_widens : (u x : Value) (s : State) (d : Counts) → AreWiderCounts s.counts d → IsSameUnlessStopped (set u x s) (set u x (with_counts d s))
set_widens u x s d w = search (with_identifier_widens, by_name_widens)
