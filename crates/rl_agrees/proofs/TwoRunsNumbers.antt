-- Operations on integers, of two runs side by side.
use Rattle.std.proofs.Common.{ℤ, pos, negsuc, ℕ, Bool, true, false, List, Option, Some, None, subst}
use Rattle.rl_tree.specs.Value.{Value}
use Rattle.rl_meaning.specs.Names.{Operation}
use Rattle.rl_meaning.specs.Names as names
use Rattle.rl_meaning.specs.State.{State}
use Rattle.rl_meaning.specs.Outcome.{Outcome}
use Rattle.rl_meaning.specs.Symbols.{truth, or_nil}
use Rattle.rl_meaning.specs.Errors.{fail}
use Rattle.rl_meaning.specs.Numbers.{operation_name, fails_as, integer, power_within, raised_to, of_two, of_one, with_integer, operated}
use Rattle.rl_meaning.specs.TwoRunsValues.{Names, Each, end, more, SameValue, same_int, same_id, same_str, same_ref, same_fun}
use Rattle.rl_meaning.specs.TwoRunsStates.{Bounds, EntryPlace, Like}
use Rattle.rl_agrees.proofs.TwoRunsWays.{Beside, done_now}
use Rattle.rl_agrees.proofs.TwoRunsObjects.{named_same, fail_related}
use Rattle.rl_agrees.proofs.TwoRunsLists.{renaming}

pub or_nil_same : (n : Names) (o : Option ℕ) → SameValue n (or_nil o) (or_nil o)
or_nil_same n None = same_id 0
or_nil_same n (Some i) = same_id i

module _ {bounds : Bounds} where
  fails_related : {A : Type 0} {R : Names → A → A → Type 0} (n : Names) (ps : List EntryPlace) (i : ℕ) (o : Operation) (s t : State) → Like bounds n ps s t → Beside bounds {A = A} R n ps (fails_as i o s) (fails_as i o t)
  fails_related {R = R} n ps i o s t l = subst (λ x. Beside bounds R n ps (fails_as i o s) (fail i (or_nil x) t)) (named_same n 0 (operation_name o) s.symbols t.symbols l.symbols) (fail_related n ps i _ _ s t l (or_nil_same n _))

  integer_related : (n : Names) (ps : List EntryPlace) (o : Operation) (z : ℤ) (s t : State) → Like bounds n ps s t → Beside bounds SameValue n ps (integer o z s) (integer o z t)
  integer_related n ps o z s t l = search (renaming, fails_related)

  power_related : (n : Names) (ps : List EntryPlace) (o : Operation) (u : ℤ) (i : ℕ) (s t : State) → Like bounds n ps s t → Beside bounds SameValue n ps (power_within o u i s) (power_within o u i t)
  power_related n ps o u i s t l = search (renaming, integer_related, fails_related)

  raised_related : (n : Names) (ps : List EntryPlace) (o : Operation) (u z : ℤ) (s t : State) → Like bounds n ps s t → Beside bounds SameValue n ps (raised_to o u z s) (raised_to o u z t)
  raised_related n ps o u (pos i) s t l = power_related n ps o u i s t l
  raised_related n ps o u (negsuc i) s t l = search renaming

pub truth_same : (n : Names) (b : Bool) → SameValue n (truth b) (truth b)
truth_same n true = same_id 1
truth_same n false = same_id 0

module _ {bounds : Bounds} where
  two_related : (n : Names) (ps : List EntryPlace) (o : Operation) (u z : ℤ) (s t : State) → Like bounds n ps s t → Beside bounds SameValue n ps (of_two o u z s) (of_two o u z t)
  two_related n ps names.Difference u z s t l = search integer_related
  two_related n ps names.Plus2 u z s t l = search integer_related
  two_related n ps names.Times2 u z s t l = search integer_related
  two_related n ps names.Max2 u z s t l = search integer_related
  two_related n ps names.Min2 u z s t l = search integer_related
  two_related n ps names.Quotient u z s t l = search (renaming, integer_related, fails_related)
  two_related n ps names.Remainder u z s t l = search (renaming, fails_related)
  two_related n ps names.Divide u z s t l = search (renaming, integer_related, fails_related)
  two_related n ps names.Expt u z s t l = raised_related n ps names.Expt u z s t l
  two_related n ps names.Greaterp u z s t l = search (renaming, truth_same)
  two_related n ps names.Lessp u z s t l = search (renaming, truth_same)
  two_related n ps o u z s t l = search renaming

  one_related : (n : Names) (ps : List EntryPlace) (o : Operation) (u : ℤ) (s t : State) → Like bounds n ps s t → Beside bounds SameValue n ps (of_one o u s) (of_one o u t)
  one_related n ps names.Abs (pos i) s t l = search renaming
  one_related n ps names.Abs (negsuc i) s t l = search integer_related
  one_related n ps names.Add1 u s t l = search integer_related
  one_related n ps names.Sub1 u s t l = search integer_related
  one_related n ps names.Minus u s t l = search integer_related
  one_related n ps o u s t l = search renaming

  pub with_integer_related : {A : Type 0} {R : Names → A → A → Type 0} (n : Names) (ps : List EntryPlace) (v w : Value) (s t : State) (f g : ℤ → State → Outcome A) → SameValue n v w → Like bounds n ps s t → ((z : ℤ) → Beside bounds R n ps (f z s) (g z t)) → Beside bounds R n ps (with_integer v s f) (with_integer w t g)
  with_integer_related n ps _ _ s t f g (same_int z) l h = h z
  with_integer_related n ps _ _ s t f g (same_id i) l h = search (fail_related, same_id)
  with_integer_related n ps _ _ s t f g (same_str i) l h = search (fail_related, same_str)
  with_integer_related n ps _ _ s t f g (same_ref r q i) l h = search (fail_related, same_ref)
  with_integer_related n ps _ _ s t f g (same_fun r q place i) l h = search (fail_related, same_fun)

  pub operated_related : (n : Names) (ps : List EntryPlace) (o : Operation) (xs ys : List Value) (s t : State) → Each (SameValue n) xs ys → Like bounds n ps s t → Beside bounds SameValue n ps (operated o xs s) (operated o ys t)
  operated_related n ps o _ _ s t end l = done_now n ps _ _ s t (same_int _) l
  operated_related n ps o _ _ s t (more u v _ _ h end) l = with_integer_related n ps u v s t _ _ h l (λ z. one_related n ps o z s t l)
  operated_related n ps o _ _ s t (more u v _ _ h (more x y _ _ k r)) l = with_integer_related n ps u v s t _ _ h l (λ z. with_integer_related n ps x y s t _ _ k l (λ w. two_related n ps o z w s t l))
