-- The parts of a pair, and a change of its cdr, where the pair is known.
use Rattle.std.proofs.Common.{◌≡◌, Some, None, refl}
use Rattle.rl_tree.specs.Value.{Value, Pair}
use Rattle.rl_meaning.specs.Copying.{with_object}
use Rattle.rl_meaning.specs.Lists.{cdr_set}
use Rattle.rl_meaning.specs.State.{State}
use Rattle.rl_meaning.specs.Symbols.{car_at, cdr_at, nil_value_of_state, pair_at}

pub car_known : (s : State) (v a d : Value) → pair_at s v ≡ Some (a, d) → car_at s v ≡ a
car_known s v a d e = rw (e, car_at) refl

pub no_car : (s : State) (v : Value) → pair_at s v ≡ None → car_at s v ≡ nil_value_of_state
no_car s v e = rw (e, car_at) refl

pub cdr_known : (s : State) (v a d : Value) → pair_at s v ≡ Some (a, d) → cdr_at s v ≡ d
cdr_known s v a d e = rw (e, cdr_at) refl

pub no_cdr : (s : State) (v : Value) → pair_at s v ≡ None → cdr_at s v ≡ nil_value_of_state
no_cdr s v e = rw (e, cdr_at) refl

pub cdr_changed : (s : State) (v a d x : Value) → pair_at s v ≡ Some (a, d) → cdr_set v x s ≡ with_object v (Pair a x) s
cdr_changed s v a d x e = rw (e, cdr_set) refl

pub no_cdr_changed : (s : State) (v x : Value) → pair_at s v ≡ None → cdr_set v x s ≡ s
no_cdr_changed s v x e = rw (e, cdr_set) refl
