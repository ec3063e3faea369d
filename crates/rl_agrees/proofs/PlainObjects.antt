-- What an expansion makes: objects and functions behind those that were there; and the objects that it makes may be changed.
use Rattle.std.proofs.Common.{◌≡◌, ◌≤◌, ◌+◌, ◌-◌, ℕ, suc, Bool, true, false, List, [], ◌∷◌, ◌++◌, length, slice_set, sym, ◌∙◌, ap, subst, arith}
use Rattle.std.proofs.Common.{length-append}
use Rattle.std.proofs.lemmas.List.{append_assoc, append-nil}
use Rattle.rl_tree.specs.Value.{Value, Int, Id, Str, Ref, Fun, Object, Store}
use Rattle.rl_meaning.specs.State.{State, Entry, Function}
use Rattle.rl_meaning.specs.Outcome.{Outcome, choose, turn, Levels, deeper, pair_turn, made_pair}
use Rattle.rl_meaning.specs.Symbols.{nil_value_of_state}
use Rattle.rl_meaning.specs.Errors.{fail}
use Rattle.rl_meaning.specs.Constants.{reading_object}
use Rattle.rl_meaning.specs.Copying.{with_object}
use Rattle.rl_agrees.specs.Expanding.{IsLonger}
use Rattle.rl_agrees.proofs.PlainWays.{Ends, then_ends, Stays, Leaves, done_stays, then_stays, watched_stays, turn_ends, deeper_ends, pair_turn_ends, room_ends}

-- ---- longer lists

pub longer_refl : {A : Type 0} (xs : List A) → IsLonger xs xs
longer_refl xs = record { more = []; is = sym (append-nil xs) }

pub longer_more : {A : Type 0} (xs ys zs : List A) → IsLonger xs ys → IsLonger xs (ys ++ zs)
longer_more xs ys zs l = record { more = l.more ++ zs; is = ap (λ y. y ++ zs) l.is ∙ append_assoc xs l.more zs }

pub longer_length : {A : Type 0} (xs ys : List A) → IsLonger xs ys → length xs ≤ length ys
longer_length xs ys l = omega (arith, ap length l.is, length-append xs l.more)

set_behind : {A : Type 0} (xs ys : List A) (i : ℕ) (y : A) → slice_set (xs ++ ys) (length xs + i) y ≡ xs ++ slice_set ys i y
set_behind [] ys i y = let e : 0 + i ≡ i = omega arith in ap (λ n. slice_set ys n y) e
set_behind (x ∷ xs) ys i y =
    let e : suc (length xs + i) ≡ length (x ∷ xs) + i = omega arith in
    subst (λ n. slice_set ((x ∷ xs) ++ ys) n y ≡ (x ∷ xs) ++ slice_set ys i y) e (ap (λ zs. x ∷ zs) (set_behind xs ys i y))

-- what stands behind may change
pub longer_set : {A : Type 0} (xs ys : List A) (r : ℕ) (y : A) → length xs ≤ r → IsLonger xs ys → IsLonger xs (slice_set ys r y)
longer_set xs ys r y le l = let e : length xs + (r - length xs) ≡ r = omega (arith, le) in record {
  more = slice_set l.more (r - length xs) y;
  is = subst (λ n. slice_set ys n y ≡ xs ++ slice_set l.more (r - length xs) y) e (ap (λ zs. slice_set zs (length xs + (r - length xs)) y) l.is ∙ set_behind xs l.more (r - length xs) y);
}

-- ---- new objects

-- no object that was there
abbrev pub IsNew : State → Value → Type 0
IsNew b (Ref r) = length b.store ≤ r
IsNew b v = Unit {0}

pub with_store_stays : (b : State) (B : List Entry → Type 0) (s : State) (store : Store) → IsLonger b.store store → Stays b B s → Stays b B (record s { store = store })
with_store_stays b B s store h k = record { store = h; functions = k.functions; symbols = k.symbols; outside = k.outside; gensyms = k.gensyms; compilation = k.compilation; counts = k.counts; bindings = k.bindings }

pub with_functions_stays : (b : State) (B : List Entry → Type 0) (s : State) (functions : List Function) → IsLonger b.functions functions → Stays b B s → Stays b B (record s { functions = functions })
with_functions_stays b B s functions h k = record { store = k.store; functions = h; symbols = k.symbols; outside = k.outside; gensyms = k.gensyms; compilation = k.compilation; counts = k.counts; bindings = k.bindings }

-- a new object may become another
pub object_stays : (b : State) (B : List Entry → Type 0) (v : Value) (o : Object) (s : State) → IsNew b v → Stays b B s → Stays b B (with_object v o s)
object_stays b B (Ref r) o s new k = with_store_stays b B s _ (longer_set b.store s.store r o new k.store) k
object_stays b B (Int z) o s new k = k
object_stays b B (Id i) o s new k = k
object_stays b B (Str bytes) o s new k = k
object_stays b B (Fun f place) o s new k = k

-- the new value, in a state that stays
abbrev pub Makes : State → (List Entry → Type 0) → Value → State → Type 0
Makes b B v t = IsNew b v × Stays b B t

pub pair_new : (b : State) (B : List Entry → Type 0) (Q : State → Type 0) (a d : Value) (s : State) → Stays b B s → Ends (Makes b B) Q (made_pair a d s)
pair_new b B Q a d s k = room_ends b B (Makes b B) Q 1 s _ k (λ t k. record { ends = (longer_length b.store t.store k.store, with_store_stays b B t _ (longer_more b.store t.store _ k.store) k) })

pub pair_stays : (b : State) (B : List Entry → Type 0) (Q : State → Type 0) (a d : Value) (s : State) → Stays b B s → Leaves b B Q (made_pair a d s)
pair_stays b B Q a d s k = room_ends b B _ Q 1 s _ k (λ t k. record { ends = with_store_stays b B t _ (longer_more b.store t.store _ k.store) k })

-- ---- errors: of which nothing is said

pub fail_ends : {A : Type 0} (b : State) (B : List Entry → Type 0) (P : A → State → Type 0) (Q : State → Type 0) (n : ℕ) (culprit : Value) (s : State) → Stays b B s → Ends P Q (fail {A = A} n culprit s)
fail_ends b B P Q n culprit s k =
    then_ends _ P Q _ _ (pair_stays b B Q _ nil_value_of_state s k) (λ rest t k.
    then_ends _ P Q _ _ (pair_stays b B Q culprit rest t k) (λ message t k. record { ends = tt }))

-- ---- what stays, by how it is made

pub choose_stays : {A : Type 0} (b : State) (B : List Entry → Type 0) (Q : State → Type 0) (c : Bool) (s : State) (f g : State → Outcome A) → Leaves b B Q (f s) → Leaves b B Q (g s) → Leaves b B Q (choose c s f g)
choose_stays b B Q true s f g h k = h
choose_stays b B Q false s f g h k = k

pub fail_stays : {A : Type 0} (b : State) (B : List Entry → Type 0) (Q : State → Type 0) (n : ℕ) (culprit : Value) (s : State) → Stays b B s → Leaves {A = A} b B Q (fail n culprit s)
fail_stays b B Q n culprit s k = fail_ends b B _ Q n culprit s k

pub turn_stays : {A : Type 0} (b : State) (B : List Entry → Type 0) (Q : State → Type 0) (s : State) (next : State → Outcome A) → Stays b B s → ((t : State) → Stays b B t → Leaves b B Q (next t)) → Leaves b B Q (turn s next)
turn_stays b B Q s next k h = turn_ends b B _ Q s next k h

pub deeper_stays : {A : Type 0} (b : State) (B : List Entry → Type 0) (Q : State → Type 0) (n : ℕ) (levels : Levels) (s : State) (next : Levels → Outcome A) → ((l : Levels) → Leaves b B Q (next l)) → Leaves b B Q (deeper n levels s next)
deeper_stays b B Q n levels s next h = deeper_ends b B _ Q n levels s next h

pub pair_turn_stays : {A : Type 0} (b : State) (B : List Entry → Type 0) (Q : State → Type 0) (descent : Bool) (levels : Levels) (s : State) (next : Levels → State → Outcome A) → Stays b B s → ((l : Levels) (t : State) → Stays b B t → Leaves b B Q (next l t)) → Leaves b B Q (pair_turn descent levels s next)
pair_turn_stays b B Q descent levels s next k h = pair_turn_ends b B _ Q descent levels s next k h

pub reading_stays : (b : State) (B : List Entry → Type 0) (v : Value) (s : State) → Stays b B s → Stays b B (reading_object v s)
reading_stays b B v s k = watched_stays b B s _ k

pub ruleset staying = (done_stays, then_stays, choose_stays, fail_stays, pair_stays, turn_stays, deeper_stays, pair_turn_stays, reading_stays)
