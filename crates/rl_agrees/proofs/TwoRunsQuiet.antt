-- Where neither of two runs side by side prints, they end alike or with what a stop asks for: so an error does.
use Rattle.std.proofs.Common.{◌≡◌, ◌≤◌, ◌-◌, ◌∙◌, nat_le, ℕ, Bool, true, false, List, [], drop, take, Option, Some, None, refl, sym, subst, arith}
use Rattle.std.proofs.lemmas.Bool.Decides.{nat_tests}
use Rattle.std.proofs.lemmas.List.{append-nil, take-append-drop}
use Rattle.rl_tree.specs.Value.{Value}
use Rattle.rl_meaning.specs.State.{State, Outside, Expansion}
use Rattle.rl_meaning.specs.Outcome.{Outcome, Done, Failed, Went, Returned, Stopped, Depth, then_do, Levels, in_levels, deeper, run_room, expansion_room, cells_within, expansion_within, room, made_pair}
use Rattle.rl_meaning.specs.Symbols.{nil_value_of_state}
use Rattle.rl_meaning.specs.Errors.{fail}
use Rattle.rl_meaning.specs.Opening.{state_of}
use Rattle.rl_meaning.specs.TwoRunsValues.{Names, SameValue}
use Rattle.rl_meaning.specs.TwoRunsStates.{Bounds, EntryPlace, Like, Roomier}
use Rattle.rl_meaning.specs.TwoRunsEnds.{IsBegunBy, HasShown, short_of_levels, Parted, Related, done, failed, went, returned, stopped, parted}
use Rattle.rl_meaning.specs.TwoRunsEnds as ends
use Rattle.rl_agrees.specs.Later.{Later}
use Rattle.rl_agrees.proofs.TwoRunsWays.{Beside, Short, right_short, left_short}
use Rattle.rl_agrees.proofs.TwoRunsObjects.{fail_related}

-- ---- what was printed and noted

-- the outcome's run had this outside at the end
abbrev pub HasOutside : {A : Type 0} → Outside → Outcome A → Type 0
HasOutside x o = (state_of o).outside ≡ x

-- it printed and noted this, and maybe more behind it
abbrev pub Shows : {A : Type 0} → Outside → Outcome A → Type 0
Shows x o = HasShown x.output x.notes (state_of o).outside

begins_same : (xs : List ℕ) → IsBegunBy xs xs
begins_same xs = record { rest = []; is = sym (append-nil xs) }

pub begins_taken : (i : ℕ) (xs : List ℕ) → IsBegunBy (take i xs) xs
begins_taken i xs = record { rest = drop i xs; is = sym (take-append-drop i xs) }

pub shows_same : {A : Type 0} (x : Outside) (o : Outcome A) → HasOutside x o → Shows x o
shows_same x o e = subst (λ y. HasShown x.output x.notes y) (sym e) (record { output = begins_same x.output; notes = begins_same x.notes })

module _ {bounds : Bounds} where
  -- outcomes that are alike, or of which one stops short, where neither prints
  pub quiet_ends : {A : Type 0} {R : Names → A → A → Type 0} (n : Names) (ps : List EntryPlace) (x : Outside) (o p : Outcome A) → HasOutside x o → HasOutside x p → Beside bounds R n ps o p → Related bounds (Parted bounds) R n ps o p
  quiet_ends n ps x o p e f (done m a b s t g r l) = done m a b s t g r l
  quiet_ends n ps x o p e f (failed m z v w s t g r l) = failed m z v w s t g r l
  quiet_ends n ps x o p e f (went m i s t g l) = went m i s t g l
  quiet_ends n ps x o p e f (returned m v w s t g r l) = returned m v w s t g r l
  quiet_ends n ps x o p e f (stopped why s t h) = stopped why s t h
  quiet_ends {A = A} n ps x o p e f (parted _ _ a) = parted o p (at o p e f a)
    where
      at : (o p : Outcome A) → HasOutside x o → HasOutside x p → Short bounds o p → Parted bounds o p
      at _ _ e f (right_short o why t i) = ends.right_short o why t i (subst (λ y. Shows y o) (sym f) (shows_same x o e))
      at _ _ e f (left_short why s p i) = ends.left_short why s p i (subst (λ y. Shows y p) (sym e) (shows_same x p f))

-- ---- an error, which prints nothing

-- a value has this, in its state; and else the outside is this
abbrev pub Leaves : {A : Type 0} → Outside → (State → Type 0) → Outcome A → Type 0
Leaves x D (Done a s) = D s
Leaves x D (Failed z m s) = s.outside ≡ x
Leaves x D (Went l s) = ⊥
Leaves x D (Returned v s) = ⊥
Leaves x D (Stopped why s) = s.outside ≡ x

-- there is no value
abbrev pub Quits : {A : Type 0} → Outside → Outcome A → Type 0
Quits x o = Leaves x (λ s. ⊥) o

pub quits_outside : {A : Type 0} (x : Outside) (o : Outcome A) → Quits x o → HasOutside x o
quits_outside x (Done a s) h = absurd h
quits_outside x (Failed z m s) h = h
quits_outside x (Went l s) h = absurd h
quits_outside x (Returned v s) h = absurd h
quits_outside x (Stopped why s) h = h

pub then_leaves : {A B : Type 0} (x : Outside) (D E : State → Type 0) (o : Outcome A) (f : A → State → Outcome B) → Leaves x D o → ((a : A) (s : State) → D s → Leaves x E (f a s)) → Leaves x E (then_do o f)
then_leaves x D E (Done a s) f h k = k a s h
then_leaves x D E (Failed z m s) f h k = h
then_leaves x D E (Went l s) f h k = absurd h
then_leaves x D E (Returned v s) f h k = absurd h
then_leaves x D E (Stopped why s) f h k = h

-- where there is none, it may be said to have anything
pub quits_leaves : {A : Type 0} (x : Outside) (D : State → Type 0) (o : Outcome A) → Quits x o → Leaves x D o
quits_leaves x D (Done a s) h = absurd h
quits_leaves x D (Failed z m s) h = h
quits_leaves x D (Went l s) h = absurd h
quits_leaves x D (Returned v s) h = absurd h
quits_leaves x D (Stopped why s) h = h

pub leaves_shows : {A B : Type 0} (x : Outside) (D : State → Type 0) (o : Outcome A) (f : A → State → Outcome B) → Leaves x D o → ((a : A) (s : State) → D s → Shows x (f a s)) → Shows x (then_do o f)
leaves_shows x D (Done a s) f h k = k a s h
leaves_shows {B = B} x D (Failed z m s) f h k = shows_same {A = B} x (Failed z m s) h
leaves_shows x D (Went l s) f h k = absurd h
leaves_shows x D (Returned v s) f h k = absurd h
leaves_shows {B = B} x D (Stopped why s) f h k = shows_same {A = B} x (Stopped why s) h

module _ {A : Type 0} (x : Outside) (D : State → Type 0) (f : State → Outcome A) (h : (s : State) → s.outside ≡ x → Leaves x D (f s)) where
  cells_leave : (b : Bool) (c : ℕ) (s : State) → s.outside ≡ x → Leaves x D (cells_within b c s f)
  cells_leave true c s e = h _ e
  cells_leave false c s e = e

  run_leaves : (o : Option ℕ) (cost : ℕ) (s : State) → s.outside ≡ x → Leaves x D (run_room o cost s f)
  run_leaves None cost s e = h s e
  run_leaves (Some c) cost s e = cells_leave (nat_le cost c) (c - cost) s e

  within_leaves : (b : Bool) (e : Expansion) (cost : ℕ) (s : State) → s.outside ≡ x → Leaves x D (expansion_within b e cost s (λ s. run_room s.counts.cells cost s f))
  within_leaves true i cost s e = run_leaves _ cost _ e
  within_leaves false i cost s e = e

  expansion_leaves : (o : Option Expansion) (cost : ℕ) (s : State) → s.outside ≡ x → Leaves x D (expansion_room o cost s (λ s. run_room s.counts.cells cost s f))
  expansion_leaves None cost s e = run_leaves _ cost s e
  expansion_leaves (Some i) cost s e = within_leaves (nat_le cost i.cells) i cost s e

  room_leaves : (cost : ℕ) (s : State) → s.outside ≡ x → Leaves x D (room cost s f)
  room_leaves cost s e = expansion_leaves s.counts.expansion cost s e

pair_leaves : (x : Outside) (a d : Value) (s : State) → s.outside ≡ x → Leaves x (λ s. s.outside ≡ x) (made_pair a d s)
pair_leaves x a d s e = room_leaves x (λ s. s.outside ≡ x) _ (λ s e. e) 1 s e

pub fail_quits : (A : Type 0) (i : ℕ) (v : Value) (x : Outside) (s : State) → s.outside ≡ x → Quits {A = A} x (fail i v s)
fail_quits A i v x s e =
    then_leaves x (λ t. t.outside ≡ x) (λ t. ⊥) _ _ (pair_leaves x _ nil_value_of_state s e) (λ rest t e.
    then_leaves x (λ t. t.outside ≡ x) (λ t. ⊥) _ _ (pair_leaves x v rest t e) (λ message t e. e))

pub fail_outside : (A : Type 0) (i : ℕ) (v : Value) (s : State) → HasOutside {A = A} s.outside (fail i v s)
fail_outside A i v s = quits_outside s.outside _ (fail_quits A i v s.outside s refl)

module _ {bounds : Bounds} where
  pub fail_ends : {A : Type 0} {R : Names → A → A → Type 0} (n : Names) (ps : List EntryPlace) (i : ℕ) (v w : Value) (s t : State) → SameValue n v w → Like bounds n ps s t → Related bounds {A = A} (Parted bounds) R n ps (fail i v s) (fail i w t)
  fail_ends {A = A} n ps i v w s t r l = quiet_ends n ps s.outside _ _ (fail_outside A i v s) (fail_outside A i w t ∙ sym l.outside) (fail_related n ps i v w s t l r)

-- ---- levels

-- what was printed and noted before it stays
abbrev pub Prints : {A : Type 0} → (State → Outcome A) → Type 0
Prints f = (s : State) → Shows s.outside (f s)

-- so it is of a run that leaves what it must
pub later_shows : {A : Type 0} (s : State) (o : Outcome A) → Later s (state_of o) → Shows s.outside o
later_shows s o l = record { output = record { rest = l.output.rest; is = l.output.is }; notes = record { rest = l.notes.rest; is = l.notes.is } }

wider : (i l m : ℕ) → m ≤ l → nat_le i m ≡ true → nat_le i l ≡ true
wider i l m le e = grind (arith, nat_tests)

entered_shows : {A : Type 0} (s : State) (f : Levels → Outcome A) → ((l : Levels) → Shows s.outside (f l)) → (b : Bool) (l : ℕ) → Shows s.outside (in_levels b l s f)
entered_shows s f left true l = left (Some l)
entered_shows {A = A} s f left false l = shows_same {A = A} s.outside (Stopped Depth s) refl

module _ {bounds : Bounds} {A : Type 0} {R : Names → A → A → Type 0} (n : Names) (ps : List EntryPlace) (s t : State) (f g : Levels → Outcome A) (same : s.outside ≡ t.outside) (left : (l : Levels) → Shows s.outside (f l)) (right : (m : Levels) → Shows t.outside (g m)) where
  right_depth : (o : Outcome A) → true ≡ bounds.levels → Shows s.outside o → Related bounds (Parted bounds) R n ps o (Stopped Depth t)
  right_depth o x h = parted o (Stopped Depth t) (ends.right_short o Depth t (ends.meets_levels (sym x)) (subst (λ y. Shows y o) same h))

  left_depth : (p : Outcome A) → bounds.levels ≡ false → Shows t.outside p → Related bounds (Parted bounds) R n ps (Stopped Depth s) p
  left_depth p x h = parted (Stopped Depth s) p (ends.left_short Depth s p (ends.lacks_levels x) (subst (λ y. Shows y p) (sym same) h))

  entered_ends : (b c : Bool) (l m : ℕ) → (c ≡ true → b ≡ true) → true ≡ bounds.levels → Related bounds (Parted bounds) R n ps (f (Some l)) (g (Some m)) → Related bounds (Parted bounds) R n ps (in_levels b l s f) (in_levels c m t g)
  entered_ends true true l m e w h = h
  entered_ends false true l m e w h = absurd (let x : false ≡ true = e refl in cc)
  entered_ends b false l m e w h = right_depth (in_levels b l s f) w (entered_shows s f left b l)

  left_entered : (b : Bool) (l : ℕ) → bounds.levels ≡ false → Related bounds (Parted bounds) R n ps (f (Some l)) (g None) → Related bounds (Parted bounds) R n ps (in_levels b l s f) (g None)
  left_entered true l x h = h
  left_entered false l x h = left_depth (g None) x (right None)

  right_entered : (c : Bool) (m : ℕ) → true ≡ bounds.levels → Related bounds (Parted bounds) R n ps (f None) (g (Some m)) → Related bounds (Parted bounds) R n ps (f None) (in_levels c m t g)
  right_entered true m w h = h
  right_entered false m w h = right_depth (f None) w (left None)

  pub deeper_ends : (i : ℕ) (l m : Levels) → Roomier bounds l m → ((l m : Levels) → Roomier bounds l m → Related bounds (Parted bounds) R n ps (f l) (g m)) → Related bounds (Parted bounds) R n ps (deeper i l s f) (deeper i m t g)
  deeper_ends i None None r h = h None None r
  deeper_ends i (Some l) None r h = left_entered (nat_le i l) (l - i) (sym r.bound) (h (Some (l - i)) None (record { is = tt; bound = r.bound }))
  deeper_ends i None (Some m) r h = right_entered (nat_le i m) (m - i) r.bound (h None (Some (m - i)) (record { is = tt; bound = r.bound }))
  deeper_ends i (Some l) (Some m) r h = let le : m ≤ l = r.is in entered_ends (nat_le i l) (nat_le i m) (l - i) (m - i) (wider i l m le) r.bound (h (Some (l - i)) (Some (m - i)) (record { is = omega (arith, le); bound = r.bound }))
