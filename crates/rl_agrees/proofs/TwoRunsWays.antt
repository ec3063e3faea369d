-- The ways in which outcomes of two runs side by side are made, where neither prints.
use Rattle.std.proofs.Common.{◌≡◌, ◌≤◌, ◌-◌, ℕ, zero, suc, Bool, true, false, is_some, List, Option, Some, None, refl, sym, subst, arith}
use Rattle.std.specs.Prelude.{nat_le}
use Rattle.std.proofs.lemmas.Bool.Decides.{nat_tests}
use Rattle.rl_tree.specs.Value.{Value}
use Rattle.rl_meaning.specs.State.{State, Counts, Expansion, Watched}
use Rattle.rl_meaning.specs.Outcome.{Outcome, Done, Stopped, Stop, Turns, Cells, Depth, Expands, then_do, choose, run_turn, expansion_turn, turn_of, turn, turns_of, turns_left, Levels, in_levels, deeper, descends, pair_turn, cells_within, run_room, expansion_within, expansion_room, room}
use Rattle.rl_meaning.specs.Constants.{changing, objects_read, reading_object, reading_pair, reading_whole}
use Rattle.rl_meaning.specs.TwoRunsValues.{Names, Grows, SameValue, same_int, same_id, same_str, same_ref, same_fun}
use Rattle.rl_meaning.specs.TwoRunsStates.{Bounds, SameExpansion, same_none, same_open, SameCounts, EntryPlace, Like, IsRoomier, Roomier}
use Rattle.rl_meaning.specs.TwoRunsEnds.{IsLackingBound, lacks_cells, lacks_levels, IsMeeting, meets_cells, meets_levels, MayStop, Related, done, failed, went, returned, stopped, parted}
use Rattle.rl_agrees.proofs.TwoRunsGrowth.{grows_refl, grows_trans}

-- one of the two stops: the right one for a bound that it has, or the left one where the right one has no such bound
pub data Short (bounds : Bounds) {A : Type 0} : Outcome A → Outcome A → Type 0 where
  right_short : (o : Outcome A) (why : Stop) (t : State) → IsMeeting bounds why → Short bounds o (Stopped why t)
  left_short : (why : Stop) (s : State) (p : Outcome A) → IsLackingBound bounds why → Short bounds (Stopped why s) p

-- the outcomes are alike, or one of the two runs stops short
abbrev pub Beside : Bounds → {A : Type 0} → (Names → A → A → Type 0) → Names → List EntryPlace → Outcome A → Outcome A → Type 0
Beside bounds {A} R n ps o p = Related bounds {A = A} (Short bounds) R n ps o p

-- the results are one
pub data Is {A : Type 0} (n : Names) : A → A → Type 0 where
  is : (a : A) → Is n a a

-- ---- and then

module _ {bounds : Bounds} where
  pub further : {A : Type 0} {R : Names → A → A → Type 0} (n m : Names) (ps : List EntryPlace) (o p : Outcome A) → Grows n m → Beside bounds R m ps o p → Beside bounds R n ps o p
  further n m ps o p g (done k a b s t h r l) = done k a b s t (grows_trans n m k g h) r l
  further n m ps o p g (failed k z v w s t h r l) = failed k z v w s t (grows_trans n m k g h) r l
  further n m ps o p g (went k x s t h l) = went k x s t (grows_trans n m k g h) l
  further n m ps o p g (returned k v w s t h r l) = returned k v w s t (grows_trans n m k g h) r l
  further n m ps o p g (stopped why s t e) = stopped why s t e
  further n m ps o p g (parted _ _ a) = parted _ _ a

  then_short : {A B : Type 0} (o p : Outcome A) (f g : A → State → Outcome B) → Short bounds o p → Short bounds (then_do o f) (then_do p g)
  then_short o p f g (right_short _ why t e) = right_short _ why t e
  then_short o p f g (left_short why s _ e) = left_short why s _ e

  pub then_related : {A B : Type 0} {R : Names → A → A → Type 0} {S : Names → B → B → Type 0} (n : Names) (ps : List EntryPlace) (o p : Outcome A) (f g : A → State → Outcome B) → Beside bounds R n ps o p
      → ((m : Names) (a b : A) (s t : State) → Grows n m → R m a b → Like bounds m ps s t → Beside bounds S m ps (f a s) (g b t)) → Beside bounds S n ps (then_do o f) (then_do p g)
  then_related n ps o p f g (done m a b s t w r l) h = further n m ps _ _ w (h m a b s t w r l)
  then_related n ps o p f g (failed m z v w s t x r l) h = failed m z v w s t x r l
  then_related n ps o p f g (went m x s t w l) h = went m x s t w l
  then_related n ps o p f g (returned m v w s t x r l) h = returned m v w s t x r l
  then_related n ps o p f g (stopped why s t e) h = stopped why s t e
  then_related n ps o p f g (parted _ _ a) h = parted _ _ (then_short o p f g a)

  from_is : {A B : Type 0} {S : Names → B → B → Type 0} (m : Names) (ps : List EntryPlace) (f g : A → State → Outcome B) (s t : State) → ((a : A) → Beside bounds S m ps (f a s) (g a t)) → (a b : A) → Is m a b → Beside bounds S m ps (f a s) (g b t)
  from_is m ps f g s t h a b (is _) = h a

  -- where the first result is one
  pub then_is : {A B : Type 0} {S : Names → B → B → Type 0} (n : Names) (ps : List EntryPlace) (o p : Outcome A) (f g : A → State → Outcome B) → Beside bounds Is n ps o p
      → ((m : Names) (a : A) (s t : State) → Grows n m → Like bounds m ps s t → Beside bounds S m ps (f a s) (g a t)) → Beside bounds S n ps (then_do o f) (then_do p g)
  then_is n ps o p f g r h = then_related n ps o p f g r (λ m a b s t w i l. from_is m ps f g s t (λ a. h m a s t w l) a b i)

  pub then_value : {B : Type 0} {S : Names → B → B → Type 0} (n : Names) (ps : List EntryPlace) (o p : Outcome Value) (f g : Value → State → Outcome B) → Beside bounds SameValue n ps o p
      → ((m : Names) (a b : Value) (s t : State) → Grows n m → SameValue m a b → Like bounds m ps s t → Beside bounds S m ps (f a s) (g b t)) → Beside bounds S n ps (then_do o f) (then_do p g)
  then_value n ps o p f g r h = then_related n ps o p f g r h

  pub done_now : {A : Type 0} {R : Names → A → A → Type 0} (n : Names) (ps : List EntryPlace) (a b : A) (s t : State) → R n a b → Like bounds n ps s t → Beside bounds R n ps (Done a s) (Done b t)
  done_now n ps a b s t r l = done n a b s t (grows_refl n) r l

  pub choose_related : {A : Type 0} {R : Names → A → A → Type 0} (n : Names) (ps : List EntryPlace) (b : Bool) (s t : State) (f g f' g' : State → Outcome A) → Beside bounds R n ps (f s) (f' t) → Beside bounds R n ps (g s) (g' t) → Beside bounds R n ps (choose b s f g) (choose b t f' g')
  choose_related n ps true s t f g f' g' h k = h
  choose_related n ps false s t f g f' g' h k = k

  -- where the test is the same on both sides
  pub choose_same : {A : Type 0} {R : Names → A → A → Type 0} (n : Names) (ps : List EntryPlace) (b c : Bool) (s t : State) (f g f' g' : State → Outcome A) → b ≡ c → Beside bounds R n ps (f s) (f' t) → Beside bounds R n ps (g s) (g' t) → Beside bounds R n ps (choose b s f g) (choose c t f' g')
  choose_same {R = R} n ps b c s t f g f' g' e h k = subst (λ x. Beside bounds R n ps (choose b s f g) (choose x t f' g')) e (choose_related n ps b s t f g f' g' h k)

  -- ---- counts

  pub with_counts_like : (n : Names) (ps : List EntryPlace) (s t : State) (c d : Counts) → SameCounts bounds c d → Like bounds n ps s t → Like bounds n ps (record s { counts = c }) (record t { counts = d })
  with_counts_like n ps s t c d h l = record { store = l.store; functions = l.functions; symbols = l.symbols; bindings = l.bindings; counts = h; outside = l.outside; gensyms = l.gensyms; compilation = l.compilation }

  pub stopped_now : {A : Type 0} {R : Names → A → A → Type 0} (n : Names) (ps : List EntryPlace) (why : Stop) (s t : State) → MayStop bounds why → Like bounds n ps s t → Beside bounds {A = A} R n ps (Stopped why s) (Stopped why t)
  stopped_now n ps why s t may l = stopped why s t (record { outside = l.outside; turns = l.counts.turns; may = may })

  pub turns_out : {A : Type 0} {R : Names → A → A → Type 0} (n : Names) (ps : List EntryPlace) (s t : State) → Like bounds n ps s t → Beside bounds {A = A} R n ps (Stopped Turns s) (Stopped Turns t)
  turns_out n ps s t l = stopped_now n ps Turns s t tt l

  pub turn_related : {A : Type 0} {R : Names → A → A → Type 0} (n : Names) (ps : List EntryPlace) (s t : State) (f g : State → Outcome A) → Like bounds n ps s t → ((s t : State) → Like bounds n ps s t → Beside bounds R n ps (f s) (g t)) → Beside bounds R n ps (turn s f) (turn t g)
  turn_related {R = R} n ps s t f g l h = at s.counts.expansion t.counts.expansion l.counts.expansion
    where
      run_at : (i j : ℕ) → i ≡ j → Beside bounds R n ps (run_turn i s f) (run_turn j t g)
      run_at zero zero e = turns_out n ps s t l
      run_at (suc i) (suc j) e = h _ _ (with_counts_like n ps s t _ _ (record { given = l.counts.given; turns = omega (arith, e); cells = l.counts.cells; expansion = l.counts.expansion }) l)
      run_at zero (suc j) e = absurd (omega (arith, e))
      run_at (suc i) zero e = absurd (omega (arith, e))

      expansion_at : (i : ℕ) (e : Expansion) → Beside bounds R n ps (expansion_turn i e s f) (expansion_turn i e t g)
      expansion_at zero e = stopped_now n ps (Expands e.macro) s t tt l
      expansion_at (suc i) e = h _ _ (with_counts_like n ps s t _ _ (record { given = l.counts.given; turns = l.counts.turns; cells = l.counts.cells; expansion = same_open _ }) l)

      at : (e x : Option Expansion) → SameExpansion e x → Beside bounds R n ps (turn_of e s f) (turn_of x t g)
      at _ _ same_none = run_at s.counts.turns t.counts.turns l.counts.turns
      at _ _ (same_open e) = expansion_at e.turns e

  pub left_same : (n : Names) (ps : List EntryPlace) (s t : State) → Like bounds n ps s t → turns_left s ≡ turns_left t
  left_same n ps s t l = at s.counts.expansion t.counts.expansion l.counts.expansion
    where
      at : (e x : Option Expansion) → SameExpansion e x → turns_of e s.counts.turns ≡ turns_of x t.counts.turns
      at _ _ same_none = l.counts.turns
      at _ _ (same_open e) = refl

-- ---- levels

test_wider : (n l m : ℕ) → m ≤ l → nat_le n m ≡ true → nat_le n l ≡ true
test_wider n l m le e = grind (arith, nat_tests)

module _ {bounds : Bounds} where
  entered_related : {A : Type 0} {R : Names → A → A → Type 0} (n : Names) (ps : List EntryPlace) (b c : Bool) (l m : ℕ) (s t : State) (f g : Levels → Outcome A) → (c ≡ true → b ≡ true) → m ≤ l → true ≡ bounds.levels → ((l m : Levels) → Roomier bounds l m → Beside bounds R n ps (f l) (g m)) → Beside bounds R n ps (in_levels b l s f) (in_levels c m t g)
  entered_related n ps true true l m s t f g e le x h = h (Some l) (Some m) (record { is = le; bound = x })
  entered_related n ps false true l m s t f g e le x h = absurd (let y : false ≡ true = e refl in cc)
  entered_related n ps b false l m s t f g e le x h = parted _ _ (right_short _ Depth t (meets_levels (sym x)))

  -- where only one side has a bound: the left one stops so only where the right one has none
  left_entered : {A : Type 0} {R : Names → A → A → Type 0} (n : Names) (ps : List EntryPlace) (b : Bool) (l : ℕ) (s : State) (f g : Levels → Outcome A) → bounds.levels ≡ false → Beside bounds R n ps (f (Some l)) (g None) → Beside bounds R n ps (in_levels b l s f) (g None)
  left_entered n ps true l s f g x h = h
  left_entered n ps false l s f g x h = parted _ _ (left_short Depth s _ (lacks_levels x))

  right_entered : {A : Type 0} {R : Names → A → A → Type 0} (n : Names) (ps : List EntryPlace) (c : Bool) (m : ℕ) (t : State) (f g : Levels → Outcome A) → true ≡ bounds.levels → Beside bounds R n ps (f None) (g (Some m)) → Beside bounds R n ps (f None) (in_levels c m t g)
  right_entered n ps true m t f g x h = h
  right_entered n ps false m t f g x h = parted _ _ (right_short _ Depth t (meets_levels (sym x)))

  pub deeper_related : {A : Type 0} {R : Names → A → A → Type 0} (n : Names) (ps : List EntryPlace) (i : ℕ) (l m : Levels) (s t : State) (f g : Levels → Outcome A) → Roomier bounds l m → ((l m : Levels) → Roomier bounds l m → Beside bounds R n ps (f l) (g m)) → Beside bounds R n ps (deeper i l s f) (deeper i m t g)
  deeper_related n ps i None None s t f g r h = h None None r
  deeper_related n ps i (Some l) None s t f g r h = left_entered n ps (nat_le i l) (l - i) s f g (sym r.bound) (h (Some (l - i)) None (record { is = tt; bound = r.bound }))
  deeper_related n ps i None (Some m) s t f g r h = right_entered n ps (nat_le i m) (m - i) t f g r.bound (h None (Some (m - i)) (record { is = tt; bound = r.bound }))
  deeper_related n ps i (Some l) (Some m) s t f g r h = let le : m ≤ l = r.is in entered_related n ps (nat_le i l) (nat_le i m) (l - i) (m - i) s t f g (test_wider i l m le) (omega (arith, le)) r.bound h

  pub descends_related : {A : Type 0} {R : Names → A → A → Type 0} (n : Names) (ps : List EntryPlace) (b : Bool) (l m : Levels) (s t : State) (f g : Levels → Outcome A) → Roomier bounds l m → ((l m : Levels) → Roomier bounds l m → Beside bounds R n ps (f l) (g m)) → Beside bounds R n ps (descends b l s f) (descends b m t g)
  descends_related n ps true l m s t f g r h = deeper_related n ps 1 l m s t f g r h
  descends_related n ps false l m s t f g r h = h l m r

  pub pair_turn_related : {A : Type 0} {R : Names → A → A → Type 0} (n : Names) (ps : List EntryPlace) (b : Bool) (l m : Levels) (s t : State) (f g : Levels → State → Outcome A) → Roomier bounds l m → Like bounds n ps s t → ((l m : Levels) (s t : State) → Roomier bounds l m → Like bounds n ps s t → Beside bounds R n ps (f l s) (g m t)) → Beside bounds R n ps (pair_turn b l s f) (pair_turn b m t g)
  pair_turn_related n ps b l m s t f g r k h = turn_related n ps s t _ _ k (λ s t k. descends_related n ps b l m s t _ _ r (λ l m r. h l m s t r k))

-- ---- cells: what goes on does so in the same two states, but for the counts

abbrev pub Onwards : Bounds → {A : Type 0} → (Names → A → A → Type 0) → Names → List EntryPlace → State → State → (State → Outcome A) → (State → Outcome A) → Type 0
Onwards bounds R n ps s t f g = (c d : Counts) → Like bounds n ps (record s { counts = c }) (record t { counts = d }) → Beside bounds R n ps (f (record s { counts = c })) (g (record t { counts = d }))

module _ {bounds : Bounds} where
  cells_counts : {A : Type 0} {R : Names → A → A → Type 0} (n : Names) (ps : List EntryPlace) (a b : Bool) (i j : ℕ) (s t : State) (f g : State → Outcome A) → (b ≡ true → a ≡ true) → j ≤ i → true ≡ bounds.cells → Like bounds n ps s t → Onwards bounds R n ps s t f g → Beside bounds R n ps (cells_within a i s f) (cells_within b j t g)
  cells_counts n ps true true i j s t f g e le x l h = h _ _ (with_counts_like n ps s t _ _ (record { given = l.counts.given; turns = l.counts.turns; cells = record { is = le; bound = x }; expansion = l.counts.expansion }) l)
  cells_counts n ps false true i j s t f g e le x l h = absurd (let y : false ≡ true = e refl in cc)
  cells_counts n ps a false i j s t f g e le x l h = parted _ _ (right_short _ Cells t (meets_cells (sym x)))

  left_cells : {A : Type 0} {R : Names → A → A → Type 0} (n : Names) (ps : List EntryPlace) (a : Bool) (i : ℕ) (s t : State) (f g : State → Outcome A) → t.counts.cells ≡ None → bounds.cells ≡ false → Like bounds n ps s t → Onwards bounds R n ps s t f g → Beside bounds R n ps (cells_within a i s f) (g t)
  left_cells n ps true i s t f g e x l h = h _ t.counts (with_counts_like n ps s t _ t.counts (record { given = l.counts.given; turns = l.counts.turns; cells = record { is = subst (λ o. IsRoomier (Some i) o) (sym e) tt; bound = l.counts.cells.bound }; expansion = l.counts.expansion }) l)
  left_cells n ps false i s t f g e x l h = parted _ _ (left_short Cells s _ (lacks_cells x))

  right_cells : {A : Type 0} {R : Names → A → A → Type 0} (n : Names) (ps : List EntryPlace) (b : Bool) (j : ℕ) (s t : State) (f g : State → Outcome A) → s.counts.cells ≡ None → true ≡ bounds.cells → Like bounds n ps s t → Onwards bounds R n ps s t f g → Beside bounds R n ps (f s) (cells_within b j t g)
  right_cells n ps true j s t f g e x l h = h s.counts _ (with_counts_like n ps s t s.counts _ (record { given = l.counts.given; turns = l.counts.turns; cells = record { is = subst (λ o. IsRoomier o (Some j)) (sym e) tt; bound = x }; expansion = l.counts.expansion }) l)
  right_cells n ps false j s t f g e x l h = parted _ _ (right_short _ Cells t (meets_cells (sym x)))

  run_room_counts : {A : Type 0} {R : Names → A → A → Type 0} (n : Names) (ps : List EntryPlace) (cost : ℕ) (s t : State) (f g : State → Outcome A) → Like bounds n ps s t → Onwards bounds R n ps s t f g → Beside bounds R n ps (run_room s.counts.cells cost s f) (run_room t.counts.cells cost t g)
  run_room_counts {R = R} n ps cost s t f g l h = at s.counts.cells t.counts.cells refl refl l.counts.cells.is l.counts.cells.bound
    where
      at : (a b : Option ℕ) → s.counts.cells ≡ a → t.counts.cells ≡ b → IsRoomier a b → is_some b ≡ bounds.cells → Beside bounds R n ps (run_room a cost s f) (run_room b cost t g)
      at None None e d i x = h s.counts t.counts l
      at (Some i) None e d w x = left_cells n ps (nat_le cost i) (i - cost) s t f g d (sym x) l h
      at None (Some j) e d w x = right_cells n ps (nat_le cost j) (j - cost) s t f g e x l h
      at (Some i) (Some j) e d w x = cells_counts n ps (nat_le cost i) (nat_le cost j) (i - cost) (j - cost) s t f g (test_wider cost i j w) (omega (arith, w)) x l h

  pub room_counts : {A : Type 0} {R : Names → A → A → Type 0} (n : Names) (ps : List EntryPlace) (cost : ℕ) (s t : State) (f g : State → Outcome A) → Like bounds n ps s t → Onwards bounds R n ps s t f g → Beside bounds R n ps (room cost s f) (room cost t g)
  room_counts {R = R} n ps cost s t f g l h = at s.counts.expansion t.counts.expansion l.counts.expansion
    where
      within : (b : Bool) (e : Expansion) → Beside bounds R n ps (expansion_within b e cost s (λ s. run_room s.counts.cells cost s f)) (expansion_within b e cost t (λ s. run_room s.counts.cells cost s g))
      within true e = run_room_counts n ps cost _ _ f g (with_counts_like n ps s t _ _ (record { given = l.counts.given; turns = l.counts.turns; cells = l.counts.cells; expansion = same_open _ }) l) h
      within false e = stopped_now n ps (Expands e.macro) s t tt l

      at : (e x : Option Expansion) → SameExpansion e x → Beside bounds R n ps (expansion_room e cost s (λ s. run_room s.counts.cells cost s f)) (expansion_room x cost t (λ s. run_room s.counts.cells cost s g))
      at _ _ same_none = run_room_counts n ps cost s t f g l h
      at _ _ (same_open e) = within (nat_le cost e.cells) e

  pub room_related : {A : Type 0} {R : Names → A → A → Type 0} (n : Names) (ps : List EntryPlace) (cost : ℕ) (s t : State) (f g : State → Outcome A) → Like bounds n ps s t → ((s t : State) → Like bounds n ps s t → Beside bounds R n ps (f s) (g t)) → Beside bounds R n ps (room cost s f) (room cost t g)
  room_related n ps cost s t f g l h = room_counts n ps cost s t f g l (λ c d z. h _ _ z)

  -- ---- what is watched

  pub watched_like : (n : Names) (ps : List EntryPlace) (s t : State) (x y : Watched) → Like bounds n ps s t → Like bounds n ps (record s { watched = x }) (record t { watched = y })
  watched_like n ps s t x y l = record { store = l.store; functions = l.functions; symbols = l.symbols; bindings = l.bindings; counts = l.counts; outside = l.outside; gensyms = l.gensyms; compilation = l.compilation }

  pub reading_like : (n : Names) (ps : List EntryPlace) (v w : Value) (s t : State) → Like bounds n ps s t → Like bounds n ps (reading_object v s) (reading_object w t)
  reading_like n ps v w s t l = watched_like n ps s t _ _ l

  pub pair_read_like : (n : Names) (ps : List EntryPlace) (v w : Value) (s t : State) → Like bounds n ps s t → Like bounds n ps (reading_pair v s) (reading_pair w t)
  pair_read_like n ps v w s t l = watched_like n ps s t _ _ l

  pub whole_read_like : (n : Names) (ps : List EntryPlace) (v w : Value) (s t : State) → Like bounds n ps s t → Like bounds n ps (reading_whole v s) (reading_whole w t)
  whole_read_like n ps v w s t l = watched_like n ps s t _ _ l

  pub objects_read_like : (n : Names) (ps : List EntryPlace) (rs qs : List ℕ) (s t : State) → Like bounds n ps s t → Like bounds n ps (objects_read rs s) (objects_read qs t)
  objects_read_like n ps rs qs s t l = watched_like n ps s t _ _ l

  pub changing_like : (n : Names) (ps : List EntryPlace) (v w : Value) (s t : State) → SameValue n v w → Like bounds n ps s t → Like bounds n ps (changing v s) (changing w t)
  changing_like n ps v w s t (same_int z) l = l
  changing_like n ps v w s t (same_id i) l = l
  changing_like n ps v w s t (same_str bytes) l = l
  changing_like n ps v w s t (same_ref r q h) l = watched_like n ps s t _ _ l
  changing_like n ps v w s t (same_fun f g place h) l = l
