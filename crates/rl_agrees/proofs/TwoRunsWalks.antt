-- Walks of two runs side by side.
use Rattle.std.proofs.Common.{◌≡◌, ◌==◌, zero, suc, Bool, true, false, List, [], ◌∷◌, length, Option, Some, None, ℕ, subst}
use Rattle.rl_tree.specs.Value.{Value}
use Rattle.rl_meaning.specs.State.{State}
use Rattle.rl_meaning.specs.Outcome.{Outcome, then_do, turns_left, Levels}
use Rattle.rl_meaning.specs.Walks.{Further, Goes, Ends, Walked, walk_on, walk_pair, walk_within, walk, Comparison, both, reading_both, places_equal, vectors_equal, objects_equal, equal_at, equal_within, equal}
use Rattle.rl_meaning.specs.TwoRunsValues.{Names, Grows, Maybe, nothing, just, Each, end, more, SameValue, SameParts, same_parts}
use Rattle.rl_meaning.specs.TwoRunsStates.{Bounds, EntryPlace, Like, Roomier}
use Rattle.rl_agrees.proofs.TwoRunsGrowth.{grows_refl, grows_trans, value_grows, values_grow}
use Rattle.rl_agrees.proofs.TwoRunsWays.{Beside, Is, is, then_related, then_is, done_now, choose_related, choose_same, turns_out, turn_related, descends_related, pair_turn_related, left_same, reading_like}
use Rattle.rl_agrees.proofs.TwoRunsObjects.{pair_same, vector_same, same_same, each_length}

-- ---- along a list

pub data SameFurther {A : Type 0} (R : Names → A → A → Type 0) (n : Names) : Further A → Further A → Type 0 where
  same_goes : (a b : A) → R n a b → SameFurther R n (Goes a) (Goes b)
  same_ends : (a b : A) → R n a b → SameFurther R n (Ends a) (Ends b)

pub data SameWalked {A : Type 0} (R : Names → A → A → Type 0) (n : Names) : Walked A → Walked A → Type 0 where
  same_walked : (a b : A) (x y : Option Value) → R n a b → Maybe (SameValue n) x y → SameWalked R n (record { result = a; end = x }) (record { result = b; end = y })

-- visits that go on side by side, from these names on
abbrev pub Visits : Bounds → {A : Type 0} → (Names → A → A → Type 0) → Names → List EntryPlace → (A → Value → Value → State → Outcome (Further A)) → (A → Value → Value → State → Outcome (Further A)) → Type 0
Visits bounds {A} R n ps f g = (m : Names) (a b : A) (v w x y : Value) (s t : State) → Grows n m → R m a b → SameValue m v w → SameValue m x y → Like bounds m ps s t → Beside bounds (SameFurther R) m ps (f a v x s) (g b w y t)

module _ {bounds : Bounds} {A : Type 0} (R : Names → A → A → Type 0) (n : Names) (ps : List EntryPlace) (visit visit' : A → Value → Value → State → Outcome (Further A)) (visits : Visits bounds R n ps visit visit') where
  abbrev Steps : (A → Value → State → Outcome (Walked A)) → (A → Value → State → Outcome (Walked A)) → Type 0
  Steps f g = (m : Names) (a b : A) (v w : Value) (s t : State) → Grows n m → R m a b → SameValue m v w → Like bounds m ps s t → Beside bounds (SameWalked R) m ps (f a v s) (g b w t)

  walk_on_related : (f g : A → Value → State → Outcome (Walked A)) → Steps f g → (m : Names) (v w : Value) (x y : Further A) (s t : State) → Grows n m → SameValue m v w → SameFurther R m x y → Like bounds m ps s t → Beside bounds (SameWalked R) m ps (walk_on visit f v x s) (walk_on visit' g w y t)
  walk_on_related f g h m v w x y s t k e (same_goes a b r) l = h m a b v w s t k r e l
  walk_on_related f g h m v w x y s t k e (same_ends a b r) l = done_now m ps _ _ s t (same_walked a b None None r nothing) l

  walk_pair_related : (f g : A → Value → State → Outcome (Walked A)) → Steps f g → (m : Names) (o p : Option (Value × Value)) (a b : A) (v w : Value) (s t : State) → Grows n m → Maybe (SameParts m) o p → R m a b → SameValue m v w → Like bounds m ps s t → Beside bounds (SameWalked R) m ps (walk_pair visit f o a v s) (walk_pair visit' g p b w t)
  walk_pair_related f g h m o p a b v w s t k nothing r e l = done_now m ps _ _ s t (same_walked a b (Some v) (Some w) r (just v w e)) l
  walk_pair_related f g h m o p a b v w s t k (just _ _ (same_parts x d y c i j)) r e l =
      turn_related m ps s t _ _ l (λ s t l.
      then_related m ps _ _ _ _ (visits m a b v w x y _ _ k r e i (reading_like m ps v w s t l)) (λ m' a' b' s t k' r' l.
      walk_on_related f g h m' d c a' b' s t (grows_trans n m m' k k') (value_grows m m' d c j k') r' l))

  walk_within_related : (i : ℕ) → Steps (walk_within visit i) (walk_within visit' i)
  walk_within_related zero m a b v w s t k r e l = turns_out m ps s t l
  walk_within_related (suc i) m a b v w s t k r e l = walk_pair_related (walk_within visit i) (walk_within visit' i) (walk_within_related i) m _ _ a b v w s t k (pair_same m ps s t v w l e) r e l

  pub walk_related : (a b : A) (v w : Value) (s t : State) → R n a b → SameValue n v w → Like bounds n ps s t → Beside bounds (SameWalked R) n ps (walk visit a v s) (walk visit' b w t)
  walk_related a b v w s t r e l =
      subst (λ i. Beside bounds (SameWalked R) n ps (walk visit a v s) (walk_within visit' (suc i) b w t)) (left_same n ps s t l) (walk_within_related (suc (turns_left s)) n a b v w s t (grows_refl n) r e l)

module _ {bounds : Bounds} where
  -- and then, with what a walk came to
  pub then_walked : {A B : Type 0} {R : Names → A → A → Type 0} {S : Names → B → B → Type 0} (n : Names) (ps : List EntryPlace) (o p : Outcome (Walked A)) (f g : Walked A → State → Outcome B) → Beside bounds (SameWalked R) n ps o p
      → ((m : Names) (a b : A) (x y : Option Value) (s t : State) → Grows n m → R m a b → Maybe (SameValue m) x y → Like bounds m ps s t → Beside bounds S m ps (f (record { result = a; end = x }) s) (g (record { result = b; end = y }) t)) → Beside bounds S n ps (then_do o f) (then_do p g)
  then_walked {A} {R = R} {S = S} n ps o p f g r h = then_related n ps o p f g r (λ m a b s t w x l. at m a b s t w x l)
    where
      at : (m : Names) (a b : Walked A) (s t : State) → Grows n m → SameWalked R m a b → Like bounds m ps s t → Beside bounds S m ps (f a s) (g b t)
      at m _ _ s t w (same_walked a b x y i j) l = h m a b x y s t w i j l

  -- ---- EQUAL

  pub both_related : (n : Names) (ps : List EntryPlace) (o p : Outcome Bool) (f g : State → Outcome Bool) → Beside bounds Is n ps o p → ((m : Names) (s t : State) → Grows n m → Like bounds m ps s t → Beside bounds Is m ps (f s) (g t)) → Beside bounds Is n ps (both o f) (both p g)
  both_related n ps o p f g h k = then_is n ps o p _ _ h (λ m a s t g l. choose_related m ps a s t _ _ _ _ (k m s t g l) (done_now m ps _ _ s t (is false) l))

abbrev Compares : Bounds → Comparison → Comparison → Type 0
Compares bounds f g = (n : Names) (ps : List EntryPlace) (b : Bool) (l m : Levels) (u v x y : Value) (s t : State) → Roomier bounds l m → SameValue n u v → SameValue n x y → Like bounds n ps s t → Beside bounds Is n ps (f b l u x s) (g b m v y t)

module _ {bounds : Bounds} where
  both_read_like : (n : Names) (ps : List EntryPlace) (u v x y : Value) (s t : State) → Like bounds n ps s t → Like bounds n ps (reading_both u x s) (reading_both v y t)
  both_read_like n ps u v x y s t l = reading_like n ps x y _ _ (reading_like n ps u v s t l)

module _ {bounds : Bounds} (f g : Comparison) (compares : Compares bounds f g) where
  places_related : (n : Names) (ps : List EntryPlace) (l m : Levels) (u v x y : Value) (as' bs cs ds : List Value) (s t : State) → Roomier bounds l m → Each (SameValue n) as' bs → Each (SameValue n) cs ds → Like bounds n ps s t → Beside bounds Is n ps (places_equal f l u x as' cs s) (places_equal g m v y bs ds t)
  places_related n ps l m u v x y (a ∷ as') _ _ _ s t r (more _ b _ bs i j) (more c d cs ds p q) k =
      turn_related n ps s t _ _ k (λ s t k. both_related n ps _ _ _ _ (compares n ps true l m a b c d _ _ r i p (both_read_like n ps u v x y s t k)) (λ n' s t w k.
      places_related n' ps l m u v x y as' bs cs ds s t r (values_grow n n' as' bs j w) (values_grow n n' cs ds q w) k))
  places_related n ps l m u v x y [] _ _ _ s t r end end k = done_now n ps _ _ s t (is true) k
  places_related n ps l m u v x y [] _ _ _ s t r end (more c d cs ds p q) k = done_now n ps _ _ s t (is true) k
  places_related n ps l m u v x y (a ∷ as') _ _ _ s t r (more _ b _ bs i j) end k = done_now n ps _ _ s t (is true) k

  vectors_related : (n : Names) (ps : List EntryPlace) (b : Bool) (l m : Levels) (u v x y : Value) (o p q z : Option (List Value)) (s t : State) → Roomier bounds l m → Maybe (Each (SameValue n)) o p → Maybe (Each (SameValue n)) q z → Like bounds n ps s t → Beside bounds Is n ps (vectors_equal f b l o q u x s) (vectors_equal g b m p z v y t)
  vectors_related n ps b l m u v x y _ _ _ _ s t r (just as' bs h) (just cs ds i) k =
      let e : (length as' == length cs) ≡ (length bs == length ds) = cc (each_length (SameValue n) as' bs h, each_length (SameValue n) cs ds i) in
      choose_same n ps _ _ s t _ _ _ _ e (descends_related n ps b l m s t _ _ r (λ l m r. places_related n ps l m u v x y as' bs cs ds s t r h i k)) (done_now n ps _ _ s t (is false) k)
  vectors_related n ps b l m u v x y _ _ _ _ s t r nothing nothing k = done_now n ps _ _ s t (is false) k
  vectors_related n ps b l m u v x y _ _ _ _ s t r nothing (just cs ds i) k = done_now n ps _ _ s t (is false) k
  vectors_related n ps b l m u v x y _ _ _ _ s t r (just as' bs h) nothing k = done_now n ps _ _ s t (is false) k

  objects_related : (n : Names) (ps : List EntryPlace) (b : Bool) (l m : Levels) (u v x y : Value) (o p q z : Option (Value × Value)) (s t : State) → Roomier bounds l m → Maybe (SameParts n) o p → Maybe (SameParts n) q z → SameValue n u v → SameValue n x y → Like bounds n ps s t → Beside bounds Is n ps (objects_equal f b l o q u x s) (objects_equal g b m p z v y t)
  objects_related n ps b l m u v x y _ _ _ _ s t r (just _ _ (same_parts a d a' d' h i)) (just _ _ (same_parts c e c' e' j o)) p q k =
      pair_turn_related n ps b l m s t _ _ r k (λ l m s t r k. both_related n ps _ _ _ _ (compares n ps true l m a a' c c' _ _ r h j (both_read_like n ps u v x y s t k)) (λ n' s t w k.
      compares n' ps false l m d d' e e' s t r (value_grows n n' d d' i w) (value_grows n n' e e' o w) k))
  objects_related n ps b l m u v x y _ _ _ _ s t r nothing nothing p q k = vectors_related n ps b l m u v x y _ _ _ _ s t r (vector_same n ps s t u v k p) (vector_same n ps s t x y k q) k
  objects_related n ps b l m u v x y _ _ _ _ s t r nothing (just _ _ i) p q k = vectors_related n ps b l m u v x y _ _ _ _ s t r (vector_same n ps s t u v k p) (vector_same n ps s t x y k q) k
  objects_related n ps b l m u v x y _ _ _ _ s t r (just _ _ h) nothing p q k = vectors_related n ps b l m u v x y _ _ _ _ s t r (vector_same n ps s t u v k p) (vector_same n ps s t x y k q) k

  equal_at_related : Compares bounds (equal_at f) (equal_at g)
  equal_at_related n ps b l m u v x y s t r p q k =
      choose_same n ps _ _ s t _ _ _ _ (same_same n u v x y k.store.once k.functions.once p q) (done_now n ps _ _ s t (is true) k)
      (objects_related n ps b l m u v x y _ _ _ _ s t r (pair_same n ps s t u v k p) (pair_same n ps s t x y k q) p q k)

module _ {bounds : Bounds} where
  equal_within_related : (i : ℕ) → Compares bounds (equal_within i) (equal_within i)
  equal_within_related zero n ps b l m u v x y s t r p q k = turns_out n ps s t k
  equal_within_related (suc i) n ps b l m u v x y s t r p q k = equal_at_related (equal_within i) (equal_within i) (equal_within_related i) n ps b l m u v x y s t r p q k

  pub equal_related : (n : Names) (ps : List EntryPlace) (l m : Levels) (u v x y : Value) (s t : State) → Roomier bounds l m → SameValue n u v → SameValue n x y → Like bounds n ps s t → Beside bounds Is n ps (equal l u x s) (equal m v y t)
  equal_related n ps l m u v x y s t r p q k =
      subst (λ i. Beside bounds Is n ps (equal l u x s) (equal_within (suc (suc i)) false m v y t)) (left_same n ps s t k) (equal_within_related (suc (suc (turns_left s))) n ps false l m u v x y s t r p q k)
